-- The events of a session are orderly for a table.
use Rattle.std.proofs.Common.{◌≡◌, ◌+◌, ◌==◌, ◌<◌, ◌≤◌, ◌&&◌, ◌||◌, ℕ, Bool, true, false, not, cond, List, [], ◌∷◌, ◌++◌, map, refl, sym, ◌∙◌, ap, subst, arith}
use Rattle.std.specs.List.{filter, AllByRecursion}
use Rattle.session_model.specs.declared.awaited.Awaited.{Awaited}
use Rattle.session_model.specs.Events.{Event, Sent, Came, Unread, Leftover, Overran, Shut, Asked, Other}
use Rattle.session_model.specs.Flags.{asks_ack}
use Rattle.session_model.specs.Awaited.{awaited, awaited_frames, batch_count, batches_sent, last_number, newly_awaited, answers, is_last, is_ended}
use Rattle.session_model.proofs.Places.{awaited_more, batch_count-append}
use Rattle.mirror_model.specs.TableEvents.{TableEvent, DumpAsked, Lost, Unrelated, ends_dump}
use Rattle.mirror_model.specs.Clean.{Dump, dumps, has_ended}
use Rattle.mirror_model.specs.Orderly.{MayFollow, OrderlyFrom, AreOrderly}
use Rattle.mirror_model.specs.Sessions.{Reader, requests_dump, table_event, table_events_from, table_events, AsksAlone}
use Rattle.mirror_model.proofs.SessionEvents.{either, bearing, end_replies, of_arrived, table_events-more, answers_of, asked_next}
use Rattle.mirror_model.proofs.CleanDumps.{more}
use Rattle.mirror_model.proofs.RunningAfter.{dumps_more}
use Rattle.mirror_model.proofs.Tests.{and_both, and_left, and_right, any_more, number_same, same_number}
use Rattle.mirror_model.proofs.Lists.{all_append, all_filter, all_map, all_same, filter_out}

below_itself : (n : ℕ) → n + 1 ≤ n → ⊥
below_itself n h = omega (arith, h)

or_cases : {G : Type 0} (a b : Bool) → (a ≡ true → G) → (b ≡ true → G) → (a || b) ≡ true → G
or_cases true b f g h = f refl
or_cases false b f g h = g h

both_false : (a b c : Bool) → (a ≡ true → b ≡ true → ⊥) → (c ≡ true → ⊥) → ((a && b) || c) ≡ false
both_false true true c f g = absurd (f refl refl)
both_false true false true f g = absurd (g refl)
both_false true false false f g = refl
both_false false b true f g = absurd (g refl)
both_false false b false f g = refl

module _ {M K V : Type 0} (r : Reader M K V) (start : ℕ) where
  -- What an event awaits newly has the next stream, if it is a request.
  new_range : (last n : ℕ) (e : Event M)
      → AllByRecursion (λ (w : Awaited ℕ). (n < w.stream) × (w.stream ≤ n + batches_sent e)) (newly_awaited last n e)
  new_range last n (Sent to frames) = each last frames
    where
      each : (last : ℕ) (frames : List Asked)
          → AllByRecursion (λ (w : Awaited ℕ). (n < w.stream) × (w.stream ≤ n + 1)) (awaited_frames last (n + 1) to.port frames)
      each last [] = tt
      each last (a ∷ frames) =
          let first : Awaited ℕ = record { number = last + 1; port = to.port; stream = n + 1; acks = asks_ack a.header } in
          let others = awaited_frames (last + 1) (n + 1) to.port frames in
          elim a.awaits as (λ b. AllByRecursion (λ (w : Awaited ℕ). (n < w.stream) × (w.stream ≤ n + 1)) (cond b (first ∷ []) [] ++ others)) [
            | true ↦ ((omega arith, omega arith), each (last + 1) frames)
            | false ↦ each (last + 1) frames
          ]
  new_range last n (Came m source) = tt
  new_range last n (Unread kind number source) = tt
  new_range last n (Leftover count source) = tt
  new_range last n Overran = tt
  new_range last n Shut = tt
  new_range last n (Other aside) = tt

  -- Something awaits this number from this port.
  abbrev pub IsOneOf : Awaited ℕ → ℕ → ℕ → Bool → Type 0
  IsOneOf w number port acks = (w.number ≡ number) × (w.port ≡ port) × (w.acks ≡ acks)

  -- A dump's number, as far as it is awaited: one number of its stream alone, and none once the dump has ended.
  pub record Known (d : Dump K V) (n : ℕ) (ws : List (Awaited ℕ)) : Type 0 where
    pub below : d.stream ≤ n
    pub number : ℕ
    pub port : ℕ
    pub acks : Bool
    pub alike : AllByRecursion (λ (w : Awaited ℕ). w.stream ≡ d.stream → IsOneOf w number port acks) ws
    pub gone : has_ended d ≡ true → AllByRecursion (λ (w : Awaited ℕ). w.stream ≡ d.stream → ⊥) ws

  -- What is known at a place of all dumps, and of the streams of all numbers that are awaited.
  pub record KnownAt (before : List (Event M)) : Type 0 where
    pub low : AllByRecursion (λ (w : Awaited ℕ). w.stream ≤ batch_count 0 before) (awaited start before)
    pub known : AllByRecursion (λ d. Known d (batch_count 0 before) (awaited start before)) (dumps (table_events r start before))

  next_of : (before : List (Event M)) (e : Event M) → KnownAt before
      → AllByRecursion (MayFollow (table_event r start before e)) (dumps (table_events r start before))
  next_of before e apart = all_same _ (MayFollow (table_event r start before e)) one (dumps (table_events r start before)) apart.known
    where
      one : (d : Dump K V) → Known d (batch_count 0 before) (awaited start before) → MayFollow (table_event r start before e) d
      one d k = both_false _ _ _
          (λ replies_to ended.
          let a = answers_of r start before e d.stream replies_to in
          (bearing _ _ _ _ _ (k.gone ended) a.bearer).0 a.stream)
          (λ asks_dump.
          let is = asked_next r start before e d.stream asks_dump in
          let b = k.below in
          below_itself (batch_count 0 before) (subst (λ k. k ≤ batch_count 0 before) is b))

  -- what an event ends
  now_gone : (before : List (Event M)) (e : Event M) (d : Dump K V) → Known d (batch_count 0 before) (awaited start before)
      → ends_dump d.stream (table_event r start before e) ≡ true
      → AllByRecursion (λ (w : Awaited ℕ). w.stream ≡ d.stream → ⊥) (filter (λ w. not (is_ended (e ∷ []) w)) (awaited start before))
  now_gone before e d k h =
      let a = answers_of r start before e d.stream (end_replies d.stream (table_event r start before e) h) in
      let found = bearing _ _ _ _ _ k.alike a.bearer in
      let own = found.0 a.stream in
      let n = a.message.header.sequence_number in
      let p = a.source.port in
      let number : k.number ≡ n = sym own.0 ∙ same_number _ _ (and_left _ _ found.1) in
      let port : k.port ≡ p = sym own.1 ∙ same_number _ _ (and_right _ _ found.1) in
      let last : is_last a.message k.acks ≡ true = ap (is_last a.message) (sym own.2) ∙ a.last h in
      subst (λ x. AllByRecursion (λ (w : Awaited ℕ). w.stream ≡ d.stream → ⊥) (filter (λ w. not (is_ended (x ∷ []) w)) (awaited start before))) (sym a.is)
      (filter_out (λ (w : Awaited ℕ). w.stream ≡ d.stream) _ (awaited start before)
      (all_same _ _ (λ w alike mine.
      let is = alike mine in
      let bears_it : answers n p w ≡ true = and_both _ _ (number_same _ _ (is.0 ∙ number)) (number_same _ _ (is.1 ∙ port)) in
      let ends_it : is_last a.message w.acks ≡ true = ap (is_last a.message) is.2 ∙ last in
      ap (λ b. not (b || false)) (and_both _ _ bears_it ends_it)) (awaited start before) k.alike))

  -- a dump that was asked before, after one more event
  known_old : (before : List (Event M)) (e : Event M) (d : Dump K V) (new : List (Awaited ℕ)) (m : ℕ)
      → AllByRecursion (λ (w : Awaited ℕ). (batch_count 0 before < w.stream) × (w.stream ≤ m)) new
      → batch_count 0 before ≤ m → Known d (batch_count 0 before) (awaited start before)
      → Known (more (table_event r start before e) d) m (filter (λ w. not (is_ended (e ∷ []) w)) (awaited start before) ++ new)
  known_old before e d new m range le k = record {
    below = omega (arith, k.below, le);
    number = k.number;
    port = k.port;
    acks = k.acks;
    alike = all_append _ _ new (all_filter _ _ _ (λ w h. h) (awaited start before) k.alike)
        (all_same _ _ (λ w in_range mine. absurd (other w in_range mine)) new range);
    gone = λ ended. all_append _ _ new
        (or_cases (has_ended d) (ends_dump d.stream (table_event r start before e))
        (λ was. all_filter _ _ _ (λ w h. h) (awaited start before) (k.gone was))
        (λ now. now_gone before e d k now)
        (sym (any_more (ends_dump d.stream) d.later (table_event r start before e)) ∙ ended))
        (all_same _ _ (λ w in_range mine. other w in_range mine) new range);
  }
    where
      other : (w : Awaited ℕ) → (batch_count 0 before < w.stream) × (w.stream ≤ m) → w.stream ≡ d.stream → ⊥
      other w in_range mine = omega (arith, in_range.0, mine, k.below)

  -- What is known of the dump of an event that sends nothing, if it asks one.
  abbrev KnownFrom : List (Event M) → List (Awaited ℕ) → TableEvent K V → Type 0
  KnownFrom before old s = AllByRecursion (λ d. Known d (batch_count 0 before + 0) (old ++ [])) (dumps (s ∷ []))

  -- a dump that the event asks
  known_new : (before : List (Event M)) (e : Event M) (old : List (Awaited ℕ)) → AsksAlone r e
      → AllByRecursion (λ (w : Awaited ℕ). w.stream ≤ batch_count 0 before) old
      → AllByRecursion (λ d. Known d (batch_count 0 before + batches_sent e) (old ++ newly_awaited (last_number start before) (batch_count 0 before) e))
      (dumps (table_event r start before e ∷ []))
  known_new before (Sent to frames) old alone low = by_ask (requests_dump r frames) frames alone refl
    where
      n : ℕ
      n = batch_count 0 before

      above : (w : Awaited ℕ) → w.stream ≤ batch_count 0 before → w.stream ≡ batch_count 0 before + 1 → ⊥
      above w le is = omega (arith, le, is)

      alone_one : (a : Asked)
          → AllByRecursion (λ (w : Awaited ℕ). w.stream ≡ batch_count 0 before + 1 → IsOneOf w (last_number start before + 1) to.port (asks_ack a.header))
          (awaited_frames (last_number start before) (batch_count 0 before + 1) to.port (a ∷ []))
      alone_one a =
          let is_one = λ (w : Awaited ℕ). w.stream ≡ batch_count 0 before + 1 → IsOneOf w (last_number start before + 1) to.port (asks_ack a.header) in
          let one : Awaited ℕ
          = record { number = last_number start before + 1; port = to.port; stream = batch_count 0 before + 1; acks = asks_ack a.header } in
          elim a.awaits as (λ b. AllByRecursion is_one (cond b (one ∷ []) [] ++ [])) [
            | true ↦ ((λ is. (refl, refl, refl)), tt)
            | false ↦ tt
          ]

      by_ask : (b : Bool) (frames : List Asked) → AsksAlone r (Sent to frames) → requests_dump r frames ≡ b
          → AllByRecursion
          (λ d. Known d (batch_count 0 before + 1) (old ++ awaited_frames (last_number start before) (batch_count 0 before + 1) to.port frames))
          (dumps {K = K} {V = V} (cond b (DumpAsked (batch_count 0 before + 1)) Unrelated ∷ []))
      by_ask false frames alone is = tt
      by_ask true [] alone is = cc
      by_ask true (a ∷ []) alone is = (
        record {
          below = omega arith;
          number = last_number start before + 1;
          port = to.port;
          acks = asks_ack a.header;
          alike = all_append _ old _ (all_same _ _ (λ w le mine. absurd (above w le mine)) old low) (alone_one a);
          gone = λ ended. cc;
        },
        tt,
      )
      by_ask true (a ∷ b ∷ frames) alone is = let never : false ≡ true = sym alone ∙ is in cc
  known_new before (Came m source) old alone low = of_arrived r start (KnownFrom before old) tt tt (λ c. tt) (λ x. tt) before m source
  known_new before (Unread kind number source) old alone low =
      either (KnownFrom before old) ((source.port == r.peer) && r.loses kind) Lost Unrelated tt tt
  known_new before (Leftover count source) old alone low = either (KnownFrom before old) (source.port == r.peer) Lost Unrelated tt tt
  known_new before Overran old alone low = tt
  known_new before Shut old alone low = tt
  known_new before (Other aside) old alone low = tt

  apart_more : (before : List (Event M)) (e : Event M) → AsksAlone r e → KnownAt before → KnownAt (before ++ e ∷ [])
  apart_more before e alone apart =
      let n = batch_count 0 before in
      let kept = filter (λ w. not (is_ended (e ∷ []) w)) (awaited start before) in
      let new = newly_awaited (last_number start before) n e in
      let s = table_event r start before e in
      let range = new_range (last_number start before) n e in
      let le : n ≤ n + batches_sent e = omega arith in
      let count : n + batches_sent e ≡ batch_count 0 (before ++ e ∷ []) = sym (batch_count-append 0 before (e ∷ [])) in
      let waits : kept ++ new ≡ awaited start (before ++ e ∷ []) = sym (awaited_more start 0 before e) in
      let listed : map (more s) (dumps (table_events r start before)) ++ dumps (s ∷ []) ≡ dumps (table_events r start (before ++ e ∷ []))
      = sym (ap dumps (table_events-more r start [] before e) ∙ dumps_more (table_events r start before) s) in
      let low : AllByRecursion (λ (w : Awaited ℕ). w.stream ≤ n + batches_sent e) (kept ++ new) =
      all_append _ kept new (all_filter _ _ _ (λ w h. omega (arith, h, le)) (awaited start before) apart.low) (all_same _ _ (λ w h. h.1) new range) in
      let known : AllByRecursion (λ d. Known d (n + batches_sent e) (kept ++ new)) (map (more s) (dumps (table_events r start before)) ++ dumps (s ∷ [])) =
      all_append _ (map (more s) (dumps (table_events r start before))) (dumps (s ∷ []))
      (all_map _ _ (more s) (λ d k. known_old before e d new (n + batches_sent e) range le k) (dumps (table_events r start before)) apart.known)
      (known_new before e kept alone (all_filter _ _ _ (λ w h. h) (awaited start before) apart.low)) in
      record {
        low = subst (λ m. AllByRecursion (λ (w : Awaited ℕ). w.stream ≤ m) (awaited start (before ++ e ∷ []))) count
            (subst (AllByRecursion (λ (w : Awaited ℕ). w.stream ≤ n + batches_sent e)) waits low);
        known =
            subst (λ m. AllByRecursion (λ d. Known d m (awaited start (before ++ e ∷ []))) (dumps (table_events r start (before ++ e ∷ [])))) count
            (subst (λ ws. AllByRecursion (λ d. Known d (n + batches_sent e) ws) (dumps (table_events r start (before ++ e ∷ [])))) waits
            (subst (AllByRecursion (λ d. Known d (n + batches_sent e) (kept ++ new))) listed known));
      }

  orderly_from : (before es : List (Event M)) → KnownAt before → AllByRecursion (AsksAlone r) es
      → OrderlyFrom (table_events r start before) (table_events_from r start before es)
  orderly_from before [] apart alone = tt
  orderly_from before (e ∷ es) apart alone = (
    next_of before e apart,
    subst (λ x. OrderlyFrom x (table_events_from r start (before ++ e ∷ []) es)) (table_events-more r start [] before e)
        (orderly_from (before ++ e ∷ []) es (apart_more before e alone.0 apart) alone.1),
  )

  -- The events of a session are orderly.
  pub orderly : (es : List (Event M)) → AllByRecursion (AsksAlone r) es → AreOrderly (table_events r start es)
  orderly es alone = orderly_from [] es (record { low = tt; known = tt }) alone
