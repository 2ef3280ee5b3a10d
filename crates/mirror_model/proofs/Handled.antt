-- A mirror that is told what its session did with an arrival takes the step of the arrival's place.
use Rattle.std.proofs.Common.{◌≡◌, ◌+◌, ◌==◌, ◌&&◌, ◌||◌, ℕ, Bool, true, false, cond, List, [], ◌∷◌, ◌++◌, Option, Some, None, refl, sym, ◌∙◌, ap, subst, arith}
use Rattle.std.specs.List.{list_any, AllByRecursion}
use Rattle.nl_core.specs.declared.message.NetlinkMessage.{NetlinkMessage}
use Rattle.session_model.specs.declared.awaited.Awaited.{Awaited}
use Rattle.session_model.specs.declared.address.SocketAddr.{SocketAddr}
use Rattle.session_model.specs.Events.{Event, Sent, Came, Unread, Leftover, Overran, Shut, Other}
use Rattle.session_model.specs.Awaited.{batch_count, is_last}
use Rattle.session_model.proofs.Places.{batch_count-append}
use Rattle.mirror_model.specs.Tables.{Tables}
use Rattle.mirror_model.specs.TableEvents.{TableEvent, DumpAsked, DumpReply, Lost, Unrelated, is_loss}
use Rattle.mirror_model.specs.MirrorState.{RunningDump, MirrorState, fresh, step, state_after}
use Rattle.mirror_model.specs.Clean.{as_running, Dump, dumps, has_ended, running_dump, running_at}
use Rattle.mirror_model.specs.Sessions.{Reader, answered, requests_dump, is_dump_from, tells_loss, reply_of, ending_of, arrival_event, table_event, table_events_from, table_events, answering_event, handled_event, handled_as}
use Rattle.mirror_model.proofs.StateOfEvents.{ignored}
use Rattle.mirror_model.proofs.SessionEvents.{either, of_arrived, table_events-more}
use Rattle.mirror_model.proofs.Tests.{number_same, or_true_second, same_number}
use Rattle.mirror_model.proofs.Lists.{all_flat, all_same}

apart_numbers : (dump : ℕ → Bool) (w k : ℕ) → dump w ≡ false → dump k ≡ true → (b : Bool) → (w == k) ≡ b → (w == k) ≡ false
apart_numbers dump w k isnt does false is = is
apart_numbers dump w k isnt does true is =
    let never : false ≡ true = sym isnt ∙ ap dump (same_number w k is) ∙ does in cc

module _ {M K V : Type 0} (r : Reader M K V) (start : ℕ) where
  abbrev IsDumpIn : List (Event M) → List (Event M) → Dump K V → Type 0
  IsDumpIn b es d = is_dump_from r (batch_count 0 b) es d.stream ≡ true

  asked_here : (n : ℕ) (asks_dump rest : Bool) → asks_dump ≡ true → (((n + 1 == n + 1) && asks_dump) || rest) ≡ true
  asked_here n asks_dump rest h = ap (λ b. (b && asks_dump) || rest) (number_same (n + 1) (n + 1) refl) ∙ first asks_dump rest h
    where
      first : (a b : Bool) → a ≡ true → (a || b) ≡ true
      first true b h = refl
      first false b h = cc

  -- an event that asks none
  passed : (b : List (Event M)) (e : Event M) (es : List (Event M)) → ((n k : ℕ) → is_dump_from r n (e ∷ es) k ≡ is_dump_from r n es k)
      → dumps (table_event r start b e ∷ table_events_from r start (b ++ e ∷ []) es) ≡ dumps (table_events_from r start (b ++ e ∷ []) es)
      → batch_count 0 (b ++ e ∷ []) ≡ batch_count 0 b + 0
      → AllByRecursion (IsDumpIn (b ++ e ∷ []) es) (dumps (table_events_from r start (b ++ e ∷ []) es))
      → AllByRecursion (IsDumpIn b (e ∷ es)) (dumps (table_events_from r start b (e ∷ es)))
  passed b e es same none count h =
      let n : batch_count 0 (b ++ e ∷ []) ≡ batch_count 0 b = count ∙ add_none (batch_count 0 b) in
      subst (AllByRecursion (IsDumpIn b (e ∷ es))) (sym none)
      (all_same _ _ (λ (d : Dump K V) x. same (batch_count 0 b) d.stream ∙ sym (ap (λ m. is_dump_from r m es d.stream) n)
      ∙ x) (dumps (table_events_from r start (b ++ e ∷ []) es)) h)
    where
      add_none : (n : ℕ) → n + 0 ≡ n
      add_none n = omega arith

  no_dump : (b es : List (Event M)) (t : Bool)
      → dumps (cond t Lost Unrelated ∷ table_events_from r start b es) ≡ dumps (table_events_from r start b es)
  no_dump b es t = either (λ s. dumps (s ∷ table_events_from r start b es) ≡ dumps (table_events_from r start b es)) t Lost Unrelated refl refl

  -- each dump's stream is that of a dump
  all_asked : (b es : List (Event M)) → AllByRecursion (IsDumpIn b es) (dumps (table_events_from r start b es))
  all_asked b [] = tt
  all_asked b (Sent to frames ∷ es) =
      let e : Event M = Sent to frames in
      let count : batch_count 0 (b ++ e ∷ []) ≡ batch_count 0 b + 1 = batch_count-append 0 b (e ∷ []) in
      let rest : AllByRecursion (IsDumpIn b (e ∷ es)) (dumps (table_events_from r start (b ++ e ∷ []) es)) =
      all_same _ _ (λ (d : Dump K V) h.
      or_true_second ((batch_count 0 b + 1 == d.stream) && requests_dump r frames) _ (sym (ap (λ n. is_dump_from r n es d.stream) count) ∙ h))
      (dumps (table_events_from r start (b ++ e ∷ []) es)) (all_asked (b ++ e ∷ []) es) in
      let next = batch_count 0 b + 1 in
      let later = table_events_from r start (b ++ e ∷ []) es in
      elim (requests_dump r frames) as (λ t. requests_dump r frames ≡ t
      → AllByRecursion (IsDumpIn b (e ∷ es)) (dumps (cond t (DumpAsked next) Unrelated ∷ later))) [
        | true ↦ λ is. (asked_here (batch_count 0 b) (requests_dump r frames) (is_dump_from r next es next) is, rest)
        | false ↦ λ is. rest
      ] refl
  all_asked b (Came m source ∷ es) =
      let later = table_events_from r start (b ++ Came m source ∷ []) es in
      passed b (Came m source) es (λ n k. refl) (of_arrived r start (λ s. dumps (s ∷ later) ≡ dumps later) refl refl (λ c. refl) (λ x. refl) b m source)
      (batch_count-append 0 b (Came m source ∷ [])) (all_asked (b ++ Came m source ∷ []) es)
  all_asked b (Unread kind number source ∷ es) =
      passed b (Unread kind number source) es (λ n k. refl) (no_dump (b ++ Unread kind number source ∷ []) es ((source.port == r.peer) && r.loses kind))
      (batch_count-append 0 b (Unread kind number source ∷ [])) (all_asked (b ++ Unread kind number source ∷ []) es)
  all_asked b (Leftover count source ∷ es) =
      passed b (Leftover count source) es (λ n k. refl) (no_dump (b ++ Leftover count source ∷ []) es (source.port == r.peer))
      (batch_count-append 0 b (Leftover count source ∷ [])) (all_asked (b ++ Leftover count source ∷ []) es)
  all_asked b (Overran ∷ es) = passed b Overran es (λ n k. refl) refl (batch_count-append 0 b (Overran ∷ [])) (all_asked (b ++ Overran ∷ []) es)
  all_asked b (Shut ∷ es) = passed b Shut es (λ n k. refl) refl (batch_count-append 0 b (Shut ∷ [])) (all_asked (b ++ Shut ∷ []) es)
  all_asked b (Other aside ∷ es) =
      passed b (Other aside) es (λ n k. refl) refl (batch_count-append 0 b (Other aside ∷ [])) (all_asked (b ++ Other aside ∷ []) es)

  module _ {T : Type 0} (o : Tables T K V) where
    others : (w : ℕ) (before : List (Event M)) → is_dump_from r 0 before w ≡ false
        → AllByRecursion (λ (d : RunningDump T). (w == d.stream) ≡ false) (running_at o (table_events r start before))
    others w before isnt =
        all_flat (IsDumpIn [] before) (λ (d : RunningDump T). (w == d.stream) ≡ false) (running_dump o) one
        (dumps (table_events r start before)) (all_asked [] before)
      where
        one : (d : Dump K V) → is_dump_from r 0 before d.stream ≡ true
            → AllByRecursion (λ (x : RunningDump T). (w == x.stream) ≡ false) (running_dump o d)
        one d does =
            let other = λ (x : RunningDump T). (w == x.stream) ≡ false in
            elim (has_ended d || list_any is_loss d.later) as (λ b. AllByRecursion other (cond b [] (as_running o d ∷ []))) [
              | true ↦ tt
              | false ↦ (apart_numbers (is_dump_from r 0 before) w d.stream isnt does (w == d.stream) refl, tt)
            ]

    -- A mirror that is told how its session handled an arrival takes the step of the arrival.
    pub as_handled : (before : List (Event M)) (m : NetlinkMessage M) (source : SocketAddr) (x : MirrorState T)
        → x.running ≡ running_at o (table_events r start before)
        → step o (handled_event r m source (handled_as m (answered start before m source))) x ≡ step o (table_event r start before (Came m source)) x
    as_handled before m source x runs = by_found (tells_loss r m source) (answered start before m source)
      where
        by_dump : (w : Awaited ℕ) (b : Bool) → is_dump_from r 0 before w.stream ≡ b
            → step o (answering_event r m source (Some (w.stream, is_last m w.acks))) x
            ≡ step o (cond {A = TableEvent K V} b (DumpReply (reply_of r m w.stream (ending_of m w.acks))) Unrelated) x
        by_dump w true is = refl
        by_dump w false is =
            ignored o _ x (subst (AllByRecursion (λ (d : RunningDump T). (w.stream == d.stream) ≡ false)) (sym runs) (others w.stream before is))

        by_found : (loss : Bool) (found : Option (Awaited ℕ))
            → step o (cond loss Lost (answering_event r m source (handled_as m found))) x
            ≡ step o (cond loss Lost (arrival_event r (is_dump_from r 0 before) m source found)) x
        by_found true found = refl
        by_found false None = refl
        by_found false (Some w) = by_dump w (is_dump_from r 0 before w.stream) refl

    state_after-more : (es : List (TableEvent K V)) (e : TableEvent K V) (x : MirrorState T)
        → state_after o (es ++ e ∷ []) x ≡ step o e (state_after o es x)
    state_after-more [] e x = refl
    state_after-more (f ∷ es) e x = state_after-more es e (step o f x)

    -- one event more is one step more
    pub grows : (before : List (Event M)) (e : Event M)
        → state_after o (table_events r start (before ++ e ∷ [])) fresh
        ≡ step o (table_event r start before e) (state_after o (table_events r start before) fresh)
    grows before e =
        ap (λ es. state_after o es fresh) (table_events-more r start [] before e)
        ∙ state_after-more (table_events r start before) (table_event r start before e) fresh
