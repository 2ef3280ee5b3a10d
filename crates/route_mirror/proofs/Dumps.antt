-- What updates and ends of dumps are in the steps of a mirror.
use Rattle.std.proofs.Common.{◌≡◌, ◌==◌, ◌&&◌, ◌||◌, ℕ, Bool, true, false, not, cond, List, [], ◌∷◌, ◌++◌, map, flat_map, take, drop, suc, is_some, Option, Some, None, refl, sym, ◌∙◌, ap}
use Rattle.std.specs.List.{filter, find, position}
use Rattle.std.specs.Option.{option_map, option_or}
use Rattle.mirror_model.specs.MirrorState.{RunningDump, with_reply, replied, in_force_after}
use Rattle.session_model.specs.declared.network.Network.{Network}
use Rattle.mirror_model.specs.FiniteTables.{finite}
use Rattle.mirror_model.specs.TableEvents.{Ending, Continues, Finished, Failed, Reply, is_end, is_finished}
use Rattle.mirror_model.specs.Tables.{Tables}
use Rattle.mirror_model.proofs.Lists.{map-append}
use Rattle.mirror_model.specs.Routes.{RouteKey, NextHop, RouteTable, key_cmp}
use Rattle.mirror_model.proofs.Tests.{and_left}
use Rattle.std.proofs.lemmas.List.Quantifiers.{position-Some}
use Rattle.route_mirror.specs.declared.dump.Update.{Update}
use Rattle.route_mirror.specs.declared.reply.Ending.TheVariants as code
use Rattle.route_mirror.specs.Values.{MirrorValue, mirror_value}
use Rattle.route_mirror.specs.Mirrors.{completed_step, reply_step}
use Rattle.route_mirror.specs.declared.dump.RunningDump.{RunningDump as CodeDump}
use Rattle.route_mirror.specs.Dumps.{dump_of, is_whole, is_other, is_for, is_sound, table_or, update_change, updated}
use Rattle.route_mirror.proofs.Lists.{find_map, filter_removed}

-- ---- dumps of other streams

-- The dumps of other streams, as contracts see them.
pub others_kept : (stream : ℕ) (ds : List CodeDump)
    → map dump_of (filter (is_other stream) ds) ≡ filter (λ (d : RunningDump RouteTable). not (stream == d.stream)) (map dump_of ds)
others_kept stream [] = refl
others_kept stream (d ∷ ds) = elim (is_other stream d) as (λ b. map dump_of (cond b (d ∷ filter (is_other stream) ds) (filter (is_other stream) ds))
    ≡ cond b (dump_of d ∷ filter (λ (e : RunningDump RouteTable). not (stream == e.stream)) (map dump_of ds)) (filter (λ (e : RunningDump RouteTable). not (stream == e.stream)) (map dump_of ds))) [
      | true ↦ ap (λ xs. dump_of d ∷ xs) (others_kept stream ds)
      | false ↦ others_kept stream ds
    ]

-- A dump that was just asked stands behind the dumps of other streams.
pub asked_dumps : (stream : ℕ) (ds : List CodeDump) (d : CodeDump) → map dump_of (filter (is_other stream) ds ++ d ∷ [])
    ≡ filter (λ (e : RunningDump RouteTable). not (stream == e.stream)) (map dump_of ds) ++ dump_of d ∷ []
asked_dumps stream ds d = map-append dump_of (filter (is_other stream) ds) (d ∷ []) ∙ ap (λ xs. xs ++ dump_of d ∷ []) (others_kept stream ds)

-- ---- replies

module _ {T K V : Type 0} (o : Tables T K V) (r : Reply K V) where
  -- A dump after the reply, if it is one of its stream.
  abbrev pub after_reply : RunningDump T → RunningDump T
  after_reply d = cond (r.stream == d.stream) (with_reply o r d) d

  -- It is of the reply's stream, and wasn't interrupted.
  abbrev sound : RunningDump T → Bool
  sound d = (r.stream == d.stream) && not d.interrupted

  continued : (e s : Bool) (d : RunningDump T) → e ≡ false → cond s (cond e [] (with_reply o r d ∷ [])) (d ∷ []) ≡ cond s (with_reply o r d) d ∷ []
  continued true s d h = cc
  continued false true d h = refl
  continued false false d h = refl

  -- A reply that ends nothing changes the dumps of its stream.
  pub goes_on : is_end r.ending ≡ false → (ms : List (RunningDump T)) → map after_reply ms ≡ flat_map (replied o r) ms
  goes_on h [] = refl
  goes_on h (m ∷ ms) =
      ap (λ xs. after_reply m ∷ xs) (goes_on h ms)
      ∙ ap (λ xs. xs ++ flat_map (replied o r) ms) (sym (continued (is_end r.ending) (r.stream == m.stream) m h))

  same_stream : (s : Bool) (d : RunningDump T) → (r.stream == (cond s (with_reply o r d) d).stream) ≡ (r.stream == d.stream)
  same_stream true d = refl
  same_stream false d = refl

  ended : (e s : Bool) (d : RunningDump T) (xs : List (RunningDump T)) → e ≡ true
      → cond (not s) (cond s (with_reply o r d) d ∷ xs) xs ≡ cond s (cond e [] (with_reply o r d ∷ [])) (d ∷ []) ++ xs
  ended true true d xs h = refl
  ended true false d xs h = refl
  ended false s d xs h = cc

  -- A reply that ends its number takes the dumps of its stream away.
  pub ends : is_end r.ending ≡ true → (ms : List (RunningDump T)) → filter (λ (d : RunningDump T). not (r.stream == d.stream)) (map after_reply ms) ≡ flat_map (replied o r) ms
  ends h [] = refl
  ends h (m ∷ ms) =
      ap (λ b. cond (not b) (after_reply m ∷ filter (λ (d : RunningDump T). not (r.stream == d.stream)) (map after_reply ms)) (filter (λ (d : RunningDump T). not (r.stream == d.stream)) (map after_reply ms)))
      (same_stream (r.stream == m.stream) m)
      ∙ ended (is_end r.ending) (r.stream == m.stream) m (filter (λ (d : RunningDump T). not (r.stream == d.stream)) (map after_reply ms)) h
      ∙ ap (λ xs. replied o r m ++ xs) (ends h ms)

  never : (s f i : Bool) → f ≡ false → (s && f && not i) ≡ false
  never true true i h = cc
  never true false i h = refl
  never false f i h = refl

  -- A reply that is no clean end leaves the table in force.
  pub keeps : is_finished r.ending ≡ false → (t : Option T) (ms : List (RunningDump T)) → in_force_after o r t ms ≡ t
  keeps h t [] = refl
  keeps h t (m ∷ ms) =
      ap (λ b. cond b (Some (with_reply o r m).table) (in_force_after o r t ms)) (never (r.stream == m.stream) (is_finished r.ending) (m.interrupted || r.interrupted) h)
      ∙ keeps h t ms

  abbrev put_or : Option T → Option (RunningDump T) → Option T
  put_or t None = t
  put_or t (Some d) = Some d.table

  sound_by : (s : Bool) (d : RunningDump T) → (r.stream == d.stream) ≡ s → sound (cond s (with_reply o r d) d) ≡ (s && not (d.interrupted || r.interrupted))
  sound_by true d is = ap (λ b. b && not (d.interrupted || r.interrupted)) is
  sound_by false d is = ap (λ b. b && not d.interrupted) is

  finishing : (s f i : Bool) → f ≡ true → (s && f && not i) ≡ (s && not i)
  finishing true true i h = refl
  finishing true false i h = cc
  finishing false f i h = refl

  -- A clean end puts the first dump of its stream into force that wasn't interrupted.
  pub puts_in_force : is_finished r.ending ≡ true → (t : Option T) (ms : List (RunningDump T)) → in_force_after o r t ms ≡ put_or t (find sound (map after_reply ms))
  puts_in_force h t [] = refl
  puts_in_force h t (m ∷ ms) =
      ap (λ b. cond b (Some (with_reply o r m).table) (in_force_after o r t ms)) (finishing (r.stream == m.stream) (is_finished r.ending) (m.interrupted || r.interrupted) h)
      ∙ by (r.stream == m.stream) refl (m.interrupted || r.interrupted) (puts_in_force h t ms)
      ∙ ap (λ b. put_or t (cond b (Some (after_reply m)) (find sound (map after_reply ms)))) (sym (sound_by (r.stream == m.stream) m refl))
    where
      by : (s : Bool) → (r.stream == m.stream) ≡ s → (i : Bool) → in_force_after o r t ms ≡ put_or t (find sound (map after_reply ms))
          → cond (s && not i) (Some (with_reply o r m).table) (in_force_after o r t ms)
          ≡ put_or t (cond (s && not i) (Some (cond s (with_reply o r m) m)) (find sound (map after_reply ms)))
      by true is true rest = rest
      by true is false rest = refl
      by false is i rest = rest

-- ---- the dump of a clean end

-- The table of the first dump of a stream that wasn't interrupted, as contracts see it.
pub whole_table : (stream : ℕ) (t : Option RouteTable) (ds : List CodeDump)
    → table_or t (find (is_sound stream) (map dump_of ds)) ≡ option_or (option_map (λ (d : CodeDump). d.routes) (find (is_whole stream) ds)) t
whole_table stream t ds = ap (table_or t) (find_map dump_of (is_sound stream) ds) ∙ by (find (is_whole stream) ds)
  where
    by : (o : Option CodeDump) → table_or t (option_map dump_of o) ≡ option_or (option_map (λ (d : CodeDump). d.routes) o) t
    by None = refl
    by (Some d) = refl

-- The dumps of other streams are those without a dump of the stream.
pub others_stay : (stream : ℕ) (ds : List CodeDump) (i : ℕ) (d : CodeDump) → position (is_whole stream) ds ≡ Some i
    → filter (is_other stream) (take i ds ++ drop (suc i) ds) ≡ filter (is_other stream) ds
others_stay stream ds i d h =
    let at = position-Some (is_whole stream) ds i d h in
    filter_removed (is_other stream) ds i d at.0 (ap not (and_left _ _ at.1))

-- ---- steps

-- What a reply of a stream is to a table.
abbrev reply : ℕ → Update → Ending → Reply RouteKey NextHop
reply stream u e = record { stream = stream; change = update_change u; interrupted = u.interrupted; ending = e }

updates : (u : Update) (stream : ℕ) (e : Ending) → u.stream ≡ Some stream → (ms : List (RunningDump RouteTable))
    → map (updated u) ms ≡ map (after_reply (finite key_cmp) (reply stream u e)) ms
updates u stream e is ms = ap (λ f. map f ms) (λ i d. each d i)
  where
    each : (d : RunningDump RouteTable) → updated u d ≡ after_reply (finite key_cmp) (reply stream u e) d
    each d = ap (λ s. cond (is_for s d.stream) (with_reply (finite key_cmp) (reply stream u e) d) d) is

module _ (peer table : ℕ) (closed : Bool) (t : Option RouteTable) (blocked : List Network) (stream : ℕ) where
  -- A mirror with this table in force, and these dumps that run.
  abbrev with_dumps : Option RouteTable → List CodeDump → MirrorValue
  with_dumps in_force ds = mirror_value peer table closed in_force ds blocked

  abbrev with_state : Option RouteTable → List (RunningDump RouteTable) → MirrorValue
  with_state in_force ms = record { peer = peer; table = table; state = record { closed = closed; in_force = in_force; running = ms }; blocked = blocked }

  -- A clean end puts the table in force that it took out, and keeps the dumps of other streams.
  pub completes_by : (ds without es : List CodeDump) (whole : Option RouteTable) → whole ≡ option_map (λ (d : CodeDump). d.routes) (find (is_whole stream) ds)
      → filter (is_other stream) without ≡ filter (is_other stream) ds → es ≡ filter (is_other stream) without
      → with_dumps (option_or whole t) es ≡ completed_step stream (with_dumps t ds)
  completes_by ds without es whole is others left =
      let in_force = ap (λ o. option_or o t) is ∙ sym (whole_table stream t ds) in
      let running = ap (map dump_of) (left ∙ others) ∙ others_kept stream ds in
      λ i. with_state (in_force i) (running i)

  module _ (u : Update) (is : u.stream ≡ Some stream) (ds es : List CodeDump) (updated_to : map dump_of es ≡ map (updated u) (map dump_of ds)) where
    after : (e : Ending) → map dump_of es ≡ map (after_reply (finite key_cmp) (reply stream u e)) (map dump_of ds)
    after e = updated_to ∙ updates u stream e is (map dump_of ds)

    -- A reply that ends nothing.
    pub reply_continues : with_dumps t es ≡ reply_step stream u code.Continues (with_dumps t ds)
    reply_continues =
        let in_force = sym (keeps (finite key_cmp) (reply stream u Continues) refl t (map dump_of ds)) in
        let running = after Continues ∙ goes_on (finite key_cmp) (reply stream u Continues) refl (map dump_of ds) in
        λ i. with_state (in_force i) (running i)

    -- A reply that ends its number, and not cleanly.
    pub reply_failed : (left : List CodeDump) → left ≡ filter (is_other stream) es → with_dumps t left ≡ reply_step stream u code.Failed (with_dumps t ds)
    reply_failed left kept =
        let in_force = sym (keeps (finite key_cmp) (reply stream u Failed) refl t (map dump_of ds)) in
        let running = ap (map dump_of) kept ∙ others_kept stream es ∙ ap (filter (λ (d : RunningDump RouteTable). not (stream == d.stream))) (after Failed)
        ∙ ends (finite key_cmp) (reply stream u Failed) refl (map dump_of ds) in
        λ i. with_state (in_force i) (running i)

    -- A reply that ends its number cleanly.
    pub reply_finished : completed_step stream (with_dumps t es) ≡ reply_step stream u code.Finished (with_dumps t ds)
    reply_finished =
        let in_force = ap (λ ms. table_or t (find (is_sound stream) ms)) (after Finished) ∙ sym (puts_in_force (finite key_cmp) (reply stream u Finished) refl t (map dump_of ds)) in
        let running = ap (filter (λ (d : RunningDump RouteTable). not (stream == d.stream))) (after Finished) ∙ ends (finite key_cmp) (reply stream u Finished) refl (map dump_of ds) in
        λ i. with_state (in_force i) (running i)

-- A table that was taken out is the one that counts.
pub or_taken : (whole t : Option RouteTable) → is_some whole ≡ true → whole ≡ option_or whole t
or_taken None t h = cc
or_taken (Some x) t h = refl

-- Where none was taken out, the one that is there counts.
pub or_there : (whole t : Option RouteTable) → is_some whole ≡ false → t ≡ option_or whole t
or_there None t h = refl
or_there (Some x) t h = cc
