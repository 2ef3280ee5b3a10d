-- What a record that only the mirror reads makes of a runner.
use Rattle.std.proofs.Common.{◌≡◌, ◌+◌, ◌<◌, ◌^◌, ◌&&◌, ◌||◌, ℕ, Bool, true, false, not, cond, nat_lt, List, [], ◌∷◌, ◌++◌, Some, None, refl, sym, ◌∙◌, ap, subst, arith}
use Rattle.std.specs.FinMap.{empty}
use Rattle.std.specs.List.{filter}
use Rattle.std.proofs.lemmas.Bool.Decides.{nat_tests}
use Rattle.std.proofs.lemmas.List.{append-nil, length-append}
use Rattle.std.proofs.lemmas.List.Folds.{list_any-append}
use Rattle.session_model.specs.declared.network.Address.{Address}
use Rattle.session_model.specs.declared.network.Network.{Network}
use Rattle.session_model.specs.declared.settings.Settings.{Settings}
use Rattle.session_model.specs.declared.transcript.Record.{Record}
use Rattle.session_model.specs.Awaited.{last_number}
use Rattle.session_model.specs.Causes.{all_fit, is_of_link, numbers_of, refusal}
use Rattle.session_model.specs.Events.{Aside, Blocked, Event, LookedUp, Other, Unblocked, record_events}
use Rattle.session_model.specs.SessionText.{text_of_events}
use Rattle.session_model.specs.Streams.{is_shut}
use Rattle.session_model.specs.Reported.{dropped_count}
use Rattle.session_model.proofs.Places.{filter-all}
use Rattle.session_model.proofs.Taking.{taken_more}
use Rattle.proto_core.specs.Session.{Session}
use Rattle.session_laws.specs.Counts.{Counts}
use Rattle.session_laws.proofs.Asides.{aside_batches, aside_counts, aside_drops, aside_session, aside_shut, aside_text}
use Rattle.mirror_model.specs.declared.answer.Answer.{Answer}
use Rattle.mirror_model.specs.declared.answer.Answer.TheVariants.{Stale}
use Rattle.mirror_model.specs.Blocked.{blocked_at, is_same}
use Rattle.mirror_model.specs.FiniteTables.{finite}
use Rattle.mirror_model.specs.Lookups.{lookup_at, lookup_in, routes_state}
use Rattle.mirror_model.specs.OutputText.{lookup_line}
use Rattle.mirror_model.specs.RouteChanges.{no_links, route_reader}
use Rattle.mirror_model.specs.Routes.{key_cmp, without_host_bits}
use Rattle.mirror_model.specs.TableEvents.{Unrelated}
use Rattle.mirror_model.proofs.Blocked.{blocked_at-more}
use Rattle.mirror_model.proofs.BlockedSets.{same_answer, same_equal, same_itself}
use Rattle.mirror_model.proofs.Handled.{grows}
use Rattle.mirror_model.proofs.Lookups.{by_state}
use Rattle.mirror_model.proofs.Records.{records_alone}
use Rattle.route_table.specs.Networks.{Adds, Drops, is_listed}
use Rattle.route_mirror.specs.Values.{MirrorValue}
use Rattle.mirror.specs.declared.runner.Runner.{Runner}
use Rattle.mirror.specs.Format.{IsEntry, Message, format}
use Rattle.mirror.specs.Ledger.{awaited_at}
use Rattle.mirror.specs.Polled.{AtRest, RouteConn}
use Rattle.mirror.specs.Runner.{CountsInRange, Grows, Mirrors, Stands, TakesRecord, Tracks, events, open_at, readers}
use Rattle.mirror.proofs.MirrorLaws.{stands_more}
use Rattle.mirror.proofs.RecordLaws.{events_more, refused_by}
use Rattle.mirror.proofs.ShownLaws.{alone}

-- ---- what is blocked

or_swap : (a b : Bool) → (a || b) ≡ (b || (a || false))
or_swap true true = refl
or_swap true false = refl
or_swap false true = refl
or_swap false false = refl

and_false : (b : Bool) → (b && false) ≡ false
and_false true = refl
and_false false = refl

-- A network is of a list without another one where it is of the list, and isn't that one.
without : (n k : Network) (ms : List Network)
    → is_listed k (filter (λ m. not (is_same n m || false)) ms) ≡ (not (is_same k n) && is_listed k ms)
without n k [] = sym (and_false (not (is_same k n)))
without n k (m ∷ ms) = by (is_same n m) refl (is_same k n) refl (is_same k m) refl (without n k ms)
  where
    kept : List Network
    kept = filter (λ m. not (is_same n m || false)) ms

    taken : (b c x : Bool) → b ≡ c → (not b && x) ≡ (not b && (c || x))
    taken true c x e = refl
    taken false true x e = cc
    taken false false x e = refl

    stays : (b c x : Bool) → (c ≡ true → b ≡ false) → (c || (not b && x)) ≡ (not b && (c || x))
    stays true true x f = let no : true ≡ false = f refl in cc
    stays true false x f = refl
    stays false true x f = refl
    stays false false x f = refl

    by : (t : Bool) → is_same n m ≡ t → (b : Bool) → is_same k n ≡ b → (c : Bool) → is_same k m ≡ c
        → is_listed k kept ≡ (not (is_same k n) && is_listed k ms)
        → is_listed k (cond (not (t || false)) (m ∷ kept) kept) ≡ (not (is_same k n) && (is_same k m || is_listed k ms))
    by true e b eb c ec ih = ih ∙ taken (is_same k n) (is_same k m) (is_listed k ms) (ap (is_same k) (same_equal n m e))
    by false e b eb c ec ih =
        ap (λ x. is_same k m || x) ih
        ∙ stays (is_same k n) (is_same k m) (is_listed k ms)
        (λ same. other (is_same k n) refl same)
      where
        other : (d : Bool) → is_same k n ≡ d → is_same k m ≡ true → is_same k n ≡ false
        other false f same = f
        other true f same =
            let one : n ≡ m = sym (same_equal k n f) ∙ same_equal k m same in
            let both : is_same n m ≡ true = ap (is_same n) (sym one) ∙ same_itself n in
            let no : true ≡ false = sym both ∙ e in
            cc

module _ (s : Settings) (es : List (Event Message)) (old new : MirrorValue) (is : new ≡ record old { blocked = new.blocked })
    (h : Mirrors s es old) where
  state_is : (a : Aside) → new.state ≡ routes_state (readers s) s.start (es ++ Other a ∷ [])
  state_is a = ap (λ (v : MirrorValue). v.state) is ∙ h.state ∙ sym (grows (route_reader s.peer s.table) s.start (finite key_cmp) es (Other a))

  -- A mirror that blocks a network.
  pub blocks_one : (n : Network) → Adds (without_host_bits n) old.blocked new.blocked → Mirrors s (es ++ Other (Blocked n) ∷ []) new
  blocks_one n adds = record {
    peer = ap (λ (v : MirrorValue). v.peer) is ∙ h.peer;
    table = ap (λ (v : MirrorValue). v.table) is ∙ h.table;
    state = state_is (Blocked n);
    blocked = λ k. adds k ∙ ap (λ b. is_same k (without_host_bits n) || b) (h.blocked k)
        ∙ or_swap (is_same k (without_host_bits n)) (is_listed k (blocked_at es))
        ∙ sym (list_any-append (is_same k) (blocked_at es) (without_host_bits n ∷ []))
        ∙ ap (is_listed k) (ap (λ ns. ns ++ without_host_bits n ∷ []) (sym (filter-all (blocked_at es))) ∙ sym (blocked_at-more es (Other (Blocked n))));
  }

  -- A mirror that unblocks a network.
  pub unblocks_one : (n : Network) → Drops (without_host_bits n) old.blocked new.blocked → Mirrors s (es ++ Other (Unblocked n) ∷ []) new
  unblocks_one n drops = record {
    peer = ap (λ (v : MirrorValue). v.peer) is ∙ h.peer;
    table = ap (λ (v : MirrorValue). v.table) is ∙ h.table;
    state = state_is (Unblocked n);
    blocked = λ k. drops k ∙ ap (λ b. not (is_same k (without_host_bits n)) && b) (h.blocked k)
        ∙ sym (without (without_host_bits n) k (blocked_at es))
        ∙ ap (is_listed k) (sym (append-nil (filter (λ m. not (is_same (without_host_bits n) m || false)) (blocked_at es)))
        ∙ sym (blocked_at-more es (Other (Unblocked n))));
  }

-- A look-up changes nothing.
pub looks_up_one : (s : Settings) (es : List (Event Message)) (m : MirrorValue) (a : Address) → Mirrors s es m → Mirrors s (es ++ Other (LookedUp a) ∷ []) m
looks_up_one s es m a h = stands_more s es (Other (LookedUp a)) m m Unrelated refl refl (λ n. refl) refl h

-- The answer of a mirror is the one after the records.
pub answered : (s : Settings) (rs : List Record) (m : MirrorValue) (a : Address) (answer : Answer)
    → answer ≡ lookup_in m.state (Some empty) m.blocked a → Mirrors s (events s rs) m → answer ≡ lookup_at (readers s) s.start (events s rs) a
answered s rs m a answer is h =
    let es = events s rs in
    let state = routes_state (readers s) s.start es in
    is ∙ ap (λ st. lookup_in st (Some empty) m.blocked a) h.state
    ∙ ap (λ x. cond state.closed Stale x) (same_answer m.blocked (blocked_at es) (λ n. h.blocked n) a state.in_force (Some empty))
    ∙ by_state (readers s) s.start es (alone s rs) (records_alone (no_links s.peer) format s rs) a

-- ---- a runner

-- A runner before and after such a record, and the text that is told of it.
pub record TookAside (entry : Record) (a : Aside) (old new : Runner) (text : List ℕ) : Type 0 where
  pub allowed : IsEntry entry
  pub aside : is_of_link entry ≡ false
  pub event : (s : Settings) → record_events format s entry ≡ Other a ∷ []
  pub none : numbers_of entry ≡ 0
  pub fits : all_fit format entry ≡ true
  pub counted : CountsInRange old
  pub settings : new.settings ≡ old.settings
  pub connection : new.connection ≡ old.connection
  pub ledger : new.observers.ledger ≡ old.observers.ledger
  pub lines : new.lines ≡ old.lines + 1
  pub peer : new.observers.mirror.peer ≡ old.observers.mirror.peer
  pub mirror : (s : Settings) (es : List (Event Message)) → Mirrors s es old.observers.mirror → Mirrors s (es ++ Other a ∷ []) new.observers.mirror
  pub told : (s : Settings) (rs : List Record) → Tracks s rs old → text ≡ lookup_line format s (lookup_at (readers s) s.start) (events s rs) entry

module _ (entry : Record) (a : Aside) (old new : Runner) (text : List ℕ) (t : TookAside entry a old new text) where
  -- It is in range still.
  pub aside_counted : CountsInRange new
  aside_counted = record {
    numbers = subst (λ (c : RouteConn). c.session.last < 2 ^ 32) (sym t.connection) t.counted.numbers;
    rest = subst AtRest (sym t.connection) t.counted.rest;
    closing = ap (λ l. l.closing.keys) t.ledger ∙ t.counted.closing;
    peer = t.peer ∙ t.counted.peer ∙ sym (ap (λ (q : Settings). q.peer) t.settings);
  }

  -- It has one line more.
  pub aside_grows : Grows entry old new
  aside_grows =
      let arrived = ap (λ (c : RouteConn). c.session.arrived) t.connection in
      let dropped = ap (λ l. l.dropped) t.ledger in
      record { lines = t.lines; messages = omega (arith, arrived); dropped = omega (arith, dropped) }

  aside_free : (s : Settings) (rs : List Record) → Tracks s rs old → refusal format s (events s rs) entry ≡ None
  aside_free s rs h =
      let last : last_number s.start (events s rs) ≡ old.connection.session.last = sym (ap (λ (q : Session Message ℕ). q.last) h.stands.session) in
      let low = t.counted.numbers in
      let none = t.none in
      let sum : last_number s.start (events s rs) + numbers_of entry < 2 ^ 32 = omega (arith, last, none, low) in
      let under : nat_lt 4294967295 (last_number s.start (events s rs) + numbers_of entry) ≡ false = grind (arith, nat_tests, sum) in
      refused_by s rs entry false false true (ap (λ b. b && is_shut (events s rs)) t.aside) under t.fits

  -- It has taken the record, and told its text.
  pub aside_taken : TakesRecord old entry new text
  aside_taken s rs h =
      let es = events s rs in
      let more : events s (rs ++ entry ∷ []) ≡ es ++ Other a ∷ [] = events_more s rs entry ∙ ap (λ fs. es ++ fs) (t.event s) in
      let after : List (Event Message) = es ++ Other a ∷ [] in
      let stands : Stands s after new.connection = subst (Stands s after) (sym t.connection) (record {
        session = h.stands.session ∙ sym (aside_session s.start es a);
        streams = h.stands.streams ∙ sym (aside_batches s.start es a 0);
        forward = h.stands.forward;
        closed = h.stands.closed ∙ sym (aside_shut s.start es a);
      }) in
      let counts : Counts (open_at new) s.start after = λ k. ap (λ l. awaited_at l k) t.ledger ∙ aside_counts s.start es a (open_at old) h.counts k in
      let line = lookup_line format s (lookup_at (readers s) s.start) es entry in (
        record {
          settings = t.settings ∙ h.settings;
          stands = subst (λ fs. Stands s fs new.connection) (sym more) stands;
          counts = subst (Counts (open_at new) s.start) (sym more) counts;
          mirror = subst (λ fs. Mirrors s fs new.observers.mirror) (sym more) (t.mirror s es h.mirror);
          lines = t.lines ∙ ap (λ n. n + 1) h.lines ∙ sym (length-append rs (entry ∷ []));
          dropped = ap (λ l. l.dropped) t.ledger ∙ h.dropped ∙ sym (aside_drops s.start es a) ∙ ap dropped_count (sym more);
          taken = taken_more format s IsEntry [] rs entry h.taken t.allowed (aside_free s rs h);
        },
        t.told s rs h ∙ ap (λ x. x ++ line) (sym (ap (text_of_events format s es) (t.event s) ∙ aside_text format s es a)),
      )
