-- Wherever a mirror is in step, its table is its peer's.
use Rattle.std.proofs.Common.{◌≡◌, ◌+◌, ◌==◌, ◌&&◌, ◌||◌, ℕ, suc, true, false, cond, List, [], ◌∷◌, ◌++◌, length, Option, Some, None, refl, sym, ◌∙◌, ap, subst, arith}
use Rattle.std.specs.List.{AllByRecursion}
use Rattle.mirror_model.specs.Tables.{Tables, Change, AreMaps, Alike, changed_maybe, names}
use Rattle.mirror_model.specs.TableEvents.{Ending, Continues, Finished, Failed, Reply, TableEvent, DumpAsked, DumpReply, Notified, Lost, LinkClosed, Unrelated, is_loss, is_finished, is_end, interrupts}
use Rattle.mirror_model.specs.MirrorState.{RunningDump, MirrorState, fresh, begun, notified, notified_in_force, with_reply, replied, completes, in_force_after, step, state_after}
use Rattle.mirror_model.specs.Honest.{IsWhole, WholeFrom, Fits, HonestFrom, IsHonest}
use Rattle.mirror_model.proofs.RunningDumps.{Follows, touches, follows_next, keeps_apart, keeps_heard, keeps_reply, completed, changed_alike}
use Rattle.mirror_model.proofs.Tests.{and_left, and_right, and_second, not_true, or_false, same_number, some_inside}
use Rattle.mirror_model.proofs.Lists.{all_append, all_filter, all_flat, all_map, all_same}

is_finished_one : (e : Ending) → is_finished e ≡ true → e ≡ Finished
is_finished_one Continues h = cc
is_finished_one Finished h = refl
is_finished_one Failed h = cc

module _ {T K V : Type 0} (o : Tables T K V) (maps : AreMaps o) where
  abbrev Followed : T → List (TableEvent K V) → RunningDump T → Type 0
  Followed P later d = Follows o maps d.stream d.table d.interrupted P later

  -- A mirror beside its peer's table, with the events that come.
  pub record Tracks (m : MirrorState T) (P : T) (later : List (TableEvent K V)) : Type 0 where
    pub dumps : AllByRecursion (Followed P later) m.running
    pub in_force : (table : T) → m.in_force ≡ Some table → (key : K) → o.get table key ≡ o.get P key

  -- a dump that the event doesn't touch
  apart : (P Q : T) (e : TableEvent K V) (es : List (TableEvent K V)) (d : RunningDump T) → is_loss e ≡ false
      → ((key : K) → touches o maps d.stream key e ≡ false) → interrupts d.stream e ≡ false → Alike o Q P
      → Followed P (e ∷ es) d → Followed Q es d
  apart P Q e es d lost untouched uncut q f =
      let keeps = keeps_apart o maps d.stream d.table P Q e lost untouched q in
      subst (λ b. Follows o maps d.stream d.table b Q es) (ap (λ b. d.interrupted || b) uncut ∙ or_false d.interrupted) (follows_next o maps f keeps)

  still_force : (m : MirrorState T) (P Q : T) → Alike o Q P → ((table : T) → m.in_force ≡ Some table → (key : K) → o.get table key ≡ o.get P key)
      → (table : T) → m.in_force ≡ Some table → (key : K) → o.get table key ≡ o.get Q key
  still_force m P Q q h table is key = h table is key ∙ sym (q key)

  asked_one : (k : ℕ) (P Q : T) (es : List (TableEvent K V)) → IsWhole o k P es → Alike o Q P → Followed Q es (begun o k)
  asked_one k P Q es whole q = record {
    at_first = P;
    since = [];
    whole = whole;
    marked = refl;
    unlost = refl;
    agrees = λ key is. cc;
    untouched = λ key is. (maps.of_empty key, q key);
  }

  heard_one : (P Q : T) (c : Change K V) (es : List (TableEvent K V)) → Alike o Q (o.changed c P) → (d : RunningDump T)
      → Followed P (Notified c ∷ es) d → Followed Q es (notified o c d)
  heard_one P Q c es q d f =
      subst (λ b. Follows o maps d.stream (o.changed c d.table) b Q es) (or_false d.interrupted)
      (follows_next o maps f (keeps_heard o maps d.stream d.table P Q c q))

  replied_one : (P Q : T) (r : Reply K V) (es : List (TableEvent K V)) → Alike o (changed_maybe o r.change P) P → Alike o Q P
      → (d : RunningDump T) → Followed P (DumpReply r ∷ es) d
      → AllByRecursion (Followed Q es) (replied o r d)
  replied_one P Q r es fits q d f =
      let left = cond (is_end r.ending) [] (with_reply o r d ∷ []) in
      elim (r.stream == d.stream) as (λ b. (r.stream == d.stream) ≡ b → AllByRecursion (Followed Q es) (cond b left (d ∷ []))) [
        | true ↦ λ own. elim (is_end r.ending) as (λ b. AllByRecursion (Followed Q es) (cond b [] (with_reply o r d ∷ []))) [
          | true ↦ tt
          | false ↦ (
            subst (λ b. Follows o maps d.stream (changed_maybe o r.change d.table) b Q es) (ap (λ b. d.interrupted || b) (and_second _ _ own))
                (follows_next o maps f (keeps_reply o maps d.stream d.table P Q r own fits q)),
            tt,
          )
        ]
        | false ↦ λ other. (apart P Q (DumpReply r) es d refl (λ key. ap (λ b. b && names o r.change key) other) (ap (λ b. b && r.interrupted) other) q f, tt)
      ] refl

  replied_force : (P Q : T) (r : Reply K V) (es : List (TableEvent K V)) → Alike o (changed_maybe o r.change P) P → Alike o Q P
      → (in_force : Option (T))
      → ((table : T) → in_force ≡ Some table → (key : K) → o.get table key ≡ o.get P key)
      → (ds : List (RunningDump T)) → AllByRecursion (Followed P (DumpReply r ∷ es)) ds
      → (table : T) → in_force_after o r in_force ds ≡ Some table → (key : K) → o.get table key ≡ o.get Q key
  replied_force P Q r es fits q in_force h [] all table is key = h table is key ∙ sym (q key)
  replied_force P Q r es fits q in_force h (d ∷ ds) all table is key =
      let left = in_force_after o r in_force ds in
      elim (completes o r d) as (λ b. completes o r d ≡ b → cond b (Some (changed_maybe o r.change d.table)) left ≡ Some table
      → o.get table key ≡ o.get Q key) [
        | true ↦ λ done e.
            let both = and_left _ _ done in
            let own = and_left _ _ both in
            sym (ap (λ (t : T). o.get t key) (some_inside _ _ e))
            ∙ completed o maps d.stream d.table P Q d.interrupted r es all.0 (same_number _ _ own) own (is_finished_one r.ending (and_right _ _ both))
            (not_true _ (and_right _ _ done)) fits q key
        | false ↦ λ not_done e. replied_force P Q r es fits q in_force h ds all.1 table e key
      ] refl is

  heard_force : (P Q : T) (c : Change K V) → Alike o Q (o.changed c P) → (in_force : Option (T))
      → ((table : T) → in_force ≡ Some table → (key : K) → o.get table key ≡ o.get P key)
      → (table : T) → notified_in_force o c in_force ≡ Some table → (key : K) → o.get table key ≡ o.get Q key
  heard_force P Q c q None h table is key = cc
  heard_force P Q c q (Some t) h table is key =
      sym (ap (λ (t : T). o.get t key) (some_inside _ _ is)) ∙ changed_alike o maps c t P key (h t refl key) ∙ sym (q key)

  -- One event keeps that, where it fits the tables before and after it.
  pub tracks_next : (m : MirrorState T) (P Q : T) (e : TableEvent K V) (es : List (TableEvent K V)) → Fits o e P Q → WholeFrom o e P es
      → Tracks m P (e ∷ es) → Tracks (step o e m) Q es
  tracks_next m P Q (DumpAsked k) es fits whole t = record {
    dumps = all_append (Followed Q es) _ (begun o k ∷ [])
        (all_filter (Followed P (DumpAsked k ∷ es)) (Followed Q es) _ (λ d f. apart P Q (DumpAsked k) es d refl (λ key. refl) refl fits f) m.running t.dumps)
        (asked_one k P Q es whole fits, tt);
    in_force = still_force m P Q fits t.in_force;
  }
  tracks_next m P Q (DumpReply r) es fits whole t = record {
    dumps = all_flat (Followed P (DumpReply r ∷ es)) (Followed Q es) (replied o r) (replied_one P Q r es fits.0 fits.1) m.running t.dumps;
    in_force = replied_force P Q r es fits.0 fits.1 m.in_force t.in_force m.running t.dumps;
  }
  tracks_next m P Q (Notified c) es fits whole t = record {
    dumps = all_map (Followed P (Notified c ∷ es)) (Followed Q es) (notified o c) (heard_one P Q c es fits) m.running t.dumps;
    in_force = heard_force P Q c fits m.in_force t.in_force;
  }
  tracks_next m P Q Lost es fits whole t = record { dumps = tt; in_force = λ table is key. cc }
  tracks_next m P Q LinkClosed es fits whole t = record {
    dumps =
        all_same (Followed P (LinkClosed ∷ es)) (Followed Q es) (λ d f. apart P Q LinkClosed es d refl (λ key. refl) refl fits f) m.running t.dumps;
    in_force = still_force m P Q fits t.in_force;
  }
  tracks_next m P Q Unrelated es fits whole t = record {
    dumps = all_same (Followed P (Unrelated ∷ es)) (Followed Q es) (λ d f. apart P Q Unrelated es d refl (λ key. refl) refl fits f) m.running t.dumps;
    in_force = still_force m P Q fits t.in_force;
  }

  -- So do all events of an honest history.
  pub tracks_after : (history : ℕ → T) (n : ℕ) (before later : List (TableEvent K V)) (m : MirrorState T)
      → HonestFrom o n history (before ++ later) → Tracks m (history n) (before ++ later)
      → Tracks (state_after o before m) (history (n + length before)) later
  tracks_after history n [] later m h t =
      let here : n ≡ n + 0 = omega arith in
      subst (λ k. Tracks m (history k) later) here t
  tracks_after history n (e ∷ before) later m h t =
      let here : (n + 1) + length before ≡ n + suc (length before) = omega arith in
      subst (λ k. Tracks (state_after o before (step o e m)) (history k) later) here
      (tracks_after history (n + 1) before later (step o e m) h.2 (tracks_next m (history n) (history (n + 1)) e (before ++ later) h.0 h.1 t))

  -- The table in force is the peer's table at its place.
  pub convergence : (history : ℕ → T) (before later : List (TableEvent K V)) (table : T) → IsHonest o history (before ++ later)
      → (state_after o before fresh).in_force ≡ Some table → Alike o table (history (length before))
  convergence history before later table h is key =
      let start : Tracks fresh (history 0) (before ++ later) = record { dumps = tt; in_force = λ t e k. cc } in
      let now = tracks_after history 0 before later fresh h start in
      let here : 0 + length before ≡ length before = omega arith in
      now.in_force table is key ∙ ap (λ n. o.get (history n) key) here
