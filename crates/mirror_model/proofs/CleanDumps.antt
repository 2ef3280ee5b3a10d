-- Clean dumps after one event more.
use Rattle.std.proofs.Common.{◌≡◌, ◌==◌, ◌&&◌, ◌||◌, ℕ, suc, Bool, true, false, not, cond, List, [], ◌∷◌, ◌++◌, length, nat_lt, Option, Some, None, refl, ◌∙◌, ap, subst}
use Rattle.std.specs.Option.{option_map}
use Rattle.std.specs.List.{filter, list_any, AllByRecursion}
use Rattle.mirror_model.specs.TableEvents.{Ending, Continues, Finished, Failed, TableEvent, DumpAsked, DumpReply, Notified, Lost, LinkClosed, Unrelated, is_loss, is_finished, is_end, interrupts, finishes, ends_dump, replies_to}
use Rattle.mirror_model.specs.Clean.{Dump, is_clean, events_after_end, ended_later, last_ended, last_clean}
use Rattle.mirror_model.specs.Orderly.{MayFollow}
use Rattle.mirror_model.proofs.Tests.{and_false, and_left, any_more, below_suc, none_below_zero, or_false, or_first, or_true_first, some_inside}
use Rattle.mirror_model.proofs.Lists.{length_more}

clean_bools : (F I L f i : Bool) → (F ≡ true → f ≡ false) → (F ≡ true → i ≡ false)
    → (((F || f) && not (I || i)) && not L) ≡ (((F && not I) && not L) || ((f && not (I || i)) && not L))
clean_bools false I L f i p q = refl
clean_bools true true L f i p q = rw (p refl) refl
clean_bools true false L f i p q = rw (p refl, q refl) (or_again (not L))
  where
    or_again : (b : Bool) → b ≡ (b || false)
    or_again true = refl
    or_again false = refl

module _ {K V : Type 0} where
  -- A dump with one event more after it.
  abbrev pub more : TableEvent K V → Dump K V → Dump K V
  more e d = record { stream = d.stream; later = d.later ++ e ∷ [] }

  -- One event more comes after the end, or is the end.
  pub after_end-more : (k : ℕ) (es : List (TableEvent K V)) (e : TableEvent K V) → list_any (finishes k) es ≡ true
      → events_after_end k (es ++ e ∷ []) ≡ suc (events_after_end k es)
  after_end-more k [] e h = cc
  after_end-more k (f ∷ es) e h =
      let now = es ++ e ∷ [] in
      elim (finishes k f) as (λ b. (b || list_any (finishes k) es) ≡ true
      → cond b (length now) (events_after_end k now) ≡ suc (cond b (length es) (events_after_end k es))) [
        | true ↦ λ h. length_more es e
        | false ↦ λ h. after_end-more k es e h
      ] h

  -- Where the event is the end, none comes after it.
  pub after_end-now : (k : ℕ) (es : List (TableEvent K V)) (e : TableEvent K V) → list_any (finishes k) es ≡ false → finishes k e ≡ true
      → events_after_end k (es ++ e ∷ []) ≡ 0
  after_end-now k [] e h now = ap (λ b. cond b 0 0) now
  after_end-now k (f ∷ es) e h now =
      elim (finishes k f) as (λ b. (b || list_any (finishes k) es) ≡ false → cond b (length (es ++ e ∷ [])) (events_after_end k (es ++ e ∷ [])) ≡ 0) [
        | true ↦ λ h. cc
        | false ↦ λ h. after_end-now k es e h now
      ] h

  -- What finishes a dump ends it.
  pub finished_ends : (k : ℕ) (e : TableEvent K V) → finishes k e ≡ true → ends_dump k e ≡ true
  finished_ends k (DumpAsked j) h = cc
  finished_ends k (DumpReply r) h = by_ending (r.stream == k) r.ending h
    where
      by_ending : (b : Bool) (e : Ending) → (b && is_finished e) ≡ true → (b && is_end e) ≡ true
      by_ending false e h = cc
      by_ending true Continues h = cc
      by_ending true Finished h = refl
      by_ending true Failed h = cc
  finished_ends k (Notified c) h = cc
  finished_ends k Lost h = cc
  finished_ends k LinkClosed h = cc
  finished_ends k Unrelated h = cc

  -- A dump that finished has ended.
  pub any_finished_ends : (k : ℕ) (es : List (TableEvent K V)) → list_any (finishes k) es ≡ true → list_any (ends_dump k) es ≡ true
  any_finished_ends k [] h = cc
  any_finished_ends k (e ∷ es) h =
      elim (finishes k e) as (λ b. finishes k e ≡ b → (b || list_any (finishes k) es) ≡ true → (ends_dump k e || list_any (ends_dump k) es) ≡ true) [
        | true ↦ λ is h. or_true_first _ _ (finished_ends k e is)
        | false ↦ λ is h. elim (ends_dump k e) as (λ b. (b || list_any (ends_dump k) es) ≡ true) [ true ↦ refl | false ↦ any_finished_ends k es h ]
      ] refl h

  -- the latest of the clean ones is a clean one of them
  pub last_of : (Q : Dump K V → Type 0) (ds : List (Dump K V)) → AllByRecursion Q ds → (y : Dump K V) → last_clean ds ≡ Some y
      → Q y × (is_clean y ≡ true)
  last_of Q [] all y h = cc
  last_of Q (d ∷ ds) all y h =
      elim (is_clean d) as (λ b. is_clean d ≡ b → last_ended (cond b (d ∷ filter is_clean ds) (filter is_clean ds)) ≡ Some y → Q y × (is_clean y ≡ true)) [
        | true ↦ λ clean h. picked (last_clean ds) (λ x is. last_of Q ds all.1 x is) clean (some_inside _ _ h)
        | false ↦ λ unclean h. last_of Q ds all.1 y h
      ] refl h
    where
      picked : (o : Option (Dump K V)) → ((x : Dump K V) → o ≡ Some x → Q x × (is_clean x ≡ true)) → is_clean d ≡ true → ended_later d o ≡ y
          → Q y × (is_clean y ≡ true)
      picked None each clean e = subst (λ x. Q x × (is_clean x ≡ true)) e (all.0, clean)
      picked (Some x) each clean e =
          elim (nat_lt (events_after_end x.stream x.later) (events_after_end d.stream d.later)) as (λ b. cond b x d ≡ y → Q y × (is_clean y ≡ true)) [
            | true ↦ λ e. subst (λ z. Q z × (is_clean z ≡ true)) e (each x refl)
            | false ↦ λ e. subst (λ z. Q z × (is_clean z ≡ true)) e (all.0, clean)
          ] e

  -- What is no reply of a stream neither finishes nor interrupts its dump.
  pub unanswered : (k : ℕ) (e : TableEvent K V) → replies_to k e ≡ false → (finishes k e ≡ false) × (interrupts k e ≡ false)
  unanswered k (DumpAsked j) h = (refl, refl)
  unanswered k (DumpReply r) h = by_own (r.stream == k) (is_finished r.ending) r.interrupted h
    where
      by_own : (b f i : Bool) → (b && true) ≡ false → ((b && f) ≡ false) × ((b && i) ≡ false)
      by_own false f i h = (refl, refl)
      by_own true f i h = cc
  unanswered k (Notified c) h = (refl, refl)
  unanswered k Lost h = (refl, refl)
  unanswered k LinkClosed h = (refl, refl)
  unanswered k Unrelated h = (refl, refl)

  -- what is known of a dump that has finished
  pub finished_alone : (e : TableEvent K V) (d : Dump K V) → MayFollow e d → list_any (finishes d.stream) d.later ≡ true
      → replies_to d.stream e ≡ false
  finished_alone e d next h = and_false _ _ (or_first _ _ next) (any_finished_ends d.stream d.later h)

  -- whether the event is the clean end of the dump
  abbrev pub finishing : TableEvent K V → Dump K V → Bool
  finishing e d = (finishes d.stream e && not (list_any (interrupts d.stream) d.later || interrupts d.stream e)) && not (list_any is_loss d.later)

  -- A dump is clean after an event where it was, or where the event is its clean end.
  pub clean_more : (e : TableEvent K V) (d : Dump K V) → is_loss e ≡ false → MayFollow e d → is_clean (more e d) ≡ (is_clean d || finishing e d)
  clean_more e d kept next =
      let k = d.stream in
      let es = d.later in
      let F = list_any (finishes k) es in
      let I = list_any (interrupts k) es in
      let L = list_any is_loss es in
      ap (λ b. (b && not (list_any (interrupts k) (es ++ e ∷ []))) && not (list_any is_loss (es ++ e ∷ []))) (any_more (finishes k) es e)
      ∙ ap (λ b. ((F || finishes k e) && not b) && not (list_any is_loss (es ++ e ∷ []))) (any_more (interrupts k) es e)
      ∙ ap (λ b. ((F || finishes k e) && not (I || interrupts k e)) && not b) (any_more is_loss es e ∙ ap (λ b. L || b) kept ∙ or_false L)
      ∙ clean_bools F I L (finishes k e) (interrupts k e)
      (λ h. (unanswered k e (finished_alone e d next h)).0) (λ h. (unanswered k e (finished_alone e d next h)).1)

  -- Of two dumps the one that ends now ended later.
  pub later_one_now : (d : Dump K V) (o : Option (Dump K V)) → events_after_end d.stream d.later ≡ 0 → ended_later d o ≡ d
  later_one_now d None h = refl
  later_one_now d (Some x) h = ap (λ b. cond b x d) (none_below_zero (events_after_end x.stream x.later) (events_after_end d.stream d.later) h)

  -- A clean dump has finished.
  pub clean_finished : (d : Dump K V) → is_clean d ≡ true → list_any (finishes d.stream) d.later ≡ true
  clean_finished d h = and_left _ _ (and_left _ _ h)

  -- One event more doesn't change which of two clean dumps ended later.
  pub later_one_more : (e : TableEvent K V) (d : Dump K V) (o : Option (Dump K V)) → is_clean d ≡ true → ((y : Dump K V) → o ≡ Some y → is_clean y ≡ true)
      → ended_later (more e d) (option_map (more e) o) ≡ more e (ended_later d o)
  later_one_more e d None clean h = refl
  later_one_more e d (Some y) clean h =
      let by : events_after_end y.stream (y.later ++ e ∷ []) ≡ suc (events_after_end y.stream y.later)
      = after_end-more y.stream y.later e (clean_finished y (h y refl)) in
      let bd : events_after_end d.stream (d.later ++ e ∷ []) ≡ suc (events_after_end d.stream d.later)
      = after_end-more d.stream d.later e (clean_finished d clean) in
      ap (λ n. cond (nat_lt n (events_after_end d.stream (d.later ++ e ∷ []))) (more e y) (more e d)) by
      ∙ ap (λ n. cond (nat_lt (suc (events_after_end y.stream y.later)) n) (more e y) (more e d)) bd
      ∙ ap (λ b. cond b (more e y) (more e d)) (below_suc (events_after_end y.stream y.later) (events_after_end d.stream d.later))
      ∙ pushed (nat_lt (events_after_end y.stream y.later) (events_after_end d.stream d.later))
    where
      pushed : (b : Bool) → cond b (more e y) (more e d) ≡ more e (cond b y d)
      pushed true = refl
      pushed false = refl
