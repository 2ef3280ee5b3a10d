-- A test for what is asked of a dump.
use Rattle.std.proofs.Common.{◌≡◌, ◌==◌, ◌&&◌, ◌||◌, ℕ, Bool, true, false, not, List, [], ◌∷◌, ◌++◌, Some, refl, sym, ◌∙◌, ap}
use Rattle.std.specs.List.{list_any}
use Rattle.mirror_model.specs.Tables.{Tables, puts}
use Rattle.mirror_model.specs.TableEvents.{Finished, Reply, TableEvent, DumpReply, is_loss, is_finished, interrupts, finishes}
use Rattle.mirror_model.specs.Honest.{notifies, replies_putting, IsWhole, is_accounted_for}
use Rattle.mirror_model.proofs.Tests.{number_same, or_first, or_second}

last_left : (a b c d : Bool) → a ≡ false → b ≡ false → c ≡ false → (((a || b) || c) || d) ≡ d
last_left false false false d h g f = refl
last_left true b c d h g f = cc
last_left false true c d h g f = cc
last_left false false true d h g f = cc

module _ {T K V : Type 0} (o : Tables T K V) where
  put_by : (k : ℕ) (key : K) (between : List (TableEvent K V)) (r : Reply K V) (left : List (TableEvent K V))
      → is_accounted_for o k key (between ++ DumpReply r ∷ left) ≡ true
      → r.stream ≡ k → r.ending ≡ Finished → list_any (interrupts k) (between ++ DumpReply r ∷ []) ≡ false
      → list_any is_loss between ≡ false → list_any (notifies o key) between ≡ false
      → list_any (replies_putting o key k) (between ++ DumpReply r ∷ []) ≡ true
  put_by k key [] r left known own done uncut unlost unheard =
      by_put ((r.stream == k) && puts o r.change key) ((r.stream == k) && r.interrupted) ((r.stream == k) && is_finished r.ending)
      (is_accounted_for o k key left) (or_first _ _ uncut)
      (ap (λ b. b && is_finished r.ending) (number_same _ _ own) ∙ ap is_finished done) known
    where
      by_put : (p i f rest : Bool) → i ≡ false → f ≡ true → ((((false || i) || false) || p) || (not f && rest)) ≡ true → (p || false) ≡ true
      by_put true i f rest h g t = refl
      by_put false true f rest h g t = cc
      by_put false false true rest h g t = cc
      by_put false false false rest h g t = cc
  put_by k key (e ∷ between) r left known own done uncut unlost unheard =
      by_put (replies_putting o key k e) (finishes k e) (is_loss e) (interrupts k e) (notifies o key e) _ _
      (or_first _ _ unlost) (or_first _ _ uncut) (or_first _ _ unheard) known
      (λ rest. put_by k key between r left rest own done (or_second _ _ uncut) (or_second _ _ unlost) (or_second _ _ unheard))
    where
      by_put : (p f l i h : Bool) (rest later : Bool) → l ≡ false → i ≡ false → h ≡ false
          → ((((l || i) || h) || p) || (not f && rest)) ≡ true → (rest ≡ true → later ≡ true) → (p || later) ≡ true
      by_put true f l i h rest later a b c t g = refl
      by_put false f true i h rest later a b c t g = cc
      by_put false f false true h rest later a b c t g = cc
      by_put false f false false true rest later a b c t g = cc
      by_put false true false false false rest later a b c t g = cc
      by_put false false false false false rest later a b c t g = g t

  -- A dump is whole where each key of the table passes the test.
  pub whole_by_test : (k : ℕ) (P : T) (later : List (TableEvent K V))
      → ((key : K) (value : V) → o.get P key ≡ Some value → is_accounted_for o k key later ≡ true) → IsWhole o k P later
  whole_by_test k P later known between r left is own done uncut unlost key value stands unheard =
      put_by k key between r left (ap (is_accounted_for o k key) (sym is) ∙ known key value stands) own done uncut unlost unheard
