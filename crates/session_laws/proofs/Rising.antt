-- Lists of numbers that rise: such a list is known by which numbers stand in it.
use Rattle.std.proofs.Common.{◌≡◌, ◌≢◌, ◌<◌, ◌≤◌, ◌==◌, ◌&&◌, ◌||◌, ℕ, zero, suc, Bool, true, false, cond, List, [], ◌∷◌, ◌++◌, refl, sym, ◌∙◌, ap, subst, arith}
use Rattle.std.proofs.Math.Bool.{and-false}
use Rattle.std.specs.List.{filter, list_any, AllByRecursion}
use Rattle.std.specs.List.Sorted.{IsStrictlySortedBy}
use Rattle.std.specs.declared.cmp.Ordering.TheVariants.{Less}
use Rattle.std.specs.Ordering.{nat_cmp, is_eq}
use Rattle.std.proofs.lemmas.Bool.Decides.{nat_tests}
use Rattle.std.proofs.lemmas.List.Folds.{list_any-append}
use Rattle.std.proofs.lemmas.Map.Keys.{sorted_head, sorted_tail}
use Rattle.session_model.specs.Streams.{up_to}
use Rattle.session_model.proofs.Places.{filter-append}

-- Whether a number stands in a list.
abbrev pub has : ℕ → List ℕ → Bool
has k xs = list_any (λ x. x == k) xs

-- Each number is below those after it.
abbrev pub Rises : List ℕ → Type 0
Rises [] = Unit {0}
Rises (x ∷ xs) = AllByRecursion (λ y. x < y) xs × Rises xs

same : (a : ℕ) → (a == a) ≡ true
same a = grind (arith, nat_tests)

apart : (a b : ℕ) → a < b → (b == a) ≡ false
apart a b h = grind (arith, nat_tests)

apart_up : (a b : ℕ) → a < b → (a == b) ≡ false
apart_up a b h = grind (arith, nat_tests)

-- Numbers that test equal are equal.
pub is_it : (a b : ℕ) → (a == b) ≡ true → a ≡ b
is_it a b h = grind (arith, nat_tests)

has_none : (k : ℕ) (xs : List ℕ) → AllByRecursion (λ x. k < x) xs → has k xs ≡ false
has_none k [] h = refl
has_none k (x ∷ xs) h = rw (apart k x h.0) (has_none k xs h.1)

all_more : (a b : ℕ) (xs : List ℕ) → a < b → AllByRecursion (λ x. b < x) xs → AllByRecursion (λ x. a < x) xs
all_more a b [] h k = tt
all_more a b (x ∷ xs) h k = (let l = k.0 in omega (arith, h, l), all_more a b xs h k.1)

-- the heads of two lists with the same numbers
not_below : (x y : ℕ) (xs ys : List ℕ) → Rises (y ∷ ys) → ((k : ℕ) → has k (x ∷ xs) ≡ has k (y ∷ ys)) → x < y → ⊥
not_below x y xs ys r h low =
    let here : has x (x ∷ xs) ≡ true = ap (λ b. b || has x xs) (same x) in
    let there : has x (y ∷ ys) ≡ false = ap (λ b. b || has x ys) (apart x y low) ∙ has_none x ys (all_more x y ys low r.0) in
    let both : true ≡ false = sym here ∙ h x ∙ there in cc

tails : (x : ℕ) (xs ys : List ℕ) → Rises (x ∷ xs) → Rises (x ∷ ys) → ((k : ℕ) → has k (x ∷ xs) ≡ has k (x ∷ ys))
    → (k : ℕ) → has k xs ≡ has k ys
tails x xs ys r s h k = by (x == k) refl (h k)
  where
    by : (b : Bool) → (x == k) ≡ b → (b || has k xs) ≡ (b || has k ys) → has k xs ≡ has k ys
    by true e g =
        let is : x ≡ k = is_it x k e in
        subst (λ j. has j xs ≡ has j ys) is (has_none x xs r.0 ∙ sym (has_none x ys s.0))
    by false e g = g

-- Two lists that rise and hold the same numbers are one list.
pub same_numbers : (xs ys : List ℕ) → Rises xs → Rises ys → ((k : ℕ) → has k xs ≡ has k ys) → xs ≡ ys
same_numbers [] [] r s h = refl
same_numbers [] (y ∷ ys) r s h = let e : false ≡ true = h y ∙ ap (λ b. b || has y ys) (same y) in cc
same_numbers (x ∷ xs) [] r s h = let e : true ≡ false = sym (ap (λ b. b || has x xs) (same x)) ∙ h x in cc
same_numbers (x ∷ xs) (y ∷ ys) r s h = by (λ g. same_numbers xs ys r.1 s.1 g) (x == y) refl
  where
    by : (((k : ℕ) → has k xs ≡ has k ys) → xs ≡ ys) → (b : Bool) → (x == y) ≡ b → x ∷ xs ≡ y ∷ ys
    by ih true e =
        let is : y ≡ x = sym (is_it x y e) in
        ap (λ z. z ∷ xs) (sym is)
        ∙ ap (λ zs. y ∷ zs) (ih (tails x xs ys r (subst (λ z. Rises (z ∷ ys)) is s) (λ k. h k ∙ ap (λ z. has k (z ∷ ys)) is)))
    by ih false e =
        let other : x ≢ y = grind (arith, nat_tests) in
        let left : x < y → ⊥ = not_below x y xs ys s h in
        let right : y < x → ⊥ = not_below y x ys xs r (λ k. sym (h k)) in
        absurd (neither x y other left right)
      where
        neither : (a b : ℕ) → a ≢ b → (a < b → ⊥) → (b < a → ⊥) → ⊥
        neither a b o l r = omega (arith, o, l, r)

-- ---- the numbers up to a bound that pass a test

has-filter : (p : ℕ → Bool) (k : ℕ) (xs : List ℕ) → has k (filter p xs) ≡ (p k && has k xs)
has-filter p k [] = sym (and-false (p k))
has-filter p k (x ∷ xs) = by (has-filter p k xs) (p x) refl (x == k) refl
  where
    by : has k (filter p xs) ≡ (p k && has k xs) → (b : Bool) → p x ≡ b → (c : Bool) → (x == k) ≡ c
        → has k (cond b (x ∷ filter p xs) (filter p xs)) ≡ (p k && (c || has k xs))
    by ih true e true g = ap (λ b. b || has k (filter p xs)) g ∙ sym (ap (λ b. b && true) (ap p (sym (is_it x k g)) ∙ e))
    by ih true e false g = ap (λ b. b || has k (filter p xs)) g ∙ ih
    by ih false e true g =
        let no : p k ≡ false = ap p (sym (is_it x k g)) ∙ e in
        ih ∙ ap (λ b. b && has k xs) no ∙ sym (ap (λ b. b && true) no)
    by ih false e false g = ih

has-up_to : (n k : ℕ) → 0 < k → k ≤ n → has k (up_to n) ≡ true
has-up_to zero k low high = absurd (omega (arith, low, high))
has-up_to (suc n) k low high = list_any-append (λ x. x == k) (up_to n) (suc n ∷ []) ∙ by (λ le. has-up_to n k low le) (suc n == k) refl
  where
    or-true : (b : Bool) → (b || true) ≡ true
    or-true true = refl
    or-true false = refl

    by : (k ≤ n → has k (up_to n) ≡ true) → (b : Bool) → (suc n == k) ≡ b → (has k (up_to n) || (b || false)) ≡ true
    by ih true e = or-true (has k (up_to n))
    by ih false e =
        let other : suc n ≢ k = grind (arith, nat_tests) in
        ap (λ b. b || false) (ih (omega (arith, high, other)))

all_up_to : (p : ℕ → Bool) (n m : ℕ) → n ≤ m → AllByRecursion (λ x. x ≤ m) (filter p (up_to n))
all_up_to p zero m h = tt
all_up_to p (suc n) m h =
    subst (AllByRecursion (λ x. x ≤ m)) (sym (filter-append p (up_to n) (suc n ∷ [])))
    (joined (filter p (up_to n)) (all_up_to p n m (omega (arith, h))) (p (suc n)))
  where
    joined : (xs : List ℕ) → AllByRecursion (λ x. x ≤ m) xs → (b : Bool) → AllByRecursion (λ x. x ≤ m) (xs ++ cond b (suc n ∷ []) [])
    joined [] k true = (h, tt)
    joined [] k false = tt
    joined (x ∷ xs) k b = (k.0, joined xs k.1 b)

rises-up_to : (p : ℕ → Bool) (n : ℕ) → Rises (filter p (up_to n))
rises-up_to p zero = tt
rises-up_to p (suc n) =
    subst Rises (sym (filter-append p (up_to n) (suc n ∷ [])))
    (joined (filter p (up_to n)) (rises-up_to p n) (all_up_to p n n (omega arith)) (p (suc n)))
  where
    above : (x : ℕ) (xs : List ℕ) → x ≤ n → AllByRecursion (λ y. x < y) xs → (b : Bool)
        → AllByRecursion (λ y. x < y) (xs ++ cond b (suc n ∷ []) [])
    above x [] l h true = (omega (arith, l), tt)
    above x [] l h false = tt
    above x (y ∷ ys) l h b = (h.0, above x ys l h.1 b)

    joined : (xs : List ℕ) → Rises xs → AllByRecursion (λ x. x ≤ n) xs → (b : Bool) → Rises (xs ++ cond b (suc n ∷ []) [])
    joined [] r k true = (tt, tt)
    joined [] r k false = tt
    joined (x ∷ xs) r k b = (above x xs k.0 r.0 b, joined xs r.1 k.1 b)

-- A list that rises and holds exactly the numbers that pass a test, all from 1 to n.
pub filtered : (xs : List ℕ) (p : ℕ → Bool) (n : ℕ) → Rises xs → ((k : ℕ) → has k xs ≡ p k)
    → ((k : ℕ) → p k ≡ true → (0 < k) × (k ≤ n))
    → xs ≡ filter p (up_to n)
filtered xs p n r h within = same_numbers xs (filter p (up_to n)) r (rises-up_to p n) (λ k. h k ∙ sym (has-filter p k (up_to n) ∙ by k (p k) refl))
  where
    by : (k : ℕ) (b : Bool) → p k ≡ b → (p k && has k (up_to n)) ≡ p k
    by k true e = let w = within k e in ap (λ b. b && has k (up_to n)) e ∙ has-up_to n k w.0 w.1 ∙ sym e
    by k false e = ap (λ b. b && has k (up_to n)) e ∙ sym e

-- ---- sorted keys rise

below_from_less : (a b : ℕ) → nat_cmp a b ≡ Less → a < b
below_from_less a b h = grind (arith, nat_tests)

above_first : (x : ℕ) (xs : List ℕ) → AllByRecursion (λ y. nat_cmp x y ≡ Less) xs → AllByRecursion (λ y. x < y) xs
above_first x [] h = tt
above_first x (y ∷ ys) h = (below_from_less x y h.0, above_first x ys h.1)

-- Keys that are sorted, each once, rise.
pub rises : (xs : List ℕ) → IsStrictlySortedBy nat_cmp xs → Rises xs
rises [] h = tt
rises (x ∷ xs) h = (above_first x xs (sorted_head nat_cmp x xs h), rises xs (sorted_tail nat_cmp x xs h))

-- The comparison of two numbers says that they are equal exactly where the test does.
pub is_eq-nat_cmp : (a b : ℕ) → is_eq (nat_cmp a b) ≡ (b == a)
is_eq-nat_cmp a b = grind (arith, nat_tests)
