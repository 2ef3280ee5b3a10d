-- Booleans, tests of lists and tests of numbers.
use Rattle.std.proofs.Common.{◌≡◌, ◌+◌, ◌≤◌, ◌==◌, ◌&&◌, ◌||◌, ℕ, suc, Bool, true, false, not, cond, nat_lt, List, [], ◌∷◌, ◌++◌, Some, None, refl, ap, arith}
use Rattle.std.specs.List.{list_any}
use Rattle.std.proofs.lemmas.Bool.Decides.{nat_tests}

-- ---- booleans

-- The first part of a conjunction that holds.
pub and_left : (a b : Bool) → (a && b) ≡ true → a ≡ true
and_left true b h = refl
and_left false b h = cc

-- The second part of a conjunction that holds.
pub and_right : (a b : Bool) → (a && b) ≡ true → b ≡ true
and_right true b h = h
and_right false b h = cc

-- The first part of a disjunction that doesn't hold.
pub or_first : (a b : Bool) → (a || b) ≡ false → a ≡ false
or_first true b h = h
or_first false b h = refl

-- The second part of it.
pub or_second : (a b : Bool) → (a || b) ≡ false → b ≡ false
or_second true b h = cc
or_second false b h = h

-- A conjunction of what holds holds.
pub and_both : (a b : Bool) → a ≡ true → b ≡ true → (a && b) ≡ true
and_both true b h g = g
and_both false b h g = cc

-- Where a conjunction doesn't hold and its second part does, the first doesn't.
pub and_false : (a b : Bool) → (a && b) ≡ false → b ≡ true → a ≡ false
and_false true b h g = cc
and_false false b h g = refl

-- A conjunction is its second part where its first holds.
pub and_second : (a b : Bool) → a ≡ true → (a && b) ≡ b
and_second true b h = refl
and_second false b h = cc

-- A disjunction with what doesn't hold.
pub or_false : (b : Bool) → (b || false) ≡ b
or_false true = refl
or_false false = refl

-- A disjunction with what holds.
pub or_true : (b : Bool) → (b || true) ≡ true
or_true true = refl
or_true false = refl

-- A disjunction whose first part holds.
pub or_true_first : (a b : Bool) → a ≡ true → (a || b) ≡ true
or_true_first true b h = refl
or_true_first false b h = cc

-- A disjunction whose second part holds.
pub or_true_second : (a b : Bool) → b ≡ true → (a || b) ≡ true
or_true_second true b h = refl
or_true_second false b h = h

-- What is not so is false.
pub not_true : (a : Bool) → not a ≡ true → a ≡ false
not_true true h = cc
not_true false h = refl

-- Two answers by one test that may differ only where it fails.
pub by_test : {A : Type 0} (b : Bool) (v x y : A) → x ≡ y → cond b v x ≡ cond b v y
by_test true v x y h = refl
by_test false v x y h = h

-- The answer of a test that holds is the same in both.
pub when : {A : Type 0} (b : Bool) (v x y : A) → b ≡ true → cond b v x ≡ cond b v y
when true v x y h = refl
when false v x y h = cc

-- The answer of a test that fails.
pub unless : {A : Type 0} (b : Bool) (v x : A) → b ≡ false → cond b v x ≡ x
unless true v x h = cc
unless false v x h = refl

-- ---- options and numbers

-- What stands in one option stands in an equal one.
pub some_inside : {A : Type 0} (x y : A) → Some x ≡ Some y → x ≡ y
some_inside x y h = ap (λ o. elim o [ None ↦ x | Some z ↦ z ]) h

-- Numbers whose test holds are equal.
pub same_number : (a b : ℕ) → (a == b) ≡ true → a ≡ b
same_number a b h = grind (arith, nat_tests)

-- The test of equal numbers holds.
pub number_same : (a b : ℕ) → a ≡ b → (a == b) ≡ true
number_same a b h = grind (arith, nat_tests)

-- The next number is none up to a number.
pub not_same : (a b : ℕ) → b ≤ a → (a + 1 == b) ≡ false
not_same a b h = grind (arith, nat_tests)

-- One number is below another where the next of it is below the next of the other.
pub below_suc : (a b : ℕ) → nat_lt (suc a) (suc b) ≡ nat_lt a b
below_suc a b = grind (arith, nat_tests)

-- Nothing is below 0.
pub none_below_zero : (a b : ℕ) → b ≡ 0 → nat_lt a b ≡ false
none_below_zero a b h = grind (arith, nat_tests)

-- 0 is below any number after another.
pub zero_below : (a b c : ℕ) → a ≡ 0 → b ≡ suc c → nat_lt a b ≡ true
zero_below a b c h g = grind (arith, nat_tests)

-- ---- tests of lists

-- Some element of a joined list passes where one of the first does, or one of the second.
pub any_append : {X : Type 0} (p : X → Bool) (xs ys : List X) → list_any p (xs ++ ys) ≡ (list_any p xs || list_any p ys)
any_append p [] ys = refl
any_append p (x ∷ xs) ys = elim (p x) as (λ b. (b || list_any p (xs ++ ys)) ≡ ((b || list_any p xs) || list_any p ys)) [
  | true ↦ refl
  | false ↦ any_append p xs ys
]

-- Some element of a list with one more passes where one of the list does, or the last.
pub any_more : {X : Type 0} (p : X → Bool) (xs : List X) (x : X) → list_any p (xs ++ x ∷ []) ≡ (list_any p xs || p x)
any_more p [] x = or_false (p x)
any_more p (y ∷ xs) x = elim (p y) as (λ b. (b || list_any p (xs ++ x ∷ [])) ≡ ((b || list_any p xs) || p x)) [
  | true ↦ refl
  | false ↦ any_more p xs x
]

-- A test that passes less often passes nothing where the other passes nothing.
pub none_of_fewer : {X : Type 0} (p q : X → Bool) → ((x : X) → q x ≡ false → p x ≡ false) → (xs : List X)
    → list_any q xs ≡ false → list_any p xs ≡ false
none_of_fewer p q h [] e = refl
none_of_fewer p q h (x ∷ xs) e = rw (h x (or_first (q x) (list_any q xs) e)) (none_of_fewer p q h xs (or_second (q x) (list_any q xs) e))
