-- Bits of masks, and depths.
use Rattle.std.proofs.Common.{◌≡◌, ◌≢◌, ℕ, ◌+◌, ◌-◌, ◌*◌, ◌/◌, ◌^◌, ◌<◌, ◌≤◌, ◌∙◌, sym, ap, refl, arith, Bool, true, false, leb, min, max, bit_and}
use Rattle.std.specs.Prelude.{◌⊎◌}
use Rattle.std.proofs.Common.{inl, inr, lt_of_not-le}
use Rattle.std.specs.Int.{bit_at, bit_not, w32}
use Rattle.std.specs.Int.RustNames.{bit_or}
use Rattle.std.proofs.lemmas.Nat.Bits.{bit_at_and, bit_at_or, bit_at_not, bit_at-lt}
use Rattle.std.proofs.lemmas.Bool.{leb-true, le-leb}
use Rattle.trie_model.specs.Views.{depth_at}
use Rattle.trie_model.proofs.Places.{elim-false}

-- A number is not both 1 and 0.
pub one-zero : (n : ℕ) → n ≡ 1 → n ≡ 0 → ⊥
one-zero n h k = omega arith

fives : (x y : ℕ) → x * 5 ≤ y * 5 → (x * 5 ≡ y * 5 → ⊥) → x * 5 + 5 ≤ y * 5
fives x y h ne = let apart : x * 5 ≢ y * 5 = ne in omega (arith, apart)

-- A depth that is no less and not the same is at least a level more.
pub depth_step : (a b : ℕ) → depth_at a ≤ depth_at b → (depth_at a ≡ depth_at b → ⊥) → depth_at a + 5 ≤ depth_at b
depth_step a b = fives (a / 5) (b / 5)

and_one_l : (x y : ℕ) → min x y ≡ 1 → x < 2 → x ≡ 1
and_one_l x y h lt = omega arith

-- A bit of a conjunction is one of the first number.
pub and_bit_l : (a b i : ℕ) → bit_at (bit_and a b) i ≡ 1 → bit_at a i ≡ 1
and_bit_l a b i h = and_one_l _ _ (sym (bit_at_and a b i) ∙ h) (bit_at-lt a i)

and_one_r : (x y : ℕ) → min x y ≡ 1 → y < 2 → y ≡ 1
and_one_r x y h lt = omega arith

-- A bit of a conjunction is one of the second number.
pub and_bit_r : (a b i : ℕ) → bit_at (bit_and a b) i ≡ 1 → bit_at b i ≡ 1
and_bit_r a b i h = and_one_r _ _ (sym (bit_at_and a b i) ∙ h) (bit_at-lt b i)

both_ones : (x y : ℕ) → x ≡ 1 → y ≡ 1 → min x y ≡ 1
both_ones x y p q = omega arith

-- A bit of both numbers is one of their conjunction.
pub and_bits : (a b i : ℕ) → bit_at a i ≡ 1 → bit_at b i ≡ 1 → bit_at (bit_and a b) i ≡ 1
and_bits a b i p q = bit_at_and a b i ∙ both_ones _ _ p q

minus_bits : (x y z : ℕ) → min x y ≡ 1 → y ≡ 1 - z → z < 2 → z ≡ 0
minus_bits x y z e f h = omega arith

-- The second number of a difference of masks has the bit 0.
pub and_not_r : (a b i : ℕ) → b < 2 ^ 32 → i < 32 → bit_at (bit_and a (bit_not w32 b)) i ≡ 1 → bit_at b i ≡ 0
and_not_r a b i fits lt h = minus_bits _ _ _ (sym (bit_at_and a (bit_not w32 b) i) ∙ h) (bit_at_not w32 b i fits lt) (bit_at-lt b i)

minus_set : (x y z : ℕ) → x ≡ 1 → y ≡ 1 - z → z ≡ 0 → min x y ≡ 1
minus_set x y z e f h = omega arith

-- A bit of the first number that the second lacks is one of their difference.
pub and_not_set : (a b i : ℕ) → b < 2 ^ 32 → i < 32 → bit_at a i ≡ 1 → bit_at b i ≡ 0 → bit_at (bit_and a (bit_not w32 b)) i ≡ 1
and_not_set a b i fits lt h k = bit_at_and a (bit_not w32 b) i ∙ minus_set _ _ _ h (bit_at_not w32 b i fits lt) k

or_cases : (x y : ℕ) → max x y ≡ 1 → x < 2 → y < 2 → (x ≡ 1) ⊎ (y ≡ 1)
or_cases x y h p q = grind arith

-- A bit of a disjunction is one of either number.
pub or_bit : (a b i : ℕ) → bit_at (bit_or a b) i ≡ 1 → (bit_at a i ≡ 1) ⊎ (bit_at b i ≡ 1)
or_bit a b i h = or_cases _ _ (sym (bit_at_or a b i) ∙ h) (bit_at-lt a i) (bit_at-lt b i)

or_l : (x y : ℕ) → x ≡ 1 → y < 2 → max x y ≡ 1
or_l x y h lt = omega arith

-- A bit of the first number is one of the disjunction.
pub or_bit_l : (a b i : ℕ) → bit_at a i ≡ 1 → bit_at (bit_or a b) i ≡ 1
or_bit_l a b i h = bit_at_or a b i ∙ or_l _ _ h (bit_at-lt b i)

or_r : (x y : ℕ) → y ≡ 1 → x < 2 → max x y ≡ 1
or_r x y h lt = omega arith

-- A bit of the second number is one of the disjunction.
pub or_bit_r : (a b i : ℕ) → bit_at b i ≡ 1 → bit_at (bit_or a b) i ≡ 1
or_bit_r a b i h = bit_at_or a b i ∙ or_r _ _ h (bit_at-lt a i)

-- Disjunctions of numbers with the same bit have the same bit.
pub or_same : (a b c d i : ℕ) → bit_at a i ≡ bit_at c i → bit_at b i ≡ bit_at d i → bit_at (bit_or a b) i ≡ bit_at (bit_or c d) i
or_same a b c d i p q = bit_at_or a b i ∙ ap (λ x. max x (bit_at b i)) p ∙ ap (max (bit_at c i)) q ∙ sym (bit_at_or c d i)

or_none : (x y : ℕ) → x ≡ 0 → y ≡ 0 → max x y ≡ 0
or_none x y p q = omega arith

-- A bit that both numbers lack is none of their disjunction.
pub or_zero : (a b i : ℕ) → bit_at a i ≡ 0 → bit_at b i ≡ 0 → bit_at (bit_or a b) i ≡ 0
or_zero a b i p q = bit_at_or a b i ∙ or_none _ _ p q

-- What follows from either side follows from the sum.
pub either : {A B C : Type 0} → (A → C) → (B → C) → A ⊎ B → C
either f g (inl a) = f a
either f g (inr b) = g b

-- A bit is set or clear.
pub bit_cases : (n i : ℕ) → (bit_at n i ≡ 1) ⊎ (bit_at n i ≡ 0)
bit_cases n i = let lt = bit_at-lt n i in grind arith

-- A truth value is true or false.
pub bool_cases : (b : Bool) → (b ≡ true) ⊎ (b ≡ false)
bool_cases true = inl refl
bool_cases false = inr refl

-- A number is below another or at least it.
pub lt_cases : (a b : ℕ) → (a < b) ⊎ (b ≤ a)
lt_cases a b = at (leb b a) refl
  where
    at : (t : Bool) → leb b a ≡ t → (a < b) ⊎ (b ≤ a)
    at true e = inr (leb-true b a e)
    at false e = inl (lt_of_not-le (λ le. elim-false (sym e ∙ le-leb b a le)))
