-- How many leading bits two numbers have in common.
use Rattle.std.proofs.Common.{◌≡◌, ℕ, ◌+◌, ◌-◌, ◌*◌, ◌/◌, ◌^◌, ◌<◌, ◌≤◌, ◌∙◌, sym, ap, subst, arith}
use Rattle.std.specs.Int.Bits.{bit_xor, xor_add_and, xor_self}
use Rattle.std.specs.Int.Count.{count_leading_zeros}
use Rattle.std.proofs.lemmas.Nat.{and_le_l, and_le_r, div-add-mod', leading_le, leading_length, mod_below, pow_pos, pow-add, xor_lt, xor_shr}
use Rattle.std.proofs.Math.Nat.{div-eq_of_lt, zero-mul, lt_of_not-le}
use Rattle.std.proofs.Math.Pow.{pow_mono}
use Rattle.trie_model.specs.Nets.{IsCommonLen}
use Rattle.trie_model.proofs.Places.{times_cancel}

-- Numbers whose exclusive or is 0 are equal.
xor_none : (a b : ℕ) → bit_xor a b ≡ 0 → a ≡ b
xor_none a b e =
    let sum = xor_add_and a b in
    let left = and_le_l a b in
    let right = and_le_r a b in
    omega (arith, e, sum, left, right)

-- Numbers whose exclusive or is below 2 ^ k agree above k bits.
same_above : (a b k : ℕ) → bit_xor a b < 2 ^ k → a / 2 ^ k ≡ b / 2 ^ k
same_above a b k h = xor_none _ _ (sym (xor_shr a b k) ∙ div-eq_of_lt h)

-- A number without a quotient is below the divisor.
below_by : (x u : ℕ) → 0 < u → x / u ≡ 0 → x < u
below_by x u h e =
    let sum = div-add-mod' x u in
    let less = mod_below x u h in
    let none : x / u * u ≡ 0 = ap (λ q. q * u) e ∙ zero-mul u in
    omega (arith, sum, less, none)

-- The exclusive or of numbers that agree above k bits is below 2 ^ k.
small_above : (a b k : ℕ) → a / 2 ^ k ≡ b / 2 ^ k → bit_xor a b < 2 ^ k
small_above a b k e = below_by (bit_xor a b) (2 ^ k) (pow_pos k) (xor_shr a b k ∙ ap (λ x. bit_xor x (b / 2 ^ k)) e ∙ xor_self (b / 2 ^ k))

-- A number of exactly m bits isn't below a smaller power.
long_enough : (x k m : ℕ) → 2 ^ m ≤ 2 * x + 1 → x < 2 ^ k → m < k + 1
long_enough x k m low high = lt_of_not-le (λ le.
    let more : 2 ^ (1 + k) ≤ 2 ^ m = pow_mono (let l : 1 + k ≤ m = omega (arith, le) in l) in
    let twice : 2 ^ (1 + k) ≡ 2 * 2 ^ k = pow-add 2 1 k in
    let no : ⊥ = omega (arith, low, high, twice, more) in
    no)

-- Two numbers agree in as many leading bits as their exclusive or has leading zeros.
pub common_len : (w a b : ℕ) → a < 2 ^ w → b < 2 ^ w → IsCommonLen w a b (count_leading_zeros w (bit_xor a b))
common_len w a b p q =
    let x = bit_xor a b in
    let z = count_leading_zeros w x in
    let length = leading_length w x (xor_lt w a b p q) in
    let rest : w - z ≡ length.0 = let sum = length.1 in omega (arith, sum) in
    record {
      fits = leading_le w x;
      same = ap (λ n. n * 2 ^ (w - z)) (same_above a b (w - z) (subst (λ k. x < 2 ^ k) (sym rest) length.2));
      most = λ l le e.
          let high = small_above a b (w - l) (times_cancel (a / 2 ^ (w - l)) (b / 2 ^ (w - l)) (2 ^ (w - l)) (pow_pos (w - l)) e) in
          let long = long_enough x (w - l) length.0 length.3 high in
          let sum = length.1 in
          omega (arith, long, sum, le);
    }
