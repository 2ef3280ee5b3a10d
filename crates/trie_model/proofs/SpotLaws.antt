-- Laws of the spots of a node.
use Rattle.std.proofs.Common.{◌≡◌, ◌≢◌, ℕ, ◌+◌, ◌-◌, ◌*◌, ◌/◌, ◌%◌, ◌^◌, ◌<◌, ◌≤◌, ◌∙◌, sym, ap, suc, zero, refl, arith, Bool, true, false, cond, ◌&&◌, eqb}
use Rattle.std.proofs.lemmas.Bool.{eqb-true, eq-eqb, leb-true, le-leb}
use Rattle.std.proofs.lemmas.Nat.{mod-mul-add, pow_pos, pow-add, div-add-mod', mod_below, pow_below}
use Rattle.std.proofs.Math.Nat.{div-div-eq-div-mul, mul-div_cancel, add-mul, mul_assoc, mul_comm}
use Rattle.trie_model.specs.Nets.{Net, IsNet, masked}
use Rattle.trie_model.specs.Views.{level_of, net_of_bit}
use Rattle.trie_model.proofs.Places.{and_left, and_right, elim-false}
use Rattle.trie_model.specs.Spots.{level_at, key_bits_at, bits_toward, data_bit_of, all_under, ltb}

-- ---- tables

-- What is less passes the test.
pub lt-ltb : (a b : ℕ) → a < b → ltb a b ≡ true
lt-ltb a b h = le-leb (a + 1) b (omega arith)

-- What passes the test is less.
pub ltb-lt : (a b : ℕ) → ltb a b ≡ true → a < b
ltb-lt a b h = let le = leb-true (a + 1) b h in omega arith

here_or_below : (n i : ℕ) (f : ℕ → Bool) (b : Bool) → eqb i n ≡ b → f n ≡ true → (i < n → f i ≡ true) → i < suc n → f i ≡ true
here_or_below n i f true e here below lt = ap f (eqb-true i n e) ∙ here
here_or_below n i f false e here below lt =
    let apart : i ≢ n = λ q. elim-false (sym e ∙ eq-eqb i n q) in
    below (omega arith)

-- A test of all numbers below another holds of each.
pub under : (n : ℕ) (f : ℕ → Bool) → all_under n f ≡ true → (i : ℕ) → i < n → f i ≡ true
unfolding all_under
under zero f h i lt = absurd (let no : ⊥ = omega arith in no)
under (suc n) f h i lt = here_or_below n i f (eqb i n) refl (and_left (f n) (all_under n f) h) (under n f (and_right (f n) (all_under n f) h) i) lt

-- A test of all pairs of numbers below two others holds of each.
pub under2 : (m n : ℕ) (f : ℕ → ℕ → Bool) → all_under m (λ i. all_under n (f i)) ≡ true → (i j : ℕ) → i < m → j < n → f i j ≡ true
under2 m n f h i j p q = under n (f i) (under m (λ i. all_under n (f i)) h i p) j q

-- A implies b.
abbrev pub if_then : Bool → Bool → Bool
if_then a b = cond a b true

-- Where a test implies another and holds, the other holds.
pub by_if : (a b : Bool) → if_then a b ≡ true → a ≡ true → b ≡ true
by_if true b h e = h
by_if false b h e = absurd (elim-false e)

-- ---- levels

level_table : all_under 5 (λ l. all_under 32 (λ i. if_then (ltb i (2 ^ l)) (eqb (level_of (2 ^ l - 1 + i)) l))) ≡ true
unfolding all_under
level_table = refl

-- The level of a data bit.
small_power : (l i : ℕ) → l < 5 → i < 2 ^ l → i < 32
small_power l i h k = let p = pow_below l 5 h in omega arith

-- The data bits of a level have that level.
pub level_back : (l i : ℕ) → l < 5 → i < 2 ^ l → level_of (2 ^ l - 1 + i) ≡ l
level_back l i h k =
    eqb-true _ _ (by_if _ _ (under2 5 32 (λ l i. if_then (ltb i (2 ^ l)) (eqb (level_of (2 ^ l - 1 + i)) l)) level_table l i h (small_power l i h k)) (lt-ltb i (2 ^ l) k))

spot_table : all_under 5 (λ l. all_under 32 (λ i. if_then (ltb i (2 ^ l)) (eqb (level_at (2 ^ l + i)) l && eqb (key_bits_at (2 ^ l + i)) (i * 2 ^ (5 - l))))) ≡ true
unfolding all_under
spot_table = refl

spot_row : (l i : ℕ) → l < 5 → i < 2 ^ l → (eqb (level_at (2 ^ l + i)) l && eqb (key_bits_at (2 ^ l + i)) (i * 2 ^ (5 - l))) ≡ true
spot_row l i h k = by_if _ _ (under2 5 32 (λ l i. if_then (ltb i (2 ^ l)) (eqb (level_at (2 ^ l + i)) l && eqb (key_bits_at (2 ^ l + i)) (i * 2 ^ (5 - l)))) spot_table l i h (small_power l i h k)) (lt-ltb i (2 ^ l) k)

-- The spots of a level have that level.
pub level_spot : (l i : ℕ) → l < 5 → i < 2 ^ l → level_at (2 ^ l + i) ≡ l
level_spot l i h k = eqb-true _ _ (and_left _ _ (spot_row l i h k))

-- The key bits of a spot are its place in its level, moved to five bits.
pub value_spot : (l i : ℕ) → l < 5 → i < 2 ^ l → key_bits_at (2 ^ l + i) ≡ i * 2 ^ (5 - l)
value_spot l i h k = eqb-true _ _ (and_right _ _ (spot_row l i h k))

-- A data bit has a level and a number in it.
data_table : all_under 31 (λ b. ltb (b + 1 - 2 ^ level_of b) (2 ^ level_of b) && ltb (2 ^ level_of b - 1) (b + 1)) ≡ true
unfolding all_under
data_table = refl

-- The place of a data bit in its level is below the level's size.
pub data_low : (b : ℕ) → b < 31 → b + 1 - 2 ^ level_of b < 2 ^ level_of b
data_low b h = ltb-lt _ _ (and_left _ _ (under 31 _ data_table b h))

-- A data bit is at least the first of its level.
pub data_high : (b : ℕ) → b < 31 → 2 ^ level_of b - 1 ≤ b
data_high b h = let lt = ltb-lt (2 ^ level_of b - 1) (b + 1) (and_right _ _ (under 31 _ data_table b h)) in omega arith

-- ---- keys

-- The powers of a node's levels.
pub power_split : (w d l : ℕ) → d + l ≤ w → 2 ^ (w - d) ≡ 2 ^ (w - (d + l)) * 2 ^ l
power_split w d l h = ap (λ x. 2 ^ x) (let k : w - d ≡ (w - (d + l)) + l = omega arith in k) ∙ pow-add 2 (w - (d + l)) l

-- A quotient and a rest, times a factor.
pub more_by : (q r m u v : ℕ) → q ≡ r * v + m → q * u ≡ r * (u * v) + m * u
more_by q r m u v e = ap (λ x. x * u) e ∙ add-mul (r * v) m u ∙ ap (λ x. x + m * u) (mul_assoc r v u ∙ ap (λ x. r * x) (mul_comm v u))

-- l bits more.
pub masked_level : (w d l n : ℕ) → d + l ≤ w → masked w n (d + l) ≡ masked w n d + bits_toward w d l n * 2 ^ (w - (d + l))
masked_level w d l n h =
    let u : ℕ = 2 ^ (w - (d + l)) in
    let v : ℕ = 2 ^ l in
    more_by (n / u) (n / (u * v)) (n / u % v) u v (sym (div-add-mod' (n / u) v) ∙ ap (λ x. x * v + n / u % v) (div-div-eq-div-mul n u v))
    ∙ ap (λ x. n / x * x + n / u % v * u) (sym (power_split w d l h))

-- The network of its data bit.
pub net_back : (w d p : ℕ) (n : Net) → IsNet w n → d ≤ n.len → n.len < d + 5 → masked w n.bits d ≡ masked w p d → net_of_bit w d p (data_bit_of w d n.bits n.len) ≡ n
net_back w d p n ok low high way =
    let l : ℕ = n.len - d in
    let i : ℕ = bits_toward w d l n.bits in
    let lt : l < 5 = omega arith in
    let small : i < 2 ^ l = mod_below (n.bits / 2 ^ (w - (d + l))) (2 ^ l) (pow_pos l) in
    let level = level_back l i lt small in
    let pos = pow_pos l in
    let len : d + l ≡ n.len = omega arith in
    let fits : d + l ≤ w = let f = ok.len_fits in omega arith in
    let low_i : 2 ^ l - 1 + i + 1 - 2 ^ l ≡ i = omega arith in
    let f : ℕ → ℕ → Net = λ k j. record { bits = masked w p d + j * 2 ^ (w - (d + k)); len = d + k } in
    let g : ℕ → ℕ → Net = λ x k. record { bits = x; len = k } in
    ap (λ k. f k (2 ^ l - 1 + i + 1 - 2 ^ k)) level
    ∙ ap (f l) low_i
    ∙ ap (λ x. g (x + i * 2 ^ (w - (d + l))) (d + l)) (sym way)
    ∙ ap (λ x. g x (d + l)) (sym (masked_level w d l n.bits fits))
    ∙ ap (λ k. g (masked w n.bits k) k) len
    ∙ ap (λ x. g x n.len) ok.no_rest

-- The quotient of a sum of multiples.
pub quotient : (r v u i : ℕ) → 0 < u → (r * (u * v) + i * u) / u ≡ r * v + i
quotient r v u i h = ap (λ x. x / u) (sym (more_by (r * v + i) r i u v refl)) ∙ mul-div_cancel (r * v + i) h

-- The data bit of its network.
pub bit_back : (w d p bit : ℕ) → bit < 31 → d + level_of bit ≤ w → data_bit_of w d (net_of_bit w d p bit).bits (net_of_bit w d p bit).len ≡ bit
bit_back w d p bit lt fits =
    let l : ℕ = level_of bit in
    let i : ℕ = bit + 1 - 2 ^ l in
    let u : ℕ = 2 ^ (w - (d + l)) in
    let r : ℕ = p / 2 ^ (w - d) in
    let level : d + l - d ≡ l = omega arith in
    let split = power_split w d l fits in
    let high = data_high bit lt in
    let pos = pow_pos l in
    let q : (r * 2 ^ (w - d) + i * u) / u ≡ r * 2 ^ l + i = ap (λ x. (r * x + i * u) / u) split ∙ quotient r (2 ^ l) u i (pow_pos (w - (d + l))) in
    ap (λ k. 2 ^ k - 1 + (masked w p d + i * u) / 2 ^ (w - (d + k)) % 2 ^ k) level
    ∙ ap (λ x. 2 ^ l - 1 + x % 2 ^ l) q
    ∙ ap (λ x. 2 ^ l - 1 + x) (mod-mul-add r (2 ^ l) i (data_low bit lt))
    ∙ (let e : 2 ^ l - 1 + (bit + 1 - 2 ^ l) ≡ bit = omega arith in e)
