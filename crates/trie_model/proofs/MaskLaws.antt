-- The masks of a node's bits.
use Rattle.std.proofs.Common.{◌≡◌, ℕ, ◌+◌, ◌-◌, ◌*◌, ◌/◌, ◌%◌, ◌^◌, ◌<◌, ◌≤◌, ◌∙◌, sym, ap, refl, arith, Bool, true, false, cond, ◌&&◌, eqb, leb}
use Rattle.std.specs.Int.{bit_at}
use Rattle.std.proofs.lemmas.Bool.{eqb-true, eq-eqb, leb-true, le-leb}
use Rattle.std.proofs.lemmas.Nat.{pow_pos, pow-add, pow_below}
use Rattle.std.proofs.Math.Nat.{div-div-eq-div-mul, mul-div_cancel, add-mul, mul_assoc, mul_comm, mul-add-div_right, mul-div-mul_right, mul_right_comm, div-mul-le_self}
use Rattle.trie_model.specs.Nets.{Net, IsNet, covers, masked}
use Rattle.trie_model.specs.Views.{level_of, net_of_bit}
use Rattle.trie_model.proofs.Places.{and_left, and_right, both_hold, elim-false, not_true, times_cancel, masked_less}
use Rattle.trie_model.specs.Spots.{level_at, data_bit_of, five_bits, all_under, ltb, net_of_spot, inside, row_below, rows_below, children_below, bits_above, prefix_net}
use Rattle.trie_model.proofs.SpotLaws.{under, under2, if_then, by_if, lt-ltb, ltb-lt, power_split, quotient, net_back}
use Rattle.trie_model.proofs.SpotOrder.{five_level, mod_div}

-- ---- tables

abbrev one_if : Bool → ℕ
one_if b = cond b 1 0

rows_table : all_under 32 (λ h. all_under 31 (λ b. if_then (ltb 0 h) (eqb (bit_at (rows_below h) b) (one_if (inside h (b + 1)))))) ≡ true
unfolding all_under
rows_table = refl

children_table : all_under 32 (λ h. all_under 32 (λ c. if_then (ltb 0 h) (eqb (bit_at (children_below h) c) (one_if (inside h (32 + c)))))) ≡ true
unfolding all_under
children_table = refl

above_table : all_under 64 (λ h. all_under 31 (λ b. if_then (ltb 0 h) (eqb (bit_at (bits_above h) b) (one_if (inside (b + 1) h))))) ≡ true
unfolding all_under
above_table = refl

size_table : all_under 64 (λ h. if_then (ltb 0 h) (ltb (bits_above h) 2147483648 && if_then (ltb h 32) (ltb (rows_below h) 2147483648 && ltb (children_below h) 4294967296))) ≡ true
unfolding all_under
size_table = refl

level_table : all_under 31 (λ b. eqb (level_at (b + 1)) (level_of b)) ≡ true
unfolding all_under
level_table = refl

inside_table : all_under 64 (λ h. all_under 64
    (λ k. if_then (ltb 0 h && ltb 0 k && leb (level_at h) (level_at k))
    (eqb ((k - 2 ^ level_at k) / 2 ^ (level_at k - level_at h)) (k / 2 ^ (level_at k - level_at h) - 2 ^ level_at h) && leb (2 ^ level_at h)
    (k / 2 ^ (level_at k - level_at h))))) ≡ true
unfolding all_under
inside_table = refl

power_table : all_under 64 (λ h. if_then (ltb 0 h) (leb (2 ^ level_at h) h && leb (level_at h) 5)) ≡ true
unfolding all_under
power_table = refl

positive : (h : ℕ) → 1 ≤ h → ltb 0 h ≡ true
positive h p = lt-ltb 0 h p

-- The data bits below a spot are those of the spots inside it.
pub rows_are : (h b : ℕ) → 1 ≤ h → h < 32 → b < 31 → bit_at (rows_below h) b ≡ cond (inside h (b + 1)) 1 0
rows_are h b p lt m = eqb-true _ _ (by_if _ _ (under2 32 31 (λ h b. if_then (ltb 0 h) (eqb (bit_at (rows_below h) b) (one_if (inside h (b + 1))))) rows_table h b lt m) (positive h p))

-- The children below a spot are those whose spots lie inside it.
pub children_are : (h c : ℕ) → 1 ≤ h → h < 32 → c < 32 → bit_at (children_below h) c ≡ cond (inside h (32 + c)) 1 0
children_are h c p lt m = eqb-true _ _ (by_if _ _ (under2 32 32 (λ h c. if_then (ltb 0 h) (eqb (bit_at (children_below h) c) (one_if (inside h (32 + c))))) children_table h c lt m) (positive h p))

-- The data bits above a spot are those of the spots that it lies in.
pub above_are : (h b : ℕ) → 1 ≤ h → h < 64 → b < 31 → bit_at (bits_above h) b ≡ cond (inside (b + 1) h) 1 0
above_are h b p lt m = eqb-true _ _ (by_if _ _ (under2 64 31 (λ h b. if_then (ltb 0 h) (eqb (bit_at (bits_above h) b) (one_if (inside (b + 1) h)))) above_table h b lt m) (positive h p))

size_row : (h : ℕ) → 1 ≤ h → h < 64 → (ltb (bits_above h) 2147483648 && if_then (ltb h 32) (ltb (rows_below h) 2147483648 && ltb (children_below h) 4294967296)) ≡ true
size_row h p lt = by_if _ _ (under 64 (λ h. if_then (ltb 0 h) (ltb (bits_above h) 2147483648 && if_then (ltb h 32) (ltb (rows_below h) 2147483648 && ltb (children_below h) 4294967296))) size_table h lt) (positive h p)

-- The data bits above a spot fit 31 bits.
pub above_fit : (h : ℕ) → 1 ≤ h → h < 64 → bits_above h < 2147483648
above_fit h p lt = ltb-lt _ _ (and_left _ _ (size_row h p lt))

below_row : (h : ℕ) → 1 ≤ h → h < 32 → (ltb (rows_below h) 2147483648 && ltb (children_below h) 4294967296) ≡ true
below_row h p lt = by_if _ _ (and_right _ _ (size_row h p (omega arith))) (lt-ltb h 32 lt)

-- The data bits below a spot fit 31 bits.
pub rows_fit : (h : ℕ) → 1 ≤ h → h < 32 → rows_below h < 2147483648
rows_fit h p lt = ltb-lt _ _ (and_left _ _ (below_row h p lt))

-- The children below a spot fit 32 bits.
pub children_fit : (h : ℕ) → 1 ≤ h → h < 32 → children_below h < 4294967296
children_fit h p lt = ltb-lt _ _ (and_right _ _ (below_row h p lt))

-- A data bit has the level of its spot.
pub level_same : (b : ℕ) → b < 31 → level_at (b + 1) ≡ level_of b
level_same b h = eqb-true _ _ (under 31 _ level_table b h)

-- The prefix of a data bit is that of its spot.
pub spot_net : (w d p b : ℕ) → b < 31 → net_of_spot w d p (b + 1) ≡ net_of_bit w d p b
spot_net w d p b h =
    let f : ℕ → Net = λ k. record { bits = masked w p d + (b + 1 - 2 ^ k) * 2 ^ (w - (d + k)); len = d + k } in
    ap f (level_same b h)

-- ---- a spot covers what lies inside

eqb_same : (x y a b : ℕ) → (x ≡ y → a ≡ b) → (a ≡ b → x ≡ y) → (t : Bool) → eqb a b ≡ t → eqb x y ≡ t
eqb_same x y a b f g true e = eq-eqb x y (g (eqb-true a b e))
eqb_same x y a b f g false e = not_true _ (λ t. elim-false (sym e ∙ eq-eqb a b (f (eqb-true x y t))))

cancel_base : (m x y u : ℕ) → 0 < u → m + x * u ≡ m + y * u → x ≡ y
cancel_base m x y u pos e = times_cancel x y u pos (let q : x * u ≡ y * u = omega arith in q)

-- The number of the spot k at the level of h.
at_level : (w d l k p j : ℕ) → l ≤ k → d + k ≤ w → masked w (masked w p d + j * 2 ^ (w - (d + k))) (d + l) ≡ masked w p d + j / 2 ^ (k - l) * 2 ^ (w - (d + l))
at_level w d l k p j le fits =
    let u : ℕ = 2 ^ (w - (d + k)) in
    let v : ℕ = 2 ^ (k - l) in
    let r : ℕ = p / 2 ^ (w - d) in
    let lower : 2 ^ (w - (d + l)) ≡ u * v = ap (λ x. 2 ^ x) (let e : w - (d + l) ≡ (w - (d + k)) + (k - l) = omega arith in e) ∙ pow-add 2 (w - (d + k)) (k - l) in
    let whole : 2 ^ (w - d) ≡ u * v * 2 ^ l = power_split w d l (omega arith) ∙ ap (λ x. x * 2 ^ l) lower in
    let base : r * 2 ^ (w - d) ≡ r * 2 ^ l * (u * v) = ap (λ x. r * x) (whole ∙ mul_comm (u * v) (2 ^ l)) ∙ sym (mul_assoc r (2 ^ l) (u * v)) in
    let q : (r * 2 ^ (w - d) + j * u) / (u * v) ≡ r * 2 ^ l + j / v =
    ap (λ x. (x + j * u) / (u * v)) base
    ∙ sym (div-div-eq-div-mul (r * 2 ^ l * (u * v) + j * u) u v)
    ∙ ap (λ x. x / v) (quotient (r * 2 ^ l) v u j (pow_pos (w - (d + k))))
    ∙ mul-add-div_right (pow_pos (k - l)) (r * 2 ^ l) j in
    ap (λ x. (r * 2 ^ (w - d) + j * u) / x * x) lower
    ∙ ap (λ x. x * (u * v)) q
    ∙ add-mul (r * 2 ^ l) (j / v) (u * v)
    ∙ ap (λ x. x + j / v * (u * v)) (sym base)
    ∙ ap (λ x. r * 2 ^ (w - d) + j / v * x) (sym lower)

inside_row : (h k : ℕ) → 1 ≤ h → h < 64 → 1 ≤ k → k < 64 → level_at h ≤ level_at k
    → (eqb ((k - 2 ^ level_at k) / 2 ^ (level_at k - level_at h)) (k / 2 ^ (level_at k - level_at h) - 2 ^ level_at h) && leb (2 ^ level_at h)
    (k / 2 ^ (level_at k - level_at h))) ≡ true
inside_row h k ph h64 pk k64 le = by_if _ _ (under2 64 64
    (λ h k. if_then (ltb 0 h && ltb 0 k && leb (level_at h) (level_at k))
    (eqb ((k - 2 ^ level_at k) / 2 ^ (level_at k - level_at h)) (k / 2 ^ (level_at k - level_at h) - 2 ^ level_at h) && leb (2 ^ level_at h)
    (k / 2 ^ (level_at k - level_at h)))) inside_table h k h64 k64) (both_hold _ _ (both_hold _ _ (positive h ph) (positive k pk)) (le-leb _ _ le))

-- A spot is at least the first spot of its level.
pub power_le : (h : ℕ) → 1 ≤ h → h < 64 → 2 ^ level_at h ≤ h
power_le h p lt = leb-true _ _ (and_left _ _ (by_if _ _ (under 64 (λ h. if_then (ltb 0 h) (leb (2 ^ level_at h) h && leb (level_at h) 5)) power_table h lt) (positive h p)))

same_spot : (x y z a b : ℕ) → x ≡ a - y → y ≤ a → y ≤ b → (x ≡ b - y → a ≡ b) × (a ≡ b → x ≡ b - y)
same_spot x y z a b e p q = ((λ h. omega arith), (λ h. omega arith))

by_level : (w d p h k : ℕ) → 1 ≤ h → h < 64 → 1 ≤ k → k < 64 → d + level_at k ≤ w → (t : Bool) → leb (level_at h) (level_at k) ≡ t → covers w (net_of_spot w d p h) (net_of_spot w d p k) ≡ (t && eqb (k / 2 ^ (level_at k - level_at h)) h)
by_level w d p h k ph h64 pk k64 fits true e =
    let l : ℕ = level_at h in
    let m : ℕ = level_at k in
    let u : ℕ = 2 ^ (w - (d + l)) in
    let le = leb-true _ _ e in
    let row = inside_row h k ph h64 pk k64 le in
    let at = at_level w d l m p (k - 2 ^ m) le fits in
    let len : leb (d + l) (d + m) ≡ true = le-leb _ _ (let x : d + l ≤ d + m = omega arith in x) in
    let both = same_spot ((k - 2 ^ m) / 2 ^ (m - l)) (2 ^ l) 0 (k / 2 ^ (m - l)) h (eqb-true _ _ (and_left _ _ row)) (leb-true _ _ (and_right _ _ row)) (power_le h ph h64) in
    ap (λ b. b && eqb (masked w (net_of_spot w d p k).bits (d + l)) (net_of_spot w d p h).bits) len
    ∙ eqb_same _ _ (k / 2 ^ (m - l)) h
    (λ q. both.0 (cancel_base (masked w p d) ((k - 2 ^ m) / 2 ^ (m - l)) (h - 2 ^ l) u (pow_pos (w - (d + l))) (sym at ∙ q)))
    (λ q. at ∙ ap (λ x. masked w p d + x * u) (both.1 q))
    (eqb (k / 2 ^ (m - l)) h) refl
by_level w d p h k ph h64 pk k64 fits false e =
    ap (λ b. b && eqb (masked w (net_of_spot w d p k).bits (d + level_at h)) (net_of_spot w d p h).bits)
    (not_true (leb (d + level_at h) (d + level_at k)) (λ t. elim-false (sym e ∙ le-leb _ _ (let le = leb-true _ _ t in let x : level_at h ≤ level_at k = omega arith in x))))

-- A spot lies inside another exactly where its prefix is contained in the other's.
pub inside_covers : (w d p h k : ℕ) → 1 ≤ h → h < 64 → 1 ≤ k → k < 64 → d + level_at k ≤ w → covers w (net_of_spot w d p h) (net_of_spot w d p k) ≡ inside h k
inside_covers w d p h k ph h64 pk k64 fits = by_level w d p h k ph h64 pk k64 fits (leb (level_at h) (level_at k)) refl

-- ---- what the code computes

abbrev row_code : ℕ → ℕ → ℕ
row_code h r = (1 * 2 ^ (1 * 2 ^ r % 4294967296) % 18446744073709551616 - 1) * 2 ^ (h * 2 ^ r % 4294967296 - 1) % 18446744073709551616

row_table : all_under 32 (λ h. all_under 5 (λ r. if_then (ltb 0 h && ltb (h * 2 ^ r % 4294967296) 32) (ltb (row_code h r) 4294967296 && eqb (row_code h r) (row_below h r)))) ≡ true
unfolding all_under
row_table = refl

row_row : (h r : ℕ) → 1 ≤ h → h < 32 → r < 5 → h * 2 ^ r % 4294967296 < 32 → (ltb (row_code h r) 4294967296 && eqb (row_code h r) (row_below h r)) ≡ true
row_row h r p lt m small = by_if _ _ (under2 32 5
    (λ h r. if_then (ltb 0 h && ltb (h * 2 ^ r % 4294967296) 32) (ltb (row_code h r) 4294967296 && eqb (row_code h r) (row_below h r))) row_table h r
    lt m) (both_hold _ _ (positive h p) (lt-ltb _ _ small))

-- The word of a row below a spot fits 32 bits.
pub row_fits : (h r : ℕ) → 1 ≤ h → h < 32 → r < 5 → h * 2 ^ r % 4294967296 < 32 → row_code h r < 4294967296
row_fits h r p lt m small = ltb-lt _ _ (and_left _ _ (row_row h r p lt m small))

-- The word of a row below a spot has the data bits of the row.
pub row_is : (h r : ℕ) → 1 ≤ h → h < 32 → r < 5 → h * 2 ^ r % 4294967296 < 32 → row_code h r ≡ row_below h r
row_is h r p lt m small = eqb-true _ _ (and_right _ _ (row_row h r p lt m small))

abbrev child_code : ℕ → ℕ → ℕ
child_code h l = (1 * 2 ^ (1 * 2 ^ (5 - l) % 4294967296) % 18446744073709551616 - 1) * 2 ^ (h * 2 ^ (5 - l) % 4294967296 - 32) % 18446744073709551616

child_code_table : all_under 32 (λ h. if_then (ltb 0 h) (ltb (child_code h (level_at h)) 4294967296 && eqb (child_code h (level_at h)) (children_below h))) ≡ true
unfolding all_under
child_code_table = refl

child_row : (h : ℕ) → 1 ≤ h → h < 32 → (ltb (child_code h (level_at h)) 4294967296 && eqb (child_code h (level_at h)) (children_below h)) ≡ true
child_row h p lt = by_if _ _ (under 32 (λ h. if_then (ltb 0 h) (ltb (child_code h (level_at h)) 4294967296 && eqb (child_code h (level_at h)) (children_below h))) child_code_table h lt) (positive h p)

-- The word of the children below a spot fits 32 bits.
pub child_fits : (h l : ℕ) → 1 ≤ h → h < 32 → l ≡ level_at h → child_code h l < 4294967296
child_fits h l p lt e = rw e (ltb-lt _ _ (and_left _ _ (child_row h p lt)))

-- The word of the children below a spot has these children.
pub child_is : (h l : ℕ) → 1 ≤ h → h < 32 → l ≡ level_at h → child_code h l ≡ children_below h
child_is h l p lt e = rw e (eqb-true _ _ (and_right _ _ (child_row h p lt)))

-- ---- the five bits by a shift to the left

-- Two shifts of a word give the five bits after a depth.
pub five_shift : (w d n : ℕ) → 5 ≤ w → d ≤ w → n * 2 ^ d % 2 ^ w / 2 ^ (w - 5) ≡ five_bits w d n
five_shift w d n h le =
    let top : 2 ^ w ≡ 32 * 2 ^ (w - 5) = ap (λ x. 2 ^ x) (let e : w ≡ 5 + (w - 5) = omega arith in e) ∙ pow-add 2 5 (w - 5) in
    let whole : 2 ^ w ≡ 2 ^ (w - d) * 2 ^ d = ap (λ x. 2 ^ x) (let e : w ≡ (w - d) + d = omega arith in e) ∙ pow-add 2 (w - d) d in
    let q : n * 2 ^ d / 2 ^ (w - 5) ≡ n * 32 / 2 ^ (w - d) =
    sym (mul-div-mul_right (n * 2 ^ d) (2 ^ (w - 5)) (let t : 0 < 32 = omega arith in t))
    ∙ ap (λ x. n * 2 ^ d * 32 / x) (mul_comm (2 ^ (w - 5)) 32 ∙ sym top ∙ whole)
    ∙ ap (λ x. x / (2 ^ (w - d) * 2 ^ d)) (mul_right_comm n (2 ^ d) 32)
    ∙ mul-div-mul_right (n * 32) (2 ^ (w - d)) (pow_pos d) in
    ap (λ x. n * 2 ^ d % x / 2 ^ (w - 5)) top
    ∙ mod_div (n * 2 ^ d) 32 (2 ^ (w - 5)) (let t : 0 < 32 = omega arith in t) (pow_pos (w - 5))
    ∙ ap (λ x. x % 32) q

-- ---- a data bit of the five bits

-- A power of 2 below the fifth fits five bits.
pub power_small : (l : ℕ) → l < 5 → 2 ^ l < 32
power_small l h = pow_below l 5 h

-- The code's form.
pub bit_is : (w d len n f : ℕ) → d ≤ len → len ≤ d + 4 → len ≤ w → f ≡ five_bits w d n → 1 * 2 ^ (len - d) % 4294967296 - 1 + f / 2 ^ (5 - (len - d)) ≡ data_bit_of w d n len
bit_is w d len n f low high end e =
    let l : ℕ = len - d in
    let small = power_small l (omega arith) in
    ap (λ x. x - 1 + f / 2 ^ (5 - l)) (let m : 1 * 2 ^ l % 4294967296 ≡ 2 ^ l = omega arith in m)
    ∙ ap (λ x. 2 ^ l - 1 + x / 2 ^ (5 - l)) e
    ∙ ap (λ x. 2 ^ l - 1 + x) (five_level w d l n (omega arith) (omega arith))

-- The first bits of a number are a prefix without host bits.
pub masked_net : (w len n : ℕ) → len ≤ w → n < 2 ^ w → IsNet w (prefix_net w n len)
masked_net w len n le lt = record {
  len_fits = le;
  bits_fit = let h = div-mul-le_self n (2 ^ (w - len)) in omega arith;
  no_rest = masked_less w len len n le (omega arith);
}

-- The network of a key's data bit.
pub data_bit_net : (w d len n : ℕ) → d ≤ len → len ≤ d + 4 → len ≤ w → n < 2 ^ w → net_of_bit w d n (data_bit_of w d n len) ≡ prefix_net w n len
data_bit_net w d len n low high end fits =
    let l : ℕ = len - d in
    let u : ℕ = 2 ^ (w - (d + l)) in
    let len_is : d + l ≡ len = omega arith in
    let same : masked w n len / u ≡ n / u = ap (λ k. n / 2 ^ (w - k) * 2 ^ (w - k) / u) (sym len_is) ∙ mul-div_cancel (n / u) (pow_pos (w - (d + l))) in
    ap (λ x. net_of_bit w d n (2 ^ l - 1 + x % 2 ^ l)) (sym same)
    ∙ net_back w d n (prefix_net w n len) (masked_net w len n end fits) low (omega arith) (masked_less w len d n end low)

code_table : all_under 6 (λ r. ltb (1 * 2 ^ r % 4294967296) 64 && leb 1 (1 * 2 ^ (1 * 2 ^ r % 4294967296) % 18446744073709551616)) ≡ true
unfolding all_under
code_table = refl

-- A one shifted by up to five places is below 64.
pub shift_small : (r : ℕ) → r < 6 → 1 * 2 ^ r % 4294967296 < 64
shift_small r h = ltb-lt _ _ (and_left _ _ (under 6 (λ r. ltb (1 * 2 ^ r % 4294967296) 64 && leb 1 (1 * 2 ^ (1 * 2 ^ r % 4294967296) % 18446744073709551616)) code_table r h))

-- A one shifted by a power of 2 up to 32 is at least 1.
pub ones_pos : (r : ℕ) → r < 6 → 1 ≤ 1 * 2 ^ (1 * 2 ^ r % 4294967296) % 18446744073709551616
ones_pos r h = leb-true _ _ (and_right _ _ (under 6 (λ r. ltb (1 * 2 ^ r % 4294967296) 64 && leb 1 (1 * 2 ^ (1 * 2 ^ r % 4294967296) % 18446744073709551616)) code_table r h))

bit_code_table : all_under 5 (λ l. all_under 32 (λ f. ltb (1 * 2 ^ l % 4294967296 - 1 + f / 2 ^ (5 - l)) 31)) ≡ true
unfolding all_under
bit_code_table = refl

-- The code of a data bit is below 31.
pub bit_code_small : (l f : ℕ) → l < 5 → f < 32 → 1 * 2 ^ l % 4294967296 - 1 + f / 2 ^ (5 - l) < 31
bit_code_small l f h k = ltb-lt _ _ (under2 5 32 (λ l f. ltb (1 * 2 ^ l % 4294967296 - 1 + f / 2 ^ (5 - l)) 31) bit_code_table l f h k)
