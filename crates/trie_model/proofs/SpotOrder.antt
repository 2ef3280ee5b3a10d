-- The order in which a walk meets the spots of a node.
use Rattle.std.proofs.Common.{◌≡◌, ◌≢◌, ℕ, ◌+◌, ◌-◌, ◌*◌, ◌/◌, ◌%◌, ◌^◌, ◌<◌, ◌≤◌, ◌∙◌, sym, ap, refl, arith, Bool, true, false, cond, ◌&&◌, eqb, leb}
use Rattle.std.proofs.lemmas.Bool.{eqb-true, leb-true, le-leb}
use Rattle.std.proofs.lemmas.Nat.{mod-mul-add, div_below, pow_pos, pow-add, div-add-mod', mod_below, pow_below}
use Rattle.std.proofs.Math.Nat.{div-div-eq-div-mul, add-mul, mul_assoc, mul_comm, div-mul-le_self, lt-div-mul-add, mul-le-mul_right, mul-div-mul_right, mul-mul-mul_comm, mul-add-div_right, mul-pos}
use Rattle.std.proofs.Common.{lt_of_not-le}
use Rattle.trie_model.specs.Nets.{Net, IsNet, masked}
use Rattle.trie_model.proofs.Places.{and_left, and_right, elim-false}
use Rattle.trie_model.specs.Spots.{level_at, key_bits_at, rank_at, bits_toward, spot_of, five_bits, all_under, ltb, order_key, next_spot}
use Rattle.trie_model.proofs.SpotLaws.{lt-ltb, ltb-lt, under, if_then, level_spot, value_spot, power_split, masked_level}

-- ---- the order of the walk

child_table : all_under 32 (λ i. eqb (level_at (32 + i)) 5 && eqb (key_bits_at (32 + i)) i) ≡ true
unfolding all_under
child_table = refl

-- The spot of a child has level 5.
pub level_child : (i : ℕ) → i < 32 → level_at (32 + i) ≡ 5
level_child i h = eqb-true _ _ (and_left _ _ (under 32 _ child_table i h))

-- The key bits of a child's spot are the child.
pub value_child : (i : ℕ) → i < 32 → key_bits_at (32 + i) ≡ i
value_child i h = eqb-true _ _ (and_right _ _ (under 32 _ child_table i h))

-- A network and the 5 bits of its spot, as numbers 32 times as large.
pub record InSpot (w d : ℕ) (n : Net) (h : ℕ) : Type 0 where
  pub positive : 1 ≤ h
  pub small : h < 64
  pub low : masked w n.bits d * 32 + key_bits_at h * 2 ^ (w - d) ≤ n.bits * 32
  pub high : n.bits * 32 < masked w n.bits d * 32 + (key_bits_at h + 1) * 2 ^ (w - d)
  pub level : level_at h ≤ 5
  pub long : d + level_at h ≤ n.len
  pub exact : level_at h < 5 → (n.bits * 32 ≡ masked w n.bits d * 32 + key_bits_at h * 2 ^ (w - d)) × (n.len ≡ d + level_at h)

times_both : (i p u q : ℕ) → p * q ≡ 32 → i * p * (u * q) ≡ i * u * 32
times_both i p u q e = mul-mul-mul_comm i p u q ∙ ap (λ x. i * u * x) e

powers_32 : (l : ℕ) → l ≤ 5 → 2 ^ (5 - l) * 2 ^ l ≡ 32
powers_32 l h = sym (pow-add 2 (5 - l) l) ∙ ap (λ x. 2 ^ x) (let e : 5 - l + l ≡ 5 = omega arith in e)

in_bit_spot : (w d l h : ℕ) (n : Net) → IsNet w n → n.len ≡ d + l → l < 5 → h ≡ 2 ^ l + bits_toward w d l n.bits → InSpot w d n h
in_bit_spot w d l h n ok len lt e =
    let i : ℕ = bits_toward w d l n.bits in
    let u : ℕ = 2 ^ (w - (d + l)) in
    let small : i < 2 ^ l = mod_below (n.bits / 2 ^ (w - (d + l))) (2 ^ l) (pow_pos l) in
    let level : level_at h ≡ l = ap level_at e ∙ level_spot l i lt small in
    let value : key_bits_at h ≡ i * 2 ^ (5 - l) = ap key_bits_at e ∙ value_spot l i lt small in
    let fits : d + l ≤ w = let f = ok.len_fits in omega arith in
    let whole : n.bits ≡ masked w n.bits d + i * u = sym ok.no_rest ∙ ap (masked w n.bits) len ∙ masked_level w d l n.bits fits in
    let product : key_bits_at h * 2 ^ (w - d) ≡ i * u * 32 = ap (λ x. x * 2 ^ (w - d)) value ∙ ap (λ x. i * 2 ^ (5 - l) * x) (power_split w d l fits) ∙ times_both i (2 ^ (5 - l)) u (2 ^ l) (powers_32 l (omega arith)) in
    let same : n.bits * 32 ≡ masked w n.bits d * 32 + key_bits_at h * 2 ^ (w - d) = omega arith in
    let more = add-mul (key_bits_at h) 1 (2 ^ (w - d)) in
    let pos = pow_pos (w - d) in
    let pos_l = pow_pos l in
    let top = pow_below l 5 lt in
    record {
      positive = omega arith;
      small = omega arith;
      low = omega arith;
      high = omega arith;
      level = omega arith;
      long = omega arith;
      exact = λ _. (same, (let q : n.len ≡ d + level_at h = omega arith in q));
    }

in_child_spot : (w d h : ℕ) (n : Net) → IsNet w n → d + 5 ≤ n.len → h ≡ 32 + bits_toward w d 5 n.bits → InSpot w d n h
in_child_spot w d h n ok deep e =
    let i : ℕ = bits_toward w d 5 n.bits in
    let u : ℕ = 2 ^ (w - (d + 5)) in
    let small : i < 32 = mod_below (n.bits / 2 ^ (w - (d + 5))) 32 (omega arith) in
    let level : level_at h ≡ 5 = ap level_at e ∙ level_child i small in
    let value : key_bits_at h ≡ i = ap key_bits_at e ∙ value_child i small in
    let fits : d + 5 ≤ w = let f = ok.len_fits in omega arith in
    let part = masked_level w d 5 n.bits fits in
    let below : masked w n.bits (d + 5) ≤ n.bits = div-mul-le_self n.bits u in
    let above : n.bits < masked w n.bits (d + 5) + u = lt-div-mul-add (pow_pos (w - (d + 5))) in
    let product : key_bits_at h * 2 ^ (w - d) ≡ i * u * 32 = ap (λ x. x * 2 ^ (w - d)) value ∙ ap (λ x. i * x) (power_split w d 5 fits) ∙ sym (mul_assoc i u 32) in
    let unit : 2 ^ (w - d) ≡ u * 32 = power_split w d 5 fits in
    let more = add-mul (key_bits_at h) 1 (2 ^ (w - d)) in
    record {
      positive = omega arith;
      small = omega arith;
      low = omega arith;
      high = omega arith;
      level = omega arith;
      long = omega arith;
      exact = λ lt. absurd (let no : ⊥ = omega arith in no);
    }

by_depth : (w d : ℕ) (n : Net) (b : Bool) → leb (d + 5) n.len ≡ b → IsNet w n → d ≤ n.len → InSpot w d n (cond b (32 + bits_toward w d 5 n.bits) (2 ^ (n.len - d) + bits_toward w d (n.len - d) n.bits))
by_depth w d n true e ok le = in_child_spot w d _ n ok (leb-true _ _ e) refl
by_depth w d n false e ok le =
    let lt : n.len < d + 5 = lt_of_not-le (λ h. elim-false (sym e ∙ le-leb _ _ h)) in
    in_bit_spot w d (n.len - d) _ n ok (omega arith) (omega arith) refl

-- Each network of a node has a spot.
pub in_spot : (w d : ℕ) (n : Net) → IsNet w n → d ≤ n.len → InSpot w d n (spot_of w d n)
in_spot w d n ok le = by_depth w d n (leb (d + 5) n.len) refl ok le

-- Fewer bits give a lower key.
pub lower_bits : (w : ℕ) (a b : Net) → a.len ≤ w → a.bits < b.bits → order_key w a < order_key w b
lower_bits w a b fits lt =
    let m : (a.bits + 1) * (w + 1) ≤ b.bits * (w + 1) = mul-le-mul_right (w + 1) (let le : a.bits + 1 ≤ b.bits = omega arith in le) in
    let e = add-mul a.bits 1 (w + 1) in
    omega arith

-- No more bits and a shorter length give a lower key.
pub lower_len : (w : ℕ) (a b : Net) → a.bits ≤ b.bits → a.len < b.len → order_key w a < order_key w b
lower_len w a b le lt =
    let m : a.bits * (w + 1) ≤ b.bits * (w + 1) = mul-le-mul_right (w + 1) le in
    omega arith

-- What isn't less is at least as much.
pub not_less_le : (a b : ℕ) → (a < b → ⊥) → b ≤ a
not_less_le a b h = let lt : b < a + 1 = lt_of_not-le (λ le. h (omega arith)) in omega arith

by_value : (w d h k : ℕ) (a b : Net) (t : Bool) → ltb (key_bits_at h) (key_bits_at k) ≡ t → a.len ≤ w → masked w a.bits d ≡ masked w b.bits d → InSpot w d a h → InSpot w d b k → rank_at h < rank_at k → order_key w a < order_key w b
by_value w d h k a b true e fits way p q lt =
    let less = ltb-lt _ _ e in
    let m : (key_bits_at h + 1) * 2 ^ (w - d) ≤ key_bits_at k * 2 ^ (w - d) = mul-le-mul_right (2 ^ (w - d)) (let le : key_bits_at h + 1 ≤ key_bits_at k = omega arith in le) in
    let high = p.high in
    let low = q.low in
    lower_bits w a b fits (omega arith)
by_value w d h k a b false e fits way p q lt =
    let not_less : key_bits_at k ≤ key_bits_at h = not_less_le _ _ (λ l. elim-false (sym e ∙ lt-ltb _ _ l)) in
    let lp = p.level in
    let lq = q.level in
    let same : key_bits_at h ≡ key_bits_at k = omega arith in
    let less : level_at h < level_at k = omega arith in
    let exact = p.exact (omega arith) in
    let m : key_bits_at h * 2 ^ (w - d) ≡ key_bits_at k * 2 ^ (w - d) = ap (λ x. x * 2 ^ (w - d)) same in
    let low = q.low in
    let long = q.long in
    let bits = exact.0 in
    let len = exact.1 in
    lower_len w a b (omega arith) (omega arith)

-- The order of the spots is the order of the networks.
pub spot_order : (w d h k : ℕ) (a b : Net) → a.len ≤ w → masked w a.bits d ≡ masked w b.bits d → InSpot w d a h → InSpot w d b k → rank_at h < rank_at k → order_key w a < order_key w b
spot_order w d h k a b = by_value w d h k a b (ltb (key_bits_at h) (key_bits_at k)) refl

-- ---- the next spot

gap_table : all_under 64 (λ h. all_under 64 (λ k. if_then (ltb 0 h && ltb 0 k && ltb (rank_at k) (rank_at (next_spot h))) (leb (rank_at k) (rank_at h)))) ≡ true
unfolding all_under
gap_table = refl

rank_table : all_under 64 (λ h. all_under 64 (λ k. if_then (ltb 0 h && ltb 0 k && eqb (rank_at k) (rank_at h)) (eqb h k))) ≡ true
unfolding all_under
rank_table = refl

-- ---- the five bits

-- The quotient of a rest is the rest of a quotient.
pub mod_div : (q a b : ℕ) → 0 < a → 0 < b → q % (a * b) / b ≡ q / b % a
mod_div q a b ha hb =
    let k : ℕ = q / (a * b) in
    let r : ℕ = q % (a * b) in
    let whole : q / b ≡ k * a + r / b =
    ap (λ x. x / b) (sym (div-add-mod' q (a * b)) ∙ ap (λ x. x + r) (sym (mul_assoc k a b))) ∙ mul-add-div_right hb (k * a) r in
    let small : r / b < a = div_below r b a hb (mod_below q (a * b) (mul-pos ha hb)) in
    sym (ap (λ x. x % a) whole ∙ mod-mul-add k a (r / b) small)

-- The five bits towards a level.
pub five_level : (w d l n : ℕ) → l ≤ 5 → d + l ≤ w → five_bits w d n / 2 ^ (5 - l) ≡ bits_toward w d l n
five_level w d l n h fits =
    let p : ℕ = 2 ^ (5 - l) in
    let u : ℕ = 2 ^ (w - (d + l)) in
    let q : ℕ = n * 32 / 2 ^ (w - d) in
    let whole : 2 ^ l * p ≡ 32 = mul_comm (2 ^ l) p ∙ powers_32 l h in
    let unit : 2 ^ (w - d) * p ≡ u * 32 = ap (λ x. x * p) (power_split w d l fits) ∙ mul_assoc u (2 ^ l) p ∙ ap (λ x. u * x) whole in
    ap (λ x. q % x / p) (sym whole)
    ∙ mod_div q (2 ^ l) p (pow_pos l) (pow_pos (5 - l))
    ∙ ap (λ x. x % 2 ^ l) (div-div-eq-div-mul (n * 32) (2 ^ (w - d)) p ∙ ap (λ x. n * 32 / x) unit ∙ mul-div-mul_right n u (let t : 0 < 32 = omega arith in t))

-- Five bits are below 32.
pub five_small : (w d n : ℕ) → five_bits w d n < 32
five_small w d n = mod_below (n * 32 / 2 ^ (w - d)) 32 (let t : 0 < 32 = omega arith in t)
