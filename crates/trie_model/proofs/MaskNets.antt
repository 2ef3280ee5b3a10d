-- The masks in terms of networks and of prefixes.
use Rattle.std.proofs.Common.{◌≡◌, ℕ, ◌+◌, ◌-◌, ◌*◌, ◌/◌, ◌%◌, ◌^◌, ◌<◌, ◌≤◌, ◌∙◌, sym, ap, refl, arith, Bool, true, false, cond, ◌&&◌, eqb, leb}
use Rattle.std.specs.Int.{bit_at}
use Rattle.std.proofs.lemmas.Bool.{eqb-true, eq-eqb, leb-true, le-leb}
use Rattle.std.proofs.Math.Nat.{div-one}
use Rattle.trie_model.specs.Nets.{Net, covers, masked}
use Rattle.trie_model.specs.Views.{level_of, net_of_bit}
use Rattle.trie_model.proofs.Places.{and_right, both_hold, masked_less, level_le}
use Rattle.trie_model.specs.Spots.{level_at, bits_toward, five_bits, net_of_spot, inside, rows_below, children_below, prefix_net, child_at}
use Rattle.trie_model.proofs.SpotLaws.{masked_level}
use Rattle.trie_model.proofs.SpotOrder.{five_level, five_small, level_child}
use Rattle.trie_model.proofs.MaskLaws.{rows_are, children_are, level_same, spot_net, inside_covers, power_small}

-- ---- the masks in terms of networks

-- The prefix of a child's spot is the child's place.
pub spot_child : (w d p c : ℕ) → c < 32 → net_of_spot w d p (32 + c) ≡ child_at w d p c
spot_child w d p c h =
    let f : ℕ → Net = λ k. record { bits = masked w p d + (32 + c - 2 ^ k) * 2 ^ (w - (d + k)); len = d + k } in
    ap f (level_child c h) ∙ ap (λ x. record { bits = masked w p d + x * 2 ^ (w - (d + 5)); len = d + 5 }) (let e : 32 + c - 32 ≡ c = omega arith in e)

-- A data bit lies inside another exactly where its prefix is contained in the other's.
pub bit_in_bit : (w d n len r bit : ℕ) → r < 31 → net_of_bit w d n r ≡ prefix_net w n len → bit < 31 → d + level_of bit ≤ w → inside (r + 1) (bit + 1) ≡ covers w (prefix_net w n len) (net_of_bit w d n bit)
bit_in_bit w d n len r bit hr e hb fits =
    sym (inside_covers w d n (r + 1) (bit + 1) (omega arith) (omega arith) (omega arith) (omega arith) (let s = level_same bit hb in let q : d + level_at (bit + 1) ≤ w = omega arith in q))
    ∙ ap (λ p. covers w p (net_of_spot w d n (bit + 1))) (spot_net w d n r hr ∙ e)
    ∙ ap (covers w (prefix_net w n len)) (spot_net w d n bit hb)

-- A child lies inside a data bit exactly where its place is contained in the bit's prefix.
pub child_in_bit : (w d n len r c : ℕ) → r < 31 → net_of_bit w d n r ≡ prefix_net w n len → c < 32 → d + 5 ≤ w → inside (r + 1) (32 + c) ≡ covers w (prefix_net w n len) (child_at w d n c)
child_in_bit w d n len r c hr e hc fits =
    sym (inside_covers w d n (r + 1) (32 + c) (omega arith) (omega arith) (omega arith) (omega arith) (let s = level_child c hc in let q : d + level_at (32 + c) ≤ w = omega arith in q))
    ∙ ap (λ p. covers w p (net_of_spot w d n (32 + c))) (spot_net w d n r hr ∙ e)
    ∙ ap (covers w (prefix_net w n len)) (spot_child w d n c hc)

covers_by : (w : ℕ) (a : Net) (n k : ℕ) (b : Bool) → leb a.len k ≡ b → k ≤ w → (b && eqb (masked w (masked w n k) a.len) a.bits) ≡ (b && eqb (masked w n a.len) a.bits)
covers_by w a n k true e h = ap (λ x. eqb x a.bits) (masked_less w k a.len n h (leb-true _ _ e))
covers_by w a n k false e h = refl

-- A network contains a key where it contains the masked key.
pub covers_masked : (w : ℕ) (a : Net) (n k : ℕ) → k ≤ w → covers w a (prefix_net w n k) ≡ covers w a (record { bits = n; len = k })
covers_masked w a n k h = covers_by w a n k (leb a.len k) refl h

-- Whether a prefix contains a longer one depends on the bits alone.
pub covers_long : (w : ℕ) (a : Net) (n k j : ℕ) → a.len ≤ k → a.len ≤ j → covers w a (record { bits = n; len = k }) ≡ covers w a (record { bits = n; len = j })
covers_long w a n k j p q = ap (λ b. b && eqb (masked w n a.len) a.bits) (le-leb _ _ p ∙ sym (le-leb _ _ q))

-- A data bit lies above another exactly where its prefix contains the other's.
pub bit_above_bit : (w d n len r bit : ℕ) → r < 31 → net_of_bit w d n r ≡ prefix_net w n len → len ≤ w → bit < 31 → inside (bit + 1) (r + 1) ≡ covers w (net_of_bit w d n bit) (record { bits = n; len = len })
bit_above_bit w d n len r bit hr e end hb =
    let level : d + level_of r ≡ len = ap (λ p. p.len) e in
    sym (inside_covers w d n (bit + 1) (r + 1) (omega arith) (omega arith) (omega arith) (omega arith) (let s = level_same r hr in let q : d + level_at (r + 1) ≤ w = omega arith in q))
    ∙ ap (λ p. covers w p (net_of_spot w d n (r + 1))) (spot_net w d n bit hb)
    ∙ ap (covers w (net_of_bit w d n bit)) (spot_net w d n r hr ∙ e)
    ∙ covers_masked w (net_of_bit w d n bit) n len end

-- A data bit lies above a child exactly where its prefix contains a key that goes through the child.
pub bit_above_child : (w d n len f bit : ℕ) → f ≡ five_bits w d n → d + 5 ≤ len → len ≤ w → bit < 31 → inside (bit + 1) (32 + f) ≡ covers w (net_of_bit w d n bit) (record { bits = n; len = len })
bit_above_child w d n len f bit e deep end hb =
    let small : f < 32 = rw e (five_small w d n) in
    let toward : f ≡ bits_toward w d 5 n = e ∙ sym (div-one (five_bits w d n)) ∙ five_level w d 5 n (omega arith) (omega arith) in
    let place : child_at w d n f ≡ prefix_net w n (d + 5) =
    ap (λ x. record { bits = masked w n d + x * 2 ^ (w - (d + 5)); len = d + 5 }) toward
    ∙ ap (λ x. record { bits = x; len = d + 5 }) (sym (masked_level w d 5 n (omega arith))) in
    let high = level_le bit in
    sym (inside_covers w d n (bit + 1) (32 + f) (omega arith) (omega arith) (omega arith) (omega arith) (let s = level_child f small in let q : d + level_at (32 + f) ≤ w = omega arith in q))
    ∙ ap (λ p. covers w p (net_of_spot w d n (32 + f))) (spot_net w d n bit hb)
    ∙ ap (covers w (net_of_bit w d n bit)) (spot_child w d n f small ∙ place)
    ∙ covers_masked w (net_of_bit w d n bit) n (d + 5) (omega arith)
    ∙ covers_long w (net_of_bit w d n bit) n (d + 5) len (omega arith) (omega arith)

-- ---- masks of a data bit, in terms of prefixes

-- The data bits below a data bit are those whose prefixes its prefix contains.
pub for_bit_rows : (w d p bit b : ℕ) → bit < 31 → b < 31 → d + level_of b ≤ w → bit_at (rows_below (bit + 1)) b ≡ cond (covers w (net_of_bit w d p bit) (net_of_bit w d p b)) 1 0
for_bit_rows w d p bit b hr hb fits =
    rows_are (bit + 1) b (omega arith) (omega arith) hb
    ∙ ap (λ t. cond t 1 0) (
    sym (inside_covers w d p (bit + 1) (b + 1) (omega arith) (omega arith) (omega arith) (omega arith) (let s = level_same b hb in let q : d + level_at (b + 1) ≤ w = omega arith in q))
    ∙ ap (λ n. covers w n (net_of_spot w d p (b + 1))) (spot_net w d p bit hr)
    ∙ ap (covers w (net_of_bit w d p bit)) (spot_net w d p b hb))

-- The children below a data bit are those whose places its prefix contains.
pub for_bit_children : (w d p bit c : ℕ) → bit < 31 → c < 32 → d + 5 ≤ w → bit_at (children_below (bit + 1)) c ≡ cond (covers w (net_of_bit w d p bit) (child_at w d p c)) 1 0
for_bit_children w d p bit c hr hc fits =
    children_are (bit + 1) c (omega arith) (omega arith) hc
    ∙ ap (λ t. cond t 1 0) (
    sym (inside_covers w d p (bit + 1) (32 + c) (omega arith) (omega arith) (omega arith) (omega arith) (let s = level_child c hc in let q : d + level_at (32 + c) ≤ w = omega arith in q))
    ∙ ap (λ n. covers w n (net_of_spot w d p (32 + c))) (spot_net w d p bit hr)
    ∙ ap (covers w (net_of_bit w d p bit)) (spot_child w d p c hc))

-- The five bits after a depth lead to the child.
pub five_toward : (w d n f : ℕ) → f ≡ five_bits w d n → d + 5 ≤ w → f ≡ bits_toward w d 5 n
five_toward w d n f e fits = e ∙ sym (div-one (five_bits w d n)) ∙ five_level w d 5 n (omega arith) fits

-- Dropping the host bits twice.
pub prefix_masked : (w n len x : ℕ) → len ≤ w → x ≡ masked w n len → prefix_net w x len ≡ prefix_net w n len
prefix_masked w n len x fits e =
    ap (λ y. record { bits = y; len = len }) (ap (λ y. masked w y len) e ∙ masked_less w len len n fits (let le : len ≤ len = omega arith in le))

-- `1 << level`
pub shl_level : (l : ℕ) → l < 5 → 1 * 2 ^ l % 4294967296 ≡ 2 ^ l
shl_level l h = let small = power_small l h in omega arith

-- Sums of equal parts are equal.
pub sum_is : (a b c d e p q r s t : ℕ) → p ≡ a → q ≡ b → r ≡ c → s ≡ d → t ≡ e → p + q + r + s + t ≡ a + b + c + d + e
sum_is a b c d e p q r s t f g h i j = omega arith

-- One prefix contains another where the other's bits begin with its own.
pub covers_first : (w p l q k x y : ℕ) → l ≤ k → k ≤ w → x ≡ masked w q l → y ≡ masked w p l → (x ≡ y → covers w (prefix_net w p l) (prefix_net w q k) ≡ true) × (covers w (prefix_net w p l) (prefix_net w q k) ≡ true → x ≡ y)
covers_first w p l q k x y le fits e f =
    let less = masked_less w k l q fits le in (
      (λ h. both_hold (leb l k) _ (le-leb l k le) (eq-eqb _ _ (less ∙ sym e ∙ h ∙ f))),
      (λ h. e ∙ sym less ∙ eqb-true _ _ (and_right (leb l k) _ h) ∙ sym f),
    )
