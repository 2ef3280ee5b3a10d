-- Laws of bitmaps, and of lists with what stands at a set bit.
use Rattle.std.proofs.Common.{◌≡◌, ◌≢◌, ℕ, ◌+◌, ◌-◌, ◌*◌, ◌/◌, ◌%◌, ◌^◌, ◌<◌, ◌≤◌, ◌∙◌, sym, ap, subst, suc, refl, arith, Bool, true, false, eqb, leb, List, length, Some, inl, inr, lt_of_not-le}
use Rattle.std.specs.Prelude.{slice_get, count_ones, ◌⊎◌, bit_or}
use Rattle.std.specs.List.{insert}
use Rattle.std.proofs.Math.ListN.{set}
use Rattle.std.proofs.lemmas.List.{get_or-set_same, get_or-set_other, length-set}
use Rattle.std.specs.Int.{bit_at, w32}
use Rattle.std.specs.Int.Count.{ones_step}
use Rattle.std.proofs.lemmas.Bool.{eqb-true, eq-eqb, leb-true, le-leb}
use Rattle.std.proofs.lemmas.Option.{slice_get_within, slice_get_read, get_or_from_slice_get}
use Rattle.std.proofs.lemmas.List.Edits.{length-insert, get_or-insert_at, get_or-insert_below, get_or-insert_above}
use Rattle.std.proofs.lemmas.Nat.{pow_pos, or_lt, pow-add, mod_below, div-add-mod'}
use Rattle.std.proofs.lemmas.Nat.Bits.{bit_at_cat_low, bit_at_above, same_from_bits_below, bit_at_set_same, bit_at_set_other}
use Rattle.std.proofs.Math.Nat.{div-div-eq-div-mul, div-le_self}
use Rattle.std.proofs.Math.Pow.{mod-mod-pow}
use Rattle.trie_model.proofs.Places.{elim-false}
use Rattle.trie_model.specs.Tries.{slot_of}
use Rattle.trie_model.proofs.NodeLaws.{slot-lt, same_some, split}
use Rattle.trie_model.specs.Puts.{OneBit, PutAt}

same_by : (a b : ℕ) (t : Bool) → eqb a b ≡ t → (a ≡ b) ⊎ (a ≢ b)
same_by a b true e = inl (eqb-true a b e)
same_by a b false e = inr (λ q. elim-false (sym e ∙ eq-eqb a b q))

-- Two numbers are equal or differ.
pub same_or : (a b : ℕ) → (a ≡ b) ⊎ (a ≢ b)
same_or a b = same_by a b (eqb a b) refl

less_by : (a b : ℕ) (t : Bool) → leb b a ≡ t → (a < b) ⊎ (b ≤ a)
less_by a b true e = inr (leb-true b a e)
less_by a b false e = inl (lt_of_not-le (λ le. elim-false (sym e ∙ le-leb b a le)))

-- Of two numbers the first is less, or the second is at most the first.
pub less_or : (a b : ℕ) → (a < b) ⊎ (b ≤ a)
less_or a b = less_by a b (leb b a) refl

-- ---- bits

low_bit : (n b i : ℕ) → i < b → bit_at (n % 2 ^ b) i ≡ bit_at n i
low_bit n b i lt = sym (bit_at_cat_low (n / 2 ^ b) b (n % 2 ^ b) i lt) ∙ ap (λ x. bit_at x i) (div-add-mod' n (2 ^ b))

high_bit : (n k i : ℕ) → bit_at (n / 2 ^ k) i ≡ bit_at n (k + i)
high_bit n k i = ap (λ x. x % 2) (div-div-eq-div-mul n (2 ^ k) (2 ^ i) ∙ ap (λ x. n / x) (sym (pow-add 2 k i)))

same_low : (bit m m' b : ℕ) → OneBit bit m m' → b ≤ bit → m' % 2 ^ b ≡ m % 2 ^ b
same_low bit m m' b o le = same_from_bits_below b (m' % 2 ^ b) (m % 2 ^ b) (mod_below m' (2 ^ b) (pow_pos b)) (mod_below m (2 ^ b) (pow_pos b))
    (λ i lt. low_bit m' b i lt ∙ o.kept i (λ e. omega (arith, e, lt, le)) ∙ sym (low_bit m b i lt))

-- One bit more doesn't move the slots up to it.
pub slots_low : (bit m m' b : ℕ) → OneBit bit m m' → b ≤ bit → slot_of m' b ≡ slot_of m b
slots_low bit m m' b o le = ap count_ones (same_low bit m m' b o le)

less_than : (n k : ℕ) → n < 2 ^ 32 → n / 2 ^ k < 2 ^ 32
less_than n k h = let le = div-le_self n (2 ^ k) in omega arith

-- One bit more is one set bit more.
pub ones_more : (bit m m' : ℕ) → OneBit bit m m' → count_ones m' ≡ suc (count_ones m)
ones_more bit m m' o =
    let low : count_ones (m' % 2 ^ bit) ≡ count_ones (m % 2 ^ bit) = slots_low bit m m' bit o (omega arith) in
    let high : m' / 2 ^ (bit + 1) ≡ m / 2 ^ (bit + 1) = same_from_bits_below 32 _ _ (less_than m' (bit + 1) o.fit') (less_than m (bit + 1) o.fit)
    (λ i lt. high_bit m' (bit + 1) i ∙ o.kept (bit + 1 + i) (λ e. omega (arith, e)) ∙ sym (high_bit m (bit + 1) i)) in
    let two : (n : ℕ) → n / 2 ^ bit / 2 ≡ n / 2 ^ (bit + 1) = λ n. div-div-eq-div-mul n (2 ^ bit) 2 ∙ ap (λ x. n / x) (sym (pow-add 2 bit 1)) in
    let tops : count_ones (m' / 2 ^ bit / 2) ≡ count_ones (m / 2 ^ bit / 2) = ap count_ones (two m' ∙ high ∙ sym (two m)) in
    let a = split m' bit in
    let b = split m bit in
    let a' = ones_step (m' / 2 ^ bit) in
    let b' = ones_step (m / 2 ^ bit) in
    omega (arith, low, tops, a, b, a', b', o.on, o.off)

one_low : (bit m m' b : ℕ) → OneBit bit m m' → bit < b → OneBit bit (m % 2 ^ b) (m' % 2 ^ b)
one_low bit m m' b o lt = record {
  off = low_bit m b bit lt ∙ o.off;
  on = low_bit m' b bit lt ∙ o.on;
  kept = λ i ne. kept_by i ne (less_or i b);
  fit = let le = mod_le m (2 ^ b) (pow_pos b) in let f = o.fit in omega arith;
  fit' = let le = mod_le m' (2 ^ b) (pow_pos b) in let f = o.fit' in omega arith;
}
  where
    mod_le : (n k : ℕ) → 0 < k → n % k ≤ n
    mod_le n k h = omega (arith, div-add-mod' n k)

    kept_by : (i : ℕ) → i ≢ bit → (i < b) ⊎ (b ≤ i) → bit_at (m' % 2 ^ b) i ≡ bit_at (m % 2 ^ b) i
    kept_by i ne (inl h) = low_bit m' b i h ∙ o.kept i ne ∙ sym (low_bit m b i h)
    kept_by i ne (inr h) = bit_at_above (m' % 2 ^ b) b i (mod_below m' (2 ^ b) (pow_pos b)) h ∙ sym (bit_at_above (m % 2 ^ b) b i (mod_below m (2 ^ b) (pow_pos b)) h)

-- One bit more moves the slots after it by one.
pub slots_high : (bit m m' b : ℕ) → OneBit bit m m' → bit < b → slot_of m' b ≡ suc (slot_of m b)
slots_high bit m m' b o lt = ones_more bit (m % 2 ^ b) (m' % 2 ^ b) (one_low bit m m' b o lt)

-- A later bit has a later slot than a set one before it.
pub slot_later : (bitmap a b : ℕ) → a < b → bit_at bitmap a ≡ 1 → slot_of bitmap a < slot_of bitmap b
slot_later n a b lt h =
    let m : ℕ = n % 2 ^ b in
    let e : n % 2 ^ b % 2 ^ a ≡ n % 2 ^ a = ap (λ k. n % 2 ^ k % 2 ^ a) (let k : b ≡ (b - a) + a = omega arith in k) ∙ mod-mod-pow n (b - a) a in
    subst (λ x. count_ones x < count_ones m) e (slot-lt m a (low_bit n b a lt ∙ h))

-- A slot is at most the count of set bits.
pub slot_le : (n b : ℕ) → slot_of n b ≤ count_ones n
slot_le n b = let e = split n b in omega (arith, e)

mono_low : (n a b : ℕ) → a ≤ b → slot_of n a ≤ slot_of n b
mono_low n a b le =
    let e : n % 2 ^ b % 2 ^ a ≡ n % 2 ^ a = ap (λ k. n % 2 ^ k % 2 ^ a) (let k : b ≡ (b - a) + a = omega arith in k) ∙ mod-mod-pow n (b - a) a in
    subst (λ x. count_ones x ≤ count_ones (n % 2 ^ b)) e (slot_le (n % 2 ^ b) a)

-- `bitmap | (1 << bit)`
pub one_bit : (bit m : ℕ) → bit < 32 → m < 2 ^ 32 → bit_at m bit ≡ 0 → OneBit bit m (bit_or m (1 * 2 ^ bit % 4294967296))
one_bit bit m lt fit off = record {
  off = off;
  on = bit_at_set_same w32 m bit lt;
  kept = λ b ne. bit_at_set_other w32 m bit lt b ne;
  fit = fit;
  fit' = or_lt 32 m (1 * 2 ^ bit % 4294967296) fit (mod_below (1 * 2 ^ bit) 4294967296 (omega arith));
}

-- ---- lists

get_below : {X : Type 0} (xs : List X) (i k : ℕ) (y x : X) → k < i → i ≤ length xs → slice_get xs k ≡ Some x → slice_get (insert xs i y) k ≡ Some x
get_below xs i k y x lt le h = slice_get_read (insert xs i y) (length xs + 1) k x (sym (length-insert xs i y le)) (omega arith) (sym (get_or-insert_below xs i y x k lt le ∙ get_or_from_slice_get xs k x x h))

get_above : {X : Type 0} (xs : List X) (i k : ℕ) (y x : X) → i ≤ k → i ≤ length xs → slice_get xs k ≡ Some x → slice_get (insert xs i y) (k + 1) ≡ Some x
get_above xs i k y x lt le h = let w = slice_get_within xs k x h in
    slice_get_read (insert xs i y) (length xs + 1) (k + 1) x (sym (length-insert xs i y le)) (omega arith)
    (sym (get_or-insert_above xs i y x k lt le ∙ get_or_from_slice_get xs k x x h))

get_at : {X : Type 0} (xs : List X) (i : ℕ) (y : X) → i ≤ length xs → slice_get (insert xs i y) i ≡ Some y
get_at xs i y le = slice_get_read (insert xs i y) (length xs + 1) i y (sym (length-insert xs i y le)) (omega arith) (sym (get_or-insert_at xs i y y le))

below_back : {X : Type 0} (xs : List X) (i k : ℕ) (y x : X) → k < i → i ≤ length xs → slice_get (insert xs i y) k ≡ Some x → slice_get xs k ≡ Some x
below_back xs i k y x lt le h = slice_get_read xs (length xs) k x refl (omega arith) (sym (get_or_from_slice_get (insert xs i y) k x x h) ∙ get_or-insert_below xs i y x k lt le)

above_back : {X : Type 0} (xs : List X) (i k : ℕ) (y x : X) → i ≤ k → i ≤ length xs → slice_get (insert xs i y) (k + 1) ≡ Some x → slice_get xs k ≡ Some x
above_back xs i k y x lt le h =
    let w = slice_get_within (insert xs i y) (k + 1) x h in
    let l = length-insert xs i y le in
    slice_get_read xs (length xs) k x refl (omega arith) (sym (get_or_from_slice_get (insert xs i y) (k + 1) x x h) ∙ get_or-insert_above xs i y x k lt le)

-- An element stands at each name of its place.
pub at_plus : {X : Type 0} (xs : List X) (i j : ℕ) (x : X) → i ≡ j → slice_get xs i ≡ Some x → slice_get xs j ≡ Some x
at_plus xs i j x e h = subst (λ k. slice_get xs k ≡ Some x) e h

-- ---- an insertion at the popcount place

-- Inserting at the slot of a new bit puts the element at that bit.
pub put_new : {X : Type 0} (bit m m' : ℕ) (xs : List X) (y : X) → OneBit bit m m' → length xs ≡ count_ones m → PutAt bit y m xs m' (insert xs (slot_of m bit) y)
put_new {X} bit m m' xs y o len =
    let i : ℕ = slot_of m bit in
    let le : i ≤ length xs = let s = slot_le m bit in omega arith in
    record {
      here = (o.on, at_plus _ i (slot_of m' bit) y (sym (slots_low bit m m' bit o (omega arith))) (get_at xs i y le));
      others = λ b x ne. (
        (λ h. (sym (o.kept b ne) ∙ h.0, out_by b x ne (less_or b bit) h.0 h.1)),
        (λ h. (o.kept b ne ∙ h.0, in_by b x ne (less_or b bit) h.0 h.1)),
      );
      len = length-insert xs i y le ∙ (let a = ones_more bit m m' o in omega arith);
      bits = λ b h. bits_by b h (same_or b bit);
      items = λ j x h. items_by j x h (less_or j i);
      fit = o.fit';
    }
  where
    le' : slot_of m bit ≤ length xs
    le' = let s = slot_le m bit in omega (arith, s, len)

    out_by : (b : ℕ) (x : X) → b ≢ bit → (b < bit) ⊎ (bit ≤ b) → bit_at m' b ≡ 1 → slice_get (insert xs (slot_of m bit) y) (slot_of m' b) ≡ Some x → slice_get xs (slot_of m b) ≡ Some x
    out_by b x ne (inl lt) set h =
        let e = slots_low bit m m' b o (omega arith) in
        let later = slot_later m b bit lt (sym (o.kept b ne) ∙ set) in
        below_back xs (slot_of m bit) (slot_of m b) y x later le' (at_plus _ _ _ x e h)
    out_by b x ne (inr ge) set h =
        let lt : bit < b = omega (arith, ge, ne) in
        let e : slot_of m' b ≡ slot_of m b + 1 = let s = slots_high bit m m' b o lt in omega (arith, s) in
        above_back xs (slot_of m bit) (slot_of m b) y x (mono_low m bit b ge) le' (at_plus _ _ _ x e h)

    in_by : (b : ℕ) (x : X) → b ≢ bit → (b < bit) ⊎ (bit ≤ b) → bit_at m b ≡ 1 → slice_get xs (slot_of m b) ≡ Some x → slice_get (insert xs (slot_of m bit) y) (slot_of m' b) ≡ Some x
    in_by b x ne (inl lt) set h =
        let e = slots_low bit m m' b o (omega arith) in
        at_plus _ _ _ x (sym e) (get_below xs (slot_of m bit) (slot_of m b) y x (slot_later m b bit lt set) le' h)
    in_by b x ne (inr ge) set h =
        let lt : bit < b = omega (arith, ge, ne) in
        let e : slot_of m b + 1 ≡ slot_of m' b = let s = slots_high bit m m' b o lt in omega (arith, s) in
        at_plus _ _ _ x e (get_above xs (slot_of m bit) (slot_of m b) y x (mono_low m bit b ge) le' h)

    bits_by : (b : ℕ) → bit_at m' b ≡ 1 → (b ≡ bit) ⊎ (b ≢ bit) → (b ≡ bit) ⊎ (bit_at m b ≡ 1)
    bits_by b h (inl e) = inl e
    bits_by b h (inr ne) = inr (sym (o.kept b ne) ∙ h)

    items_at : (j : ℕ) (x : X) → slice_get (insert xs (slot_of m bit) y) j ≡ Some x → (slot_of m bit ≤ j) → (j ≡ slot_of m bit) ⊎ (j ≢ slot_of m bit) → (x ≡ y) ⊎ ((k : ℕ) × (slice_get xs k ≡ Some x))
    items_at j x h ge (inl e) = inl (same_some x y (sym (at_plus _ _ _ x e h) ∙ get_at xs (slot_of m bit) y le'))
    items_at j x h ge (inr ne) =
        let e : j ≡ (j - 1) + 1 = omega (arith, ge, ne) in
        inr (j - 1, above_back xs (slot_of m bit) (j - 1) y x (omega (arith, ge, ne)) le' (at_plus _ _ _ x e h))

    items_by : (j : ℕ) (x : X) → slice_get (insert xs (slot_of m bit) y) j ≡ Some x → (j < slot_of m bit) ⊎ (slot_of m bit ≤ j) → (x ≡ y) ⊎ ((k : ℕ) × (slice_get xs k ≡ Some x))
    items_by j x h (inl lt) = inr (j, below_back xs (slot_of m bit) j y x lt le' h)
    items_by j x h (inr ge) = items_at j x h ge (same_or j (slot_of m bit))

-- The same where list and place are known under other names.
pub put_new_at : {X : Type 0} (bit m m' i : ℕ) (xs zs : List X) (y : X) → OneBit bit m m' → length xs ≡ count_ones m → zs ≡ insert xs i y → i ≡ slot_of m bit → PutAt bit y m xs m' zs
put_new_at bit m m' i xs zs y o len e f = subst (λ ys. PutAt bit y m xs m' ys) (sym (e ∙ ap (λ k. insert xs k y) f)) (put_new bit m m' xs y o len)

slot_apart : (m a b : ℕ) → a ≢ b → bit_at m a ≡ 1 → bit_at m b ≡ 1 → slot_of m a ≢ slot_of m b
slot_apart m a b ne p q = apart_by (less_or a b)
  where
    apart_by : (a < b) ⊎ (b ≤ a) → slot_of m a ≢ slot_of m b
    apart_by (inl lt) = λ e. let l = slot_later m a b lt p in omega (arith, l, e)
    apart_by (inr ge) = λ e. let l = slot_later m b a (omega (arith, ge, ne)) q in omega (arith, l, e)

-- Another value at a set bit.
pub put_over : {X : Type 0} (bit m i : ℕ) (xs zs : List X) (y : X) → m < 2 ^ 32 → bit_at m bit ≡ 1 → length xs ≡ count_ones m → zs ≡ set xs i y → i ≡ slot_of m bit → PutAt bit y m xs m zs
put_over {X} bit m i xs zs y fit on len e f =
    subst (λ ys. PutAt bit y m xs m ys) (sym (e ∙ ap (λ k. set xs k y) f)) (record {
      here = (on, here);
      others = λ b x ne. (
        (λ h. (
          h.0,
          slice_get_read xs (length xs) _ x refl (within _ x h.1)
              (sym (get_or_from_slice_get (set xs (slot_of m bit) y) (slot_of m b) x x h.1) ∙ get_or-set_other xs (slot_of m bit) (slot_of m b) y x
              (slot_apart m b bit ne h.0 on)),
        )),
        (λ h. (
          h.0,
          slice_get_read (set xs (slot_of m bit) y) (length xs) _ x (sym (length-set xs (slot_of m bit) y)) (slice_get_within xs _ x h.1)
              (sym (get_or-set_other xs (slot_of m bit) (slot_of m b) y x (slot_apart m b bit ne h.0 on) ∙ get_or_from_slice_get xs _ x x h.1)),
        )),
      );
      len = length-set xs (slot_of m bit) y ∙ len;
      bits = λ b h. inr h;
      items = λ j x h. items_by j x h (same_or j (slot_of m bit));
      fit = fit;
    })
  where
    lt : slot_of m bit < length xs
    lt = let l = slot-lt m bit on in omega (arith, l, len)

    here : slice_get (set xs (slot_of m bit) y) (slot_of m bit) ≡ Some y
    here = slice_get_read (set xs (slot_of m bit) y) (length xs) (slot_of m bit) y (sym (length-set xs (slot_of m bit) y)) lt (sym (get_or-set_same xs (slot_of m bit) y y lt))

    within : (j : ℕ) (x : X) → slice_get (set xs (slot_of m bit) y) j ≡ Some x → j < length xs
    within j x h = let w = slice_get_within (set xs (slot_of m bit) y) j x h in let l = length-set xs (slot_of m bit) y in omega (arith, w, l)

    items_by : (j : ℕ) (x : X) → slice_get (set xs (slot_of m bit) y) j ≡ Some x → (j ≡ slot_of m bit) ⊎ (j ≢ slot_of m bit) → (x ≡ y) ⊎ ((k : ℕ) × (slice_get xs k ≡ Some x))
    items_by j x h (inl q) = inl (same_some x y (sym (at_plus _ _ _ x q h) ∙ here))
    items_by j x h (inr ne) = inr (j, slice_get_read xs (length xs) j x refl (within j x h) (sym (get_or_from_slice_get _ j x x h) ∙ get_or-set_other xs (slot_of m bit) j y x ne))
