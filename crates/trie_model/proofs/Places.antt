-- Facts about places, nodes and bits.
use Rattle.std.proofs.Common.{◌≡◌, ◌≢◌, ℕ, ◌+◌, ◌-◌, ◌*◌, ◌/◌, ◌%◌, ◌^◌, ◌<◌, ◌≤◌, ◌∙◌, sym, ap, subst, refl, arith, Bool, true, false, cond, ◌&&◌, leb}
use Rattle.std.specs.Int.{bit_at}
use Rattle.std.proofs.lemmas.Bool.{eqb-true, eq-eqb, leb-true, le-leb}
use Rattle.std.proofs.lemmas.Nat.{pow_pos, pow-add, div-add-mod'}
use Rattle.std.proofs.lemmas.Nat.Bits.{bit_at-lt, bit_at_above}
use Rattle.std.proofs.Common.{lt_of_not-le}
use Rattle.std.proofs.Math.Nat.{div-mul-le_self, div-div-eq-div-mul, mul-div_cancel}
use Rattle.trie_model.specs.Nets.{Net, covers, masked}
use Rattle.trie_model.specs.Views.{ViewValue, Shows, ShowSame, depth_at, level_of, data_net, child_net, child_toward}

-- ---- tests

-- Where both tests hold, the first does.
pub and_left : (s t : Bool) → (s && t) ≡ true → s ≡ true
and_left true t h = refl
and_left false t h = h

-- False isn't true.
pub elim-false : false ≡ true → ⊥
elim-false h = cc

-- Where both tests hold, the second does.
pub and_right : (s t : Bool) → (s && t) ≡ true → t ≡ true
and_right true t h = h
and_right false t h = absurd (elim-false h)

-- Two tests that hold hold together.
pub both_hold : (s t : Bool) → s ≡ true → t ≡ true → (s && t) ≡ true
both_hold true t p q = q
both_hold false t p q = p

-- A test that isn't true.
pub not_true : (b : Bool) → (b ≡ true → ⊥) → b ≡ false
not_true true h = absurd (h refl)
not_true false h = refl

-- ---- nodes

-- The depth of a length's node is at most the length.
pub depth_le : (n : ℕ) → depth_at n ≤ n
depth_le n = div-mul-le_self n 5

cond_le : (b : Bool) (x y m : ℕ) → x ≤ m → y ≤ m → cond b x y ≤ m
cond_le true x y m p q = p
cond_le false x y m p q = q

-- A data bit has a level up to 4.
pub level_le : (bit : ℕ) → level_of bit ≤ 4
level_le bit =
    cond_le (leb 15 bit) _ _ 4 (omega arith)
    (cond_le (leb 7 bit) _ _ 4 (omega arith) (cond_le (leb 3 bit) _ _ 4 (omega arith) (cond_le (leb 1 bit) _ _ 4 (omega arith) (omega arith))))

-- Places of one node have the same prefix at each data bit.
pub same_data_net : (w bit : ℕ) (p q : Net) → depth_at q.len ≡ depth_at p.len → masked w q.bits (depth_at p.len) ≡ masked w p.bits (depth_at p.len) → data_net w q bit ≡ data_net w p bit
same_data_net w bit p q e m =
    let f : ℕ → ℕ → Net = λ d x. record { bits = x + (bit + 1 - 2 ^ level_of bit) * 2 ^ (w - (d + level_of bit)); len = d + level_of bit } in
    ap (λ d. f d (masked w q.bits d)) e ∙ ap (f (depth_at p.len)) m

-- Places of one node have the same children.
pub same_child_net : (w bit : ℕ) (p q : Net) → depth_at q.len ≡ depth_at p.len → masked w q.bits (depth_at p.len) ≡ masked w p.bits (depth_at p.len) → child_net w q bit ≡ child_net w p bit
same_child_net w bit p q e m =
    let f : ℕ → ℕ → Net = λ d x. record { bits = x + bit * 2 ^ (w - (d + 5)); len = d + 5 } in
    ap (λ d. f d (masked w q.bits d)) e ∙ ap (f (depth_at p.len)) m

-- A prefix is no longer than what it contains.
pub covers_len : (w : ℕ) (a b : Net) → covers w a b ≡ true → a.len ≤ b.len
covers_len w a b h = leb-true a.len b.len (and_left _ _ h)

-- The first bits of what a prefix contains are its bits.
pub covers_bits : (w : ℕ) (a b : Net) → covers w a b ≡ true → masked w b.bits a.len ≡ a.bits
covers_bits w a b h = eqb-true _ _ (and_right _ _ h)

-- A place is what its bits and its length are.
pub place_is : (place : Net) (bits len : ℕ) → bits ≡ place.bits → len ≡ place.len → record { bits = bits; len = len } ≡ place
place_is place bits len e g = λ i. record { bits = e i; len = g i }

-- Views at one place with the same pairs show the same.
pub show_same : {V X : Type 0} (tell : V → ViewValue X) (a b : V) (net : Net) (pairs : Net → X → Type 0) → Shows (tell a) net pairs → Shows (tell b) net pairs → ShowSame (tell a) (tell b)
show_same tell a b net pairs p q = record {
  place = p.place ∙ sym q.place;
  at = λ n x. ((λ h. (q.at n x).1 ((p.at n x).0 h)), (λ h. (p.at n x).1 ((q.at n x).0 h)));
}

-- Views that equal one view show the same.
pub show_equal : {V X : Type 0} (tell : V → ViewValue X) (a b v : V) → a ≡ v → b ≡ v → ShowSame (tell a) (tell b)
show_equal tell a b v p q = subst (λ z. ShowSame (tell a) (tell z)) (p ∙ sym q) (record { place = refl; at = λ n x. ((λ h. h), (λ h. h)) })

-- ---- bits

elim-lt : (i k : ℕ) → (k ≤ i → ⊥) → i < k
elim-lt i k h = lt_of_not-le h

-- A set bit of a number below 2 ^ k is below k.
pub bit_below : (k n i : ℕ) → n < 2 ^ k → bit_at n i ≡ 1 → i < k
bit_below k n i h e = elim-lt i k (λ le. omega (arith, bit_at_above n k i h le, e))

-- A bit that isn't 1.
pub not_one : (n i : ℕ) → (bit_at n i ≡ 1 → ⊥) → bit_at n i ≡ 0
not_one n i h = let small = bit_at-lt n i in let ne : bit_at n i ≢ 1 = h in omega (arith, small, ne)

-- ---- masked numbers

one_more : (q r m u : ℕ) → q ≡ r * 32 + m → q * u ≡ r * (u * 32) + m * u
one_more q r m u e = rw e (omega arith)

-- Five bits more.
split_by : (n u : ℕ) → n / u * u ≡ n / (u * 32) * (u * 32) + n / u % 32 * u
split_by n u = one_more (n / u) (n / (u * 32)) (n / u % 32) u (sym (div-add-mod' (n / u) 32) ∙ ap (λ x. x * 32 + n / u % 32) (div-div-eq-div-mul n u 32))

-- The first bits and the five after them.
pub masked_more : (w d n : ℕ) → d + 5 ≤ w → masked w n (d + 5) ≡ masked w n d + child_toward w d n * 2 ^ (w - (d + 5))
masked_more w d n h =
    let u : ℕ = 2 ^ (w - (d + 5)) in
    let e : 2 ^ (w - d) ≡ u * 32 = ap (λ x. 2 ^ x) (let k : w - d ≡ (w - (d + 5)) + 5 = omega arith in k) ∙ pow-add 2 (w - (d + 5)) 5 in
    split_by n u ∙ ap (λ x. n / x * x + n / u % 32 * u) (sym e)

-- A shorter mask after a longer one.
remask_by : (n u v : ℕ) → 0 < u → n / u * u / (u * v) * (u * v) ≡ n / (u * v) * (u * v)
remask_by n u v h = ap (λ x. x * (u * v)) (sym (div-div-eq-div-mul (n / u * u) u v) ∙ ap (λ x. x / v) (mul-div_cancel (n / u) h) ∙ div-div-eq-div-mul n u v)

-- The first bits of the first bits are the first bits.
pub masked_less : (w l d n : ℕ) → l ≤ w → d ≤ l → masked w (masked w n l) d ≡ masked w n d
masked_less w l d n h k =
    let u : ℕ = 2 ^ (w - l) in
    let e : 2 ^ (w - d) ≡ u * 2 ^ (l - d) = ap (λ x. 2 ^ x) (let j : w - d ≡ (w - l) + (l - d) = omega arith in j) ∙ pow-add 2 (w - l) (l - d) in
    ap (λ x. n / u * u / x * x) e ∙ remask_by n u (2 ^ (l - d)) (pow_pos (w - l)) ∙ ap (λ x. n / x * x) (sym e)

-- What a place covers goes its way down to each shorter length.
pub covers_way : (w d : ℕ) (a n : Net) → a.len ≤ w → d ≤ a.len → covers w a n ≡ true → masked w n.bits d ≡ masked w a.bits d
covers_way w d a n fits h c = sym (masked_less w a.len d n.bits fits h) ∙ ap (λ x. masked w x d) (covers_bits w a n c)

-- Equal products with a factor above 0 have the other factor in common.
pub times_cancel : (x y u : ℕ) → 0 < u → x * u ≡ y * u → x ≡ y
times_cancel x y u h e = sym (mul-div_cancel x h) ∙ ap (λ z. z / u) e ∙ mul-div_cancel y h

add_cancel : (m n x y : ℕ) → m + x ≡ n + y → m ≡ n → x ≡ y
add_cancel m n x y e f = omega arith

-- What a child covers leads to the child.
pub covers_toward : (w bit : ℕ) (p n : Net) → depth_at p.len + 5 ≤ w → masked w n.bits (depth_at p.len) ≡ masked w p.bits (depth_at p.len) → covers w (child_net w p bit) n ≡ true → child_toward w (depth_at p.len) n.bits ≡ bit
covers_toward w bit p n h way c =
    times_cancel _ _ (2 ^ (w - (depth_at p.len + 5))) (pow_pos (w - (depth_at p.len + 5)))
    (add_cancel _ _ _ _ (sym (masked_more w (depth_at p.len) n.bits h) ∙ covers_bits w (child_net w p bit) n c) way)

-- And the other way round.
pub toward_covers : (w : ℕ) (p n : Net) → depth_at p.len + 5 ≤ w → depth_at p.len + 5 ≤ n.len → masked w n.bits (depth_at p.len) ≡ masked w p.bits (depth_at p.len) → covers w (child_net w p (child_toward w (depth_at p.len) n.bits)) n ≡ true
toward_covers w p n h deep way =
    let t = child_toward w (depth_at p.len) n.bits in
    both_hold (leb (depth_at p.len + 5) n.len) _ (le-leb _ _ deep)
    (eq-eqb _ _ (masked_more w (depth_at p.len) n.bits h ∙ ap (λ x. x + t * 2 ^ (w - (depth_at p.len + 5))) way))

whole_fives : (x : ℕ) → depth_at (x * 5 + 5) ≡ x * 5 + 5
whole_fives x = let e : x * 5 + 5 ≡ (x + 1) * 5 = omega arith in ap (λ n. n / 5 * 5) e ∙ ap (λ n. n * 5) (let five : 0 < 5 = omega arith in mul-div_cancel (x + 1) five) ∙ sym e

-- The depth of a child's node is five more than that of its parent's.
pub depth_below : (n : ℕ) → depth_at (depth_at n + 5) ≡ depth_at n + 5
depth_below n = whole_fives (n / 5)
