-- Laws of the longest pair that contains a prefix.
use Rattle.std.proofs.Common.{◌≡◌, ℕ, ◌+◌, ◌-◌, ◌*◌, ◌^◌, ◌<◌, ◌≤◌, ◌∙◌, sym, ap, subst, refl, arith, Bool, true}
use Rattle.std.proofs.Common.{false, cond, bit_and, eqb, Option, Some, None, inl, inr}
use Rattle.std.specs.Prelude.{◌↔◌, ◌⊎◌}
use Rattle.std.specs.Int.{bit_at, w32, leading_zeros}
use Rattle.std.proofs.lemmas.Nat.{and_le_l}
use Rattle.std.proofs.lemmas.Nat.Bits.{bit_at-zero}
use Rattle.std.proofs.lemmas.Bool.{eqb-true, eq-eqb}
use Rattle.std.proofs.Common.{lt_of_le_of_lt}
use Rattle.trie_model.specs.Nets.{Net, covers, masked}
use Rattle.trie_model.specs.Spots.{bits_above, data_bit_of, net_of_spot}
use Rattle.trie_model.specs.Views.{depth_at, level_of, net_of_bit, data_net, ViewValue, IsView}
use Rattle.trie_model.proofs.Places.{covers_len, covers_bits, covers_way, depth_le, level_le, bit_below, elim-false, same_data_net}
use Rattle.trie_model.proofs.SpotLaws.{net_back}
use Rattle.trie_model.proofs.MaskLaws.{above_are, inside_covers, spot_net, level_same}
use Rattle.trie_model.proofs.NodeLaws.{covers_trans, covers_between}
use Rattle.trie_model.proofs.LongestLaws.{Highest, highest, cond_is, level_grows}
use Rattle.trie_model.proofs.WalkLaws.{short_small}
use Rattle.view_model.specs.Sides.{SideHasItem, IsAlignedSide, side_data_bits}
use Rattle.view_model.specs.CoveringUnion.{Longest, InNode}
use Rattle.view_model.proofs.Bits.{one-zero, and_bit_l, and_bit_r, and_bits, either}
use Rattle.view_model.proofs.SideLaws.{side_told, side_untold, side_fits}
use Rattle.view_model.proofs.SplitLaws.{bits_at_depth}

-- ---- any pairs

-- The longest pair stays so among pairs that agree on what contains the prefix.
pub longest_same : {Y : Type 0} (w : ℕ) (S S' : Net → Y → Type 0) (above : Option (Net × Y)) (n : Net) →
    ((m : Net) (y : Y) → covers w m n ≡ true → S m y ↔ S' m y) → (l : Option (Net × Y)) → Longest w S above n l → Longest w S' above n l
longest_same w S S' above n f None h = ((λ m y s c. h.0 m y ((f m y c).1 s) c), h.1)
longest_same w S S' above n f (Some p) (inl h) = inl ((f p.0 p.1 h.1).0 h.0, h.1, λ m y s c. h.2 m y ((f m y c).1 s) c)
longest_same w S S' above n f (Some p) (inr h) = inr ((λ m y s c. h.0 m y ((f m y c).1 s) c), h.1)

flip : {A B : Type 0} → A ↔ B → B ↔ A
flip f = (f.1, f.0)

-- The longest of pairs that agree on what contains the prefix is the same.
pub longest_alike : {Y : Type 0} (w : ℕ) (S S' : Net → Y → Type 0) (above : Option (Net × Y)) (n : Net) →
    ((m : Net) (y : Y) → covers w m n ≡ true → S m y ↔ S' m y) → (l : Option (Net × Y)) → Longest w S above n l ↔ Longest w S' above n l
longest_alike w S S' above n f l = (longest_same w S S' above n f l, longest_same w S' S above n (λ m y c. flip (f m y c)) l)

-- Two prefixes of one length that contain a third are one.
pub same_cover : (w : ℕ) (a b n : Net) → a.len ≡ b.len → covers w a n ≡ true → covers w b n ≡ true → a ≡ b
same_cover w a b n e p q =
    let f : ℕ → ℕ → Net = λ x y. record { bits = x; len = y } in
    let bits : a.bits ≡ b.bits = sym (covers_bits w a n p) ∙ ap (masked w n.bits) e ∙ covers_bits w b n q in
    ap (λ x. f x a.len) bits ∙ ap (f b.bits) e

some_none : {X : Type 0} (o : Option X) (x : X) → o ≡ Some x → o ≡ None → ⊥
some_none o x p q = cc

le_both : (a b : ℕ) → a ≤ b → b ≤ a → a ≡ b
le_both a b p q = omega arith

-- There is one longest pair.
pub longest_one : {Y : Type 0} (w : ℕ) (S : Net → Y → Type 0) (above : Option (Net × Y)) (n : Net) → ((m : Net) (x y : Y) → S m x → S m y → x ≡ y) →
    (k l : Option (Net × Y)) → Longest w S above n k → Longest w S above n l → k ≡ l
longest_one w S above n one None None p q = refl
longest_one w S above n one None (Some b) p (inl q) = absurd (p.0 b.0 b.1 q.0 q.1)
longest_one w S above n one None (Some b) p (inr q) = absurd (some_none above b q.1 p.1)
longest_one w S above n one (Some a) None (inl p) q = absurd (q.0 a.0 a.1 p.0 p.1)
longest_one w S above n one (Some a) None (inr p) q = absurd (some_none above a p.1 q.1)
longest_one {Y} w S above n one (Some a) (Some b) (inl p) (inl q) =
    let e : a.0 ≡ b.0 = same_cover w a.0 b.0 n (le_both _ _ (q.2 a.0 a.1 p.0 p.1) (p.2 b.0 b.1 q.0 q.1)) p.1 q.1 in
    let f : Net → Y → Option (Net × Y) = λ m y. Some (m, y) in
    ap (λ m. f m a.1) e ∙ ap (f b.0) (one b.0 a.1 b.1 (subst (λ m. S m a.1) e p.0) q.0)
longest_one w S above n one (Some a) (Some b) (inl p) (inr q) = absurd (q.0 a.0 a.1 p.0 p.1)
longest_one w S above n one (Some a) (Some b) (inr p) (inl q) = absurd (p.0 b.0 b.1 q.0 q.1)
longest_one w S above n one (Some a) (Some b) (inr p) (inr q) = sym p.1 ∙ q.1

-- Where no pair contains the prefix, the longest is what stands above.
pub longest_above : {Y : Type 0} (w : ℕ) (S : Net → Y → Type 0) (above : Option (Net × Y)) (n : Net) →
    ((m : Net) (y : Y) → S m y → covers w m n ≡ true → ⊥) → Longest w S above n above
longest_above w S None n h = (h, refl)
longest_above w S (Some p) n h = inr (h, refl)

-- Below a prefix, the longest is one of those below it, or the longest that contains it.
pub longest_below : {Y : Type 0} (w e : ℕ) (S C : Net → Y → Type 0) (above low : Option (Net × Y)) (c n : Net) →
    ((m : Net) (x y : Y) → S m x → S m y → x ≡ y) → ((m : Net) (y : Y) → S m y → m.len < e) → ((m : Net) (y : Y) → C m y → e ≤ m.len) → c.len ≡ e →
    c.len ≤ w → covers w c n ≡ true → Longest w S above c low → (l : Option (Net × Y)) → Longest w C low n l ↔ Longest w (λ m y. S m y ⊎ C m y) above n l
longest_below {Y} w e S C above low c n one short long len fits in_c is l = (up l, down l)
  where
    near : (m : Net) (y : Y) → S m y → covers w m n ≡ true → covers w m c ≡ true
    near m y s over = covers_between w m c n fits (let lt = short m y s in omega (arith, lt, len)) over in_c

    far : (m : Net) → covers w m c ≡ true → covers w m n ≡ true
    far m over = covers_trans w m c n fits over in_c

    apart : (m : Net) (y : Y) (k : Net) (z : Y) → S m y → C k z → k.len ≤ m.len → ⊥
    apart m y k z s t le = let lt = short m y s in let ge = long k z t in omega (arith, lt, ge, le)

    less : (m : Net) (y : Y) (k : Net) (z : Y) → S m y → C k z → m.len ≤ k.len
    less m y k z s t = let lt = short m y s in let ge = long k z t in omega (arith, lt, ge)

    up : (l : Option (Net × Y)) → Longest w C low n l → Longest w (λ m y. S m y ⊎ C m y) above n l
    up None h =
        let k = subst (Longest w S above c) h.1 is in
        ((λ m y s over. either (λ a. k.0 m y a (near m y a over)) (λ a. h.0 m y a over) s), k.1)
    up (Some p) (inl h) = inl (inr h.0, h.1, λ m y s over. either (λ a. less m y p.0 p.1 a h.0) (λ a. h.2 m y a over) s)
    up (Some p) (inr h) = from (subst (Longest w S above c) h.1 is)
      where
        from : Longest w S above c (Some p) → Longest w (λ m y. S m y ⊎ C m y) above n (Some p)
        from (inl k) = inl (inl k.0, far p.0 k.1, λ m y s over. either (λ a. k.2 m y a (near m y a over)) (λ a. absurd (h.0 m y a over)) s)
        from (inr k) = inr ((λ m y s over. either (λ a. k.0 m y a (near m y a over)) (λ a. h.0 m y a over) s), k.1)

    down : (l : Option (Net × Y)) → Longest w (λ m y. S m y ⊎ C m y) above n l → Longest w C low n l
    down None h = ((λ m y s over. h.0 m y (inr s) over), longest_one w S above c one low None is ((λ m y s over. h.0 m y (inl s) (far m over)), h.1))
    down (Some p) (inl h) = from h.0
      where
        from : S p.0 p.1 ⊎ C p.0 p.1 → Longest w C low n (Some p)
        from (inl s) = inr (
          (λ m y t over. apart p.0 p.1 m y s t (h.2 m y (inr t) over)),
          longest_one w S above c one low (Some p) is (inl (s, near p.0 p.1 s h.1, λ m y t over. h.2 m y (inl t) (far m over))),
        )
        from (inr s) = inl (s, h.1, λ m y t over. h.2 m y (inr t) over)
    down (Some p) (inr h) = inr (
      (λ m y s over. h.0 m y (inr s) over),
      longest_one w S above c one low (Some p) is (inr ((λ m y s over. h.0 m y (inl s) (far m over)), h.1)),
    )

-- ---- the pairs of a node

-- The data bits of the node that contain a prefix.
pub record CoverMask (w : ℕ) (place n : Net) (mask : ℕ) : Type 0 where
  pub is : (bit : ℕ) → bit < 31 → bit_at mask bit ≡ cond (covers w (data_net w place bit) n) 1 0

-- A pair of the node has its data bit.
pub record HasDataBit {V Y : Type 0} (tell : V → ViewValue Y) (w : ℕ) (place : Net) (all : Option V) (m : Net) (bit : ℕ) : Type 0 where
  pub small : bit < 31
  pub set : bit_at (side_data_bits tell (depth_at place.len) all) bit ≡ 1
  pub net : data_net w place bit ≡ m

-- A pair of the node has a data bit, which is set.
pub has_data_bit : {V Y : Type 0} (w : ℕ) (valid : V → Type 0) (tell : V → ViewValue Y) (law : (v : V) → valid v →
    IsView w (tell v)) (place : Net) (all : Option V) → IsAlignedSide valid tell w place all → (m : Net) (y : Y) →
    InNode tell all (depth_at place.len) m y → HasDataBit tell w place all m (data_bit_of w (depth_at place.len) m.bits m.len)
has_data_bit w valid tell law place None ok m y h = absurd h.1
has_data_bit w valid tell law place (Some v) ok m y h =
    let l = law v ok.0 in
    let p = l.pairs m y h.1 in
    let d : ℕ = depth_at place.len in
    let top = depth_le (tell v).place.len in
    let deeper = ok.1.deeper in
    let start : d ≤ (tell v).place.len = omega (arith, top, deeper) in
    let low : d ≤ m.len = let le = covers_len w (tell v).place m p.1 in omega (arith, le, start) in
    let way : masked w m.bits d ≡ masked w place.bits d = covers_way w d (tell v).place m l.place_ok.len_fits start p.1 ∙ ok.1.node in
    let net : data_net w place (data_bit_of w d m.bits m.len) ≡ m = net_back w d place.bits m p.0 low h.0 way in
    let small : data_bit_of w d m.bits m.len < 31 = short_small w d m (let lt = h.0 in omega (arith, lt, low)) in
    record {
      small = small;
      set = side_untold w valid tell law place (Some v) ok (data_bit_of w d m.bits m.len) y small (subst (λ k. (tell v).at k y) (sym net) h.1);
      net = net;
    }

-- Its bit is in the mask where it contains the prefix.
masked_in : {V Y : Type 0} (w : ℕ) (tell : V → ViewValue Y) (place n m : Net) (all : Option V) (mask bit : ℕ) → CoverMask w place n mask →
    HasDataBit tell w place all m bit → covers w m n ≡ true → bit_at (bit_and (side_data_bits tell (depth_at place.len) all) mask) bit ≡ 1
masked_in w tell place n m all mask bit over k c = and_bits _ _ bit k.set (over.is bit k.small ∙ ap (λ t. cond t 1 0) (ap (λ p. covers w p n) k.net ∙ c))

-- Where no set bit contains the prefix, no pair of the node does.
pub node_none : {V Y : Type 0} (w : ℕ) (valid : V → Type 0) (tell : V → ViewValue Y) (law : (v : V) → valid v →
    IsView w (tell v)) (place n : Net) (all : Option V) (mask : ℕ) → IsAlignedSide valid tell w place all → CoverMask w place n mask →
    bit_and (side_data_bits tell (depth_at place.len) all) mask ≡ 0 → (m : Net) (y : Y) → InNode tell all (depth_at place.len) m y → covers w m n ≡ true → ⊥
node_none w valid tell law place n all mask ok over z m y h c =
    let k = has_data_bit w valid tell law place all ok m y h in
    one-zero _ (masked_in w tell place n m all mask _ over k c) (ap (λ x. bit_at x (data_bit_of w (depth_at place.len) m.bits m.len)) z ∙
    bit_at-zero (data_bit_of w (depth_at place.len) m.bits m.len))

level_more : (w : ℕ) (place : Net) (a b : ℕ) → a < 31 → b < 31 → a ≤ b → (data_net w place a).len ≤ (data_net w place b).len
level_more w place a b p q le = let g = level_grows a b p q le in omega (arith, g)

-- The highest set bit that contains the prefix is that of the longest pair of the node.
pub node_some : {V Y : Type 0} (w : ℕ) (valid : V → Type 0) (tell : V → ViewValue Y) (law : (v : V) → valid v →
    IsView w (tell v)) (place n : Net) (all : Option V) (mask j : ℕ) (y : Y) (above : Option (Net × Y)) → IsAlignedSide valid tell w place all →
    CoverMask w place n mask → Highest (bit_and (side_data_bits tell (depth_at place.len) all) mask) j → SideHasItem tell all (data_net w place j) y →
    Longest w (InNode tell all (depth_at place.len)) above n (Some (data_net w place j, y))
node_some w valid tell law place n all mask j y above ok over high at =
    let small : j < 31 = bit_below 31 _ j (side_fits w valid tell law place all ok) (and_bit_l _ mask j high.set) in
    let short : (data_net w place j).len < depth_at place.len + 5 = let l = level_le j in omega (arith, l) in
    inl (
      (short, at),
      cond_is _ _ (over.is j small) (and_bit_r (side_data_bits tell (depth_at place.len) all) mask j high.set),
      λ m z h c.
          let k = has_data_bit w valid tell law place all ok m z h in
          subst (λ p. p.len ≤ (data_net w place j).len) k.net
          (level_more w place _ j k.small small (high.most _ (masked_in w tell place n m all mask _ over k c))),
    )

-- The mask of a data bit.
pub bit_cover_mask : (w : ℕ) (place : Net) (bit : ℕ) → bit < 31 → depth_at place.len + level_of bit ≤ w →
    CoverMask w place (data_net w place bit) (bits_above (bit + 1))
bit_cover_mask w place bit lt fits = record {
  is = λ b small.
      above_are (bit + 1) b (omega arith) (omega (arith, lt)) small
      ∙ ap (λ t. cond t 1 0) (sym (
      ap (λ p. covers w p (data_net w place bit)) (sym (spot_net w (depth_at place.len) place.bits b small))
      ∙ ap (λ p. covers w (net_of_spot w (depth_at place.len) place.bits (b + 1)) p) (sym (spot_net w (depth_at place.len) place.bits bit lt))
      ∙ inside_covers w (depth_at place.len) place.bits (b + 1) (bit + 1) (omega arith) (omega (arith, small)) (omega arith) (omega (
        arith,
        lt,
      )) (subst (λ l. depth_at place.len + l ≤ w) (sym (level_same bit lt)) fits)));
}

-- The longest pair of the node that contains a data bit's prefix.
pub node_exists : {V Y : Type 0} (w : ℕ) (valid : V → Type 0) (tell : V → ViewValue Y) (law : (v : V) → valid v →
    IsView w (tell v)) (place : Net) (all : Option V) (above : Option (Net × Y)) (bit : ℕ) → IsAlignedSide valid tell w place all → bit < 31 →
    depth_at place.len + level_of bit ≤ w → (l : Option (Net × Y)) × Longest w (InNode tell all (depth_at place.len)) above (data_net w place bit) l
node_exists {V} {Y} w valid tell law place all above bit ok lt fits =
    at (eqb (bit_and (side_data_bits tell (depth_at place.len) all) (bits_above (bit + 1))) 0) refl
  where
    at : (t : Bool) → eqb (bit_and (side_data_bits tell (depth_at place.len) all) (bits_above (bit + 1))) 0 ≡ t → (l : Option (Net × Y)) ×
        Longest w (InNode tell all (depth_at place.len)) above (data_net w place bit) l
    at true e = (
      above,
      longest_above w _ above (data_net w place bit)
          (node_none w valid tell law place (data_net w place bit) all (bits_above (bit + 1)) ok (bit_cover_mask w place bit lt fits) (eqb-true _ _ e)),
    )
    at false e =
        let small = side_fits w valid tell law place all ok in
        let high = highest (bit_and (side_data_bits tell (depth_at place.len) all) (bits_above (bit + 1)))
        (lt_of_le_of_lt (and_le_l (side_data_bits tell (depth_at place.len) all) (bits_above (bit + 1)))
        (let more : side_data_bits tell (depth_at place.len) all < 2 ^ 32 = omega (arith, small) in more)) (λ z. elim-false (sym e ∙ eq-eqb _ _ z)) in
        let j : ℕ = 31 - leading_zeros w32 (bit_and (side_data_bits tell (depth_at place.len) all) (bits_above (bit + 1))) in
        let on = and_bit_l (side_data_bits tell (depth_at place.len) all) (bits_above (bit + 1)) j high.set in
        let has = side_told w valid tell law place all ok j (bit_below 31 _ j small on) on in (
          Some (data_net w place j, has.0),
          node_some w valid tell law place (data_net w place bit) all (bits_above (bit + 1)) j has.0 above ok (bit_cover_mask w place bit lt fits) high has.1,
        )

-- ---- by the mask of a key

same_bit_net : (w d p q bit : ℕ) → masked w p d ≡ masked w q d → net_of_bit w d p bit ≡ net_of_bit w d q bit
same_bit_net w d p q bit e = let f : ℕ → Net = λ x. record {
  bits = x + (bit + 1 - 2 ^ level_of bit) * 2 ^ (w - (d + level_of bit));
  len =
      d + level_of bit;
} in ap f e

-- The mask of the data bits that contain a key.
pub record KeyMask (w depth key len mask : ℕ) : Type 0 where
  pub is : (bit : ℕ) → bit < 31 → bit_at mask bit ≡ cond (covers w (net_of_bit w depth key bit) (record { bits = key; len = len })) 1 0

-- The mask of what contains a key is that of its prefix in the node.
pub key_cover_mask : (w : ℕ) (place : Net) (depth key len mask : ℕ) → depth_at place.len ≡ depth → masked w key depth ≡ masked w place.bits depth →
    KeyMask w depth key len mask → CoverMask w place (record { bits = key; len = len }) mask
key_cover_mask w place depth key len mask d e m = record {
  is = λ bit lt. m.is bit lt ∙ ap (λ p. cond (covers w p (record { bits = key; len = len })) 1 0) (same_bit_net w depth key place.bits bit e ∙
      ap (λ x. net_of_bit w x place.bits bit) (sym d));
}

-- Where the mask meets no set bit, the longest pair is what stands above.
pub lpm_none : {V Y : Type 0} (w : ℕ) (valid : V → Type 0) (tell : V → ViewValue Y) (law : (v : V) → valid v →
    IsView w (tell v)) (place : Net) (depth key len mask : ℕ) (side : Option V) (v : V) (above : Option (Net × Y)) → side ≡ Some v →
    depth_at place.len ≡ depth → depth_at (tell v).place.len ≡ depth → IsAlignedSide valid tell w place side →
    masked w key depth ≡ masked w place.bits depth → KeyMask w depth key len mask → bit_and (tell v).data_bits mask ≡ 0 →
    Longest w (InNode tell side depth) above (record { bits = key; len = len }) above
lpm_none w valid tell law place depth key len mask side v above e d here ok m k z =
    longest_above w (InNode tell side depth) above (record { bits = key; len = len })
    (subst (λ x. (p : Net) → (y : _) → InNode tell side x p y → covers w p (record { bits = key; len = len }) ≡ true → ⊥) d
    (node_none w valid tell law place (record { bits = key; len = len }) side mask ok (key_cover_mask w place depth key len mask d m k)
    (ap (λ o. bit_and (side_data_bits tell (depth_at place.len) o) mask) e ∙
    ap (λ b. bit_and b mask) (bits_at_depth tell (depth_at place.len) v (here ∙ sym d)) ∙ z)))

-- The highest bit that the mask meets is that of the longest pair.
pub lpm_some : {V Y : Type 0} (w : ℕ) (valid : V → Type 0) (tell : V → ViewValue Y) (law : (v : V) → valid v →
    IsView w (tell v)) (place : Net) (depth key len mask j : ℕ) (side : Option V) (v : V) (above : Option (Net × Y)) (net : Net) (y : Y) →
    side ≡ Some v → depth_at place.len ≡ depth → depth_at (tell v).place.len ≡ depth → IsAlignedSide valid tell w place side →
    masked w key depth ≡ masked w place.bits depth → KeyMask w depth key len mask → Highest (bit_and (tell v).data_bits mask) j →
    net ≡ net_of_bit w depth key j → (tell v).at (data_net w (tell v).place j) y →
    Longest w (InNode tell side depth) above (record { bits = key; len = len }) (Some (net, y))
lpm_some {V} {Y} w valid tell law place depth key len mask j side v above net y e d here ok m k high is at =
    let n : Net = record { bits = key; len = len } in
    let okv = subst (IsAlignedSide valid tell w place) e ok in
    let bits : side_data_bits tell (depth_at place.len) side ≡ (tell v).data_bits = ap (side_data_bits tell (depth_at place.len)) e ∙
    bits_at_depth tell (depth_at place.len) v (here ∙ sym d) in
    let same : data_net w (tell v).place j ≡ data_net w place j = same_data_net w j place (tell v).place (here ∙ sym d) okv.1.node in
    let net_is : data_net w place j ≡ net = ap (λ x. net_of_bit w x place.bits j) d ∙ sym (same_bit_net w depth key place.bits j m) ∙ sym is in
    let found : Longest w (InNode tell side (depth_at place.len)) above n (Some (data_net w place j, y)) =
    node_some w valid tell law place n side mask j y above ok (key_cover_mask w place depth key len mask d m k)
    (subst (λ b. Highest (bit_and b mask) j) (sym bits) high)
    (subst (λ o. SideHasItem tell o (data_net w place j) y) (sym e) (subst (λ p. (tell v).at p y) same at)) in
    let pair : Net → Option (Net × Y) = λ p. Some (p, y) in
    subst (λ o. Longest w (InNode tell side depth) above n o) (ap pair net_is)
    (subst (λ x. Longest w (InNode tell side x) above n (Some (data_net w place j, y))) d found)

-- The highest bit that the mask meets is set, and its prefix contains the key.
pub lpm_bit : (w depth key len bits mask j : ℕ) → bits < 2 ^ 31 → len ≤ w → KeyMask w depth key len mask → Highest (bit_and bits mask) j → (j < 31) ×
    (depth + level_of j ≤ w)
lpm_bit w depth key len bits mask j fits low m high =
    let small : j < 31 = bit_below 31 bits j fits (and_bit_l bits mask j high.set) in
    let over = cond_is _ _ (m.is j small) (and_bit_r bits mask j high.set) in
    let le = covers_len w (net_of_bit w depth key j) (record { bits = key; len = len }) over in
    (small, omega (arith, le, low))
