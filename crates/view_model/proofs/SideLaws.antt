-- Laws of a side.
use Rattle.std.proofs.Common.{◌≡◌, ℕ, ◌+◌, ◌-◌, ◌/◌, ◌^◌, ◌<◌, ◌≤◌, ◌∙◌, sym, subst, refl, arith, Bool, true, false, cond, eqb, leb, Option, Some, None}
use Rattle.std.specs.Int.{bit_at}
use Rattle.std.proofs.lemmas.Bool.{eqb-true, eq-eqb, le-leb}
use Rattle.std.proofs.lemmas.Nat.Bits.{bit_at-zero, bit_at-pow_same}
use Rattle.std.proofs.lemmas.Nat.{mod_below}
use Rattle.std.proofs.Math.Nat.{mod-eq_of_lt}
use Rattle.trie_model.specs.Nets.{Net, IsNet, covers, masked}
use Rattle.trie_model.specs.Views.{depth_at, data_net, child_net, child_toward, ViewValue, Has, IsView}
use Rattle.trie_model.proofs.Places.{both_hold, elim-false, depth_le, level_le, same_data_net, covers_len, covers_way, covers_toward, toward_covers}
use Rattle.trie_model.proofs.NodeLaws.{covers_trans}
use Rattle.view_model.specs.Sides.{SideHasItem, SideHasPrefix, IsAligned, IsUsableSide, IsAlignedSide, IsInnerSide}
use Rattle.view_model.specs.Sides.{side_data_bits, side_child_bits, HasRoomForChild}
use Rattle.view_model.proofs.Bits.{one-zero, depth_step}

-- ---- a side that lies in a place is aligned with it

-- A longer place stands at a node that is no less deep.
pub depth_mono : (a b : ℕ) → a ≤ b → depth_at a ≤ depth_at b
depth_mono a b h = omega arith

-- A place inside another stands at its node or below it.
pub aligned_in : (w : ℕ) (place side : Net) → side.len ≤ w → covers w place side ≡ true → IsAligned w place side
aligned_in w place side fits c =
    let le = covers_len w place side c in
    let top = depth_le place.len in
    record {
      deeper = depth_mono place.len side.len le;
      node = covers_way w (depth_at place.len) place side (omega (arith, le, fits)) top c;
    }

-- A side inside a place stands at its node or below it.
pub side_in_ok : {V Y : Type 0} (w : ℕ) (valid : V → Type 0) (tell : V → ViewValue Y) (law : (v : V) → valid v →
    IsView w (tell v)) (place : Net) (side : Option V) → IsInnerSide valid tell w place side → IsAlignedSide valid tell w place side
side_in_ok w valid tell law place None ok = tt
side_in_ok w valid tell law place (Some v) ok = (ok.0, aligned_in w place (tell v).place (law v ok.0).place_ok.len_fits ok.1)

-- A side beside a place may be used.
pub side_valid : {V Y : Type 0} (w : ℕ) (valid : V → Type 0) (tell : V → ViewValue Y) (place : Net) (side : Option V) →
    IsAlignedSide valid tell w place side → IsUsableSide valid side
side_valid w valid tell place None ok = tt
side_valid w valid tell place (Some v) ok = ok.0

-- A side inside a place may be used.
pub in_valid : {V Y : Type 0} (w : ℕ) (valid : V → Type 0) (tell : V → ViewValue Y) (place : Net) (side : Option V) → IsInnerSide valid tell w place side →
    IsUsableSide valid side
in_valid w valid tell place None ok = tt
in_valid w valid tell place (Some v) ok = ok.0

-- ---- the pairs of a side

-- Each pair of a side is one of a network.
pub side_pairs : {V Y : Type 0} (w : ℕ) (valid : V → Type 0) (tell : V → ViewValue Y) (law : (v : V) → valid v → IsView w (tell v)) (side : Option V) →
    IsUsableSide valid side → (n : Net) (y : Y) → SideHasItem tell side n y → IsNet w n
side_pairs w valid tell law None ok n y h = absurd h
side_pairs w valid tell law (Some v) ok n y h = ((law v ok).pairs n y h).0

-- Each pair of a side inside a place lies in this place.
pub side_inside : {V Y : Type 0} (w : ℕ) (valid : V → Type 0) (tell : V → ViewValue Y) (law : (v : V) → valid v →
    IsView w (tell v)) (place : Net) (side : Option V) → IsInnerSide valid tell w place side → (n : Net) (y : Y) → SideHasItem tell side n y →
    covers w place n ≡ true
side_inside w valid tell law place None ok n y h = absurd h
side_inside w valid tell law place (Some v) ok n y h = let l = law v ok.0 in covers_trans w place (tell v).place n l.place_ok.len_fits ok.1 (l.pairs n y h).1

-- A prefix has one item in a side.
pub side_one : {V Y : Type 0} (w : ℕ) (valid : V → Type 0) (tell : V → ViewValue Y) (law : (v : V) → valid v → IsView w (tell v)) (side : Option V) →
    IsUsableSide valid side → (n : Net) (x y : Y) → SideHasItem tell side n x → SideHasItem tell side n y → x ≡ y
side_one w valid tell law None ok n x y p q = absurd p
side_one w valid tell law (Some v) ok n x y p q = (law v ok).one n x y p q

-- ---- the data bits of a side

here_told : {Y : Type 0} (w : ℕ) (t : ViewValue Y) (ok : IsView w t) (place : Net) (al : IsAligned w place t.place) (bit : ℕ) → bit < 31 → (b : Bool) →
    eqb (depth_at t.place.len) (depth_at place.len) ≡ b → bit_at (cond b t.data_bits 0) bit ≡ 1 → Has t (data_net w place bit)
here_told w t ok place al bit lt true e h = subst (λ n. Has t n) (same_data_net w bit place t.place (eqb-true _ _ e) al.node) (ok.told bit lt h)
here_told w t ok place al bit lt false e h = absurd (one-zero _ h (bit_at-zero bit))

here_untold : {Y : Type 0} (w : ℕ) (t : ViewValue Y) (ok : IsView w t) (place : Net) (al : IsAligned w place t.place) (bit : ℕ) → bit < 31 → (b : Bool) →
    eqb (depth_at t.place.len) (depth_at place.len) ≡ b → Has t (data_net w place bit) → bit_at (cond b t.data_bits 0) bit ≡ 1
here_untold w t ok place al bit lt true e h =
    ok.untold bit h.0 lt (subst (λ n. t.at n h.0) (sym (same_data_net w bit place t.place (eqb-true _ _ e) al.node)) h.1)
here_untold w t ok place al bit lt false e h =
    let long = covers_len w t.place (data_net w place bit) (ok.pairs _ h.0 h.1).1 in
    let apart : depth_at place.len ≡ depth_at t.place.len → ⊥ = λ q. elim-false (sym e ∙ eq-eqb _ _ (sym q)) in
    let deep = depth_step place.len t.place.len al.deeper apart in
    let top = depth_le t.place.len in
    absurd (omega (arith, long, deep, top, level_le bit))

-- A data bit of a side that is set has a pair.
pub side_told : {V Y : Type 0} (w : ℕ) (valid : V → Type 0) (tell : V → ViewValue Y) (law : (v : V) → valid v →
    IsView w (tell v)) (place : Net) (side : Option V) (ok : IsAlignedSide valid tell w place side) (bit : ℕ) → bit < 31 →
    bit_at (side_data_bits tell (depth_at place.len) side) bit ≡ 1 → SideHasPrefix tell side (data_net w place bit)
side_told w valid tell law place None ok bit lt h = absurd (one-zero _ h (bit_at-zero bit))
side_told w valid tell law place (Some v) ok bit lt h =
    here_told w (tell v) (law v ok.0) place ok.1 bit lt (eqb (depth_at (tell v).place.len) (depth_at place.len)) refl h

-- A pair of a data bit of a side has its bit set.
pub side_untold : {V Y : Type 0} (w : ℕ) (valid : V → Type 0) (tell : V → ViewValue Y) (law : (v : V) → valid v →
    IsView w (tell v)) (place : Net) (side : Option V) (ok : IsAlignedSide valid tell w place side) (bit : ℕ) (y : Y) → bit < 31 →
    SideHasItem tell side (data_net w place bit) y → bit_at (side_data_bits tell (depth_at place.len) side) bit ≡ 1
side_untold w valid tell law place None ok bit y lt h = absurd h
side_untold w valid tell law place (Some v) ok bit y lt h =
    here_untold w (tell v) (law v ok.0) place ok.1 bit lt (eqb (depth_at (tell v).place.len) (depth_at place.len)) refl (y, h)

cond_fits : (b : Bool) (n : ℕ) → n < 2 ^ 31 → cond b n 0 < 2 ^ 31
cond_fits true n h = h
cond_fits false n h = omega arith

-- The data bits of a side are 31.
pub side_fits : {V Y : Type 0} (w : ℕ) (valid : V → Type 0) (tell : V → ViewValue Y) (law : (v : V) → valid v →
    IsView w (tell v)) (place : Net) (side : Option V) (ok : IsAlignedSide valid tell w place side) → side_data_bits tell (depth_at place.len) side < 2 ^ 31
side_fits w valid tell law place None ok = omega arith
side_fits w valid tell law place (Some v) ok = cond_fits (eqb (depth_at (tell v).place.len) (depth_at place.len)) (tell v).data_bits (law v ok.0).data_fit

-- The same of a side that may be used.
pub side_data_bits_fit : {V Y : Type 0} (w : ℕ) (valid : V → Type 0) (tell : V → ViewValue Y) (law : (v : V) → valid v →
    IsView w (tell v)) (d : ℕ) (side : Option V) → IsUsableSide valid side → side_data_bits tell d side < 2 ^ 31
side_data_bits_fit w valid tell law d None ok = omega arith
side_data_bits_fit w valid tell law d (Some v) ok = cond_fits (eqb (depth_at (tell v).place.len) d) (tell v).data_bits (law v ok).data_fit

-- ---- the children of a side

toward_small : (w d n : ℕ) → child_toward w d n < 32
toward_small w d n = mod_below (n / 2 ^ (w - (d + 5))) 32 (omega arith)

-- A power of two below 32 fits 32 bits.
pub pow_fits : (k : ℕ) → k < 32 → 2 ^ k < 2 ^ 32
pow_fits k h = grind (arith, Rattle.std.proofs.Math.Pow.pow-lt)

children_fit : (b : Bool) (n k : ℕ) → n < 2 ^ 32 → k < 32 → cond b n (2 ^ k) < 2 ^ 32
children_fit true n k h lt = h
children_fit false n k h lt = pow_fits k lt

-- The children of a side are 32.
pub side_child_bits_fit : {V Y : Type 0} (w : ℕ) (valid : V → Type 0) (tell : V → ViewValue Y) (law : (v : V) → valid v →
    IsView w (tell v)) (d : ℕ) (side : Option V) → IsUsableSide valid side → side_child_bits tell w d side < 2 ^ 32
side_child_bits_fit w valid tell law d None ok = omega arith
side_child_bits_fit w valid tell law d (Some v) ok =
    children_fit (eqb (depth_at (tell v).place.len) d) (tell v).child_bits (child_toward w d (tell v).place.bits) (law v ok).children_fit
    (toward_small w d (tell v).place.bits)

-- A side that stands deeper stands at least a level deeper.
pub long_place : {Y : Type 0} (place : Net) (t : ViewValue Y) (w : ℕ) → IsAligned w place t.place → (depth_at place.len ≡ depth_at t.place.len → ⊥) →
    depth_at place.len + 5 ≤ t.place.len
long_place place t w al apart =
    let far = depth_step place.len t.place.len al.deeper apart in
    let top = depth_le t.place.len in
    omega (arith, far, top)

here_below : {Y : Type 0} (w : ℕ) (t : ViewValue Y) (ok : IsView w t) (place : Net) (al : IsAligned w place t.place) (n : Net) (y : Y) → t.at n y →
    depth_at place.len + 5 ≤ n.len → (b : Bool) → eqb (depth_at t.place.len) (depth_at place.len) ≡ b →
    bit_at (cond b t.child_bits (2 ^ child_toward w (depth_at place.len) t.place.bits)) (child_toward w (depth_at place.len) n.bits) ≡ 1
here_below w t ok place al n y h deep true e =
    subst (λ d. bit_at t.child_bits (child_toward w d n.bits) ≡ 1) (eqb-true _ _ e)
    (ok.below n y h (subst (λ d. d + 5 ≤ n.len) (sym (eqb-true _ _ e)) deep))
here_below w t ok place al n y h deep false e =
    let d : ℕ = depth_at place.len in
    let long = long_place place t w al (λ q. elim-false (sym e ∙ eq-eqb _ _ (sym q))) in
    let fits : d + 5 ≤ w = let f = ok.place_ok.len_fits in omega (arith, long, f) in
    let in_t = (ok.pairs n y h).1 in
    let over : covers w (child_net w place (child_toward w d t.place.bits)) t.place ≡ true = toward_covers w place t.place fits long al.node in
    let over_n = covers_trans w (child_net w place (child_toward w d t.place.bits)) t.place n ok.place_ok.len_fits over in_t in
    let way : masked w n.bits d ≡ masked w place.bits d = covers_way w d t.place n ok.place_ok.len_fits (omega (arith, long)) in_t ∙ al.node in
    subst (λ k. bit_at (2 ^ child_toward w d t.place.bits) k ≡ 1) (sym (covers_toward w (child_toward w d t.place.bits) place n fits way over_n))
    (bit_at-pow_same (child_toward w d t.place.bits))

-- Each pair of a side below the node has its child bit set.
pub side_below : {V Y : Type 0} (w : ℕ) (valid : V → Type 0) (tell : V → ViewValue Y) (law : (v : V) → valid v →
    IsView w (tell v)) (place : Net) (side : Option V) (ok : IsAlignedSide valid tell w place side) (n : Net) (y : Y) → SideHasItem tell side n y →
    depth_at place.len + 5 ≤ n.len → bit_at (side_child_bits tell w (depth_at place.len) side) (child_toward w (depth_at place.len) n.bits) ≡ 1
side_below w valid tell law place None ok n y h deep = absurd h
side_below w valid tell law place (Some v) ok n y h deep =
    here_below w (tell v) (law v ok.0) place ok.1 n y h deep (eqb (depth_at (tell v).place.len) (depth_at place.len)) refl

here_deep : {Y : Type 0} (w : ℕ) (t : ViewValue Y) (ok : IsView w t) (place : Net) (al : IsAligned w place t.place) (bit : ℕ) → (b : Bool) →
    eqb (depth_at t.place.len) (depth_at place.len) ≡ b →
    bit_at (cond b t.child_bits (2 ^ child_toward w (depth_at place.len) t.place.bits)) bit ≡ 1 → depth_at place.len + 5 ≤ w
here_deep w t ok place al bit true e h = subst (λ d. d + 5 ≤ w) (eqb-true _ _ e) (ok.deep bit h)
here_deep w t ok place al bit false e h =
    let long = long_place place t w al (λ q. elim-false (sym e ∙ eq-eqb _ _ (sym q))) in
    let f = ok.place_ok.len_fits in
    omega (arith, long, f)

-- A node with a child below which a side may have a pair has room for it.
pub side_deep : {V Y : Type 0} (w : ℕ) (valid : V → Type 0) (tell : V → ViewValue Y) (law : (v : V) → valid v →
    IsView w (tell v)) (place : Net) (side : Option V) (ok : IsAlignedSide valid tell w place side) (bit : ℕ) →
    bit_at (side_child_bits tell w (depth_at place.len) side) bit ≡ 1 → depth_at place.len + 5 ≤ w
side_deep w valid tell law place None ok bit h = absurd (one-zero _ h (bit_at-zero bit))
side_deep w valid tell law place (Some v) ok bit h =
    here_deep w (tell v) (law v ok.0) place ok.1 bit (eqb (depth_at (tell v).place.len) (depth_at place.len)) refl h

-- ---- the place of a side

-- A network contains itself.
pub covers_self : (w : ℕ) (a : Net) → IsNet w a → covers w a a ≡ true
covers_self w a ok = both_hold (leb a.len a.len) _ (le-leb a.len a.len (omega arith)) (eq-eqb _ _ ok.no_rest)

-- A side below the node leaves room for a child.
pub side_room : {V Y : Type 0} (w : ℕ) (valid : V → Type 0) (tell : V → ViewValue Y) (law : (v : V) → valid v →
    IsView w (tell v)) (place : Net) (depth : ℕ) (side : Option V) → depth_at place.len ≡ depth → IsAlignedSide valid tell w place side →
    HasRoomForChild tell w depth side
side_room w valid tell law place depth None e ok = tt
side_room w valid tell law place depth (Some v) e ok = λ ne.
    let long = long_place place (tell v) w ok.1 (λ q. ne (sym q ∙ e)) in
    let fits = (law v ok.0).place_ok.len_fits in
    omega (arith, long, fits, e)

-- A place stands at its own node.
pub aligned_same : (w : ℕ) (place : Net) → IsNet w place → IsAligned w place place
aligned_same w place ok = aligned_in w place place ok.len_fits (covers_self w place ok)
