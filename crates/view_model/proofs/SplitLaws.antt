-- A side from which a child is taken.
use Rattle.std.proofs.Common.{◌≡◌, ℕ, ◌+◌, ◌*◌, ◌%◌, ◌^◌, ◌<◌, ◌≤◌, ◌∙◌, sym, ap, subst, refl, arith, Bool, true, false, cond, eqb, Some, None}
use Rattle.std.specs.Int.{bit_at}
use Rattle.std.proofs.lemmas.Bool.{eqb-true, eq-eqb}
use Rattle.std.proofs.lemmas.Nat.Bits.{bit_at-zero, bit_at-pow_other}
use Rattle.std.proofs.Math.Nat.{mod-eq_of_lt}
use Rattle.trie_model.specs.Nets.{Net, covers, masked}
use Rattle.trie_model.specs.Views.{depth_at, child_net, child_toward, ViewValue, IsView, TookChild, IsChild}
use Rattle.trie_model.proofs.Places.{not_true, elim-false, depth_le, same_child_net, covers_len, covers_way, covers_toward, toward_covers}
use Rattle.trie_model.proofs.NodeLaws.{covers_trans}
use Rattle.view_model.specs.Sides.{IsAligned, side_data_bits, side_child_bits, SideSplit}
use Rattle.view_model.proofs.Bits.{one-zero}
use Rattle.view_model.proofs.SideLaws.{covers_self, long_place, pow_fits, side_below}

-- A side that is missing has a missing child, and stays missing.
pub split_none : {V Y : Type 0} (valid : V → Type 0) (tell : V → ViewValue Y) (w bit : ℕ) (place : Net) → SideSplit valid tell w place bit None None None
split_none valid tell w bit place = record {
  child_in = tt;
  rest_ok = tt;
  rest_in = λ h. h;
  child_at = λ n y c. ((λ h. h), (λ h. h));
  rest_at = λ n y c. ((λ h. h), (λ h. h));
  child_inside = λ n y h. absurd h;
  rest_outside = λ n y h. absurd h;
  bits = refl;
  others = λ b ne. refl;
  gone = bit_at-zero bit;
  child_frugal = λ h. h;
  rest_frugal = λ h. h;
}

moved_place : (w : ℕ) (place a b : Net) → a ≡ b → IsAligned w place b → IsAligned w place a
moved_place w place a b e al = rw e al

-- The child_bits of a side in the node itself.
children_here : {V Y : Type 0} (tell : V → ViewValue Y) (w d : ℕ) (v : V) → depth_at (tell v).place.len ≡ d
    → side_child_bits tell w d (Some v) ≡ (tell v).child_bits
children_here tell w d v e = ap (λ b. cond b (tell v).child_bits (2 ^ child_toward w d (tell v).place.bits)) (eq-eqb _ _ e)

off_cond : (a d : ℕ) (b : Bool) (x y : ℕ) → eqb a d ≡ b → (a ≡ d → ⊥) → cond b x y ≡ y
off_cond a d true x y e ne = absurd (ne (eqb-true a d e))
off_cond a d false x y e ne = refl

children_away : {V Y : Type 0} (tell : V → ViewValue Y) (w d : ℕ) (v : V) → (depth_at (tell v).place.len ≡ d → ⊥) →
    side_child_bits tell w d (Some v) ≡ 2 ^ child_toward w d (tell v).place.bits
children_away tell w d v ne = off_cond (depth_at (tell v).place.len) d (eqb (depth_at (tell v).place.len) d) (tell v).child_bits
    (2 ^ child_toward w d (tell v).place.bits) refl ne

-- Both sides have the child.
pub split_here : {V Y : Type 0} (w bit : ℕ) (valid : V → Type 0) (tell : V → ViewValue Y) (law : (v : V) → valid v →
    IsView w (tell v)) (place : Net) (old child rest : V) → valid child → valid rest → IsAligned w place (tell old).place →
    depth_at (tell old).place.len ≡ depth_at place.len → IsChild w bit (tell old) (tell child) → TookChild w bit (tell old) (tell rest) →
    SideSplit valid tell w place bit (Some old) (Some child) (Some rest)
split_here w bit valid tell law place old child rest vc vr al depth is took =
    let e : child_net w (tell old).place bit ≡ child_net w place bit = same_child_net w bit place (tell old).place depth al.node in
    let here : depth_at (tell rest).place.len ≡ depth_at place.len = ap (λ p. depth_at p.len) took.place ∙ depth in
    record {
      child_in = (vc, subst (λ p. covers w p (tell child).place ≡ true) (is.place ∙ e) (covers_self w (tell child).place (law child vc).place_ok));
      rest_ok = (vr, moved_place w place (tell rest).place (tell old).place took.place al);
      rest_in = λ h. (vr, ap (λ p. covers w place p) took.place ∙ h.1);
      child_at = λ n y c. ((λ s. ((is.at n y).0 s).0), (λ s. (is.at n y).1 (s, ap (λ p. covers w p n) e ∙ c)));
      rest_at = λ n y c. ((λ s. ((took.at n y).0 s).0), (λ s. (took.at n y).1 (s, ap (λ p. covers w p n) e ∙ c)));
      child_inside = λ n y s. sym (ap (λ p. covers w p n) e) ∙ ((is.at n y).0 s).1;
      rest_outside = λ n y s. sym (ap (λ p. covers w p n) e) ∙ ((took.at n y).0 s).1;
      bits = ap (λ p. cond (eqb (depth_at p.len) (depth_at place.len)) (tell rest).data_bits 0) took.place ∙
          ap (λ x. cond (eqb (depth_at (tell old).place.len) (depth_at place.len)) x 0) took.data_bits;
      others = λ b ne. ap (λ m. bit_at m b) (children_here tell w (depth_at place.len) rest here) ∙ took.others b ne ∙
          sym (ap (λ m. bit_at m b) (children_here tell w (depth_at place.len) old depth));
      gone = ap (λ m. bit_at m bit) (children_here tell w (depth_at place.len) rest here) ∙ took.gone;
      child_frugal = is.frugal;
      rest_frugal = took.frugal;
    }

-- A place of the node and a pair of the side go the same way.
same_way : {Y : Type 0} (w : ℕ) (t : ViewValue Y) (ok : IsView w t) (place n : Net) (y : Y) → IsAligned w place t.place → t.at n y →
    masked w n.bits (depth_at place.len) ≡ masked w place.bits (depth_at place.len)
same_way w t ok place n y al h =
    let below = depth_le t.place.len in
    covers_way w (depth_at place.len) t.place n ok.place_ok.len_fits (let le : depth_at place.len ≤ t.place.len = omega (arith, al.deeper) in
    le) (ok.pairs n y h).1 ∙ al.node

-- No pair of a side lies below a child that is not set.
unset_apart : {V Y : Type 0} (w bit : ℕ) (valid : V → Type 0) (tell : V → ViewValue Y) (law : (v : V) → valid v →
    IsView w (tell v)) (place : Net) (old : V) → valid old → IsAligned w place (tell old).place → depth_at place.len + 5 ≤ w →
    bit_at (side_child_bits tell w (depth_at place.len) (Some old)) bit ≡ 0 → (n : Net) (y : Y) → (tell old).at n y →
    covers w (child_net w place bit) n ≡ true → ⊥
unset_apart w bit valid tell law place old v al deep unset n y h c =
    let toward = covers_toward w bit place n deep (same_way w (tell old) (law old v) place n y al h) c in
    let long = covers_len w (child_net w place bit) n c in
    one-zero _ (subst (λ b. bit_at (side_child_bits tell w (depth_at place.len) (Some old)) b ≡ 1) toward
    (side_below w valid tell law place (Some old) (v, al) n y h long)) unset

-- The side has no such child, or stands below another.
pub split_missing : {V Y : Type 0} (w bit : ℕ) (valid : V → Type 0) (tell : V → ViewValue Y) (law : (v : V) → valid v →
    IsView w (tell v)) (place : Net) (old : V) → valid old → IsAligned w place (tell old).place → depth_at place.len + 5 ≤ w →
    bit_at (side_child_bits tell w (depth_at place.len) (Some old)) bit ≡ 0 → SideSplit valid tell w place bit (Some old) None (Some old)
split_missing w bit valid tell law place old v al deep unset = record {
  child_in = tt;
  rest_ok = (v, al);
  rest_in = λ h. h;
  child_at = λ n y c. ((λ b. absurd b), (λ h. absurd (unset_apart w bit valid tell law place old v al deep unset n y h c)));
  rest_at = λ n y c. ((λ h. h), (λ h. h));
  child_inside = λ n y h. absurd h;
  rest_outside = λ n y h. not_true _ (λ c. unset_apart w bit valid tell law place old v al deep unset n y h c);
  bits = refl;
  others = λ b ne. refl;
  gone = unset;
  child_frugal = λ h. refl;
  rest_frugal = λ h. h;
}

-- A child that a side in the node lacks has a clear bit.
pub unset_child : {V Y : Type 0} (tell : V → ViewValue Y) (w bit : ℕ) (place : Net) (old : V) → depth_at (tell old).place.len ≡ depth_at place.len →
    (bit_at (tell old).child_bits bit ≡ 0) → bit_at (side_child_bits tell w (depth_at place.len) (Some old)) bit ≡ 0
unset_child tell w bit place old e h = ap (λ m. bit_at m bit) (children_here tell w (depth_at place.len) old e) ∙ h

-- A side below the node has the bit of its own child alone.
pub other_child : {V Y : Type 0} (tell : V → ViewValue Y) (w bit : ℕ) (place : Net) (old : V) → (depth_at (tell old).place.len ≡ depth_at place.len → ⊥) →
    (child_toward w (depth_at place.len) (tell old).place.bits ≡ bit → ⊥) → bit_at (side_child_bits tell w (depth_at place.len) (Some old)) bit ≡ 0
other_child tell w bit place old ne h = ap (λ m. bit_at m bit) (children_away tell w (depth_at place.len) old ne) ∙
    bit_at-pow_other (child_toward w (depth_at place.len) (tell old).place.bits) bit (λ e. h (sym e))

-- The side stands below the child.
pub split_away : {V Y : Type 0} (w bit : ℕ) (valid : V → Type 0) (tell : V → ViewValue Y) (law : (v : V) → valid v →
    IsView w (tell v)) (place : Net) (old : V) → valid old → IsAligned w place (tell old).place →
    (depth_at (tell old).place.len ≡ depth_at place.len → ⊥) → depth_at place.len + 5 ≤ w →
    child_toward w (depth_at place.len) (tell old).place.bits ≡ bit → SideSplit valid tell w place bit (Some old) (Some old) None
split_away w bit valid tell law place old v al apart deep toward =
    let d : ℕ = depth_at place.len in
    let long : d + 5 ≤ (tell old).place.len = long_place place (tell old) w al (λ e. apart (sym e)) in
    let over : covers w (child_net w place bit) (tell old).place ≡ true =
    subst (λ b. covers w (child_net w place b) (tell old).place ≡ true) toward (toward_covers w place (tell old).place deep long al.node) in
    let over_n : (n : Net) → (y : _) → (tell old).at n y → covers w (child_net w place bit) n ≡ true =
    λ n y h. covers_trans w (child_net w place bit) (tell old).place n (law old v).place_ok.len_fits over ((law old v).pairs n y h).1 in
    record {
      child_in = (v, over);
      rest_ok = tt;
      rest_in = λ h. tt;
      child_at = λ n y c. ((λ h. h), (λ h. h));
      rest_at = λ n y c. ((λ b. absurd b), (λ h. absurd (elim-false (sym c ∙ over_n n y h))));
      child_inside = over_n;
      rest_outside = λ n y h. absurd h;
      bits = sym (off_cond (depth_at (tell old).place.len) d (eqb (depth_at (tell old).place.len) d) (tell old).data_bits 0 refl apart);
      others = λ b ne. bit_at-zero b ∙ sym (ap (λ m. bit_at m b) (children_away tell w d old apart) ∙
          bit_at-pow_other (child_toward w d (tell old).place.bits) b (λ e. ne (e ∙ toward)));
      gone = bit_at-zero bit;
      child_frugal = λ h. h;
      rest_frugal = λ h. refl;
    }

-- A shifted 1 is a power of two.
pub one_bit : (k : ℕ) → k < 32 → 1 * 2 ^ k % 4294967296 ≡ 2 ^ k
one_bit k h = let p = pow_fits k h in ap (λ x. x % 4294967296) (let e : 1 * 2 ^ k ≡ 2 ^ k = omega arith in e) ∙ mod-eq_of_lt p

-- The children of a side in the node are its own.
pub side_at_depth : {V Y : Type 0} (tell : V → ViewValue Y) (w d : ℕ) (v : V) → depth_at (tell v).place.len ≡ d →
    side_child_bits tell w d (Some v) ≡ (tell v).child_bits
side_at_depth tell w d v e = children_here tell w d v e

-- The children of a side below the node are the one towards it.
pub side_deeper : {V Y : Type 0} (tell : V → ViewValue Y) (w d : ℕ) (v : V) → (depth_at (tell v).place.len ≡ d → ⊥) →
    side_child_bits tell w d (Some v) ≡ 2 ^ child_toward w d (tell v).place.bits
side_deeper tell w d v ne = children_away tell w d v ne

-- The data bits of a side in the node are its own.
pub bits_at_depth : {V Y : Type 0} (tell : V → ViewValue Y) (d : ℕ) (v : V) → depth_at (tell v).place.len ≡ d
    → side_data_bits tell d (Some v) ≡ (tell v).data_bits
bits_at_depth tell d v e = ap (λ b. cond b (tell v).data_bits 0) (eq-eqb _ _ e)

-- A side below the node has no data bits there.
pub bits_deeper : {V Y : Type 0} (tell : V → ViewValue Y) (d : ℕ) (v : V) → (depth_at (tell v).place.len ≡ d → ⊥) → side_data_bits tell d (Some v) ≡ 0
bits_deeper tell d v ne = off_cond (depth_at (tell v).place.len) d (eqb (depth_at (tell v).place.len) d) (tell v).data_bits 0 refl ne

bits_of : (t : Bool) (a d x bit : ℕ) → eqb a d ≡ t → (bit_at (cond t x 0) bit ≡ 0 → ⊥) → a ≡ d
bits_of true a d x bit e h = eqb-true a d e
bits_of false a d x bit e h = absurd (h (bit_at-zero bit))

-- A side that has a bit in the node stands there.
pub bits_place : {V Y : Type 0} (tell : V → ViewValue Y) (d bit : ℕ) (v : V) → (bit_at (side_data_bits tell d (Some v)) bit ≡ 0 → ⊥) →
    depth_at (tell v).place.len ≡ d
bits_place tell d bit v h = bits_of (eqb (depth_at (tell v).place.len) d) (depth_at (tell v).place.len) d (tell v).data_bits bit refl h
