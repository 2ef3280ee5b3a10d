-- The laws of a difference from the laws of its sides.
use Rattle.std.proofs.Common.{◌≡◌, ℕ, ◌^◌, ◌<◌, ◌∙◌, sym, ap, subst, arith, Bool, ◌&&◌, bit_and, Option, Some, None, lt_of_le_of_lt}
use Rattle.std.specs.Prelude.{IsTrue, ◌↔◌}
use Rattle.std.specs.Int.{bit_at, bit_not, w32}
use Rattle.std.proofs.lemmas.Nat.{and_le_l}
use Rattle.trie_model.specs.Nets.{Net, IsNet}
use Rattle.trie_model.specs.Views.{depth_at, data_net, child_net, ViewValue, IsView, TookData, TookChild, IsChild, CanMove, Moved}
use Rattle.trie_model.proofs.Places.{and_left, and_right, both_hold, bit_below, not_one, covers_way, depth_le}
use Rattle.view_model.specs.Sides.{IsAligned, IsAlignedSide, SideSplit, side_data_bits}
use Rattle.view_model.specs.Difference.{difference_told}
use Rattle.view_model.proofs.Bits.{one-zero, and_bit_l, and_not_r, and_not_set}
use Rattle.view_model.proofs.SideLaws.{side_told, side_untold, side_fits, side_in_ok}

fits_more : (n : ℕ) → n < 2 ^ 31 → n < 2 ^ 32
fits_more n h = omega arith

-- A difference keeps the laws of views where both sides do.
pub difference_laws : {V X Y : Type 0} (w : ℕ) (valid : V → Type 0) (tell : V → ViewValue Y) (law : (v : V) → valid v →
    IsView w (tell v)) (left : ViewValue X) (side : Option V) → IsView w left → IsAlignedSide valid tell w left.place side →
    IsView w (difference_told tell left side)
difference_laws w valid tell law left side ok right =
    let here = side_data_bits tell (depth_at left.place.len) side in
    let fits = fits_more here (side_fits w valid tell law left.place side right) in
    record {
      place_ok = ok.place_ok;
      data_fit = lt_of_le_of_lt (and_le_l left.data_bits (bit_not w32 here)) ok.data_fit;
      children_fit = ok.children_fit;
      pairs = λ n x h. ok.pairs n x h.0;
      one = λ n x y p q. ok.one n x y p.0 q.0;
      told = λ bit lt h.
          let clear = and_not_r left.data_bits here bit fits (omega arith) h in
          let l = ok.told bit lt (and_bit_l left.data_bits (bit_not w32 here) bit h) in
          (l.0, (l.1, λ s. one-zero _ (side_untold w valid tell law left.place side right bit s.0 lt s.1) clear));
      untold = λ bit x lt h.
          and_not_set left.data_bits here bit fits (omega arith) (ok.untold bit x lt h.0)
          (not_one here bit (λ one. h.1 (side_told w valid tell law left.place side right bit lt one)));
      below = λ n x h deep. ok.below n x h.0 deep;
      deep = ok.deep;
    }

-- A pair that stays where a side keeps what it has.
pub stay : {A B C D : Type 0} → B ↔ (A × C) → (B × (D → ⊥)) ↔ ((A × (D → ⊥)) × C)
stay m = ((λ h. let p = m.0 h.0 in ((p.0, h.1), p.1)), (λ h. (m.1 (h.0.0, h.1), h.0.1)))

-- A view that takes no memory beside another stays so where the first does.
pub and_frugal : (a b c : Bool) → (IsTrue a → IsTrue b) → IsTrue (a && c) → IsTrue (b && c)
and_frugal a b c f h = both_hold b c (f (and_left a c h)) (and_right a c h)

-- Two views that take no memory stay so where each does.
pub both_frugal : (a b c d : Bool) → (IsTrue a → IsTrue b) → (IsTrue c → IsTrue d) → IsTrue (a && c) → IsTrue (b && d)
both_frugal a b c d f g h = both_hold b d (f (and_left a c h)) (g (and_right a c h))

-- A pair taken out of the first view is taken out of the difference.
pub difference_took : {V X Y : Type 0} (w bit : ℕ) (tell : V → ViewValue Y) (left new : ViewValue X) (side : Option V) → TookData w bit left new →
    TookData w bit (difference_told tell left side) (difference_told tell new side)
difference_took w bit tell left new side took = record {
  place = took.place;
  child_bits = took.child_bits;
  at = λ n x. stay (took.at n x);
  frugal = and_frugal _ _ _ took.frugal;
}

-- The item of a bit that is set.
pub difference_item : {V X Y : Type 0} (w : ℕ) (valid : V → Type 0) (tell : V → ViewValue Y) (law : (v : V) → valid v →
    IsView w (tell v)) (left : ViewValue X) (side : Option V) → IsView w left → IsAlignedSide valid tell w left.place side → (bit : ℕ) →
    bit_at (difference_told tell left side).data_bits bit ≡ 1 → (x : X) → left.at (data_net w left.place bit) x →
    (difference_told tell left side).at (data_net w left.place bit) x
difference_item w valid tell law left side ok right bit set x e =
    let here = side_data_bits tell (depth_at left.place.len) side in
    let lt = bit_below 31 left.data_bits bit ok.data_fit (and_bit_l left.data_bits (bit_not w32 here) bit set) in
    let clear = and_not_r left.data_bits here bit (fits_more here (side_fits w valid tell law left.place side right)) (omega arith) set in
    (e, λ s. one-zero _ (side_untold w valid tell law left.place side right bit s.0 lt s.1) clear)

-- A difference moves with its first view.
pub difference_moved : {V X Y : Type 0} (w : ℕ) (to : Net) (tell : V → ViewValue Y) (left new : ViewValue X) (side : Option V) → Moved w to left new →
    Moved w to (difference_told tell left side) (difference_told tell new side)
difference_moved w to tell left new side moved = record {
  place = moved.place;
  at = λ n x. stay (moved.at n x);
  frugal = and_frugal _ _ _ moved.frugal;
}

-- A side at a node stands at the node of each place in it.
pub aligned_moved : (w : ℕ) (old to r : Net) → IsNet w old → CanMove w old to → IsAligned w old r → IsAligned w to r
aligned_moved w old to r ok can al = record {
  deeper = rw can.node al.deeper;
  node = rw can.node (al.node ∙ sym (covers_way w (depth_at old.len) old to ok.len_fits (depth_le old.len) can.within));
}

-- A side at a node may be used beside each place in it.
pub side_moved : {V Y : Type 0} (w : ℕ) (valid : V → Type 0) (tell : V → ViewValue Y) (old to new : Net) (side : Option V) → IsNet w old →
    CanMove w old to → new ≡ to → IsAlignedSide valid tell w old side → IsAlignedSide valid tell w new side
side_moved w valid tell old to new None ok can e side = tt
side_moved w valid tell old to new (Some v) ok can e side = (side.0, rw e (aligned_moved w old to (tell v).place ok can side.1))

-- The same where only pairs that stay are looked at.
pub stay_there : {A B C D E : Type 0} → B ↔ (A × C) → (A → C → D ↔ E) → (B × (D → ⊥)) ↔ ((A × (E → ⊥)) × C)
stay_there m f = ((λ h. let p = m.0 h.0 in ((p.0, λ e. h.1 ((f p.0 p.1).1 e)), p.1)), (λ h. (m.1 (h.0.0, h.1), λ d. h.0.1 ((f h.0.0 h.1).0 d))))

-- The child of a difference has exactly its pairs below the bit.
pub difference_child : {V X Y : Type 0} (w bit : ℕ) (valid : V → Type 0) (tell : V → ViewValue Y) (left new : ViewValue X) (side child rest : Option V) →
    IsChild w bit left new → SideSplit valid tell w left.place bit side child rest →
    IsChild w bit (difference_told tell left side) (difference_told tell new child)
difference_child w bit valid tell left new side child rest is split = record {
  place = is.place;
  at = λ n x. stay_there (is.at n x) (λ a c. ((λ s. (s.0, (split.child_at n s.0 c).0 s.1)), (λ s. (s.0, (split.child_at n s.0 c).1 s.1))));
  frugal = both_frugal _ _ _ _ is.frugal split.child_frugal;
}

-- A child taken out of both sides is taken out of the difference.
pub difference_took_child : {V X Y : Type 0} (w bit : ℕ) (valid : V → Type 0) (tell : V → ViewValue Y) (left new : ViewValue X) (side child rest : Option V) →
    TookChild w bit left new → SideSplit valid tell w left.place bit side child rest →
    TookChild w bit (difference_told tell left side) (difference_told tell new rest)
difference_took_child w bit valid tell left new side child rest took split = record {
  place = took.place;
  data_bits =
      ap (λ p. bit_and new.data_bits (bit_not w32 (side_data_bits tell (depth_at p.len) rest))) took.place
      ∙ ap (λ x. bit_and x (bit_not w32 (side_data_bits tell (depth_at left.place.len) rest))) took.data_bits
      ∙ ap (λ x. bit_and left.data_bits (bit_not w32 x)) split.bits;
  others = took.others;
  gone = took.gone;
  at = λ n x. stay_there (took.at n x) (λ a c. ((λ s. (s.0, (split.rest_at n s.0 c).0 s.1)), (λ s. (s.0, (split.rest_at n s.0 c).1 s.1))));
  frugal = both_frugal _ _ _ _ took.frugal split.rest_frugal;
}

-- A side beside a place is one beside an equal place.
pub placed : {V Y : Type 0} (w : ℕ) (valid : V → Type 0) (tell : V → ViewValue Y) (old new : Net) (side : Option V) → new ≡ old →
    IsAlignedSide valid tell w old side → IsAlignedSide valid tell w new side
placed w valid tell old new side e ok = subst (λ p. IsAlignedSide valid tell w p side) (sym e) ok

-- The child of the side stands at the node of the child of the first view.
pub child_side : {V X Y : Type 0} (w bit : ℕ) (valid : V → Type 0) (tell : V → ViewValue Y) (law : (v : V) → valid v →
    IsView w (tell v)) (left new : ViewValue X) (side child rest : Option V) → IsChild w bit left new →
    SideSplit valid tell w left.place bit side child rest → IsAlignedSide valid tell w new.place child
child_side w bit valid tell law left new side child rest is split =
    placed w valid tell _ _ child is.place (side_in_ok w valid tell law (child_net w left.place bit) child split.child_in)

-- What is left of the side stands at the node of what is left of the first view.
pub rest_side : {V X Y : Type 0} (w bit : ℕ) (valid : V → Type 0) (tell : V → ViewValue Y) (left new : ViewValue X) (side child rest : Option V) →
    TookChild w bit left new → SideSplit valid tell w left.place bit side child rest → IsAlignedSide valid tell w new.place rest
rest_side w bit valid tell left new side child rest took split = placed w valid tell _ _ rest took.place split.rest_ok
