-- The laws of an intersection from the laws of its sides.
use Rattle.std.proofs.Common.{◌≡◌, ℕ, ◌+◌, ◌≤◌, ◌∙◌, sym, ap, subst, arith, true, false, bit_and, min, lt_of_le_of_lt}
use Rattle.std.specs.Prelude.{◌↔◌}
use Rattle.std.specs.Int.{bit_at}
use Rattle.std.proofs.lemmas.Nat.{and_le_l}
use Rattle.std.proofs.lemmas.Nat.Bits.{bit_at_and}
use Rattle.trie_model.specs.Nets.{Net, covers}
use Rattle.trie_model.specs.Views.{depth_at, data_net, child_net, child_toward, same_net, ViewValue, IsView, TookData, TookChild, IsChild, Moved}
use Rattle.view_model.specs.Intersection.{intersection_told}
use Rattle.view_model.proofs.Bits.{and_bit_l, and_bit_r, and_bits}
use Rattle.view_model.proofs.DifferenceLaws.{both_frugal}

-- An intersection keeps the laws of views where both sides do.
pub intersection_laws : {X Y : Type 0} (w : ℕ) (left : ViewValue X) (right : ViewValue Y) → IsView w left → IsView w right → right.place ≡ left.place →
    IsView w (intersection_told left right)
intersection_laws {X} {Y} w left right l r e = record {
  place_ok = l.place_ok;
  data_fit = lt_of_le_of_lt (and_le_l left.data_bits right.data_bits) l.data_fit;
  children_fit = lt_of_le_of_lt (and_le_l left.child_bits right.child_bits) l.children_fit;
  pairs = λ n p h. l.pairs n p.0 h.0;
  one = λ n p q a b. let f : X → Y → X × Y = λ x y. (x, y) in ap (λ x. f x p.1) (l.one n p.0 q.0 a.0 b.0) ∙ ap (f q.0) (r.one n p.1 q.1 a.1 b.1);
  told = λ bit lt h.
      let x = l.told bit lt (and_bit_l left.data_bits right.data_bits bit h) in
      let y = r.told bit lt (and_bit_r left.data_bits right.data_bits bit h) in
      ((x.0, y.0), (x.1, subst (λ p. right.at (data_net w p bit) y.0) e y.1));
  untold = λ bit p lt h. and_bits left.data_bits right.data_bits bit (l.untold bit p.0 lt h.0)
      (r.untold bit p.1 lt (subst (λ q. right.at (data_net w q bit) p.1) (sym e) h.1));
  below = λ n p h deep. and_bits left.child_bits right.child_bits _ (l.below n p.0 h.0 deep)
      (subst (λ q. bit_at right.child_bits (child_toward w (depth_at q.len) n.bits) ≡ 1) e
      (r.below n p.1 h.1 (subst (λ q. depth_at q.len + 5 ≤ n.len) (sym e) deep)));
  deep = λ bit h. l.deep bit (and_bit_l left.child_bits right.child_bits bit h);
}

narrow : {A B C D E F : Type 0} → B ↔ (A × C) → E ↔ (D × F) → (C → F) → (B × E) ↔ ((A × D) × C)
narrow m f g = ((λ h. let p = m.0 h.0 in ((p.0, (f.0 h.1).0), p.1)), (λ h. (m.1 (h.0.0, h.1), f.1 (h.0.1, g h.1))))

-- A pair taken out of both sides is taken out of the intersection.
pub intersection_took : {X Y : Type 0} (w bit : ℕ) (left new : ViewValue X) (right new' : ViewValue Y) → right.place ≡ left.place → TookData w bit left new →
    TookData w bit right new' → TookData w bit (intersection_told left right) (intersection_told new new')
intersection_took w bit left new right new' e p q = record {
  place = p.place;
  child_bits = ap (λ m. bit_and m new'.child_bits) p.child_bits ∙ ap (bit_and left.child_bits) q.child_bits;
  at = λ n z. narrow (p.at n z.0) (q.at n z.1) (λ h. subst (λ k. same_net (data_net w k bit) n ≡ false) (sym e) h);
  frugal = both_frugal _ _ _ _ p.frugal q.frugal;
}

-- An intersection moves with both sides.
pub intersection_moved : {X Y : Type 0} (w : ℕ) (to : Net) (left new : ViewValue X) (right new' : ViewValue Y) → Moved w to left new → Moved w to right new' →
    Moved w to (intersection_told left right) (intersection_told new new')
intersection_moved w to left new right new' p q = record {
  place = p.place;
  at = λ n z. narrow (p.at n z.0) (q.at n z.1) (λ h. h);
  frugal = both_frugal _ _ _ _ p.frugal q.frugal;
}

-- The child of an intersection has exactly its pairs below the bit.
pub intersection_child : {X Y : Type 0} (w bit : ℕ) (left new : ViewValue X) (right new' : ViewValue Y) → right.place ≡ left.place → IsChild w bit left new →
    IsChild w bit right new' → IsChild w bit (intersection_told left right) (intersection_told new new')
intersection_child w bit left new right new' e p q = record {
  place = p.place;
  at = λ n z. narrow (p.at n z.0) (q.at n z.1) (λ h. subst (λ k. covers w (child_net w k bit) n ≡ true) (sym e) h);
  frugal = both_frugal _ _ _ _ p.frugal q.frugal;
}

-- The children of two views at one place are at one place.
pub child_place : {X Y : Type 0} (w bit : ℕ) (left new : ViewValue X) (right new' : ViewValue Y) → right.place ≡ left.place → IsChild w bit left new →
    IsChild w bit right new' → new'.place ≡ new.place
child_place w bit left new right new' e p q = q.place ∙ ap (λ k. child_net w k bit) e ∙ sym p.place

and_other : (x y z u : ℕ) → x ≡ z → y ≡ u → min x y ≡ min z u
and_other x y z u p q = ap (λ a. min a y) p ∙ ap (min z) q

and_gone : (x z : ℕ) → x ≡ 0 → min x z ≡ 0
and_gone x z e = omega arith

-- A child taken out of both sides is taken out of the intersection.
pub intersection_took_child : {X Y : Type 0} (w bit : ℕ) (left new : ViewValue X) (right new' : ViewValue Y) → right.place ≡ left.place →
    TookChild w bit left new → TookChild w bit right new' → TookChild w bit (intersection_told left right) (intersection_told new new')
intersection_took_child w bit left new right new' e p q = record {
  place = p.place;
  data_bits = ap (λ m. bit_and m new'.data_bits) p.data_bits ∙ ap (bit_and left.data_bits) q.data_bits;
  others = λ b ne. bit_at_and new.child_bits new'.child_bits b ∙ and_other _ _ _ _ (p.others b ne) (q.others b ne) ∙
      sym (bit_at_and left.child_bits right.child_bits b);
  gone = bit_at_and new.child_bits new'.child_bits bit ∙ and_gone _ _ p.gone;
  at = λ n z. narrow (p.at n z.0) (q.at n z.1) (λ h. subst (λ k. covers w (child_net w k bit) n ≡ false) (sym e) h);
  frugal = both_frugal _ _ _ _ p.frugal q.frugal;
}
