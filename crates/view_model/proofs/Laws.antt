-- The laws of each operation, for a reader.
use Rattle.std.proofs.Common.{ℕ, ap, subst, Option, Some}
use Rattle.std.proofs.lemmas.Option.{none-some, same_Some}
use Rattle.trie_model.specs.Nets.{Net}
use Rattle.trie_model.specs.Views.{ViewValue, Has, IsView}
use Rattle.view_model.specs.Union.{union_pairs}
use Rattle.view_model.specs.Laws.{CoveringDifferenceHasWhatIsOutside, CoveringUnionIsUnion, DifferenceHasWhatIsLeft}
use Rattle.view_model.specs.Laws.{IntersectionHasWhatBothHave, UnionLacksWhatBothLack, UnionShowsBoth}
use Rattle.view_model.specs.declared.items.UnionItem.{UnionItem}
use Rattle.view_model.specs.declared.items.UnionItem.TheVariants as U
use Rattle.view_model.specs.declared.items.CoveringUnionItem.TheVariants.{Left, Right, Both}

-- A union lacks a prefix exactly where both views lack it.
pub union_lacks : {X Y : Type 0} (s : ViewValue X) (t : ViewValue Y) → UnionLacksWhatBothLack s t
union_lacks {X} {Y} s t n = (
  (λ none.
      let left : Has s n → Has t n → ⊥ = λ x y. none (U.Both x.0 y.0, (x.1, y.1)) in (
        (λ x. none (U.Left x.0, (x.1, left x))),
        (λ y. none (U.Right y.0, (y.1, λ x. left x y))),
      )),
  (λ both z. each both z.0 z.1),
)
  where
    each : (Has s n → ⊥) × (Has t n → ⊥) → (z : UnionItem X Y) → union_pairs s t n z → ⊥
    each both (U.Left x) h = both.0 (x, h.0)
    each both (U.Right y) h = both.1 (y, h.0)
    each both (U.Both x y) h = both.0 (x, h.0)

-- An item of a union has exactly the items that its prefix has in the views.
pub union_shows : {X Y : Type 0} (w : ℕ) (s : ViewValue X) (t : ViewValue Y) → IsView w s → IsView w t → UnionShowsBoth s t
union_shows {X} {Y} w s t ls lt n (U.Left x) h =
    let c : X → Option X = λ v. Some v in (
      (λ u. ((λ e. subst (s.at n) (same_Some x u e) h.0), (λ k. ap c (ls.one n x u h.0 k)))),
      (λ u. ((λ e. absurd (none-some u e)), (λ k. absurd (h.1 (u, k))))),
    )
union_shows {X} {Y} w s t ls lt n (U.Right y) h =
    let c : Y → Option Y = λ v. Some v in (
      (λ u. ((λ e. absurd (none-some u e)), (λ k. absurd (h.1 (u, k))))),
      (λ u. ((λ e. subst (t.at n) (same_Some y u e) h.0), (λ k. ap c (lt.one n y u h.0 k)))),
    )
union_shows {X} {Y} w s t ls lt n (U.Both x y) h =
    let c : X → Option X = λ v. Some v in
    let d : Y → Option Y = λ v. Some v in (
      (λ u. ((λ e. subst (s.at n) (same_Some x u e) h.0), (λ k. ap c (ls.one n x u h.0 k)))),
      (λ u. ((λ e. subst (t.at n) (same_Some y u e) h.1), (λ k. ap d (lt.one n y u h.1 k)))),
    )

-- An intersection has a prefix exactly where both views have it.
pub intersection_has : {X Y : Type 0} (s : ViewValue X) (t : ViewValue Y) → IntersectionHasWhatBothHave s t
intersection_has s t n = ((λ h. ((h.0.0, h.1.0), (h.0.1, h.1.1))), (λ h. ((h.0.0, h.1.0), (h.0.1, h.1.1))))

-- A difference has a prefix exactly where the first view has it and the second lacks it.
pub difference_has : {X Y : Type 0} (s : ViewValue X) (t : ViewValue Y) → DifferenceHasWhatIsLeft s t
difference_has s t n = ((λ h. ((h.0, h.1.0), h.1.1)), (λ h. (h.0.0, (h.0.1, h.1))))

-- A covering difference has a prefix exactly where the first view has it and no prefix of the second contains it.
pub covering_difference_has : {X Y : Type 0} (w : ℕ) (s : ViewValue X) (t : ViewValue Y) → CoveringDifferenceHasWhatIsOutside w s t
covering_difference_has w s t n = (
  (λ h. ((h.0, h.1.0), λ m has over. h.1.1 (m, (over, has)))),
  (λ h. (h.0.0, (h.0.1, λ k. h.1 k.0 k.1.1 k.1.0))),
)

-- Without the longest pairs, a covering union has pairs of the union alone.
pub covering_is_union : {P X Y : Type 0} (w : ℕ) (net : P → Net) (raw : P → ℕ) (s : ViewValue X) (t : ViewValue Y) →
    CoveringUnionIsUnion w net raw s t
covering_is_union w net raw s t n (Left x l) h = (h.0, h.1)
covering_is_union w net raw s t n (Right l y) h = (h.0, h.1)
covering_is_union w net raw s t n (Both x y) h = h
