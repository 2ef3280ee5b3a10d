-- What each operation on two views means for a reader.
use Rattle.std.specs.Prelude.{◌≡◌, ◌↔◌, ℕ, Some, true}
use Rattle.trie_model.specs.Nets.{Net, covers}
use Rattle.trie_model.specs.Views.{ViewValue, Has}
use Rattle.view_model.specs.Items.{left_of, right_of}
use Rattle.view_model.specs.Union.{union_pairs}
use Rattle.view_model.specs.Pairs.{covering_difference_pairs, difference_pairs, intersection_pairs}
use Rattle.view_model.specs.CoveringUnion.{covering_pairs}
use Rattle.view_model.specs.declared.items.UnionItem.{UnionItem}
use Rattle.view_model.specs.declared.items.UnionItem.TheVariants as U
use Rattle.view_model.specs.declared.items.CoveringUnionItem.{CoveringUnionItem}
use Rattle.view_model.specs.declared.items.CoveringUnionItem.TheVariants.{Left, Right, Both}

-- Some item stands for the prefix.
abbrev pub HasSome : {X : Type 0} → (Net → X → Type 0) → Net → Type 0
HasSome {X} pairs n = (x : X) × pairs n x

-- A union lacks a prefix exactly where both views lack it.
abbrev pub UnionLacksWhatBothLack : {X Y : Type 0} → ViewValue X → ViewValue Y → Type 0
UnionLacksWhatBothLack s t =
    (n : Net) → (HasSome (union_pairs s t) n → ⊥) ↔ ((Has s n → ⊥) × (Has t n → ⊥))

-- An item of a union has exactly the items that its prefix has in the views.
abbrev pub UnionShowsBoth : {X Y : Type 0} → ViewValue X → ViewValue Y → Type 0
UnionShowsBoth {X} {Y} s t = (n : Net) (z : UnionItem X Y) → union_pairs s t n z →
    ((x : X) → (left_of z ≡ Some x) ↔ s.at n x) × ((y : Y) → (right_of z ≡ Some y) ↔ t.at n y)

-- An intersection has a prefix exactly where both views have it.
abbrev pub IntersectionHasWhatBothHave : {X Y : Type 0} → ViewValue X → ViewValue Y → Type 0
IntersectionHasWhatBothHave s t = (n : Net) → HasSome (intersection_pairs s t) n ↔ (Has s n × Has t n)

-- A difference has a prefix exactly where the first view has it and the second lacks it.
abbrev pub DifferenceHasWhatIsLeft : {X Y : Type 0} → ViewValue X → ViewValue Y → Type 0
DifferenceHasWhatIsLeft s t = (n : Net) → HasSome (difference_pairs s t) n ↔ (Has s n × (Has t n → ⊥))

-- A covering difference has a prefix exactly where the first view has it and no prefix of the second contains it.
abbrev pub CoveringDifferenceHasWhatIsOutside : {X Y : Type 0} → ℕ → ViewValue X → ViewValue Y → Type 0
CoveringDifferenceHasWhatIsOutside w s t = (n : Net) → HasSome (covering_difference_pairs w s t) n
    ↔ (Has s n × ((m : Net) → Has t m → covers w m n ≡ true → ⊥))

-- The item of a union in an item of a covering union.
abbrev pub without_longest : {P L R : Type 0} → CoveringUnionItem P L R → UnionItem L R
without_longest (Left x l) = U.Left x
without_longest (Right l y) = U.Right y
without_longest (Both x y) = U.Both x y

-- Without the longest pairs, a covering union has pairs of the union alone.
abbrev pub CoveringUnionIsUnion : {P X Y : Type 0} → ℕ → (P → Net) → (P → ℕ) → ViewValue X → ViewValue Y → Type 0
CoveringUnionIsUnion {P} {X} {Y} w net raw s t = (n : Net) (z : CoveringUnionItem P X Y) →
    covering_pairs w net raw s t n z → union_pairs s t n (without_longest z)
