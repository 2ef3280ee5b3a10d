-- The pairs of each operation on two views. Those of unions stand in Union and CoveringUnion.
use Rattle.std.specs.Prelude.{ℕ, Result, IfOk, ◌≡◌}
use Rattle.trie_model.specs.Nets.{Net}
use Rattle.trie_model.specs.Views.{ViewValue, Has, SamePairs}
use Rattle.view_model.specs.Find.{HasCover}

-- The prefixes of both views, with both items.
abbrev pub intersection_pairs : {X Y : Type 0} → ViewValue X → ViewValue Y → Net → X × Y → Type 0
intersection_pairs s t n p = s.at n p.0 × t.at n p.1

-- The pairs of the first view whose prefix the second lacks.
abbrev pub difference_pairs : {X Y : Type 0} → ViewValue X → ViewValue Y → Net → X → Type 0
difference_pairs s t n x = s.at n x × (Has t n → ⊥)

-- The pairs of the first view whose prefix no prefix of the second contains.
abbrev pub covering_difference_pairs : {X Y : Type 0} → ℕ → ViewValue X → ViewValue Y → Net → X → Type 0
covering_difference_pairs w s t n x = s.at n x × (HasCover w t n → ⊥)

-- ---- what a call gives

-- The view that a call gives is at this place.
abbrev pub GivesPlace : {V X E : Type 0} → (V → ViewValue X) → Result V E → Net → Type 0
GivesPlace tell result place = IfOk result (λ v. (tell v).place ≡ place)

-- The view that a call gives has exactly these pairs.
abbrev pub GivesPairs : {V X E : Type 0} → (V → ViewValue X) → Result V E → (Net → X → Type 0) → Type 0
GivesPairs tell result pairs = IfOk result (λ v. SamePairs (tell v).at pairs)
