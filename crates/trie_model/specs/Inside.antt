-- What lies in a prefix.
use Rattle.std.specs.Prelude.{◌≡◌, ◌↔◌, ℕ, ◌+◌, ◌-◌, ◌*◌, ◌/◌, true, List, Option, Some, None}
use Rattle.trie_model.specs.Nets.{Net, IsNet, covers}
use Rattle.trie_model.specs.Puts.{HasItem}
use Rattle.trie_model.specs.Tries.{NodeShape, Good, Full}
use Rattle.trie_model.specs.Walks.{Within}

-- The pairs of a list that lie in a prefix, that of the prefix itself among them.
abbrev pub LiesIn : {X : Type 0} → ℕ → Net → List (Net × X) → Net → X → Type 0
LiesIn w net ps n x = Within ps n x × (covers w net n ≡ true)

-- Some pair of a list lies in a prefix.
abbrev pub SomeIn : {X : Type 0} → ℕ → Net → List (Net × X) → Type 0
SomeIn {X} w net ps = (n : Net) × ((x : X) × LiesIn w net ps n x)

-- The depth of the node on the way down from d that has the prefixes of this length.
abbrev pub depth_from : ℕ → ℕ → ℕ
depth_from d len = d + (len - d) / 5 * 5

-- The node that has a prefix's place, with all the pairs that lie in the prefix, or that no pair does.
abbrev pub Reaches : {N X R : Type 0} → (R → N) → NodeShape N X → ℕ → ℕ → Net → N → Option R → Type 0
Reaches {N} {X} look f w d net node None = (n : Net) (x : X) → IsNet w n → covers w net n ≡ true → HasItem f w d node n x → ⊥
Reaches {N} {X} look f w d net node (Some r) = ((k : ℕ) → Good f w k (depth_from d net.len) (look r)) × ((k : ℕ) → Full f k (look r))
    × ((n : Net) (x : X) → IsNet w n → covers w net n ≡ true → HasItem f w d node n x ↔ HasItem f w (depth_from d net.len) (look r) n x)
