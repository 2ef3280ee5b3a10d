-- The longest prefix of a key that has an item.
use Rattle.std.specs.Prelude.{ℕ, ◌≤◌, Option, Some, None}
use Rattle.trie_model.specs.Spots.{prefix_net}
use Rattle.trie_model.specs.Puts.{HasItem}
use Rattle.trie_model.specs.Tries.{NodeShape}

-- Of the lengths from low to high, the longest whose prefix of these bits has an item.
abbrev pub LongestIn : {N X R : Type 0} → (R → ℕ) → (R → X) → NodeShape N X → ℕ → ℕ → ℕ → N → ℕ → ℕ → Option R → Type 0
LongestIn {N} {X} size look f w d bits node low high None = (l : ℕ) (x : X) → low ≤ l → l ≤ high → HasItem f w d node (prefix_net w bits l) x → ⊥
LongestIn {N} {X} size look f w d bits node low high (Some r) = (low ≤ size r) × (size r ≤ high) × HasItem f w d node (prefix_net w bits (size r))
    (look r) × ((l : ℕ) (x : X) → low ≤ l → l ≤ high → HasItem f w d node (prefix_net w bits l) x → l ≤ size r)
