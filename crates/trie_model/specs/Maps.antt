-- Finite maps of prefixes.
use Rattle.std.specs.Prelude.{zero, suc, ◌≡◌, ℕ, ◌+◌, ◌-◌, ◌*◌, ◌/◌, ◌%◌, ◌^◌, ◌≤◌, Bool, true, cond, ◌&&◌, eqb, leb, List, [], ◌∷◌, ◌++◌, length, Option, Some, None, slice_get, option_and_then}
use Rattle.std.specs.Int.{bit_at}
use Rattle.trie_model.specs.Nets.{Net, masked, covers}
use Rattle.trie_model.specs.Spots.{bits_toward, data_bit_of, ltb, order_key}
use Rattle.trie_model.specs.Views.{same_net}
use Rattle.trie_model.specs.Tries.{slot_of, NodeShape, Good, Full}
use Rattle.trie_model.specs.Walks.{Within}

-- A map with another value for one prefix, or a new one.
abbrev pub with_entry : {X : Type 0} → (Net → Option X) → Net → X → Net → Option X
with_entry m n x k = cond (same_net n k) (Some x) (m k)

-- A map without a prefix.
abbrev pub without_entry : {X : Type 0} → (Net → Option X) → Net → Net → Option X
without_entry m n k = cond (same_net n k) None (m k)

-- The map with no entry.
abbrev pub no_entries : {X : Type 0} → Net → Option X
no_entries k = None

-- The pairs of a map.
abbrev pub Entry : {X : Type 0} → (Net → Option X) → Net → X → Type 0
Entry m n x = m n ≡ Some x

-- ---- the list of a map

-- The prefix of this rank, in the order of prefixes: by bits, then by length.
abbrev pub net_at : ℕ → ℕ → Net
net_at w rank = record { bits = rank / (w + 1); len = rank % (w + 1) }

-- The pair of a prefix that may have a value.
abbrev pub pair_if : {X : Type 0} → Net → Option X → List (Net × X)
pair_if n None = []
pair_if n (Some x) = (n, x) ∷ []

-- The pairs whose prefix has a rank below this, in order.
unfoldable pub pairs_under : {X : Type 0} → ℕ → (Net → Option X) → ℕ → List (Net × X)
pairs_under w m zero = []
pairs_under w m (suc rank) = pairs_under w m rank ++ pair_if (net_at w rank) (m (net_at w rank))

-- All pairs of a map of prefixes of this width, in order.
unfoldable pub pairs : {X : Type 0} → ℕ → (Net → Option X) → List (Net × X)
pairs w m = pairs_under w m (2 ^ w * (w + 1))

-- The value of a prefix in a list of pairs.
unfoldable pub value_at : {X : Type 0} → List (Net × X) → Net → Option X
value_at [] n = None
value_at (p ∷ ps) n = cond (same_net n p.0) (Some p.1) (value_at ps n)

-- A list in order with a pair more.
unfoldable pub put_pair : {X : Type 0} → ℕ → Net → X → List (Net × X) → List (Net × X)
put_pair w n x [] = (n, x) ∷ []
put_pair w n x (p ∷ ps) = cond (ltb (order_key w n) (order_key w p.0)) ((n, x) ∷ (p ∷ ps)) (p ∷ put_pair w n x ps)

-- A list without the pair of a prefix.
unfoldable pub removed : {X : Type 0} → List (Net × X) → Net → List (Net × X)
removed [] n = []
removed (p ∷ ps) n = cond (same_net n p.0) ps (p ∷ removed ps n)

-- A list in order with this value for a prefix.
abbrev pub inserted : {X : Type 0} → ℕ → List (Net × X) → Net → X → List (Net × X)
inserted w ps n x = put_pair w n x (removed ps n)

-- The longest prefix of a list that contains this one, with its value, or that there is none.
abbrev pub LongestMatch : {X R : Type 0} → ℕ → (R → Net) → (R → X) → List (Net × X) → Net → Option R → Type 0
LongestMatch {X} w net_of look ps n None = (k : Net) (x : X) → covers w k n ≡ true → Within ps k x → ⊥
LongestMatch {X} w net_of look ps n (Some r) = (covers w (net_of r) n ≡ true) × Within ps (net_of r) (look r) × ((k : Net) (x : X) → covers w k n ≡ true → Within ps k x → k.len ≤ (net_of r).len)

-- ---- the map of a node

-- What stands at a set bit.
abbrev pub at_bit : {X : Type 0} → ℕ → List X → ℕ → Option X
at_bit bitmap xs bit = cond (eqb (bit_at bitmap bit) 1) (slice_get xs (slot_of bitmap bit)) None

-- The item that lies k levels below the node at this depth.
unfoldable pub item_below : {N X : Type 0} → NodeShape N X → ℕ → ℕ → ℕ → N → Net → Option X
item_below f w d zero node n = at_bit (f.data_bits node) (f.items node) (data_bit_of w d n.bits n.len)
item_below f w d (suc k) node n = option_and_then (λ child. item_below f w (d + 5) k child n) (at_bit (f.child_bits node) (f.children node) (bits_toward w d 5 n.bits))

-- Whether this is a network of w bits.
abbrev pub is_net : ℕ → Net → Bool
is_net w n = leb n.len w && ltb n.bits (2 ^ w) && eqb (masked w n.bits n.len) n.bits

-- The map of a whole trie.
abbrev pub map_of : {N X : Type 0} → NodeShape N X → ℕ → N → Net → Option X
map_of f w node n = cond (is_net w n) (item_below f w 0 ((n.len - 0) / 5) node n) None

-- One entry more where there was none.
abbrev pub missing : {X : Type 0} → Option X → ℕ
missing None = 1
missing (Some x) = 0

-- One entry less where there was one.
abbrev pub present : {X : Type 0} → Option X → ℕ
present None = 0
present (Some x) = 1

-- What every map keeps: a good trie, no child with nothing, and the count of its entries.
pub record MapOk {N X : Type 0} (f : NodeShape N X) (w : ℕ) (node : N) (count : ℕ) : Type 0 where
  pub good : (k : ℕ) → Good f w k 0 node
  pub full : (k : ℕ) → Full f k node
  pub counted : length (pairs w (map_of f w node)) ≡ count
