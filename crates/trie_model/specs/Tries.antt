-- Tries of nodes, and what a place in one has.
use Rattle.std.specs.Prelude.{zero, suc, ◌≡◌, ◌≢◌, ℕ, ◌+◌, ◌-◌, ◌/◌, ◌%◌, ◌^◌, ◌<◌, ◌≤◌, Bool, true, ⊤, List, length, Some, slice_get, count_ones}
use Rattle.std.specs.Int.{bit_at}
use Rattle.trie_model.specs.Nets.{Net, IsNet, covers}
use Rattle.trie_model.specs.Views.{ViewValue, depth_at, level_of, data_net, child_net}
use Rattle.trie_model.specs.Spots.{bits_toward, data_bit_of}

-- How many bits below are set.
abbrev pub slot_of : ℕ → ℕ → ℕ
slot_of bitmap bit = count_ones (bitmap % 2 ^ bit)

-- What a node is made of.
pub record NodeShape (N X : Type 0) : Type 0 where
  pub data_bits : N → ℕ
  pub child_bits : N → ℕ
  pub items : N → List X
  pub children : N → List N

-- The pair that lies k levels below the node at this depth, where the node's own bits are given.
unfoldable pub HasItemBelow : {N X : Type 0} → NodeShape N X → ℕ → ℕ → ℕ → ℕ → ℕ → N → Net → X → Type 0
HasItemBelow f w data_bits child_bits zero d node n x = (bit_at data_bits (data_bit_of w d n.bits n.len) ≡ 1) × (slice_get (f.items node) (slot_of (f.data_bits node) (data_bit_of w d n.bits n.len)) ≡ Some x)
HasItemBelow {N} f w data_bits child_bits (suc k) d node n x = (bit_at child_bits (bits_toward w d 5 n.bits) ≡ 1)
    × ((child : N) × (slice_get (f.children node) (slot_of (f.child_bits node) (bits_toward w d 5 n.bits)) ≡ Some child) × HasItemBelow f w
    (f.data_bits child) (f.child_bits child) k (d + 5) child n x)

-- A node by itself.
pub record NodeOk {N X : Type 0} (f : NodeShape N X) (w d : ℕ) (node : N) : Type 0 where
  pub data_fit : f.data_bits node < 2 ^ 31
  pub children_fit : f.child_bits node < 2 ^ 32
  pub items : length (f.items node) ≡ count_ones (f.data_bits node)
  pub children : length (f.children node) ≡ count_ones (f.child_bits node)
  pub short : (bit : ℕ) → bit_at (f.data_bits node) bit ≡ 1 → d + level_of bit ≤ w
  pub deep : (bit : ℕ) → bit_at (f.child_bits node) bit ≡ 1 → d + 5 ≤ w

-- The node and k - 1 levels below it.
unfoldable pub Good : {N X : Type 0} → NodeShape N X → ℕ → ℕ → ℕ → N → Type 0
Good f w zero d node = ⊤
Good {N} f w (suc k) d node = NodeOk f w d node × ((i : ℕ) (child : N) → slice_get (f.children node) i ≡ Some child → Good f w k (d + 5) child)

-- Each child has an item or a child of its own, in the node and k - 1 levels below it.
unfoldable pub Full : {N X : Type 0} → NodeShape N X → ℕ → N → Type 0
Full f zero node = ⊤
Full {N} f (suc k) node = (b : ℕ) (c : N) → (bit_at (f.child_bits node) b ≡ 1) → (slice_get (f.children node) (slot_of (f.child_bits node) b) ≡ Some c) → (0 < f.data_bits c + f.child_bits c) × Full f k c

-- The same, but that the child of this bit may have nothing.
abbrev pub FullBut : {N X : Type 0} → NodeShape N X → ℕ → ℕ → N → Type 0
FullBut {N} f bit k node = (b : ℕ) (c : N) → (bit_at (f.child_bits node) b ≡ 1) → (slice_get (f.children node) (slot_of (f.child_bits node) b) ≡ Some c) → ((b ≢ bit) → 0 < f.data_bits c + f.child_bits c) × Full f k c

-- A view of a node: some of its bits, each of them inside the place.
pub record RefOk {N X : Type 0} (f : NodeShape N X) (w : ℕ) (place : Net) (data_bits child_bits : ℕ) (node : N) : Type 0 where
  pub place_ok : IsNet w place
  pub good : (k : ℕ) → Good f w k (depth_at place.len) node
  pub full : (k : ℕ) → Full f k node
  pub data_fit : data_bits < 2 ^ 31
  pub children_fit : child_bits < 2 ^ 32
  pub data_sub : (bit : ℕ) → bit_at data_bits bit ≡ 1 → bit_at (f.data_bits node) bit ≡ 1
  pub children_sub : (bit : ℕ) → bit_at child_bits bit ≡ 1 → bit_at (f.child_bits node) bit ≡ 1
  pub data_in : (bit : ℕ) → bit_at data_bits bit ≡ 1 → covers w place (data_net w place bit) ≡ true
  pub children_in : (bit : ℕ) → bit_at child_bits bit ≡ 1 → covers w place (child_net w place bit) ≡ true

-- The pairs of a view of a node.
abbrev pub ref_at : {N X : Type 0} → NodeShape N X → ℕ → Net → ℕ → ℕ → N → Net → X → Type 0
ref_at f w place data_bits child_bits node n x = IsNet w n × (covers w place n ≡ true) × HasItemBelow f w data_bits child_bits (n.len / 5 - place.len / 5) (depth_at place.len) node n x

-- What contracts see of a view of a node.
abbrev pub ref_told : {N X : Type 0} → NodeShape N X → ℕ → Net → ℕ → ℕ → N → ViewValue X
ref_told f w place data_bits child_bits node = record {
  place = place;
  data_bits = data_bits;
  child_bits = child_bits;
  at = ref_at f w place data_bits child_bits node;
  frugal = true;
}

-- The bitmap without one bit.
pub record Cleared (bit old new : ℕ) : Type 0 where
  pub gone : bit_at new bit ≡ 0
  pub kept : (b : ℕ) → b < 32 → b ≢ bit → bit_at new b ≡ bit_at old b
  pub less : new ≤ old

-- The bits whose test holds.
pub record Narrowed (old new : ℕ) (keeps : ℕ → Bool) : Type 0 where
  pub less : new ≤ old
  pub only : (b : ℕ) → bit_at new b ≡ 1 → (bit_at old b ≡ 1) × (keeps b ≡ true)
  pub keep : (b : ℕ) → bit_at old b ≡ 1 → keeps b ≡ true → bit_at new b ≡ 1
