-- What a node is made of, and what is done to one.
use Rattle.std.specs.Prelude.{◌≡◌, ℕ, Option, Result, length, count_ones}
use Rattle.std.specs.Borrow.{Bor}
use Rattle.std.specs.declared.alloc.AllocFailed.{AllocFailed}
use Rattle.trie_model.specs.Nets.{Net}
use Rattle.trie_model.specs.Puts.{HoldsAt, PutIn}
use Rattle.trie_model.specs.Longest.{LongestIn}
use Rattle.trie_model.specs.Tries.{NodeShape}
use Rattle.trie_map.specs.declared.node.Node.{Node, out-Node}

-- The bitmaps and vectors of a node, as lemmas speak of them.
abbrev pub node_shape : {T : Type 0} → NodeShape (Node T) T
node_shape {T} = record {
  data_bits = λ n. (out-Node T n).data_bitmap;
  child_bits = λ n. (out-Node T n).child_bitmap;
  items = λ n. (out-Node T n).items.items;
  children = λ n. (out-Node T n).children.items;
}

-- The node has as many items as data bits.
abbrev pub ItemsFit : {T : Type 0} → Node T → Type 0
ItemsFit node = length (node_shape.items node) ≡ count_ones (node_shape.data_bits node)

-- The node has as many children as child bits.
abbrev pub ChildrenFit : {T : Type 0} → Node T → Type 0
ChildrenFit node = length (node_shape.children node) ≡ count_ones (node_shape.child_bits node)

-- The item stands at this data bit of the node.
abbrev pub HoldsItem : {T : Type 0} → Node T → ℕ → T → Type 0
HoldsItem node bit x = HoldsAt (node_shape.data_bits node) (node_shape.items node) bit x

-- The child stands at this child bit of the node.
abbrev pub HoldsChild : {T : Type 0} → Node T → ℕ → Node T → Type 0
HoldsChild node bit child = HoldsAt (node_shape.child_bits node) (node_shape.children node) bit child

-- What an insertion into the node at this depth does, by its result.
abbrev pub NodePuts : {T : Type 0} → ℕ → ℕ → Net → T → Node T → Node T → Result (Option T) (AllocFailed T) → Type 0
NodePuts w depth net value old new result = PutIn (λ e. e.value) node_shape w depth net value old new result

-- What a search for the longest prefix of these bits gives, of the lengths from low to high.
abbrev pub NodeLongest : {T : Type 0} → ℕ → ℕ → ℕ → Node T → ℕ → ℕ → Option (ℕ × Bor T) → Type 0
NodeLongest w depth bits node low high result = LongestIn (λ r. r.0) (λ r. r.1.now) node_shape w depth bits node low high result
