-- What a node is once an item that it lent comes back.
use Rattle.std.specs.Prelude.{zero, suc, ℕ, ◌+◌, ◌-◌, ◌/◌, Option, Some, None, slice_get}
use Rattle.std.specs.Borrow.{Lends, MutBor, Fml, RattleType}
use Rattle.std.specs.Vec.{with_item}
use Rattle.std.specs.contracts.alloc.Global as global
use Rattle.std.specs.contracts.vec.Vec as vec
use Rattle.std.specs.contracts.impls.GlobalAllocator.TheImpl.{ghosts}
use Rattle.std.specs.declared.vec.Vec.{Vec}
use Rattle.std.specs.declared.alloc.Global.{Global}
use Rattle.trie_model.specs.Spots.{bits_toward, data_bit_of}
use Rattle.trie_model.specs.Nets.{Net}
use Rattle.trie_model.specs.Tries.{slot_of}
use Rattle.trie_map.specs.declared.node.Node.{Node, out-Node, roll-Node}
use Rattle.trie_map.specs.contracts.node.Node.{the_row}

-- A vector, as the logic holds it.
abbrev pub vec_row : RattleType → RattleType
vec_row T = vec.the_row T global.the_row ghosts

-- The node with another item at a place.
abbrev pub with_own : {T : Type 0} → Node T → ℕ → T → Node T
with_own {T} node place x = roll-Node T (record (out-Node T node) { items = with_item (out-Node T node).items place x })

-- The node with these children.
abbrev pub with_children : {T : Type 0} → Node T → Vec (Node T) Global → Node T
with_children {T} node children = roll-Node T (record (out-Node T node) { children = children })

-- The child, or else the node.
abbrev pub child_or : {T : Type 0} → Node T → Option (Node T) → Node T
child_or node None = node
child_or node (Some child) = child

-- The node at this depth with another item for a prefix that has one k levels below.
unfoldable pub with_below : {T : Type 0} → ℕ → ℕ → ℕ → Node T → Net → T → Node T
with_below {T} w d zero node n x = with_own node (slot_of (out-Node T node).data_bitmap (data_bit_of w d n.bits n.len)) x
with_below {T} w d (suc k) node n x = with_children node
    (with_item (out-Node T node).children (slot_of (out-Node T node).child_bitmap (bits_toward w d 5 n.bits))
    (with_below w (d + 5) k (child_or node (slice_get (out-Node T node).children.items
    (slot_of (out-Node T node).child_bitmap (bits_toward w d 5 n.bits)))) n x))

-- The vector ends with what is left at the reference at the place.
abbrev pub LendsPlace : (T : RattleType) → MutBor (Vec T.Denot Global) → ℕ → MutBor T.Denot → Fml
LendsPlace T items place r = Lends (vec_row T) T items r (with_item items.now place)

-- The node ends with the children that are left at the reference.
abbrev pub LendsChildren : (T : RattleType) → MutBor (Node T.Denot) → MutBor (Vec (Node T.Denot) Global) → Fml
LendsChildren T node r = Lends (the_row T) (vec_row (the_row T)) node r (with_children node.now)

-- The node ends with what is left at the reference as the prefix's item.
abbrev pub LendsBelow : (T : RattleType) → ℕ → ℕ → Net → MutBor (Node T.Denot) → MutBor T.Denot → Fml
LendsBelow T w d n node r = Lends (the_row T) T node r (with_below w d ((n.len - d) / 5) node.now n)
