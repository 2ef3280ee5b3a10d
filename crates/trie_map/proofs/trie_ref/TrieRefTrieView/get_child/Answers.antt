use Rattle.std.proofs.Common.{ℕ, ◌+◌, ◌*◌, ◌/◌, ap, arith}
use Rattle.trie_model.specs.Nets.{Net}
use Rattle.trie_model.proofs.RootLaws.{ref_child_at}
use Rattle.trie_model.proofs.TrieLaws.{ref_ok_child, ref_took_child}
use Rattle.trie_model.proofs.PlaceMoves.{ref_node, ref_kid, ref_deep}
use Rattle.trie_map.specs.Shape.{node_shape}
use Rattle.trie_map.proofs.trie_ref.TrieRefTrieView.get_child.Goals as goal

pub with_bits-key-requires-clause-depth : goal.with_bits-key-requires-clause-depth
with_bits-key-requires-clause-depth g c = ref_deep node_shape g.P.Number.KeyBits.width
    (record { bits = g.P.Number.KeyBits.number c.args.self.now.key; len = c.args.self.now.len }) c.args.self.now.data_bitmap
    c.args.self.now.child_bitmap c.args.bit c.args.self.now.node.node.now c.requires.usable c.requires.set

pub with_bits-key-requires-clause-bits : goal.with_bits-key-requires-clause-bits
with_bits-key-requires-clause-bits g c = ref_kid node_shape g.P.Number.KeyBits.width
    (record { bits = g.P.Number.KeyBits.number c.args.self.now.key; len = c.args.self.now.len }) c.args.self.now.data_bitmap
    c.args.self.now.child_bitmap c.args.bit c.args.self.now.node.node.now c.requires.usable c.requires.set

pub without-self-requires : goal.without-self-requires
without-self-requires g c = ref_kid node_shape g.P.Number.KeyBits.width
    (record { bits = g.P.Number.KeyBits.number c.args.self.now.key; len = c.args.self.now.len }) c.args.self.now.data_bitmap
    c.args.self.now.child_bitmap c.args.bit c.args.self.now.node.node.now c.requires.usable c.requires.set

pub child-requires-clause-compact : goal.child-requires-clause-compact
child-requires-clause-compact g c = (ref_node node_shape g.P.Number.KeyBits.width
    (record { bits = g.P.Number.KeyBits.number c.args.self.now.key; len = c.args.self.now.len }) c.args.self.now.data_bitmap
    c.args.self.now.child_bitmap c.args.self.now.node.node.now c.requires.usable).children

pub child-requires-clause-set : goal.child-requires-clause-set
child-requires-clause-set g c = c.requires.usable.children_sub c.args.bit c.requires.set

pub child-requires-clause-bit : goal.child-requires-clause-bit
child-requires-clause-bit g c = ref_kid node_shape g.P.Number.KeyBits.width
    (record { bits = g.P.Number.KeyBits.number c.args.self.now.key; len = c.args.self.now.len }) c.args.self.now.data_bitmap
    c.args.self.now.child_bitmap c.args.bit c.args.self.now.node.node.now c.requires.usable c.requires.set

pub overflow_add-result : goal.overflow_add-result
overflow_add-result g c = let deep = ref_deep node_shape g.P.Number.KeyBits.width
    (record { bits = g.P.Number.KeyBits.number c.args.self.now.key; len = c.args.self.now.len }) c.args.self.now.data_bitmap
    c.args.self.now.child_bitmap c.args.bit c.args.self.now.node.node.now c.requires.usable c.requires.set in
    omega (arith, deep, c.bits-width.ensures, c.bits-width.type_inv)

pub returns-clause-child : goal.returns-clause-child
returns-clause-child g c =
    let q : ℕ → Net = λ x. record { bits = x; len = c.args.self.now.len / 5 * 5 + 5 } in
    ref_child_at node_shape g.P.Number.KeyBits.width (record { bits = g.P.Number.KeyBits.number c.args.self.now.key; len = c.args.self.now.len })
    (q (g.P.Number.KeyBits.number c.with_bits-key.result)) c.args.self.now.data_bitmap c.args.self.now.child_bitmap c.args.bit
    c.data_bitmap.result c.child_bitmap.result c.args.self.now.node.node.now c.child.result.now c.visit-child.result.node.now c.requires.usable
    c.requires.set c.child.ensures.1 (ap q c.with_bits-key.ensures) c.visit-child.ensures.node c.data_bitmap.ensures c.child_bitmap.ensures

pub returns-clause-usable : goal.returns-clause-usable
returns-clause-usable g c = ref_ok_child node_shape g.P.Number.KeyBits.width
    (record { bits = g.P.Number.KeyBits.number c.args.self.now.key; len = c.args.self.now.len }) c.args.self.now.data_bitmap
    c.args.self.now.child_bitmap c.without-self.result c.args.bit c.args.self.now.node.node.now c.requires.usable c.without-self.ensures

pub returns-clause-rest : goal.returns-clause-rest
returns-clause-rest g c = ref_took_child node_shape g.P.Number.KeyBits.width
    (record { bits = g.P.Number.KeyBits.number c.args.self.now.key; len = c.args.self.now.len }) c.args.self.now.data_bitmap
    c.args.self.now.child_bitmap c.without-self.result c.args.bit c.args.self.now.node.node.now c.requires.usable c.requires.set
    c.without-self.ensures
