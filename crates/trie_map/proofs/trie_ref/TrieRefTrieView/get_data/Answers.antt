use Rattle.trie_model.proofs.TrieLaws.{ref_ok_data, ref_took_data}
use Rattle.trie_model.proofs.PlaceMoves.{ref_item, ref_node, ref_bit}
use Rattle.trie_map.specs.Shape.{node_shape}
use Rattle.trie_map.proofs.trie_ref.TrieRefTrieView.get_data.Goals as goal

pub without-self-requires : goal.without-self-requires
without-self-requires g c = ref_bit node_shape g.P.Number.KeyBits.width
    (record { bits = g.P.Number.KeyBits.number c.args.self.now.key; len = c.args.self.now.len }) c.args.self.now.data_bitmap
    c.args.self.now.child_bitmap c.args.bit c.args.self.now.node.node.now c.requires.usable c.requires.set

pub item-requires-clause-compact : goal.item-requires-clause-compact
item-requires-clause-compact g c = (ref_node node_shape g.P.Number.KeyBits.width
    (record { bits = g.P.Number.KeyBits.number c.args.self.now.key; len = c.args.self.now.len }) c.args.self.now.data_bitmap
    c.args.self.now.child_bitmap c.args.self.now.node.node.now c.requires.usable).items

pub item-requires-clause-set : goal.item-requires-clause-set
item-requires-clause-set g c = c.requires.usable.data_sub c.args.bit c.requires.set

pub item-requires-clause-bit : goal.item-requires-clause-bit
item-requires-clause-bit g c = ref_bit node_shape g.P.Number.KeyBits.width
    (record { bits = g.P.Number.KeyBits.number c.args.self.now.key; len = c.args.self.now.len }) c.args.self.now.data_bitmap
    c.args.self.now.child_bitmap c.args.bit c.args.self.now.node.node.now c.requires.usable c.requires.set

pub returns-clause-data : goal.returns-clause-data
returns-clause-data g c = ref_item node_shape g.P.Number.KeyBits.width
    (record { bits = g.P.Number.KeyBits.number c.args.self.now.key; len = c.args.self.now.len }) c.args.self.now.data_bitmap
    c.args.self.now.child_bitmap c.args.bit c.args.self.now.node.node.now c.item.result.now c.requires.usable c.requires.set c.item.ensures.1

pub returns-clause-usable : goal.returns-clause-usable
returns-clause-usable g c = ref_ok_data node_shape g.P.Number.KeyBits.width
    (record { bits = g.P.Number.KeyBits.number c.args.self.now.key; len = c.args.self.now.len }) c.args.self.now.data_bitmap
    c.args.self.now.child_bitmap c.without-self.result c.args.bit c.args.self.now.node.node.now c.requires.usable c.without-self.ensures

pub returns-clause-rest : goal.returns-clause-rest
returns-clause-rest g c = ref_took_data node_shape g.P.Number.KeyBits.width
    (record { bits = g.P.Number.KeyBits.number c.args.self.now.key; len = c.args.self.now.len }) c.args.self.now.data_bitmap
    c.args.self.now.child_bitmap c.without-self.result c.args.bit c.args.self.now.node.node.now c.requires.usable c.requires.set
    c.without-self.ensures
