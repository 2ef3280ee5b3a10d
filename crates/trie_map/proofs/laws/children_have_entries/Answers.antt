use Rattle.trie_map.specs.Shape.{node_shape}
use Rattle.trie_model.proofs.InsideLaws.{child_has}
use Rattle.trie_map.proofs.laws.children_have_entries.Goals as goal

pub returns : goal.returns
returns g c bit set = child_has node_shape g.P.Number.KeyBits.width
    (record { bits = g.P.Number.KeyBits.number c.args.view.now.key; len = c.args.view.now.len }) c.args.view.now.data_bitmap
    c.args.view.now.child_bitmap bit c.args.view.now.node.node.now c.requires set
