use Rattle.trie_model.proofs.PlaceMoves.{ref_moved, ref_moved_ok, data_narrowed, children_narrowed}
use Rattle.trie_map.specs.Shape.{node_shape}
use Rattle.trie_map.proofs.trie_ref.TrieRefTrieView.reposition.Goals as goal

pub returns-clause-usable : goal.returns-clause-usable
returns-clause-usable g c = ref_moved_ok node_shape g.P.Number.KeyBits.width
    (record { bits = g.P.Number.KeyBits.number c.args.self.now.key; len = c.args.self.now.len })
    (record { bits = g.P.Number.KeyBits.number c.args.key; len = c.args.prefix_len }) c.args.self.now.data_bitmap c.args.self.now.child_bitmap _ _
    c.args.self.now.node.node.now c.requires.usable c.requires.place
    (data_narrowed node_shape g.P.Number.KeyBits.width (record { bits = g.P.Number.KeyBits.number c.args.self.now.key; len = c.args.self.now.len })
    (record { bits = g.P.Number.KeyBits.number c.args.key; len = c.args.prefix_len }) c.args.self.now.data_bitmap c.args.self.now.child_bitmap
    c.data_cover_mask.result c.args.self.now.node.node.now c.requires.usable c.requires.place c.data_cover_mask.ensures.mask)
    (children_narrowed node_shape g.P.Number.KeyBits.width
    (record { bits = g.P.Number.KeyBits.number c.args.self.now.key; len = c.args.self.now.len })
    (record { bits = g.P.Number.KeyBits.number c.args.key; len = c.args.prefix_len }) c.args.self.now.data_bitmap c.args.self.now.child_bitmap
    c.child_cover_mask.result c.args.self.now.node.node.now c.requires.usable c.requires.place c.child_cover_mask.ensures.mask)

pub returns-clause-moved : goal.returns-clause-moved
returns-clause-moved g c = ref_moved node_shape g.P.Number.KeyBits.width
    (record { bits = g.P.Number.KeyBits.number c.args.self.now.key; len = c.args.self.now.len })
    (record { bits = g.P.Number.KeyBits.number c.args.key; len = c.args.prefix_len }) c.args.self.now.data_bitmap c.args.self.now.child_bitmap _ _
    c.args.self.now.node.node.now c.requires.usable c.requires.place
    (data_narrowed node_shape g.P.Number.KeyBits.width (record { bits = g.P.Number.KeyBits.number c.args.self.now.key; len = c.args.self.now.len })
    (record { bits = g.P.Number.KeyBits.number c.args.key; len = c.args.prefix_len }) c.args.self.now.data_bitmap c.args.self.now.child_bitmap
    c.data_cover_mask.result c.args.self.now.node.node.now c.requires.usable c.requires.place c.data_cover_mask.ensures.mask)
    (children_narrowed node_shape g.P.Number.KeyBits.width
    (record { bits = g.P.Number.KeyBits.number c.args.self.now.key; len = c.args.self.now.len })
    (record { bits = g.P.Number.KeyBits.number c.args.key; len = c.args.prefix_len }) c.args.self.now.data_bitmap c.args.self.now.child_bitmap
    c.child_cover_mask.result c.args.self.now.node.node.now c.requires.usable c.requires.place c.child_cover_mask.ensures.mask)
