use Rattle.std.proofs.Common.{rules, refl}
use Rattle.std.proofs.lemmas.Option.{slice_get_within}
use Rattle.trie_map.proofs.Lending.{own_is, placed, placed_back}
use Rattle.trie_map.specs.Shape.{node_shape}
use Rattle.trie_map.specs.declared.node.Node.{out-Node}
use Rattle.trie_model.proofs.PutLaws.{at_item, item_at}
use Rattle.trie_map.proofs.node.lend.own_item.Goals as goal

pub nth-requires : goal.nth-requires
nth-requires g c =
    let held = at_item node_shape g.W.KeyBits.width c.args.depth c.args.node.now (record { bits = g.W.KeyBits.number c.args.key; len = c.args.len }) c.requires.there.0 c.requires.low c.requires.high c.requires.there.1 in
    let lt = slice_get_within (out-Node g.row.T.Denot c.args.node.now).items.items c.slot-place.result c.requires.there.0
    (placed (out-Node g.row.T.Denot c.args.node.now).data_bitmap c.slot-place.result c.data_bit.result _
    (out-Node g.row.T.Denot c.args.node.now).items.items c.requires.there.0 held c.data_bit.ensures.bit c.slot-place.ensures) in
    search (rules, lt)

pub returns : goal.returns
returns g c =
    let held = at_item node_shape g.W.KeyBits.width c.args.depth c.args.node.now (record { bits = g.W.KeyBits.number c.args.key; len = c.args.len }) c.requires.there.0 c.requires.low c.requires.high c.requires.there.1 in
    let now = placed_back (out-Node g.row.T.Denot c.args.node.now).data_bitmap c.slot-place.result c.data_bit.result _
    (out-Node g.row.T.Denot c.args.node.now).items.items c.requires.there.0 c.nth.result.now held c.data_bit.ensures.bit c.slot-place.ensures
    c.nth.ensures.item in (
      (
        refl,
        λ x. own_is g.W.KeyBits.width c.args.depth c.args.node.now (record { bits = g.W.KeyBits.number c.args.key; len = c.args.len })
            c.slot-place.result c.data_bit.result x c.requires.high c.data_bit.ensures.bit c.slot-place.ensures,
      ),
      record { lends = tt; item = item_at node_shape g.W.KeyBits.width c.args.depth c.args.node.now (record { bits = g.W.KeyBits.number c.args.key; len = c.args.len }) c.nth.result.now c.requires.low c.requires.high now },
    )
