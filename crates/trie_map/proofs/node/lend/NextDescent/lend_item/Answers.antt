use Rattle.std.proofs.Common.{rules, arith, refl, sym, ap, subst, ◌∙◌, ◌+◌, ◌<◌, ◌≤◌, vec_len}
use Rattle.std.specs.Prelude.{slice_get}
use Rattle.std.proofs.lemmas.Option.{slice_get_within}
use Rattle.trie_map.proofs.Lending.{kid_is, placed, placed_back}
use Rattle.trie_map.specs.Shape.{node_shape}
use Rattle.trie_map.specs.declared.node.Node.{out-Node}
use Rattle.trie_model.proofs.NodeLaws.{good_child}
use Rattle.trie_model.proofs.PutLaws.{at_kid, kid_was}
use Rattle.trie_map.proofs.node.lend.NextDescent.lend_item.Goals as goal

pub nth-child-requires : goal.nth-child-requires
nth-child-requires g c =
    let long : c.args.depth + 5 ≤ c.args.len = omega (arith, c.if-len-depth-lt5.false) in
    let kid = at_kid node_shape g.W.KeyBits.width c.args.depth c.args.node.now (record { bits = g.W.KeyBits.number c.args.key; len = c.args.len }) c.requires.there.0 long c.requires.there.1 in
    let lt = slice_get_within (out-Node g.row.T.Denot c.args.node.now).children.items c.slot-place.result kid.0
    (placed (out-Node g.row.T.Denot c.args.node.now).child_bitmap c.slot-place.result c.child_toward.result _
    (out-Node g.row.T.Denot c.args.node.now).children.items kid.0 kid.1.0 c.child_toward.ensures.bit c.slot-place.ensures) in
    subst (λ v. c.slot-place.result < vec_len v) (sym c.children.ensures.whole) (search (rules, lt))

pub lend_item-requires-clause-good : goal.lend_item-requires-clause-good
lend_item-requires-clause-good g c =
    let long : c.args.depth + 5 ≤ c.args.len = omega (arith, c.if-len-depth-lt5.false) in
    let kid = at_kid node_shape g.W.KeyBits.width c.args.depth c.args.node.now (record { bits = g.W.KeyBits.number c.args.key; len = c.args.len }) c.requires.there.0 long c.requires.there.1 in
    let now = placed_back (out-Node g.row.T.Denot c.args.node.now).child_bitmap c.slot-place.result c.child_toward.result _
    (out-Node g.row.T.Denot c.args.node.now).children.items kid.0 c.nth-child.result.now kid.1.0 c.child_toward.ensures.bit c.slot-place.ensures
    (ap (λ v. slice_get v.items c.slot-place.result) (sym c.children.ensures.whole) ∙ c.nth-child.ensures.item) in
    good_child node_shape g.W.KeyBits.width c.args.depth c.args.node.now c.requires.good _ c.nth-child.result.now now.1

pub lend_item-requires-clause-there : goal.lend_item-requires-clause-there
lend_item-requires-clause-there g c =
    let long : c.args.depth + 5 ≤ c.args.len = omega (arith, c.if-len-depth-lt5.false) in
    let kid = at_kid node_shape g.W.KeyBits.width c.args.depth c.args.node.now (record { bits = g.W.KeyBits.number c.args.key; len = c.args.len }) c.requires.there.0 long c.requires.there.1 in
    let now = placed_back (out-Node g.row.T.Denot c.args.node.now).child_bitmap c.slot-place.result c.child_toward.result _
    (out-Node g.row.T.Denot c.args.node.now).children.items kid.0 c.nth-child.result.now kid.1.0 c.child_toward.ensures.bit c.slot-place.ensures
    (ap (λ v. slice_get v.items c.slot-place.result) (sym c.children.ensures.whole) ∙ c.nth-child.ensures.item) in
    (c.requires.there.0, (kid_was node_shape g.W.KeyBits.width c.args.depth _ c.args.node.now c.nth-child.result.now now (record { bits = g.W.KeyBits.number c.args.key; len = c.args.len }) c.requires.there.0 long refl).0 c.requires.there.1)

pub returns : goal.returns
returns g c =
    let long : c.args.depth + 5 ≤ c.args.len = omega (arith, c.if-len-depth-lt5.false) in
    let kid = at_kid node_shape g.W.KeyBits.width c.args.depth c.args.node.now (record { bits = g.W.KeyBits.number c.args.key; len = c.args.len }) c.requires.there.0 long c.requires.there.1 in
    let now = placed_back (out-Node g.row.T.Denot c.args.node.now).child_bitmap c.slot-place.result c.child_toward.result _
    (out-Node g.row.T.Denot c.args.node.now).children.items kid.0 c.nth-child.result.now kid.1.0 c.child_toward.ensures.bit c.slot-place.ensures
    (ap (λ v. slice_get v.items c.slot-place.result) (sym c.children.ensures.whole) ∙ c.nth-child.ensures.item) in (
      (
        refl,
        λ x. kid_is g.W.KeyBits.width c.args.depth c.args.node.now c.nth-child.result.now c.children.result.now
            (record { bits = g.W.KeyBits.number c.args.key; len = c.args.len }) c.slot-place.result c.child_toward.result x long
            c.child_toward.ensures.bit c.slot-place.ensures c.children.ensures.whole c.nth-child.ensures.item,
      ),
      record {
        lends = tt;
        item = (kid_was node_shape g.W.KeyBits.width c.args.depth _ c.args.node.now c.nth-child.result.now now
            (record { bits = g.W.KeyBits.number c.args.key; len = c.args.len }) c.lend_item.result.now long refl).1 c.lend_item.ensures.item;
      },
    )
