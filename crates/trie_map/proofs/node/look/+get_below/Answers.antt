use Rattle.std.proofs.Common.{rules, arith, ap, sym, subst, ◌∙◌, ◌+◌, ◌<◌, ◌≤◌, Some, None, Bor}
use Rattle.trie_map.specs.Shape.{node_shape}
use Rattle.std.specs.Int.{bit_at}
use Rattle.trie_model.specs.Puts.{Gets}
use Rattle.trie_model.proofs.NodeLaws.{good_here, good_child}
use Rattle.trie_model.proofs.PutNodes.{test_off, here_was, here_none, kid_none, kid_gets}
use Rattle.trie_model.proofs.LongestLaws.{good_there}
use Rattle.trie_map.proofs.node.look.+get_below.Goals as goal

pub item-requires-clause-compact : goal.item-requires-clause-compact
item-requires-clause-compact g t c = (good_here node_shape g.W.KeyBits.width c.args.depth c.visit-here.result.node.now
    (good_there node_shape g.W.KeyBits.width c.args.depth c.args.node.now c.visit-here.result.node.now c.visit-here.ensures.node
    c.requires.good)).items

pub child-requires-clause-compact : goal.child-requires-clause-compact
child-requires-clause-compact g t c = (good_here node_shape g.W.KeyBits.width c.args.depth c.visit-here.result.node.now
    (good_there node_shape g.W.KeyBits.width c.args.depth c.args.node.now c.visit-here.result.node.now c.visit-here.ensures.node
    c.requires.good)).children

pub get_below-requires : goal.get_below-requires
get_below-requires g t c κs within = let kid_ok = good_child node_shape g.W.KeyBits.width c.args.depth c.visit-here.result.node.now
    (good_there node_shape g.W.KeyBits.width c.args.depth c.args.node.now c.visit-here.result.node.now c.visit-here.ensures.node c.requires.good) _
    c.child.result.now c.child.ensures.1 in let long : c.args.depth + 5 ≤ c.args.len = omega (arith, c.if-len-depth-lt5.false) in
    search (rules, kid_ok, long)

pub returns-then-data_bitmap-bit-eq1-clause-item : goal.returns-then-data_bitmap-bit-eq1-clause-item
returns-then-data_bitmap-bit-eq1-clause-item g t c = let high : c.args.len < c.args.depth + 5 = omega (arith, c.requires.low, c.if-len-depth-lt5.true)
    in subst (λ z. Gets {R = Bor g.row.T.Denot} (λ r. r.now) node_shape g.W.KeyBits.width c.args.depth
    (record { bits = g.W.KeyBits.number c.args.key; len = c.args.len }) z (Some c.item.result)) c.visit-here.ensures.node
    (here_was node_shape g.W.KeyBits.width c.args.depth c.data_bit-bit.result (record { bits = g.W.KeyBits.number c.args.key; len = c.args.len })
    c.visit-here.result.node.now c.item.result.now c.requires.low high c.data_bit-bit.ensures.bit c.item.ensures)

pub returns-then-len-depth-lt5-clause-item : goal.returns-then-len-depth-lt5-clause-item
returns-then-len-depth-lt5-clause-item g t c = let high : c.args.len < c.args.depth + 5 = omega (arith, c.requires.low, c.if-len-depth-lt5.true) in
    subst (λ z. Gets {R = Bor g.row.T.Denot} (λ r. r.now) node_shape g.W.KeyBits.width c.args.depth
    (record { bits = g.W.KeyBits.number c.args.key; len = c.args.len }) z None) c.visit-here.ensures.node
    (here_none node_shape g.W.KeyBits.width c.args.depth c.data_bit-bit.result (record { bits = g.W.KeyBits.number c.args.key; len = c.args.len })
    c.visit-here.result.node.now c.requires.low high c.data_bit-bit.ensures.bit
    (ap (λ m. bit_at m c.data_bit-bit.result) (sym c.data_bitmap.ensures) ∙ test_off c.data_bitmap.result c.data_bit-bit.result
    c.if-data_bitmap-bit-eq1.false))

pub returns-then-child_bitmap-bit-eq1-clause-item : goal.returns-then-child_bitmap-bit-eq1-clause-item
returns-then-child_bitmap-bit-eq1-clause-item g t c = let long : c.args.depth + 5 ≤ c.args.len = omega (arith, c.if-len-depth-lt5.false) in
    subst (λ z. Gets {R = Bor g.row.T.Denot} (λ r. r.now) node_shape g.W.KeyBits.width c.args.depth
    (record { bits = g.W.KeyBits.number c.args.key; len = c.args.len }) z c.get_below.result) c.visit-here.ensures.node
    (kid_gets {R = Bor g.row.T.Denot} (λ r. r.now) node_shape g.W.KeyBits.width c.args.depth c.child_toward-bit.result
    (record { bits = g.W.KeyBits.number c.args.key; len = c.args.len }) c.visit-here.result.node.now c.child.result.now c.get_below.result long
    c.child_toward-bit.ensures.bit c.child.ensures c.get_below.ensures.item)

pub returns-clause-item : goal.returns-clause-item
returns-clause-item g t c = let long : c.args.depth + 5 ≤ c.args.len = omega (arith, c.if-len-depth-lt5.false) in
    subst (λ z. Gets {R = Bor g.row.T.Denot} (λ r. r.now) node_shape g.W.KeyBits.width c.args.depth
    (record { bits = g.W.KeyBits.number c.args.key; len = c.args.len }) z None) c.visit-here.ensures.node
    (kid_none node_shape g.W.KeyBits.width c.args.depth c.child_toward-bit.result (record { bits = g.W.KeyBits.number c.args.key; len = c.args.len })
    c.visit-here.result.node.now long c.child_toward-bit.ensures.bit
    (ap (λ m. bit_at m c.child_toward-bit.result) (sym c.child_bitmap.ensures) ∙ test_off c.child_bitmap.result c.child_toward-bit.result
    c.if-child_bitmap-bit-eq1.false))
