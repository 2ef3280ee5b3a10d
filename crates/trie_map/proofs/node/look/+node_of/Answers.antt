use Rattle.std.proofs.Common.{rules, arith, ap, sym, subst, ◌∙◌, ◌+◌, ◌<◌, ◌≤◌, None}
use Rattle.trie_map.specs.Shape.{node_shape}
use Rattle.trie_map.specs.declared.node.Visited.{Visited}
use Rattle.std.specs.Int.{bit_at}
use Rattle.trie_model.specs.Inside.{Reaches}
use Rattle.trie_model.proofs.NodeLaws.{good_here, good_child}
use Rattle.trie_model.proofs.PutNodes.{test_off}
use Rattle.trie_model.proofs.LongestLaws.{good_there}
use Rattle.trie_model.proofs.InsideLaws.{full_there, reach_here, reach_below, reach_none}
use Rattle.trie_model.proofs.FullLaws.{full_child}
use Rattle.trie_map.proofs.node.look.+node_of.Goals as goal

pub child-requires-clause-compact : goal.child-requires-clause-compact
child-requires-clause-compact g t c = (good_here node_shape g.W.KeyBits.width c.args.depth c.visit-here.result.node.now
    (good_there node_shape g.W.KeyBits.width c.args.depth c.args.node.now c.visit-here.result.node.now c.visit-here.ensures.node
    c.requires.good)).children

pub node_of-requires : goal.node_of-requires
node_of-requires g t c κs within =
    let kid_ok = good_child node_shape g.W.KeyBits.width c.args.depth c.visit-here.result.node.now
    (good_there node_shape g.W.KeyBits.width c.args.depth c.args.node.now c.visit-here.result.node.now c.visit-here.ensures.node c.requires.good)
    _ c.child.result.now c.child.ensures.1 in
    let kid_full = (full_child node_shape c.visit-here.result.node.now (full_there node_shape c.args.node.now c.visit-here.result.node.now c.visit-here.ensures.node c.requires.full) _ c.child.result.now c.child.ensures).1 in
    let long : c.args.depth + 5 ≤ c.args.len = omega (arith, c.if-len-depth-lt5.false) in
    search (rules, kid_ok, kid_full, long)

pub returns-then-len-depth-lt5-clause-node : goal.returns-then-len-depth-lt5-clause-node
returns-then-len-depth-lt5-clause-node g t c =
    let high : c.args.len < c.args.depth + 5 = omega (arith, c.requires.low, c.if-len-depth-lt5.true) in
    reach_here (λ r. r.node.now) node_shape g.W.KeyBits.width c.args.depth (record { bits = g.W.KeyBits.number c.args.key; len = c.args.len })
    c.args.node.now c.visit-here.result c.requires.low high c.visit-here.ensures.node c.requires.good c.requires.full

pub returns-then-child_bitmap-bit-eq1-clause-node : goal.returns-then-child_bitmap-bit-eq1-clause-node
returns-then-child_bitmap-bit-eq1-clause-node g t c =
    let long : c.args.depth + 5 ≤ c.args.len = omega (arith, c.if-len-depth-lt5.false) in
    subst (λ z. Reaches {R = Visited g.row.T.Denot} (λ r. r.node.now) node_shape g.W.KeyBits.width c.args.depth (record { bits = g.W.KeyBits.number c.args.key; len = c.args.len }) z c.node_of.result) c.visit-here.ensures.node
    (reach_below {R = Visited g.row.T.Denot} (λ r. r.node.now) node_shape g.W.KeyBits.width c.args.depth c.child_toward-bit.result
    (record { bits = g.W.KeyBits.number c.args.key; len = c.args.len }) c.visit-here.result.node.now c.child.result.now c.node_of.result
    c.requires.net long c.child_toward-bit.ensures.bit c.child.ensures c.node_of.ensures.node)

pub returns-clause-node : goal.returns-clause-node
returns-clause-node g t c =
    let long : c.args.depth + 5 ≤ c.args.len = omega (arith, c.if-len-depth-lt5.false) in
    subst (λ z. Reaches {R = Visited g.row.T.Denot} (λ r. r.node.now) node_shape g.W.KeyBits.width c.args.depth (record { bits = g.W.KeyBits.number c.args.key; len = c.args.len }) z None) c.visit-here.ensures.node
    (reach_none {R = Visited g.row.T.Denot} (λ r. r.node.now) node_shape g.W.KeyBits.width c.args.depth c.child_toward-bit.result
    (record { bits = g.W.KeyBits.number c.args.key; len = c.args.len }) c.visit-here.result.node.now c.requires.net long
    c.child_toward-bit.ensures.bit (ap (λ m. bit_at m c.child_toward-bit.result) (sym c.child_bitmap.ensures) ∙ test_off c.child_bitmap.result
    c.child_toward-bit.result c.if-child_bitmap-bit-eq1.false))
