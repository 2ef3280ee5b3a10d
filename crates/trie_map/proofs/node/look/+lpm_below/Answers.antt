use Rattle.std.proofs.Common.{rules, arith, ap, sym, subst, ℕ, ◌∙◌, ◌+◌, ◌≤◌, Some, Bor}
use Rattle.trie_map.specs.Shape.{node_shape}
use Rattle.std.specs.Int.{bit_at}
use Rattle.trie_model.specs.Longest.{LongestIn}
use Rattle.trie_model.proofs.NodeLaws.{good_here, good_child}
use Rattle.trie_model.proofs.PutNodes.{test_off}
use Rattle.trie_model.proofs.LongestLaws.{good_there, longest_below, longest_here, none_short, none_child, none_below}
use Rattle.trie_map.proofs.node.look.+lpm_below.Goals as goal

pub longest_here-requires-clause-node : goal.longest_here-requires-clause-node
longest_here-requires-clause-node g t c = (good_here node_shape g.W.KeyBits.width c.args.depth c.visit-here.result.node.now
    (good_there node_shape g.W.KeyBits.width c.args.depth c.args.node.now c.visit-here.result.node.now c.visit-here.ensures.node c.requires.good))

pub longest_here-requires-2-clause-node : goal.longest_here-requires-2-clause-node
longest_here-requires-2-clause-node g t c = (good_here node_shape g.W.KeyBits.width c.args.depth c.visit-here.result.node.now
    (good_there node_shape g.W.KeyBits.width c.args.depth c.args.node.now c.visit-here.result.node.now c.visit-here.ensures.node c.requires.good))

pub longest_here-requires-in-None-clause-node : goal.longest_here-requires-in-None-clause-node
longest_here-requires-in-None-clause-node g t
    c = (good_here node_shape g.W.KeyBits.width c.args.depth c.visit-here.result.node.now
    (good_there node_shape g.W.KeyBits.width c.args.depth c.args.node.now c.visit-here.result.node.now c.visit-here.ensures.node c.requires.good))

pub child-requires-clause-compact : goal.child-requires-clause-compact
child-requires-clause-compact g t c = (good_here node_shape g.W.KeyBits.width c.args.depth c.visit-here.result.node.now
    (good_there node_shape g.W.KeyBits.width c.args.depth c.args.node.now c.visit-here.result.node.now c.visit-here.ensures.node
    c.requires.good)).children

pub lpm_below-requires : goal.lpm_below-requires
lpm_below-requires g t c κs within = let kid_ok = good_child node_shape g.W.KeyBits.width c.args.depth c.visit-here.result.node.now
    (good_there node_shape g.W.KeyBits.width c.args.depth c.args.node.now c.visit-here.result.node.now c.visit-here.ensures.node c.requires.good) _
    c.child.result.now c.child.ensures.1 in let long : c.args.depth + 5 ≤ c.args.len = omega (arith, c.if-len-depth-lt5.false) in
    search (rules, kid_ok, long)

pub returns-then-len-depth-lt5-clause-longest : goal.returns-then-len-depth-lt5-clause-longest
returns-then-len-depth-lt5-clause-longest g t c = subst
    (λ z. LongestIn {R = ℕ × Bor g.row.T.Denot} (λ r. r.0) (λ r. r.1.now) node_shape g.W.KeyBits.width c.args.depth (g.W.KeyBits.number c.args.key) z
    c.args.depth c.args.len c.longest_here.result) c.visit-here.ensures.node
    (longest_here c.longest_here.result (λ r. r.0) (λ r. r.1.now) node_shape g.W.KeyBits.width c.args.depth (g.W.KeyBits.number c.args.key) c.args.len
    c.visit-here.result.node.now c.longest_here.ensures
    (none_short node_shape g.W.KeyBits.width c.args.depth (g.W.KeyBits.number c.args.key) c.args.len c.visit-here.result.node.now
    c.if-len-depth-lt5.true))

pub returns-in-Some-clause-longest : goal.returns-in-Some-clause-longest
returns-in-Some-clause-longest g t c = subst (λ z. LongestIn {R = ℕ × Bor g.row.T.Denot} (λ r. r.0) (λ r. r.1.now) node_shape g.W.KeyBits.width
    c.args.depth (g.W.KeyBits.number c.args.key) z c.args.depth c.args.len (Some c.in-Some.found)) c.visit-here.ensures.node
    (longest_below {R = ℕ × Bor g.row.T.Denot} (λ r. r.0) (λ r. r.1.now) node_shape g.W.KeyBits.width c.args.depth (g.W.KeyBits.number c.args.key)
    c.args.len c.child_toward-bit.result c.visit-here.result.node.now c.child.result.now c.in-Some.found c.requires.net.len_fits
    c.child_toward-bit.ensures.bit c.child.ensures c.in-Some.ensures.longest)

pub returns-in-None-clause-longest : goal.returns-in-None-clause-longest
returns-in-None-clause-longest g t c = subst (λ z. LongestIn {R = ℕ × Bor g.row.T.Denot} (λ r. r.0) (λ r. r.1.now) node_shape g.W.KeyBits.width
    c.args.depth (g.W.KeyBits.number c.args.key) z c.args.depth c.args.len c.longest_here-in-None.result) c.visit-here.ensures.node
    (longest_here c.longest_here-in-None.result (λ r. r.0) (λ r. r.1.now) node_shape g.W.KeyBits.width c.args.depth (g.W.KeyBits.number c.args.key)
    c.args.len c.visit-here.result.node.now c.longest_here-in-None.ensures
    (none_below {R = ℕ × Bor g.row.T.Denot} (λ r. r.0) (λ r. r.1.now) node_shape g.W.KeyBits.width c.args.depth (g.W.KeyBits.number c.args.key)
    c.args.len c.child_toward-bit.result c.visit-here.result.node.now c.child.result.now c.requires.net.len_fits c.child_toward-bit.ensures.bit
    c.child.ensures c.in-None.ensures.longest))

pub returns-clause-longest : goal.returns-clause-longest
returns-clause-longest g t c = subst (λ z. LongestIn {R = ℕ × Bor g.row.T.Denot} (λ r. r.0) (λ r. r.1.now) node_shape g.W.KeyBits.width c.args.depth
    (g.W.KeyBits.number c.args.key) z c.args.depth c.args.len c.longest_here-2.result) c.visit-here.ensures.node
    (longest_here c.longest_here-2.result (λ r. r.0) (λ r. r.1.now) node_shape g.W.KeyBits.width c.args.depth (g.W.KeyBits.number c.args.key)
    c.args.len c.visit-here.result.node.now c.longest_here-2.ensures
    (none_child node_shape g.W.KeyBits.width c.args.depth (g.W.KeyBits.number c.args.key) c.args.len c.child_toward-bit.result
    c.visit-here.result.node.now c.requires.net.len_fits c.child_toward-bit.ensures.bit
    (ap (λ m. bit_at m c.child_toward-bit.result) (sym c.child_bitmap.ensures) ∙ test_off c.child_bitmap.result c.child_toward-bit.result
    c.if-child_bitmap-bit-eq1.false)))
