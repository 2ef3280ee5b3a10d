use Rattle.std.proofs.Common.{rules}
use Rattle.trie_model.proofs.NodeLaws.{good_here}
use Rattle.trie_map.specs.Shape.{node_shape}
use Rattle.trie_model.proofs.TakeLaws.{taken_in, item_good_back, item_takes, keeps_none}
use Rattle.trie_model.proofs.PutNodes.{here_none, test_off}
use Rattle.trie_map.specs.declared.node.Node.TheViews.{the_lemmas}
use Rattle.trie_map.proofs.node.shrink.take_here.Goals as goal

pub detach-data_bitmap-requires-clause-compact : goal.detach-data_bitmap-requires-clause-compact
detach-data_bitmap-requires-clause-compact g c = (good_here node_shape g.W.KeyBits.width c.args.depth c.args.node.now c.requires.good).items

pub returns-then-node-bit-eq1-clause-good : goal.returns-then-node-bit-eq1-clause-good
returns-then-node-bit-eq1-clause-good g c = item_good_back node_shape g.W.KeyBits.width c.args.depth c.data_bit-bit.result
    c.detach-data_bitmap.result.1 c.args.node.now _ c.requires.good
    (taken_in c.data_bit-bit.result _ _ _ _ _ _ _ (search (rules, the_lemmas)) (search (rules, the_lemmas)) c.detach-data_bitmap.ensures)
    (record { child_bits = search (rules, the_lemmas); children = search (rules, the_lemmas) })

pub returns-then-node-bit-eq1-clause-take : goal.returns-then-node-bit-eq1-clause-take
returns-then-node-bit-eq1-clause-take g c = item_takes node_shape g.W.KeyBits.width c.args.depth c.data_bit-bit.result
    (record { bits = g.W.KeyBits.number c.args.key; len = c.args.len }) c.detach-data_bitmap.result.1 c.args.node.now _ c.requires.net c.requires.low
    c.requires.high c.data_bit-bit.ensures.bit (taken_in c.data_bit-bit.result _ _ _ _ _ _ _ (search (rules, the_lemmas)) (search (rules, the_lemmas))
    c.detach-data_bitmap.ensures) (record { child_bits = search (rules, the_lemmas); children = search (rules, the_lemmas) })

pub returns-clause-take : goal.returns-clause-take
returns-clause-take g c = keeps_none node_shape g.W.KeyBits.width c.args.depth (record { bits = g.W.KeyBits.number c.args.key; len = c.args.len })
    c.args.node.now (here_none node_shape g.W.KeyBits.width c.args.depth c.data_bit-bit.result
    (record { bits = g.W.KeyBits.number c.args.key; len = c.args.len }) c.args.node.now c.requires.low c.requires.high c.data_bit-bit.ensures.bit
    (test_off _ _ c.if-node-bit-eq1.false))
