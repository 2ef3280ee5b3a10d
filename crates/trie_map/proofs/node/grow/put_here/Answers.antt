use Rattle.std.proofs.Common.{rules, refl}
use Rattle.trie_model.proofs.NodeLaws.{good_here}
use Rattle.trie_map.specs.Shape.{node_shape}
use Rattle.trie_model.proofs.PutLaws.{same_keeps}
use Rattle.trie_model.proofs.PutNodes.{here_good, here_puts, here_was, here_none, test_off, same_good}
use Rattle.trie_map.specs.declared.node.Node.TheViews.{the_lemmas}
use Rattle.trie_map.proofs.node.grow.put_here.Goals as goal

pub exchange-requires-clause-compact : goal.exchange-requires-clause-compact
exchange-requires-clause-compact g c = (good_here node_shape g.W.KeyBits.width c.args.depth c.args.node.now c.requires.good).items

pub returns-then-node-bit-eq1-clause-good : goal.returns-then-node-bit-eq1-clause-good
returns-then-node-bit-eq1-clause-good g c = here_good node_shape g.W.KeyBits.width c.args.depth c.data_bit-bit.result
    (record { bits = g.W.KeyBits.number c.args.key; len = c.args.len }) c.args.value c.args.node.now _ _ _ _ _ c.requires.good c.requires.net
    c.data_bit-bit.ensures.small c.data_bit-bit.ensures.net
    (record {
      from_data_bits = refl;
      from_items = refl;
      data_bits = search (rules, the_lemmas);
      items = search (rules, the_lemmas);
      child_bits = search (rules, the_lemmas);
      children = search (rules, the_lemmas);
    }) c.exchange.ensures.put

pub returns-then-node-bit-eq1-clause-put : goal.returns-then-node-bit-eq1-clause-put
returns-then-node-bit-eq1-clause-put g c = (
  here_puts node_shape g.W.KeyBits.width c.args.depth c.data_bit-bit.result
      (record { bits = g.W.KeyBits.number c.args.key; len = c.args.len }) c.args.value c.args.node.now _ _ _ _ _ c.requires.net c.requires.low
      c.requires.high c.data_bit-bit.ensures.bit (record {
        from_data_bits = refl;
        from_items = refl;
        data_bits = search (rules, the_lemmas);
        items = search (rules, the_lemmas);
        child_bits = search (rules, the_lemmas);
        children = search (rules, the_lemmas);
      }) c.exchange.ensures.put,
  here_was node_shape g.W.KeyBits.width
      c.args.depth c.data_bit-bit.result (record { bits = g.W.KeyBits.number c.args.key; len = c.args.len }) c.args.node.now c.exchange.result
      c.requires.low c.requires.high c.data_bit-bit.ensures.bit c.exchange.ensures.was,
)

pub returns-then-is_err-clause-good : goal.returns-then-is_err-clause-good
returns-then-is_err-clause-good g c = same_good node_shape g.W.KeyBits.width c.args.depth c.args.node.now _ c.requires.good
    (record { data_bits = search (rules, the_lemmas); items = search (rules, the_lemmas) })
    (record { child_bits = search (rules, the_lemmas); children = search (rules, the_lemmas) })

pub returns-then-is_err-clause-put : goal.returns-then-is_err-clause-put
returns-then-is_err-clause-put g c = (
  same_keeps node_shape g.W.KeyBits.width c.args.depth
      (record { bits = g.W.KeyBits.number c.args.key; len = c.args.len }) c.args.node.now _
      (record { data_bits = search (rules, the_lemmas); items = search (rules, the_lemmas) })
      (record { child_bits = search (rules, the_lemmas); children = search (rules, the_lemmas) }),
  refl,
)

pub attach-node-requires-clause-compact : goal.attach-node-requires-clause-compact
attach-node-requires-clause-compact g c = let here = (good_here node_shape g.W.KeyBits.width c.args.depth c.args.node.now c.requires.good).items in search (rules, the_lemmas, here)

pub attach-node-requires-clause-clear : goal.attach-node-requires-clause-clear
attach-node-requires-clause-clear g c = let off = test_off _ _ c.if-node-bit-eq1.false in search (rules, the_lemmas, off)

pub returns-clause-good : goal.returns-clause-good
returns-clause-good g c = here_good node_shape g.W.KeyBits.width c.args.depth c.data_bit-bit.result
    (record { bits = g.W.KeyBits.number c.args.key; len = c.args.len }) c.args.value c.args.node.now _ _ _ _ _ c.requires.good c.requires.net
    c.data_bit-bit.ensures.small c.data_bit-bit.ensures.net
    (record {
      from_data_bits = search (rules, the_lemmas);
      from_items = search (rules, the_lemmas);
      data_bits = search (rules, the_lemmas);
      items = search (rules, the_lemmas);
      child_bits = search (rules, the_lemmas);
      children = search (rules, the_lemmas);
    }) c.attach-node.ensures.put

pub returns-clause-put : goal.returns-clause-put
returns-clause-put g c = (
  here_puts node_shape g.W.KeyBits.width c.args.depth c.data_bit-bit.result
      (record { bits = g.W.KeyBits.number c.args.key; len = c.args.len }) c.args.value c.args.node.now _ _ _ _ _ c.requires.net c.requires.low
      c.requires.high c.data_bit-bit.ensures.bit (record {
        from_data_bits = search (rules, the_lemmas);
        from_items = search (rules, the_lemmas);
        data_bits = search (rules, the_lemmas);
        items = search (rules, the_lemmas);
        child_bits = search (rules, the_lemmas);
        children = search (rules, the_lemmas);
      }) c.attach-node.ensures.put,
  here_none node_shape g.W.KeyBits.width c.args.depth c.data_bit-bit.result (record { bits = g.W.KeyBits.number c.args.key; len = c.args.len })
      c.args.node.now c.requires.low c.requires.high c.data_bit-bit.ensures.bit (test_off _ _ c.if-node-bit-eq1.false),
)
