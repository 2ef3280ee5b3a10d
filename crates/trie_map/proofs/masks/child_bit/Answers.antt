use Rattle.trie_model.proofs.SpotOrder.{five_small}
use Rattle.trie_model.proofs.MaskNets.{five_toward}
use Rattle.std.proofs.Common.{arith}
use Rattle.trie_map.proofs.masks.child_bit.Goals as goal

pub returns-clause-small : goal.returns-clause-small
returns-clause-small g c =
    let small = five_small g.W.KeyBits.width c.args.depth (g.W.KeyBits.number c.args.key) in
    omega (arith, small, c.five_bits.ensures)

pub returns-clause-toward : goal.returns-clause-toward
returns-clause-toward g c fits = five_toward g.W.KeyBits.width c.args.depth (g.W.KeyBits.number c.args.key) c.five_bits.result c.five_bits.ensures fits
