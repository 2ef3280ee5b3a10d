use Rattle.std.proofs.Common.{◌-◌, ◌∙◌, ap, arith}
use Rattle.trie_model.specs.Views.{net_of_bit}
use Rattle.trie_model.proofs.SpotOrder.{five_small}
use Rattle.trie_model.proofs.MaskLaws.{bit_is, bit_code_small, data_bit_net}
use Rattle.trie_map.proofs.masks.data_bit.Goals as goal

pub returns-clause-bit : goal.returns-clause-bit
returns-clause-bit g c = bit_is g.W.KeyBits.width c.args.depth c.args.len (g.W.KeyBits.number c.args.key) c.five_bits.result c.requires.low c.requires.high c.requires.end c.five_bits.ensures

pub returns-clause-small : goal.returns-clause-small
returns-clause-small g c =
    let small = five_small g.W.KeyBits.width c.args.depth (g.W.KeyBits.number c.args.key) in
    bit_code_small (c.args.len - c.args.depth) c.five_bits.result (omega (arith, c.requires.low, c.requires.high)) (omega (arith, small, c.five_bits.ensures))

pub returns-clause-net : goal.returns-clause-net
returns-clause-net g c =
    ap (net_of_bit g.W.KeyBits.width c.args.depth (g.W.KeyBits.number c.args.key))
    (bit_is g.W.KeyBits.width c.args.depth c.args.len (g.W.KeyBits.number c.args.key) c.five_bits.result c.requires.low c.requires.high
    c.requires.end c.five_bits.ensures)
    ∙ data_bit_net g.W.KeyBits.width c.args.depth c.args.len (g.W.KeyBits.number c.args.key) c.requires.low c.requires.high c.requires.end c.requires.fits
