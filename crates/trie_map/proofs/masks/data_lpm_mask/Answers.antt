use Rattle.std.proofs.Common.{◌+◌, ◌∙◌, ap, arith, cond}
use Rattle.std.specs.Int.{bit_at}
use Rattle.trie_model.proofs.SpotOrder.{five_small}
use Rattle.trie_model.proofs.MaskLaws.{above_fit, above_are}
use Rattle.trie_model.proofs.MaskNets.{bit_above_bit, bit_above_child}
use Rattle.trie_map.proofs.masks.data_lpm_mask.Goals as goal

pub returns-then-len-depth-lt5-clause-mask : goal.returns-then-len-depth-lt5-clause-mask
returns-then-len-depth-lt5-clause-mask g c bit lt =
    ap (λ x. bit_at x bit) c.all_above.ensures
    ∙ above_are (c.data_bit.result + 1) bit (omega arith) (omega (arith, c.data_bit.ensures.small)) lt
    ∙ ap (λ b. cond b 1 0) (bit_above_bit g.W.KeyBits.width c.args.depth (g.W.KeyBits.number c.args.key) c.args.len c.data_bit.result bit c.data_bit.ensures.small c.data_bit.ensures.net c.requires.end lt)

pub returns-else-len-depth-lt5-clause-mask : goal.returns-else-len-depth-lt5-clause-mask
returns-else-len-depth-lt5-clause-mask g c bit lt =
    let small = five_small g.W.KeyBits.width c.args.depth (g.W.KeyBits.number c.args.key) in
    ap (λ x. bit_at x bit) c.all_above-else-len-depth-lt5.ensures
    ∙ above_are (32 + c.five_bits.result) bit (omega arith) (omega (arith, small, c.five_bits.ensures)) lt
    ∙ ap (λ b. cond b 1 0) (bit_above_child g.W.KeyBits.width c.args.depth (g.W.KeyBits.number c.args.key) c.args.len c.five_bits.result bit c.five_bits.ensures (omega (arith, c.requires.low, c.if-len-depth-lt5.false)) c.requires.end lt)

pub returns-then-len-depth-lt5-clause-small : goal.returns-then-len-depth-lt5-clause-small
returns-then-len-depth-lt5-clause-small g c =
    let fit = above_fit (c.data_bit.result + 1) (omega arith) (omega (arith, c.data_bit.ensures.small)) in
    omega (arith, fit, c.all_above.ensures)

pub returns-else-len-depth-lt5-clause-small : goal.returns-else-len-depth-lt5-clause-small
returns-else-len-depth-lt5-clause-small g c =
    let small = five_small g.W.KeyBits.width c.args.depth (g.W.KeyBits.number c.args.key) in
    let fit = above_fit (32 + c.five_bits.result) (omega arith) (omega (arith, small, c.five_bits.ensures)) in
    omega (arith, fit, c.all_above-else-len-depth-lt5.ensures)
