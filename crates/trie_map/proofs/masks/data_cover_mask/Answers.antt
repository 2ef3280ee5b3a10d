use Rattle.std.proofs.Common.{◌+◌, ◌∙◌, ap, arith, cond}
use Rattle.std.specs.Int.{bit_at}
use Rattle.trie_model.specs.Spots.{rows_below}
use Rattle.trie_model.proofs.MaskLaws.{rows_are}
use Rattle.trie_model.proofs.MaskNets.{bit_in_bit}
use Rattle.trie_map.proofs.masks.data_cover_mask.Goals as goal

pub returns-clause-mask : goal.returns-clause-mask
returns-clause-mask g c bit lt fits =
    ap (λ x. bit_at x bit) c.data_cover_mask_for_bit.ensures.rows
    ∙ rows_are (c.data_bit.result + 1) bit (omega arith) (omega (arith, c.data_bit.ensures.small)) lt
    ∙ ap (λ b. cond b 1 0) (bit_in_bit g.W.KeyBits.width c.args.depth (g.W.KeyBits.number c.args.key) c.args.len c.data_bit.result bit c.data_bit.ensures.small c.data_bit.ensures.net lt fits)

pub returns-clause-rows : goal.returns-clause-rows
returns-clause-rows g c = c.data_cover_mask_for_bit.ensures.rows ∙ ap (λ b. rows_below (b + 1)) c.data_bit.ensures.bit
