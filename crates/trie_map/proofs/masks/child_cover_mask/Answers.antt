use Rattle.std.proofs.Common.{◌+◌, ◌∙◌, ap, arith, cond}
use Rattle.std.specs.Int.{bit_at}
use Rattle.trie_model.specs.Spots.{children_below}
use Rattle.trie_model.proofs.MaskLaws.{children_are}
use Rattle.trie_model.proofs.MaskNets.{child_in_bit}
use Rattle.trie_map.proofs.masks.child_cover_mask.Goals as goal

pub returns-clause-mask : goal.returns-clause-mask
returns-clause-mask g c child lt fits =
    ap (λ x. bit_at x child) c.child_cover_mask_for_bit.ensures.rows
    ∙ children_are (c.data_bit.result + 1) child (omega arith) (omega (arith, c.data_bit.ensures.small)) lt
    ∙ ap (λ b. cond b 1 0) (child_in_bit g.W.KeyBits.width c.args.depth (g.W.KeyBits.number c.args.key) c.args.len c.data_bit.result child c.data_bit.ensures.small c.data_bit.ensures.net lt fits)

pub returns-clause-rows : goal.returns-clause-rows
returns-clause-rows g c = c.child_cover_mask_for_bit.ensures.rows ∙ ap (λ b. children_below (b + 1)) c.data_bit.ensures.bit
