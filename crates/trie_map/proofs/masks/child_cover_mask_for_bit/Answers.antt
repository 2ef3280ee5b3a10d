use Rattle.std.proofs.Common.{◌+◌, ◌∙◌, ap, arith}
use Rattle.std.specs.Int.{bit_at}
use Rattle.trie_model.proofs.MaskLaws.{child_fits, child_is}
use Rattle.trie_model.proofs.MaskNets.{for_bit_children}
use Rattle.trie_map.proofs.masks.child_cover_mask_for_bit.Goals as goal

pub overflow_cast-result-2 : goal.overflow_cast-result-2
overflow_cast-result-2 c = record { fits = child_fits (c.args.bit + 1) c.level-rest.result (omega arith) (omega (arith, c.requires)) c.level-rest.ensures }

pub returns-clause-rows : goal.returns-clause-rows
returns-clause-rows c = child_is (c.args.bit + 1) c.level-rest.result (omega arith) (omega (arith, c.requires)) c.level-rest.ensures

pub returns-clause-mask : goal.returns-clause-mask
returns-clause-mask c w depth key child lt fits =
    ap (λ x. bit_at x child) (child_is (c.args.bit + 1) c.level-rest.result (omega arith) (omega (arith, c.requires)) c.level-rest.ensures)
    ∙ for_bit_children w depth key c.args.bit child c.requires lt fits

pub returns-clause-small : goal.returns-clause-small
returns-clause-small c = child_fits (c.args.bit + 1) c.level-rest.result (omega arith) (omega (arith, c.requires)) c.level-rest.ensures
