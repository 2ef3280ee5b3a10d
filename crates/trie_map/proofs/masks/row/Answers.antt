use Rattle.std.proofs.Common.{arith}
use Rattle.trie_model.proofs.MaskLaws.{row_fits, row_is, shift_small, ones_pos}
use Rattle.trie_map.proofs.masks.row.Goals as goal

pub overflow_shl-ones : goal.overflow_shl-ones
overflow_shl-ones c = shift_small c.args.rows (omega (arith, c.requires.rows))

pub overflow_sub-ones : goal.overflow_sub-ones
overflow_sub-ones c = ones_pos c.args.rows (omega (arith, c.requires.rows))

pub overflow_cast-result-then-first-lt32 : goal.overflow_cast-result-then-first-lt32
overflow_cast-result-then-first-lt32 c = record { fits = row_fits c.args.spot c.args.rows c.requires.spot c.requires.small c.requires.rows c.if-first-lt32.true }

pub returns-then-first-lt32 : goal.returns-then-first-lt32
returns-then-first-lt32 c = row_is c.args.spot c.args.rows c.requires.spot c.requires.small c.requires.rows c.if-first-lt32.true
