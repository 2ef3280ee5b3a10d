use Rattle.std.proofs.Common.{◌∙◌, ap}
use Rattle.std.specs.Prelude.{min}
use Rattle.view_model.specs.LongestMatch.{net_of}
use Rattle.view_model.proofs.MadeLaws.{common_short}
use Rattle.trie_sets.proofs.common.common_len.Goals as goal

pub returns-clause-common : goal.returns-clause-common
returns-clause-common g c =
    common_short g.W.KeyBits.width (net_of (g.W.KeyBits.number c.args.key) c.args.len) (net_of (g.W.KeyBits.number c.args.other_key) c.args.other_len)
    c.common_bits.result c.min-2.result c.requires.key c.common_bits.ensures (c.min-2.ensures ∙ ap (λ x. min x c.args.other_len) c.min.ensures)
