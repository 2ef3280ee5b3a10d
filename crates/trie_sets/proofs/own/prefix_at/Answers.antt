use Rattle.std.proofs.Common.{◌∙◌, ap}
use Rattle.view_model.specs.LongestMatch.{net_of}
use Rattle.trie_sets.proofs.own.prefix_at.Goals as goal

pub returns-clause-net : goal.returns-clause-net
returns-clause-net g c = c.from_number.ensures.net ∙ ap (λ b. net_of b c.args.len) c.requires.no_rest

pub returns-clause-plain : goal.returns-clause-plain
returns-clause-plain g c = c.from_number.ensures.raw ∙ ap (λ n. n.bits) c.from_number.ensures.net ∙ c.requires.no_rest
