use Rattle.std.proofs.Common.{rules}
use Rattle.mirror.proofs.Choices.{taken_more}
use Rattle.mirror.proofs.options.ChosenOptions.take.Goals as goal

pub returns : goal.returns
returns c choices h = taken_more choices c.args.choice _ _ _ _ c.kind-kind.ensures.kind (search rules) c.change.ensures c.if-self-kind.false h
