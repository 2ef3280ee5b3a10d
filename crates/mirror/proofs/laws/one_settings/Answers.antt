use Rattle.mirror.proofs.Choices.{same_settings}
use Rattle.mirror.proofs.laws.one_settings.Goals as goal

pub returns : goal.returns
returns c words s t = same_settings words s t
