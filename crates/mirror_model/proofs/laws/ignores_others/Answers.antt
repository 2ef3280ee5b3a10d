use Rattle.mirror_model.proofs.StateOfEvents.{ignored}
use Rattle.mirror_model.proofs.laws.ignores_others.Goals as goal

pub returns : goal.returns
returns g c = λ o r m. ignored o r m
