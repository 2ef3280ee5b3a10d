use Rattle.mirror_model.proofs.StateOfEvents.{afresh}
use Rattle.mirror_model.proofs.laws.is_afresh.Goals as goal

pub returns : goal.returns
returns g c = λ o. afresh o
