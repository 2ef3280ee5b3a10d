use Rattle.mirror_model.proofs.Lookups.{by_state}
use Rattle.mirror_model.proofs.laws.answers_by_state.Goals as goal

pub returns : goal.returns
returns g c = λ r start es. by_state r start es
