use Rattle.mirror_model.proofs.Lookups.{as_peer}
use Rattle.mirror_model.proofs.laws.answers_as_peer.Goals as goal

pub returns : goal.returns
returns g c = λ r start routes links before later. as_peer r start routes links before later
