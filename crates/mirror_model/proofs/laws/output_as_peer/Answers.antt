use Rattle.mirror_model.proofs.OutputAsPeer.{output_as_peer}
use Rattle.mirror_model.proofs.laws.output_as_peer.Goals as goal

pub returns : goal.returns
returns g c = λ r f s routes links rs. output_as_peer f s r routes links rs
