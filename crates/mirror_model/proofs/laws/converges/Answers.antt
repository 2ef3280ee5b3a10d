use Rattle.mirror_model.proofs.Convergence.{convergence}
use Rattle.mirror_model.proofs.laws.converges.Goals as goal

pub returns : goal.returns
returns g c = λ o maps. convergence o maps
