use Rattle.std.specs.FinMap.{same_map}
use Rattle.mirror_model.specs.FiniteTables.{finite}
use Rattle.mirror_model.proofs.Convergence.{convergence}
use Rattle.mirror_model.proofs.FiniteTables.{finite_maps}
use Rattle.mirror_model.proofs.laws.converges_exactly.Goals as goal

pub returns : goal.returns
returns g c = λ order total anti history before later table honest is.
    same_map total anti table _ (convergence (finite order) (finite_maps order total) history before later table honest is)
