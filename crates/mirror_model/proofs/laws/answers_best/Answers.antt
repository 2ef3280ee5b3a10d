use Rattle.std.specs.FinMap.{entries}
use Rattle.mirror_model.proofs.BestRoutes.{is_best}
use Rattle.mirror_model.proofs.laws.answers_best.Goals as goal

pub returns : goal.returns
returns c = λ passes table. is_best passes (entries table)
