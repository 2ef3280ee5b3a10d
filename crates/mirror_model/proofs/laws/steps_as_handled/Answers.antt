use Rattle.mirror_model.proofs.Handled.{as_handled, grows}
use Rattle.mirror_model.proofs.laws.steps_as_handled.Goals as goal

pub returns : goal.returns
returns g c = record {
  step = λ r o start before m source mirror. as_handled r start o before m source mirror;
  grows = λ r o start before e. grows r start o before e;
}
