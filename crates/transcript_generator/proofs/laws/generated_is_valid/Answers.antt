use Rattle.transcript_generator.proofs.Valid.{generated-valid}
use Rattle.transcript_generator.proofs.laws.generated_is_valid.Goals as goal

pub returns : goal.returns
returns g c = λ f n within. generated-valid f n within
