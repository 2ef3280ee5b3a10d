use Rattle.std.proofs.Common.{[]}
use Rattle.mirror_model.proofs.Orderly.{orderly}
use Rattle.mirror_model.proofs.SessionEvents.{closed_as_shut}
use Rattle.mirror_model.proofs.Records.{records_alone}
use Rattle.mirror_model.proofs.laws.suits_sessions.Goals as goal

pub returns : goal.returns
returns g c = record { orderly = λ r start es. orderly r start es; closed = λ r start es. closed_as_shut r start [] es; alone = λ r f s. records_alone r f s }
