use Rattle.mirror_model.proofs.InSessions.{in_sessions}
use Rattle.mirror_model.proofs.laws.converges_in_sessions.Goals as goal

pub returns : goal.returns
returns g c = λ r order total anti start history before later. in_sessions r order total anti start history before later
