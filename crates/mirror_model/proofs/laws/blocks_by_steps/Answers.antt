use Rattle.mirror_model.proofs.Blocked.{blocked_at-more}
use Rattle.mirror_model.proofs.BlockedSets.{same_answer}
use Rattle.mirror_model.proofs.laws.blocks_by_steps.Goals as goal

pub returns : goal.returns
returns g c = record { step = blocked_at-more; set = same_answer }
