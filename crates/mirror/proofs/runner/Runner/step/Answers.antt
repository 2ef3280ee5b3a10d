use Rattle.std.proofs.Common.{◌∙◌}
use Rattle.mirror.proofs.Faulted.{not_taken, not_written, refused_steps, writing_steps}
use Rattle.mirror.proofs.runner.Runner.step.Goals as goal

pub returns-in-Ok-clause-fails : goal.returns-in-Ok-clause-fails
returns-in-Ok-clause-fails g c =
    not_written c.args.line _ _ c.args.at _ _ _ _ c.write_text.ensures.part c.write_text.ensures.only (λ s rs h.
    let t = c.in-Ok.ensures.step s rs h in (t.0, c.as_slice.ensures.value ∙ t.1))

pub returns-in-Err-clause-fails : goal.returns-in-Err-clause-fails
returns-in-Err-clause-fails g c s rs h =
    rw c.at.ensures (not_taken s rs c.args.line c.args.at _ c.in-Err.fault (c.in-Err.ensures.cause s rs h))

pub returns-in-Ok-clause-only : goal.returns-in-Ok-clause-only
returns-in-Ok-clause-only g c = writing_steps c.write_text.result c.write_text.ensures.only

pub returns-in-Err-clause-only : goal.returns-in-Err-clause-only
returns-in-Err-clause-only g c = rw c.at.ensures (refused_steps c.in-Err.fault c.args.at)
