use Rattle.std.proofs.Common.{◌≡◌, inl, refl, ap, sym, ◌∙◌, Err}
use Rattle.mirror.proofs.Statuses.{generated_by, other_of, ran_by, reading_of, writing_of}
use Rattle.mirror.proofs.command.cli.Goals as goal

pub returns-in-Ok-clause-ran : goal.returns-in-Ok-clause-ran
returns-in-Ok-clause-ran g c settings spell = inl (refl, (c.in-Ok.ensures.ran settings spell).0)

pub returns-in-Err-clause-ran : goal.returns-in-Err-clause-ran
returns-in-Err-clause-ran g c settings spell =
    ran_by settings _ c.in-Err.fault c.status.result c.status.ensures (c.in-Err.ensures.ran settings spell)

pub returns-in-Ok-clause-generated : goal.returns-in-Ok-clause-generated
returns-in-Ok-clause-generated g c n asked =
    let told = c.in-Ok.ensures.generated n asked in (inl (refl, told.0.1), told.1)

pub returns-in-Err-clause-generated : goal.returns-in-Err-clause-generated
returns-in-Err-clause-generated g c n asked =
    let told = c.in-Err.ensures.generated n asked in
    (generated_by n _ _ c.in-Err.fault c.status.result c.status.ensures told.0, told.1)

pub returns-in-Err-clause-usage : goal.returns-in-Err-clause-usage
returns-in-Err-clause-usage g c is = c.in-Err.ensures.usage (ap Err (other_of c.in-Err.fault (sym c.status.ensures ∙ is)))

pub returns-in-Err-clause-read_cause : goal.returns-in-Err-clause-read_cause
returns-in-Err-clause-read_cause g c is = c.in-Err.ensures.read_cause (ap Err (reading_of c.in-Err.fault (sym c.status.ensures ∙ is)))

pub returns-in-Err-clause-write_cause : goal.returns-in-Err-clause-write_cause
returns-in-Err-clause-write_cause g c is = c.in-Err.ensures.write_cause (ap Err (writing_of c.in-Err.fault (sym c.status.ensures ∙ is)))
