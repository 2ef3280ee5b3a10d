use Rattle.std.proofs.Common.{Err, refl, ap, ◌∙◌}
use Rattle.mirror.proofs.Begins.{begins}
use Rattle.mirror.proofs.Errors.{err_from, err_same, risen_still}
use Rattle.mirror.proofs.Ends.{ended_before, ended_flushed, ended_unfinished, ended_writing, some_begun, none_begun, told_for, was_ended, was_run, was_run_for}
use Rattle.session_model.specs.declared.outcome.RunFault.TheVariants as run
use Rattle.mirror.specs.declared.runner.Runner.{Runner}
use Rattle.mirror.proofs.program.run_transcript.Goals as goal

pub read_all-ended-requires-clause-begun : goal.read_all-ended-requires-clause-begun
read_all-ended-requires-clause-begun g c =
    let made = c.new-state.ensures in
    begins c.args.settings.now _ _ c.new-state.result c.in_ok-runner.runner c.in_ok-runner.ensures.tracks made.runner made.line made.start
    made.taken made.text

pub returns-in_err-runner-clause-ended : goal.returns-in_err-runner-clause-ended
returns-in_err-runner-clause-ended g c =
    err_from c.from_residual.result run.NoMemory _ c.from_residual.ensures.1 (ended_before _ _ _)

pub returns-in_err-flush-clause-ended : goal.returns-in_err-flush-clause-ended
returns-in_err-flush-clause-ended g c =
    let e = c.in_err-flush in
    let r = c.read_all-ended in
    let settings = ap (λ (r : Runner). r.settings) c.new-state.ensures.runner ∙ c.in_ok-runner.ensures.tracks.settings in
    err_from c.from_residual-in_err-flush.result e.field-0.0 _ c.from_residual-in_err-flush.ensures.1
    (was_ended _ _ _ _ _ _ e.field-0.0 settings
    (ended_writing _ _ _ _ _ _ r.new.self.text.items _ e.field-0.0 r.ensures.stands e.ensures.part refl e.ensures.only))

pub returns-in_err-ended-clause-ended : goal.returns-in_err-ended-clause-ended
returns-in_err-ended-clause-ended g c =
    let e = c.in_err-ended in
    let r = c.read_all-ended in
    let settings = ap (λ (r : Runner). r.settings) c.new-state.ensures.runner ∙ c.in_ok-runner.ensures.tracks.settings in
    err_from c.from_residual-in_err-ended.result e.field-0.0 _ c.from_residual-in_err-ended.ensures.1
    (was_ended _ _ _ _ _ _ e.field-0.0 settings
    (ended_flushed _ _ _ _ _ _ r.new.self.text.items e.field-0.0 e.ensures.ended c.in_ok-flush.ensures.ok))

pub returns-in_err-ended-clause-read_cause : goal.returns-in_err-ended-clause-read_cause
returns-in_err-ended-clause-read_cause g c is =
    c.in_err-ended.ensures.read_cause
    (ap Err (err_same c.from_residual-in_err-ended.result c.in_err-ended.field-0.0 run.ReadFault c.from_residual-in_err-ended.ensures.1 is))

pub returns-in_err-ended-clause-write_cause : goal.returns-in_err-ended-clause-write_cause
returns-in_err-ended-clause-write_cause g c is =
    let same = err_same c.from_residual-in_err-ended.result c.in_err-ended.field-0.0 run.WriteFault c.from_residual-in_err-ended.ensures.1 is in
    risen_still _ _ _ (c.in_err-ended.ensures.write_cause (ap Err same)) c.flush.ensures.later

pub returns-then-begun-clause-ended : goal.returns-then-begun-clause-ended
returns-then-begun-clause-ended g c =
    let same = c.flush.ensures.same in
    let p = c.read_all-ended.new.self in
    let settings = ap (λ (r : Runner). r.settings) c.new-state.ensures.runner ∙ c.in_ok-runner.ensures.tracks.settings in
    was_ended _ _ _ _ _ _ _ settings
    (ended_unfinished _ _ _ _ _ _ p c.flush.new.self.line_start c.in_ok-ended.ensures.ok c.in_ok-ended.ensures.end
    c.in_ok-flush.ensures.ok (some_begun p.decoder c.flush.new.self.decoder c.begun.result same.decoder c.begun.ensures c.if-begun.true)
    same.start)

pub returns-clause-ok : goal.returns-clause-ok
returns-clause-ok g c =
    let same = c.flush.ensures.same in
    let p = c.read_all-ended.new.self in
    let settings = ap (λ (r : Runner). r.settings) c.new-state.ensures.runner ∙ c.in_ok-runner.ensures.tracks.settings in
    let reports = told_for p.runner c.flush.new.self.runner c.report.result same.runner c.report.ensures in
    was_run_for _ _ _ _ _ _ c.report.result settings
    (was_run _ _ _ _ _ _ p c.report.result c.in_ok-ended.ensures.ok c.in_ok-flush.ensures.ok
    (none_begun p.decoder c.flush.new.self.decoder c.begun.result same.decoder c.begun.ensures c.if-begun.false) reports)
