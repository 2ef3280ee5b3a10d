use Rattle.std.proofs.Common.{◌≡◌, ℕ, Ok, refl, subst}
use Rattle.session_model.specs.declared.settings.Settings.{Settings}
use Rattle.transcript_io.specs.Io.{GainedSome, traffic}
use Rattle.mirror.specs.declared.program_fault.ProgramFault.TheVariants as program
use Rattle.mirror.specs.Cli.{HasFailed, HasReported, RanTo, ok_line}
use Rattle.mirror.specs.Generating.{GeneratedTo, generated_report}
use Rattle.mirror.proofs.Choices.{same_settings}
use Rattle.mirror.proofs.Counts.{same_count}
use Rattle.mirror.proofs.Errors.{of_err}
use Rattle.mirror.proofs.command.run_words.Goals as goal

pub returns-in_err-generate_and_report-clause-generated : goal.returns-in_err-generate_and_report-clause-generated
returns-in_err-generate_and_report-clause-generated g c n asked =
    let same : c.in-Some.count ≡ n = same_count _ _ _ c.in-Some.ensures asked in
    let before = g.K.Sink.written c.args.out.now in
    let after = g.K.Sink.written c.generate_and_report.new.out in
    let e = c.in_err-generate_and_report in
    let part = subst (λ (k : ℕ). GainedSome before after (ok_line (generated_report k))) same e.ensures.part in
    (of_err c.from_residual.result (program.Run e.field-0.0) (GeneratedTo n before after) c.from_residual.ensures.1 (e.ensures.only, part), refl)

pub returns-in-Some-clause-generated : goal.returns-in-Some-clause-generated
returns-in-Some-clause-generated g c n asked =
    let same : c.in-Some.count ≡ n = same_count _ _ _ c.in-Some.ensures asked in
    let before = g.K.Sink.written c.args.out.now in
    let after = g.K.Sink.written c.generate_and_report.new.out in
    let told = c.in_ok-generate_and_report.ensures in
    (subst (λ (k : ℕ). GeneratedTo k before after (Ok c.in_ok-generate_and_report.field-0)) same (told.report, told.ok), refl)

pub returns-in_err-run_and_report-clause-ran : goal.returns-in_err-run_and_report-clause-ran
returns-in_err-run_and_report-clause-ran g c settings spell =
    let same : c.in-Some-read_words.settings ≡ settings = same_settings _ _ _ c.in-Some-read_words.ensures spell in
    let after = c.run_and_report.new in
    let io = traffic g.S.Source.left c.args.input.now after.input g.K.Sink.written c.args.out.now after.out in
    let e = c.in_err-run_and_report in
    let failed = subst (λ (s : Settings). HasFailed s io e.field-0.0) same e.ensures.failed in
    of_err c.from_residual-in_err-run_and_report.result (program.Run e.field-0.0) (RanTo settings io)
    c.from_residual-in_err-run_and_report.ensures.1 failed

pub returns-clause-ran : goal.returns-clause-ran
returns-clause-ran g c settings spell =
    let same : c.in-Some-read_words.settings ≡ settings = same_settings _ _ _ c.in-Some-read_words.ensures spell in
    let after = c.run_and_report.new in
    let io = traffic g.S.Source.left c.args.input.now after.input g.K.Sink.written c.args.out.now after.out in
    subst (λ (s : Settings). HasReported s io c.in_ok-run_and_report.field-0) same c.in_ok-run_and_report.ensures.ok
