use Rattle.mirror.proofs.Generating.{none_written}
use Rattle.mirror.proofs.command.generate_and_report.Goals as goal

pub returns-in_err-report-clause-part : goal.returns-in_err-report-clause-part
returns-in_err-report-clause-part g c = none_written c.args.count (g.K.Sink.written c.args.out.now) c.from_residual.result
