use Rattle.std.proofs.Common.{refl}
use Rattle.mirror.proofs.command.run_and_report.Goals as goal

pub returns-clause-ok : goal.returns-clause-ok
returns-clause-ok g c =
    let ran = c.in_ok-report.ensures in (
      record {
        report = c.in_ok-report.report;
        between = g.K.Sink.written c.run.new.out;
        run = ran.ok;
        end = ran.end;
        wrote = c.in_ok-write_report.ensures.ok;
      },
      refl,
    )
