use Rattle.transcript_io.specs.Io.{traffic}
use Rattle.mirror.proofs.Complete.{complete_from}
use Rattle.mirror.proofs.Converged.{converged_from}
use Rattle.mirror.proofs.program.run.Goals as goal

pub returns-clause-complete : goal.returns-clause-complete
returns-clause-complete g c =
    let run = c.run_transcript in
    let io = traffic g.S.Source.left c.args.input.now run.new.input g.K.Sink.written c.args.out.now run.new.out in
    let e = run.ensures in
    complete_from c.args.settings.now io run.result _ _ e.ok e.end e.ended e.read_cause e.write_cause

pub returns-clause-converges : goal.returns-clause-converges
returns-clause-converges g c =
    let run = c.run_transcript in
    let io = traffic g.S.Source.left c.args.input.now run.new.input g.K.Sink.written c.args.out.now run.new.out in
    converged_from c.args.settings.now io run.result run.ensures.ok
