use Rattle.mirror.proofs.TrackLaws.{reported}
use Rattle.mirror.proofs.runner.Runner.report.Goals as goal

pub returns : goal.returns
returns c s rs h =
    reported s rs c.args.self.now c.arrivals.result c.len.result c.in_step.result h c.in_step.ensures c.arrivals.ensures c.len.ensures.ordered
    c.len.ensures.len
