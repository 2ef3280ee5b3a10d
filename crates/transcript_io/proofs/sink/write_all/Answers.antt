use Rattle.std.proofs.Common.{arith}
use Rattle.transcript_io.proofs.Gains.{gained_took}
use Rattle.transcript_io.proofs.sink.write_all.Goals as goal

pub loop-rest-preserved : goal.loop-rest-preserved
loop-rest-preserved g c =
    let took = c.in-Took.ensures.wrote.2 in
    let later = c.split_at.ensures.back in
    record {
      gained = gained_took _ _ _ _ _ _ c.in-Took.count c.loop-rest.invariant.gained took later;
      later = omega (arith, c.loop-rest.invariant.later, c.write.ensures.later);
    }
