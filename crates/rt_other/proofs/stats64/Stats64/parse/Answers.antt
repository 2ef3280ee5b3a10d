use Rattle.std.proofs.Common.{sym}
use Rattle.rt_other.proofs.Counters.{counters-more}
use Rattle.rt_other.proofs.stats64.Stats64.parse.Goals as goal

pub loop-i-preserved : goal.loop-i-preserved
loop-i-preserved c =
    rw (c.in_ok-push.ensures.ok, c.loop-i.invariant, c.u64_at.ensures) (sym (counters-more c.loop-i.i c.args.payload.now))
