use Rattle.std.proofs.Common.{◌≡◌}
use Rattle.rt_other.specs.Stats.{counters}
use Rattle.rt_other.proofs.stats64.Stats64.parse.Given as goal

abbrev pub invariant-loop-i : goal.invariant-loop-i
invariant-loop-i l = l.counters ≡ counters l.i l.payload
