use Rattle.std.proofs.Common.{◌≡◌, length}
use Rattle.rt_stats.specs.AfSpec.{entry_at}
use Rattle.rt_stats.proofs.stats.af_spec.parse_mpls.Given as goal

abbrev pub invariant-loop-rest : goal.invariant-loop-rest
invariant-loop-rest l = entry_at l.rest ≡ entry_at l.entry

abbrev pub decreases-loop-rest : goal.decreases-loop-rest
decreases-loop-rest l = length l.rest
