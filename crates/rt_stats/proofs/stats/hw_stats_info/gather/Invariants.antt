use Rattle.std.proofs.Common.{◌≡◌, length}
use Rattle.rt_stats.specs.HwInfo.{info_by}
use Rattle.rt_stats.specs.HwInfoLaws.{said_from}
use Rattle.rt_stats.proofs.stats.hw_stats_info.gather.Given as goal

abbrev pub invariant-loop-rest : goal.invariant-loop-rest
invariant-loop-rest g l = said_from g.L.Level.says l.info l.rest ≡ info_by g.L.Level.says l.bytes

abbrev pub decreases-loop-rest : goal.decreases-loop-rest
decreases-loop-rest g l = length l.rest
