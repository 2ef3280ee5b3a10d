use Rattle.rt_stats.specs.AfSpecLaws.{entry-again}
use Rattle.rt_stats.specs.HwInfoLaws.{info-again}
use Rattle.rt_stats.proofs.laws.entries_read_back.Goals as goal

pub returns-clause-mpls : goal.returns-clause-mpls
returns-clause-mpls c = entry-again

pub returns-clause-hardware : goal.returns-clause-hardware
returns-clause-hardware c = info-again
