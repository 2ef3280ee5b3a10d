-- The lengths of headers, of fixed structs, and of what is said of hardware.
use Rattle.rt_stats.specs.HwStatsLaws as hw_stats
use Rattle.rt_stats.specs.HwInfoLaws as hw_info
use Rattle.rt_stats.specs.MplsLinkLaws as mpls
use Rattle.rt_stats.specs.AfSpecLaws as af_spec
use Rattle.rt_stats.specs.StatsLaws as stats

-- Each header and each struct is as long as its size.
pub ruleset lengths = (hw_stats.length-hw_stats, hw_info.said-length, mpls.length-mpls, af_spec.entry-length, stats.length-header)
