-- The lengths of headers and of fixed structs.
use Rattle.rt_neighbour_table.specs.NeighbourTableLaws as neighbour_table
use Rattle.rt_neighbour_table.specs.ConfigLaws as config
use Rattle.rt_neighbour_table.specs.StatsLaws as stats

-- Each header and each struct is as long as its size.
pub ruleset lengths = (neighbour_table.length-header, config.length-config, stats.length-stats)
