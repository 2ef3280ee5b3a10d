-- The lengths of headers and of fixed structs.
use Rattle.rt_neighbour.specs.NeighbourLaws as neighbour
use Rattle.rt_neighbour.specs.CacheInfoLaws as cache_info

-- Each header and each struct is as long as its size.
pub ruleset lengths = (neighbour.length-header, cache_info.length-cache_info)
