-- The lengths of headers and of fixed structs.
use Rattle.rt_wire.specs.AddrLabelLaws as addrlabel
use Rattle.rt_wire.specs.NsidLaws as nsid
use Rattle.rt_wire.specs.PrefixLaws as prefix
use Rattle.rt_wire.specs.CacheInfoLaws as cache_info

-- Each header and each struct is as long as its size.
pub ruleset lengths = (addrlabel.length-header, nsid.length-header, prefix.length-header, cache_info.length-cache_info)
