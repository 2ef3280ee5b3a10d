-- The lengths of fixed structs.
use Rattle.rt_link_xstats.specs.BridgeStpLaws as stp
use Rattle.rt_link_xstats.specs.BridgeVlanLaws as vlan
use Rattle.rt_link_xstats.specs.BridgeMcastLaws as mcast

-- Each struct is as long as its size.
pub ruleset lengths = (stp.length-stp, vlan.length-vlan, mcast.length-mcast)
