-- The lengths of headers.
use Rattle.rt_other.specs.AddressLaws as address
use Rattle.rt_other.specs.LinkLaws as link
use Rattle.rt_other.specs.RouteLaws as route
use Rattle.rt_other.specs.RuleLaws as rule
use Rattle.rt_other.specs.TcLaws as tc
use Rattle.rt_other.specs.TcActionLaws as tc_action

-- Each header is as long as its size.
pub ruleset headers = (
  address.length-header,
  link.length-header,
  route.length-header,
  rule.length-header,
  tc.length-header,
  tc_action.length-header,
)
