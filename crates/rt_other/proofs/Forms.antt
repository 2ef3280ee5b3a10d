-- The forms of the six messages, and their laws.
use Rattle.nl_core.specs.declared.default_nla.DefaultNla.{DefaultNla}
use Rattle.rt_other.specs.MessageForm.{MessageForm}
use Rattle.rt_other.specs.Opaque as Opaque
use Rattle.rt_other.specs.OpaqueLaws.{opaque-again, opaque-read}
use Rattle.rt_other.specs.RouteAttribute as Attribute
use Rattle.rt_other.specs.RouteAttributeLaws.{attribute-again, attribute-read}
use Rattle.rt_other.specs.declared.route_attribute.RouteAttribute.{RouteAttribute}
use Rattle.rt_other.specs.Address as Address
use Rattle.rt_other.specs.AddressLaws as address
use Rattle.rt_other.specs.declared.address.AddressHeader.{AddressHeader}
use Rattle.rt_other.specs.Link as Link
use Rattle.rt_other.specs.LinkLaws as link
use Rattle.rt_other.specs.declared.link.LinkHeader.{LinkHeader}
use Rattle.rt_other.specs.Route as Route
use Rattle.rt_other.specs.RouteLaws as route
use Rattle.rt_other.specs.declared.route.RouteHeader.{RouteHeader}
use Rattle.rt_other.specs.Rule as Rule
use Rattle.rt_other.specs.RuleLaws as rule
use Rattle.rt_other.specs.declared.rule.RuleHeader.{RuleHeader}
use Rattle.rt_other.specs.Tc as Tc
use Rattle.rt_other.specs.TcLaws as tc
use Rattle.rt_other.specs.declared.tc.TcHeader.{TcHeader}
use Rattle.rt_other.specs.TcAction as TcAction
use Rattle.rt_other.specs.TcActionLaws as tc_action
use Rattle.rt_other.specs.declared.tc_action.TcActionHeader.{TcActionHeader}
use Rattle.rt_other.proofs.MessageReadBack.{FormLaws}

-- ---- addresses of links

-- How messages on addresses of links stand in bytes.
abbrev pub address_form : MessageForm AddressHeader DefaultNla
address_form = record {
  len = 8;
  header_text = Address.header_text;
  header_at = Address.header_at;
  kind = Opaque.kind;
  value = Opaque.value;
  attribute_at = λ h. Opaque.attribute_at;
  HeaderReadsBack = Address.HeaderReadsBack;
  AttributeReadsBack = λ h. Opaque.IsInRange;
}

-- Messages on addresses of links read back.
pub address-laws : FormLaws address_form
address-laws = record {
  header_length = address.length-header;
  header_again = address.header-again;
  header_read = address.header-read;
  attribute_again = λ h. opaque-again tt;
  attribute_read = λ h. opaque-read tt;
}

-- ---- links

-- How messages on links stand in bytes.
abbrev pub link_form : MessageForm LinkHeader DefaultNla
link_form = record {
  len = 16;
  header_text = Link.header_text;
  header_at = Link.header_at;
  kind = Opaque.kind;
  value = Opaque.value;
  attribute_at = λ h. Opaque.attribute_at;
  HeaderReadsBack = Link.HeaderReadsBack;
  AttributeReadsBack = λ h. Opaque.IsInRange;
}

-- Messages on links read back.
pub link-laws : FormLaws link_form
link-laws = record {
  header_length = link.length-header;
  header_again = link.header-again;
  header_read = link.header-read;
  attribute_again = λ h. opaque-again tt;
  attribute_read = λ h. opaque-read tt;
}

-- ---- routes

-- How messages on routes stand in bytes.
abbrev pub route_form : MessageForm RouteHeader RouteAttribute
route_form = record {
  len = 12;
  header_text = Route.header_text;
  header_at = Route.header_at;
  kind = Attribute.kind;
  value = Attribute.value;
  attribute_at = λ h. Attribute.attribute_at h.address_family;
  HeaderReadsBack = Route.HeaderReadsBack;
  AttributeReadsBack = λ h. Attribute.ReadsBack h.address_family;
}

-- Messages on routes read back.
pub route-laws : FormLaws route_form
route-laws = record {
  header_length = route.length-header;
  header_again = route.header-again;
  header_read = route.header-read;
  attribute_again = λ h. attribute-again h.address_family;
  attribute_read = λ h. attribute-read h.address_family;
}

-- ---- rules

-- How messages on rules stand in bytes.
abbrev pub rule_form : MessageForm RuleHeader DefaultNla
rule_form = record {
  len = 12;
  header_text = Rule.header_text;
  header_at = Rule.header_at;
  kind = Opaque.kind;
  value = Opaque.value;
  attribute_at = λ h. Opaque.attribute_at;
  HeaderReadsBack = Rule.HeaderReadsBack;
  AttributeReadsBack = λ h. Opaque.IsInRange;
}

-- Messages on rules read back.
pub rule-laws : FormLaws rule_form
rule-laws = record {
  header_length = rule.length-header;
  header_again = rule.header-again;
  header_read = rule.header-read;
  attribute_again = λ h. opaque-again tt;
  attribute_read = λ h. opaque-read tt;
}

-- ---- traffic control

-- How messages on traffic control stand in bytes.
abbrev pub tc_form : MessageForm TcHeader DefaultNla
tc_form = record {
  len = 20;
  header_text = Tc.header_text;
  header_at = Tc.header_at;
  kind = Opaque.kind;
  value = Opaque.value;
  attribute_at = λ h. Opaque.attribute_at;
  HeaderReadsBack = Tc.HeaderReadsBack;
  AttributeReadsBack = λ h. Opaque.IsInRange;
}

-- Messages on traffic control read back.
pub tc-laws : FormLaws tc_form
tc-laws = record {
  header_length = tc.length-header;
  header_again = tc.header-again;
  header_read = tc.header-read;
  attribute_again = λ h. opaque-again tt;
  attribute_read = λ h. opaque-read tt;
}

-- ---- actions of traffic control

-- How messages on actions of traffic control stand in bytes.
abbrev pub tc_action_form : MessageForm TcActionHeader DefaultNla
tc_action_form = record {
  len = 4;
  header_text = TcAction.header_text;
  header_at = TcAction.header_at;
  kind = Opaque.kind;
  value = Opaque.value;
  attribute_at = λ h. Opaque.attribute_at;
  HeaderReadsBack = TcAction.HeaderReadsBack;
  AttributeReadsBack = λ h. Opaque.IsInRange;
}

-- Messages on actions of traffic control read back.
pub tc_action-laws : FormLaws tc_action_form
tc_action-laws = record {
  header_length = tc_action.length-header;
  header_again = tc_action.header-again;
  header_read = tc_action.header-read;
  attribute_again = λ h. opaque-again tt;
  attribute_read = λ h. opaque-read tt;
}
