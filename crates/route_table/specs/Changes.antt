-- The change of a message, and the last attribute of each kind, as the code has them.
use Rattle.std.specs.Prelude.{◌≡◌, List}
use Rattle.std.specs.Option.{option_map, option_copied}
use Rattle.rt_other.specs.declared.route.RouteHeader.{RouteHeader}
use Rattle.rt_other.specs.declared.route_attribute.RouteAttribute.{RouteAttribute}
use Rattle.rt_other.specs.declared.message.Message.{Message}
use Rattle.mirror_model.specs.Tables.{Change}
use Rattle.mirror_model.specs.Routes.{RouteKey, NextHop}
use Rattle.mirror_model.specs.RouteChanges.{last_of, destination_in, gateway_in, oif_in, priority_in, table_in}
use Rattle.mirror_model.specs.RouteChanges as model
use Rattle.route_table.specs.declared.change.Hop.{Hop}
use Rattle.route_table.specs.declared.change.RouteChange.{RouteChange}
use Rattle.route_table.specs.declared.change.LastAttributes.{LastAttributes}

-- What a route does with what takes it.
abbrev pub hop_value : Hop → NextHop
hop_value h = record { kind = h.kind; oif = h.oif; gateway = h.gateway }

-- The change of a route.
abbrev pub change_value : RouteChange → Change RouteKey NextHop
change_value c = record { key = record { network = c.network; priority = c.priority }; value = option_map hop_value c.hop }

-- What a message on a route says of what takes it.
abbrev pub next_hop : Message RouteHeader RouteAttribute → NextHop
next_hop m = model.next_hop m.header m.attributes

-- These are the last attributes of each kind.
pub record HasLastOf (attributes : List RouteAttribute) (last : LastAttributes) : Type 0 where
  pub destination : option_copied last.destination ≡ last_of destination_in attributes
  pub gateway : option_copied last.gateway ≡ last_of gateway_in attributes
  pub oif : last.oif ≡ last_of oif_in attributes
  pub priority : last.priority ≡ last_of priority_in attributes
  pub table : last.table ≡ last_of table_in attributes
