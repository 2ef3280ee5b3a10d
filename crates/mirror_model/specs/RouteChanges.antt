-- What a message of the routing family changes in a peer's table of routes, and how a mirror of routes reads its session.
use Rattle.std.specs.Prelude.{◌==◌, ◌&&◌, ◌||◌, ℕ, Bool, true, false, if◌then◌else◌, List, [], ◌∷◌, nat_le, Option, Some, None, option_and_then}
use Rattle.std.specs.Option.{option_map, option_or, unwrap_or}
use Rattle.std.specs.Slice.Scan.{big_endian}
use Rattle.rt_other.specs.declared.address_family.AddressFamily.{AddressFamily}
use Rattle.rt_other.specs.declared.address_family.AddressFamily.TheVariants.{Inet, Inet6}
use Rattle.rt_other.specs.declared.route.RouteHeader.{RouteHeader}
use Rattle.rt_other.specs.declared.route_attribute.RouteAddress.{RouteAddress}
use Rattle.rt_other.specs.declared.route_attribute.RouteAddress.TheVariants as bytes
use Rattle.rt_other.specs.declared.route_attribute.RouteAttribute.{RouteAttribute}
use Rattle.rt_other.specs.declared.route_attribute.RouteAttribute.TheVariants.{Destination, Oif, Gateway, Priority, Table}
use Rattle.rt_dispatch.specs.declared.message.RouteNetlinkMessage.{RouteNetlinkMessage}
use Rattle.rt_dispatch.specs.declared.message.RouteNetlinkMessage.TheVariants.{NewRoute, DelRoute}
use Rattle.session_model.specs.Events.{DumpKind, OfRoutes, OfLinks}
use Rattle.trie_model.specs.Nets.{masked}
use Rattle.session_model.specs.declared.network.Address.{Address}
use Rattle.session_model.specs.declared.network.Address.TheVariants as address
use Rattle.session_model.specs.declared.network.Network.{Network}
use Rattle.session_model.specs.declared.network.Network.TheVariants as network
use Rattle.mirror_model.specs.Tables.{Change}
use Rattle.mirror_model.specs.Sessions.{Reader}
use Rattle.mirror_model.specs.Routes.{RouteKey, NextHop}
use Rattle.mirror_model.specs.Lookups.{Readers}

-- ---- attributes

-- What the last of the attributes of a kind says, if there is one.
abbrev pub last_of : {A : Type 0} → (RouteAttribute → Option A) → List RouteAttribute → Option A
last_of says [] = None
last_of says (a ∷ attributes) = option_or (last_of says attributes) (says a)

-- What one attribute says: where the route leads.
abbrev pub destination_in : RouteAttribute → Option RouteAddress
destination_in (Destination a) = Some a
destination_in _ = None

-- Its gateway.
abbrev pub gateway_in : RouteAttribute → Option RouteAddress
gateway_in (Gateway a) = Some a
gateway_in _ = None

-- The index of the link that it leaves by.
abbrev pub oif_in : RouteAttribute → Option ℕ
oif_in (Oif n) = Some n
oif_in _ = None

-- Its priority.
abbrev pub priority_in : RouteAttribute → Option ℕ
priority_in (Priority n) = Some n
priority_in _ = None

-- Its routing table.
abbrev pub table_in : RouteAttribute → Option ℕ
table_in (Table n) = Some n
table_in _ = None

-- ---- addresses of a family

-- The number of an IPv4 address; any other address has none.
abbrev pub inet_number : RouteAddress → Option ℕ
inet_number (bytes.Inet a) = Some (big_endian 0 a.0)
inet_number (bytes.Inet6 a) = None
inet_number (bytes.Other octets) = None

-- The number of an IPv6 address.
abbrev pub inet6_number : RouteAddress → Option ℕ
inet6_number (bytes.Inet a) = None
inet6_number (bytes.Inet6 a) = Some (big_endian 0 a.0)
inet6_number (bytes.Other octets) = None

-- The first bits of a number, and how many: none of a length above the width. The length 0 needs no number.
abbrev pub leading : ℕ → ℕ → Option ℕ → Option (ℕ × ℕ)
leading width length number =
    if length == 0 then Some (0, 0)
    else if nat_le length width then option_map (λ n. (masked width n length, length)) number
    else None

-- Where a route of a family leads, by its destination and its length.
abbrev pub network_to : AddressFamily → ℕ → Option RouteAddress → Option Network
network_to Inet length destination = option_map (λ n. network.V4 n) (leading 32 length (option_and_then inet_number destination))
network_to Inet6 length destination = option_map (λ n. network.V6 n) (leading 128 length (option_and_then inet6_number destination))
network_to _ length destination = None

-- The gateway of a route of a family: none where the address is of another family.
abbrev pub gateway_of : AddressFamily → Option RouteAddress → Option Address
gateway_of Inet gateway = option_map (λ n. address.V4 n) (option_and_then inet_number gateway)
gateway_of Inet6 gateway = option_map (λ n. address.V6 n) (option_and_then inet6_number gateway)
gateway_of _ gateway = None

-- ---- messages

module _ (h : RouteHeader) (attributes : List RouteAttribute) where
  -- The routing table of a route: its last Table attribute, else the header's.
  abbrev pub routing_table : ℕ
  routing_table = unwrap_or (last_of table_in attributes) h.table

  -- What a route does with what takes it.
  abbrev pub next_hop : NextHop
  next_hop = record { kind = h.kind.0; oif = last_of oif_in attributes; gateway = gateway_of h.address_family (last_of gateway_in attributes) }

  -- The key of a route of a table, if the route has one: it is of IPv4 or IPv6, for any source, and leads somewhere. An
  -- absent priority is 0.
  abbrev pub key_in_table : ℕ → Option RouteKey
  key_in_table table =
      if (routing_table == table) && (h.source_prefix_length == 0)
      then option_map
      (λ n. record { network = n; priority = unwrap_or (last_of priority_in attributes) 0 })
      (network_to h.address_family h.destination_prefix_length (last_of destination_in attributes))
      else None

  -- The change by which a route comes or goes.
  abbrev pub route_change : ℕ → Option NextHop → Option (Change RouteKey NextHop)
  route_change table value = option_map (λ key. record { key = key; value = value }) (key_in_table table)

-- What a message changes in the peer's routing table of this number: a new route puts, and replaces, a deleted one deletes.
abbrev pub message_change : ℕ → RouteNetlinkMessage → Option (Change RouteKey NextHop)
message_change table (NewRoute m) = route_change m.header m.attributes table (Some (next_hop m.header m.attributes))
message_change table (DelRoute m) = route_change m.header m.attributes table None
message_change table _ = None

-- ---- readers

-- A dump is of routes.
abbrev pub is_of_routes : DumpKind → Bool
is_of_routes OfRoutes = true
is_of_routes OfLinks = false

-- How a mirror of a routing table reads its session: dumps of routes, and unreadable routes (RTM_NEWROUTE and RTM_DELROUTE)
-- are a loss.
abbrev pub route_reader : ℕ → ℕ → Reader RouteNetlinkMessage RouteKey NextHop
route_reader peer table = record { peer = peer; dumps = is_of_routes; change = message_change table; loses = λ kind. (kind == 24) || (kind == 25) }

-- Links that don't count.
abbrev pub no_links : ℕ → Reader RouteNetlinkMessage ℕ Bool
no_links peer = record { peer = peer; dumps = λ kind. false; change = λ m. None; loses = λ kind. false }

-- A mirror of routes for which links don't count.
abbrev pub route_readers : ℕ → ℕ → Readers RouteNetlinkMessage
route_readers peer table = record { routes = route_reader peer table; links = no_links peer; links_count = false }
