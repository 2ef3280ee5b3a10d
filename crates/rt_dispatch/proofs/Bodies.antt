-- What variants hold reads back, and what was read of it does.
use Rattle.std.proofs.Common.{◌≡◌, ◌<◌, ◌==◌, ℕ, Bool, true, false, List, length, Result, Ok, subst, arith, lit<, length-append}
use Rattle.std.specs.Prelude.{if◌then◌else◌, ◌||◌, slice_index}
use Rattle.std.proofs.lemmas.Bool.{ne_eqb}
use Rattle.nl_core.specs.declared.error.DecodeError.{DecodeError}
use Rattle.nl_core.specs.Numbers.{AreBytes}
use Rattle.nl_core.specs.Attribute.{attributes_text}
use Rattle.rt_other.specs.Family.{family_of}
use Rattle.rt_other.specs.FamilyLaws.{family-read}
use Rattle.rt_other.specs.Opaque as Opaque
use Rattle.rt_other.specs.RouteAttribute as RouteAttribute
use Rattle.rt_other.specs.Link as Link
use Rattle.rt_other.specs.Address as Address
use Rattle.rt_other.specs.Route as Route
use Rattle.rt_other.specs.Rule as Rule
use Rattle.rt_other.specs.Tc as Tc
use Rattle.rt_other.specs.TcAction as TcAction
use Rattle.rt_wire.specs.AddrLabel as AddrLabel
use Rattle.rt_neighbour.specs.Neighbour as Neighbour
use Rattle.rt_neighbour_table.specs.NeighbourTable as NeighbourTable
use Rattle.rt_wire.specs.Nsid as Nsid
use Rattle.rt_wire.specs.Prefix as Prefix
use Rattle.rt_stats.specs.Stats as Stats
use Rattle.rt_other.specs.LinkLaws as LinkLaws
use Rattle.rt_other.specs.AddressLaws as AddressLaws
use Rattle.rt_other.specs.RouteLaws as RouteLaws
use Rattle.rt_other.proofs.MessageReadBack.{messages-again, read-parts}
use Rattle.rt_other.proofs.Forms as Forms
use Rattle.rt_neighbour.proofs.Forms as NeighbourForms
use Rattle.rt_neighbour_table.proofs.Forms as NeighbourTableForms
use Rattle.rt_wire.proofs.Forms as WireForms
use Rattle.rt_stats.proofs.Forms as StatsForms
use Rattle.rt_dispatch.specs.Dispatch.{link_request, address_request, route_request}

-- ---- written and read

-- A message on links that reads back does so from its bytes.
pub link-again : Link.MessagesReadBack
link-again m fit back = messages-again Forms.link_form Forms.link-laws m fit back.0 back.1

-- A message on addresses that reads back does so from its bytes.
pub address-again : Address.MessagesReadBack
address-again m fit back = messages-again Forms.address_form Forms.address-laws m fit back.0 back.1

-- A message on routes that reads back does so from its bytes.
pub route-again : Route.MessagesReadBack
route-again m fit back = messages-again Forms.route_form Forms.route-laws m fit back.0 back.1

-- A message on rules that reads back does so from its bytes.
pub rule-again : Rule.MessagesReadBack
rule-again m fit back = messages-again Forms.rule_form Forms.rule-laws m fit back.0 back.1

-- A message on traffic control that reads back does so from its bytes.
pub tc-again : Tc.MessagesReadBack
tc-again m fit back = messages-again Forms.tc_form Forms.tc-laws m fit back.0 back.1

-- A message on actions of traffic control that reads back does so from its bytes.
pub tc_action-again : TcAction.MessagesReadBack
tc_action-again m fit back = messages-again Forms.tc_action_form Forms.tc_action-laws m fit back.0 back.1

-- A message on address labels that reads back does so from its bytes.
pub addr_label-again : AddrLabel.MessagesReadBack
addr_label-again m fit back = messages-again WireForms.addrlabel_form WireForms.addrlabel-laws m fit back.0 back.1

-- A message on neighbours that reads back does so from its bytes.
pub neighbour-again : Neighbour.MessagesReadBack
neighbour-again m fit back = messages-again NeighbourForms.neighbour_form NeighbourForms.neighbour-laws m fit back.0 back.1

-- A message on neighbour tables that reads back does so from its bytes.
pub neighbour_table-again : NeighbourTable.MessagesReadBack
neighbour_table-again m fit back = messages-again NeighbourTableForms.neighbour_table_form NeighbourTableForms.neighbour_table-laws m fit back.0 back.1

-- A message on network namespaces that reads back does so from its bytes.
pub nsid-again : Nsid.MessagesReadBack
nsid-again m fit back = messages-again WireForms.nsid_form WireForms.nsid-laws m fit back.0 back.1

-- A message on prefixes that reads back does so from its bytes.
pub prefix-again : Prefix.MessagesReadBack
prefix-again m fit back = messages-again WireForms.prefix_form WireForms.prefix-laws m fit back.0 back.1

-- A message on statistics that reads back does so from its bytes.
pub stats-again : Stats.MessagesReadBack
stats-again m fit back = messages-again StatsForms.stats_form StatsForms.stats-laws m fit back.0 back.1

longer : (n k : ℕ) → k < n → (n == k) ≡ false
longer n k less = ne_eqb n k (λ same. omega (arith, same, less))

-- A request on links is longer than a family, and reads back.
pub link-request-again : (m : Link.LinkMessage) → Link.message_at (Link.text m) ≡ Ok m → link_request (Link.text m) ≡ Ok m
link-request-again m is =
    let attributes = attributes_text Opaque.kind Opaque.value m.attributes in
    let count = length-append (Link.header_text m.header) attributes in
    rw (longer (length (Link.text m)) 4 (omega (arith, count, LinkLaws.length-header m.header))) is

-- A request on addresses is longer than a family, and reads back.
pub address-request-again : (m : Address.AddressMessage) → Address.message_at (Address.text m) ≡ Ok m → address_request (Address.text m) ≡ Ok m
address-request-again m is =
    let attributes = attributes_text Opaque.kind Opaque.value m.attributes in
    let count = length-append (Address.header_text m.header) attributes in
    rw (longer (length (Address.text m)) 4 (omega (arith, count, AddressLaws.length-header m.header))) is

-- A request on routes is longer than a family, and reads back.
pub route-request-again : (m : Route.RouteMessage) → Route.message_at (Route.text m) ≡ Ok m → route_request (Route.text m) ≡ Ok m
route-request-again m is =
    let attributes = attributes_text RouteAttribute.kind RouteAttribute.value m.attributes in
    let count = length-append (Route.header_text m.header) attributes in
    let header = RouteLaws.length-header m.header in
    rw (longer (length (Route.text m)) 1 (omega (arith, count, header)), longer (length (Route.text m)) 4 (omega (arith, count, header))) is

-- ---- read

-- A message on links that was read from bytes reads back.
pub link-read : (bytes : List ℕ) (m : Link.LinkMessage) → AreBytes bytes → Link.message_at bytes ≡ Ok m → Link.ReadsBack m
link-read bytes m are is = read-parts Forms.link_form Forms.link-laws bytes m are is

-- A message on addresses that was read from bytes reads back.
pub address-read : (bytes : List ℕ) (m : Address.AddressMessage) → AreBytes bytes → Address.message_at bytes ≡ Ok m → Address.ReadsBack m
address-read bytes m are is = read-parts Forms.address_form Forms.address-laws bytes m are is

-- A message on routes that was read from bytes reads back.
pub route-read : (bytes : List ℕ) (m : Route.RouteMessage) → AreBytes bytes → Route.message_at bytes ≡ Ok m → Route.ReadsBack m
route-read bytes m are is = read-parts Forms.route_form Forms.route-laws bytes m are is

-- A message on rules that was read from bytes reads back.
pub rule-read : (bytes : List ℕ) (m : Rule.RuleMessage) → AreBytes bytes → Rule.message_at bytes ≡ Ok m → Rule.ReadsBack m
rule-read bytes m are is = read-parts Forms.rule_form Forms.rule-laws bytes m are is

-- A message on traffic control that was read from bytes reads back.
pub tc-read : (bytes : List ℕ) (m : Tc.TcMessage) → AreBytes bytes → Tc.message_at bytes ≡ Ok m → Tc.ReadsBack m
tc-read bytes m are is = read-parts Forms.tc_form Forms.tc-laws bytes m are is

-- A message on actions of traffic control that was read from bytes reads back.
pub tc_action-read : (bytes : List ℕ) (m : TcAction.TcActionMessage) → AreBytes bytes → TcAction.message_at bytes ≡ Ok m → TcAction.ReadsBack m
tc_action-read bytes m are is = read-parts Forms.tc_action_form Forms.tc_action-laws bytes m are is

-- A message on address labels that was read from bytes reads back.
pub addr_label-read : (bytes : List ℕ) (m : AddrLabel.AddrLabelMessage) → AreBytes bytes → AddrLabel.message_at bytes ≡ Ok m → AddrLabel.ReadsBack m
addr_label-read bytes m are is = read-parts WireForms.addrlabel_form WireForms.addrlabel-laws bytes m are is

-- A message on neighbours that was read from bytes reads back.
pub neighbour-read : (bytes : List ℕ) (m : Neighbour.NeighbourMessage) → AreBytes bytes → Neighbour.message_at bytes ≡ Ok m → Neighbour.ReadsBack m
neighbour-read bytes m are is = read-parts NeighbourForms.neighbour_form NeighbourForms.neighbour-laws bytes m are is

-- A message on neighbour tables that was read from bytes reads back.
pub neighbour_table-read : (bytes : List ℕ) (m : NeighbourTable.NeighbourTableMessage) → AreBytes bytes → NeighbourTable.message_at bytes ≡ Ok m → NeighbourTable.ReadsBack m
neighbour_table-read bytes m are is = read-parts NeighbourTableForms.neighbour_table_form NeighbourTableForms.neighbour_table-laws bytes m are is

-- A message on network namespaces that was read from bytes reads back.
pub nsid-read : (bytes : List ℕ) (m : Nsid.NsidMessage) → AreBytes bytes → Nsid.message_at bytes ≡ Ok m → Nsid.ReadsBack m
nsid-read bytes m are is = read-parts WireForms.nsid_form WireForms.nsid-laws bytes m are is

-- A message on prefixes that was read from bytes reads back.
pub prefix-read : (bytes : List ℕ) (m : Prefix.PrefixMessage) → AreBytes bytes → Prefix.message_at bytes ≡ Ok m → Prefix.ReadsBack m
prefix-read bytes m are is = read-parts WireForms.prefix_form WireForms.prefix-laws bytes m are is

-- A message on statistics that was read from bytes reads back.
pub stats-read : (bytes : List ℕ) (m : Stats.StatsMessage) → AreBytes bytes → Stats.message_at bytes ≡ Ok m → Stats.ReadsBack m
stats-read bytes m are is = read-parts StatsForms.stats_form StatsForms.stats-laws bytes m are is

-- A short form or a whole message.
either : {X : Type 0} (b : Bool) (short x : X) (whole : Result X DecodeError) (Back : X → Type 0) → Back short → (whole ≡ Ok x → Back x)
    → (if b then Ok short else whole) ≡ Ok x → Back x
either true short x whole Back first other is = let same : short ≡ x = cc in subst Back same first
either false short x whole Back first other is = other is

-- A request on links that was read from bytes reads back.
pub link-request-read : (bytes : List ℕ) (m : Link.LinkMessage) → AreBytes bytes → link_request bytes ≡ Ok m → Link.ReadsBack m
link-request-read bytes m are is =
    let family = family_of (slice_index bytes 0) in
    let back : Link.HeaderReadsBack (record Link.default_header { interface_family = family }) = record {
      of_family = family-read (slice_index bytes 0);
      of_link_layer_type = lit< tt;
      of_index = lit< tt;
      of_flags = lit< tt;
      of_change_mask = lit< tt;
    } in
    either (length bytes == 4) _ m (Link.message_at bytes) (λ x. Link.ReadsBack x) (back, tt) (link-read bytes m are) is

-- A request on addresses that was read from bytes reads back.
pub address-request-read : (bytes : List ℕ) (m : Address.AddressMessage) → AreBytes bytes → address_request bytes ≡ Ok m → Address.ReadsBack m
address-request-read bytes m are is =
    let family = family_of (slice_index bytes 0) in
    let back : Address.HeaderReadsBack (record Address.default_header { family = family }) =
    record { of_family = family-read (slice_index bytes 0); of_index = lit< tt } in
    either (length bytes == 4) _ m (Address.message_at bytes) (λ x. Address.ReadsBack x) (back, tt) (address-read bytes m are) is

-- A request on routes that was read from bytes reads back.
pub route-request-read : (bytes : List ℕ) (m : Route.RouteMessage) → AreBytes bytes → route_request bytes ≡ Ok m → Route.ReadsBack m
route-request-read bytes m are is =
    let family = family_of (slice_index bytes 0) in
    let back : Route.HeaderReadsBack (record Route.default_header { address_family = family }) =
    record { of_family = family-read (slice_index bytes 0); of_flags = lit< tt } in
    either (length bytes == 1 || length bytes == 4) _ m (Route.message_at bytes) (λ x. Route.ReadsBack x) (back, tt) (route-read bytes m are) is
