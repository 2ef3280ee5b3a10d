-- Messages of the routing family by their types.
use Rattle.std.specs.Prelude.{◌≡◌, ◌==◌, ◌||◌, ℕ, Bool, true, false, if◌then◌else◌, List, [], length, slice_index, Result, Ok, Err}
use Rattle.nl_core.specs.declared.error.DecodeError.{DecodeError}
use Rattle.nl_core.specs.declared.error.DecodeError.TheVariants.{UnknownType}
use Rattle.nl_core.specs.Numbers.{AreBytes}
use Rattle.nl_core.specs.Reading.{◌>>=◌}
use Rattle.nl_core.specs.FrameReadBack.{InnerReadsBack}
use Rattle.nl_core.specs.Frames.{Format}
use Rattle.rt_other.specs.Family.{family_of}
use Rattle.rt_other.specs.Address as Address
use Rattle.rt_other.specs.Link as Link
use Rattle.rt_other.specs.Route as Route
use Rattle.rt_other.specs.Rule as Rule
use Rattle.rt_other.specs.Tc as Tc
use Rattle.rt_other.specs.TcAction as TcAction
use Rattle.rt_wire.specs.AddrLabel as AddrLabel
use Rattle.rt_neighbour.specs.Neighbour as Neighbour
use Rattle.rt_neighbour_table.specs.NeighbourTable as NeighbourTable
use Rattle.rt_wire.specs.Nsid as Nsid
use Rattle.rt_wire.specs.Prefix as Prefix
use Rattle.rt_stats.specs.Stats as Stats
use Rattle.rt_dispatch.specs.declared.message.RouteNetlinkMessage.{RouteNetlinkMessage}
use Rattle.rt_dispatch.specs.declared.message.RouteNetlinkMessage.TheVariants as variant

-- ---- types

-- The type of a message.
unfoldable pub kind : RouteNetlinkMessage → ℕ
kind (variant.NewLink m) = 16
kind (variant.DelLink m) = 17
kind (variant.GetLink m) = 18
kind (variant.SetLink m) = 19
kind (variant.NewLinkProp m) = 108
kind (variant.DelLinkProp m) = 109
kind (variant.NewAddress m) = 20
kind (variant.DelAddress m) = 21
kind (variant.GetAddress m) = 22
kind (variant.NewRoute m) = 24
kind (variant.DelRoute m) = 25
kind (variant.GetRoute m) = 26
kind (variant.NewNeighbour m) = 28
kind (variant.DelNeighbour m) = 29
kind (variant.GetNeighbour m) = 30
kind (variant.NewRule m) = 32
kind (variant.DelRule m) = 33
kind (variant.GetRule m) = 34
kind (variant.NewQueueDiscipline m) = 36
kind (variant.DelQueueDiscipline m) = 37
kind (variant.GetQueueDiscipline m) = 38
kind (variant.NewTrafficClass m) = 40
kind (variant.DelTrafficClass m) = 41
kind (variant.GetTrafficClass m) = 42
kind (variant.NewTrafficFilter m) = 44
kind (variant.DelTrafficFilter m) = 45
kind (variant.GetTrafficFilter m) = 46
kind (variant.NewTrafficAction m) = 48
kind (variant.DelTrafficAction m) = 49
kind (variant.GetTrafficAction m) = 50
kind (variant.NewPrefix m) = 52
kind (variant.NewNeighbourTable m) = 64
kind (variant.GetNeighbourTable m) = 66
kind (variant.SetNeighbourTable m) = 67
kind (variant.NewAddrLabel m) = 72
kind (variant.DelAddrLabel m) = 73
kind (variant.GetAddrLabel m) = 74
kind (variant.NewNsId m) = 88
kind (variant.DelNsId m) = 89
kind (variant.GetNsId m) = 90
kind (variant.NewStats m) = 92
kind (variant.GetStats m) = 94
kind (variant.NewTrafficChain m) = 100
kind (variant.DelTrafficChain m) = 101
kind (variant.GetTrafficChain m) = 102

-- ---- what a variant holds

-- The message that a variant holds.
pub data Body : Type 0 where
  OfLink : Link.LinkMessage → Body
  OfAddress : Address.AddressMessage → Body
  OfRoute : Route.RouteMessage → Body
  OfRule : Rule.RuleMessage → Body
  OfTc : Tc.TcMessage → Body
  OfTcAction : TcAction.TcActionMessage → Body
  OfAddrLabel : AddrLabel.AddrLabelMessage → Body
  OfNeighbour : Neighbour.NeighbourMessage → Body
  OfNeighbourTable : NeighbourTable.NeighbourTableMessage → Body
  OfNsid : Nsid.NsidMessage → Body
  OfPrefix : Prefix.PrefixMessage → Body
  OfStats : Stats.StatsMessage → Body

-- What a variant holds.
unfoldable pub body : RouteNetlinkMessage → Body
body (variant.NewLink m) = OfLink m
body (variant.DelLink m) = OfLink m
body (variant.GetLink m) = OfLink m
body (variant.SetLink m) = OfLink m
body (variant.NewLinkProp m) = OfLink m
body (variant.DelLinkProp m) = OfLink m
body (variant.NewAddress m) = OfAddress m
body (variant.DelAddress m) = OfAddress m
body (variant.GetAddress m) = OfAddress m
body (variant.NewRoute m) = OfRoute m
body (variant.DelRoute m) = OfRoute m
body (variant.GetRoute m) = OfRoute m
body (variant.NewNeighbour m) = OfNeighbour m
body (variant.DelNeighbour m) = OfNeighbour m
body (variant.GetNeighbour m) = OfNeighbour m
body (variant.NewRule m) = OfRule m
body (variant.DelRule m) = OfRule m
body (variant.GetRule m) = OfRule m
body (variant.NewQueueDiscipline m) = OfTc m
body (variant.DelQueueDiscipline m) = OfTc m
body (variant.GetQueueDiscipline m) = OfTc m
body (variant.NewTrafficClass m) = OfTc m
body (variant.DelTrafficClass m) = OfTc m
body (variant.GetTrafficClass m) = OfTc m
body (variant.NewTrafficFilter m) = OfTc m
body (variant.DelTrafficFilter m) = OfTc m
body (variant.GetTrafficFilter m) = OfTc m
body (variant.NewTrafficAction m) = OfTcAction m
body (variant.DelTrafficAction m) = OfTcAction m
body (variant.GetTrafficAction m) = OfTcAction m
body (variant.NewPrefix m) = OfPrefix m
body (variant.NewNeighbourTable m) = OfNeighbourTable m
body (variant.GetNeighbourTable m) = OfNeighbourTable m
body (variant.SetNeighbourTable m) = OfNeighbourTable m
body (variant.NewAddrLabel m) = OfAddrLabel m
body (variant.DelAddrLabel m) = OfAddrLabel m
body (variant.GetAddrLabel m) = OfAddrLabel m
body (variant.NewNsId m) = OfNsid m
body (variant.DelNsId m) = OfNsid m
body (variant.GetNsId m) = OfNsid m
body (variant.NewStats m) = OfStats m
body (variant.GetStats m) = OfStats m
body (variant.NewTrafficChain m) = OfTc m
body (variant.DelTrafficChain m) = OfTc m
body (variant.GetTrafficChain m) = OfTc m

-- The bytes of what a variant holds.
abbrev pub body_text : Body → List ℕ
body_text (OfLink m) = Link.text m
body_text (OfAddress m) = Address.text m
body_text (OfRoute m) = Route.text m
body_text (OfRule m) = Rule.text m
body_text (OfTc m) = Tc.text m
body_text (OfTcAction m) = TcAction.text m
body_text (OfAddrLabel m) = AddrLabel.text m
body_text (OfNeighbour m) = Neighbour.text m
body_text (OfNeighbourTable m) = NeighbourTable.text m
body_text (OfNsid m) = Nsid.text m
body_text (OfPrefix m) = Prefix.text m
body_text (OfStats m) = Stats.text m

-- Whether each attribute of what a variant holds fits, and it a frame.
abbrev pub body_fits : Body → Bool
body_fits (OfLink m) = Link.fits m
body_fits (OfAddress m) = Address.fits m
body_fits (OfRoute m) = Route.fits m
body_fits (OfRule m) = Rule.fits m
body_fits (OfTc m) = Tc.fits m
body_fits (OfTcAction m) = TcAction.fits m
body_fits (OfAddrLabel m) = AddrLabel.fits m
body_fits (OfNeighbour m) = Neighbour.fits m
body_fits (OfNeighbourTable m) = NeighbourTable.fits m
body_fits (OfNsid m) = Nsid.fits m
body_fits (OfPrefix m) = Prefix.fits m
body_fits (OfStats m) = Stats.fits m

-- What a variant holds reads back: the numbers of its header fit their fields, its family and its attributes read back.
abbrev pub BodyReadsBack : Body → Type 0
BodyReadsBack (OfLink m) = Link.ReadsBack m
BodyReadsBack (OfAddress m) = Address.ReadsBack m
BodyReadsBack (OfRoute m) = Route.ReadsBack m
BodyReadsBack (OfRule m) = Rule.ReadsBack m
BodyReadsBack (OfTc m) = Tc.ReadsBack m
BodyReadsBack (OfTcAction m) = TcAction.ReadsBack m
BodyReadsBack (OfAddrLabel m) = AddrLabel.ReadsBack m
BodyReadsBack (OfNeighbour m) = Neighbour.ReadsBack m
BodyReadsBack (OfNeighbourTable m) = NeighbourTable.ReadsBack m
BodyReadsBack (OfNsid m) = Nsid.ReadsBack m
BodyReadsBack (OfPrefix m) = Prefix.ReadsBack m
BodyReadsBack (OfStats m) = Stats.ReadsBack m

-- The bytes of a message.
unfoldable pub text : RouteNetlinkMessage → List ℕ
text m = body_text (body m)

-- Whether each attribute of a message fits, and the message a frame.
unfoldable pub fits : RouteNetlinkMessage → Bool
fits m = body_fits (body m)

-- ---- reading

-- A request on links: four bytes are a family and padding, and stand for the empty message of this family.
abbrev pub link_request : List ℕ → Result Link.LinkMessage DecodeError
link_request bytes =
    if length bytes == 4
    then Ok (record { header = record Link.default_header { interface_family = family_of (slice_index bytes 0) }; attributes = [] })
    else Link.message_at bytes

-- A request on addresses, likewise.
abbrev pub address_request : List ℕ → Result Address.AddressMessage DecodeError
address_request bytes =
    if length bytes == 4
    then Ok (record { header = record Address.default_header { family = family_of (slice_index bytes 0) }; attributes = [] })
    else Address.message_at bytes

-- A request on routes: one byte, or four, are a family with or without padding.
abbrev pub route_request : List ℕ → Result Route.RouteMessage DecodeError
route_request bytes =
    if length bytes == 1 || length bytes == 4
    then Ok (record { header = record Route.default_header { address_family = family_of (slice_index bytes 0) }; attributes = [] })
    else Route.message_at bytes

-- The message of a type and bytes, or the first cause from the left why they are none.
unfoldable pub reads : ℕ → List ℕ → Result RouteNetlinkMessage DecodeError
reads kind bytes =
    if kind == 16 then (Link.message_at bytes >>= λ m. Ok (variant.NewLink m))
    else if kind == 17 then (Link.message_at bytes >>= λ m. Ok (variant.DelLink m))
    else if kind == 18 then (link_request bytes >>= λ m. Ok (variant.GetLink m))
    else if kind == 19 then (Link.message_at bytes >>= λ m. Ok (variant.SetLink m))
    else if kind == 20 then (Address.message_at bytes >>= λ m. Ok (variant.NewAddress m))
    else if kind == 21 then (Address.message_at bytes >>= λ m. Ok (variant.DelAddress m))
    else if kind == 22 then (address_request bytes >>= λ m. Ok (variant.GetAddress m))
    else if kind == 24 then (Route.message_at bytes >>= λ m. Ok (variant.NewRoute m))
    else if kind == 25 then (Route.message_at bytes >>= λ m. Ok (variant.DelRoute m))
    else if kind == 26 then (route_request bytes >>= λ m. Ok (variant.GetRoute m))
    else if kind == 28 then (Neighbour.message_at bytes >>= λ m. Ok (variant.NewNeighbour m))
    else if kind == 29 then (Neighbour.message_at bytes >>= λ m. Ok (variant.DelNeighbour m))
    else if kind == 30 then (Neighbour.message_at bytes >>= λ m. Ok (variant.GetNeighbour m))
    else if kind == 32 then (Rule.message_at bytes >>= λ m. Ok (variant.NewRule m))
    else if kind == 33 then (Rule.message_at bytes >>= λ m. Ok (variant.DelRule m))
    else if kind == 34 then (Rule.message_at bytes >>= λ m. Ok (variant.GetRule m))
    else if kind == 36 then (Tc.message_at bytes >>= λ m. Ok (variant.NewQueueDiscipline m))
    else if kind == 37 then (Tc.message_at bytes >>= λ m. Ok (variant.DelQueueDiscipline m))
    else if kind == 38 then (Tc.message_at bytes >>= λ m. Ok (variant.GetQueueDiscipline m))
    else if kind == 40 then (Tc.message_at bytes >>= λ m. Ok (variant.NewTrafficClass m))
    else if kind == 41 then (Tc.message_at bytes >>= λ m. Ok (variant.DelTrafficClass m))
    else if kind == 42 then (Tc.message_at bytes >>= λ m. Ok (variant.GetTrafficClass m))
    else if kind == 44 then (Tc.message_at bytes >>= λ m. Ok (variant.NewTrafficFilter m))
    else if kind == 45 then (Tc.message_at bytes >>= λ m. Ok (variant.DelTrafficFilter m))
    else if kind == 46 then (Tc.message_at bytes >>= λ m. Ok (variant.GetTrafficFilter m))
    else if kind == 48 then (TcAction.message_at bytes >>= λ m. Ok (variant.NewTrafficAction m))
    else if kind == 49 then (TcAction.message_at bytes >>= λ m. Ok (variant.DelTrafficAction m))
    else if kind == 50 then (TcAction.message_at bytes >>= λ m. Ok (variant.GetTrafficAction m))
    else if kind == 52 then (Prefix.message_at bytes >>= λ m. Ok (variant.NewPrefix m))
    else if kind == 64 then (NeighbourTable.message_at bytes >>= λ m. Ok (variant.NewNeighbourTable m))
    else if kind == 66 then (NeighbourTable.message_at bytes >>= λ m. Ok (variant.GetNeighbourTable m))
    else if kind == 67 then (NeighbourTable.message_at bytes >>= λ m. Ok (variant.SetNeighbourTable m))
    else if kind == 72 then (AddrLabel.message_at bytes >>= λ m. Ok (variant.NewAddrLabel m))
    else if kind == 73 then (AddrLabel.message_at bytes >>= λ m. Ok (variant.DelAddrLabel m))
    else if kind == 74 then (AddrLabel.message_at bytes >>= λ m. Ok (variant.GetAddrLabel m))
    else if kind == 88 then (Nsid.message_at bytes >>= λ m. Ok (variant.NewNsId m))
    else if kind == 89 then (Nsid.message_at bytes >>= λ m. Ok (variant.DelNsId m))
    else if kind == 90 then (Nsid.message_at bytes >>= λ m. Ok (variant.GetNsId m))
    else if kind == 92 then (Stats.message_at bytes >>= λ m. Ok (variant.NewStats m))
    else if kind == 94 then (Stats.message_at bytes >>= λ m. Ok (variant.GetStats m))
    else if kind == 100 then (Tc.message_at bytes >>= λ m. Ok (variant.NewTrafficChain m))
    else if kind == 101 then (Tc.message_at bytes >>= λ m. Ok (variant.DelTrafficChain m))
    else if kind == 102 then (Tc.message_at bytes >>= λ m. Ok (variant.GetTrafficChain m))
    else Err (UnknownType kind)

-- Messages of the routing family, as frames carry them.
abbrev pub route_netlink_format : Format RouteNetlinkMessage
route_netlink_format = record { reads = reads; kind = kind; text = text; fits = fits }

-- ---- what reads back

-- A message reads back where its type is read, which those of link properties are not, and what it holds reads back.
abbrev pub ReadsBack : RouteNetlinkMessage → Type 0
ReadsBack (variant.NewLinkProp m) = ⊥
ReadsBack (variant.DelLinkProp m) = ⊥
ReadsBack m = BodyReadsBack (body m)

-- Each message that fits reads back from its type and its bytes, where its header and its attributes do; its type is that
-- of no control message.
abbrev pub MessagesReadBack : Type 0
MessagesReadBack = (m : RouteNetlinkMessage) → fits m ≡ true → ReadsBack m → InnerReadsBack reads kind text m

-- Each message that was read from bytes by a type has this type, and reads back from it and its bytes if it fits.
pub record ReadOneReadsBack (k : ℕ) (m : RouteNetlinkMessage) : Type 0 where
  pub type : kind m ≡ k
  pub back : fits m ≡ true → InnerReadsBack reads kind text m

-- What was read from bytes reads back.
abbrev pub ReadMessagesReadBack : Type 0
ReadMessagesReadBack =
    (k : ℕ) (bytes : List ℕ) (m : RouteNetlinkMessage) → AreBytes bytes → reads k bytes ≡ Ok m → ReadOneReadsBack k m

-- ---- which variant a type is

-- A message is of a variant.
abbrev pub IsOf : {X : Type 0} → (X → RouteNetlinkMessage) → RouteNetlinkMessage → Type 0
IsOf {X} make m = (x : X) × (m ≡ make x)

-- One fact or another.
abbrev pub choose : Bool → Type 0 → Type 0 → Type 0
choose true this other = this
choose false this other = other

-- The variant of a type: a message of the type 16 is a `NewLink`, and so on.
abbrev pub HasVariantOf : ℕ → RouteNetlinkMessage → Type 0
HasVariantOf k m =
    choose (k == 16) (IsOf (λ x. variant.NewLink x) m)
    (choose (k == 17) (IsOf (λ x. variant.DelLink x) m)
    (choose (k == 18) (IsOf (λ x. variant.GetLink x) m)
    (choose (k == 19) (IsOf (λ x. variant.SetLink x) m)
    (choose (k == 108) (IsOf (λ x. variant.NewLinkProp x) m)
    (choose (k == 109) (IsOf (λ x. variant.DelLinkProp x) m)
    (choose (k == 20) (IsOf (λ x. variant.NewAddress x) m)
    (choose (k == 21) (IsOf (λ x. variant.DelAddress x) m)
    (choose (k == 22) (IsOf (λ x. variant.GetAddress x) m)
    (choose (k == 24) (IsOf (λ x. variant.NewRoute x) m)
    (choose (k == 25) (IsOf (λ x. variant.DelRoute x) m)
    (choose (k == 26) (IsOf (λ x. variant.GetRoute x) m)
    (choose (k == 28) (IsOf (λ x. variant.NewNeighbour x) m)
    (choose (k == 29) (IsOf (λ x. variant.DelNeighbour x) m)
    (choose (k == 30) (IsOf (λ x. variant.GetNeighbour x) m)
    (choose (k == 32) (IsOf (λ x. variant.NewRule x) m)
    (choose (k == 33) (IsOf (λ x. variant.DelRule x) m)
    (choose (k == 34) (IsOf (λ x. variant.GetRule x) m)
    (choose (k == 36) (IsOf (λ x. variant.NewQueueDiscipline x) m)
    (choose (k == 37) (IsOf (λ x. variant.DelQueueDiscipline x) m)
    (choose (k == 38) (IsOf (λ x. variant.GetQueueDiscipline x) m)
    (choose (k == 40) (IsOf (λ x. variant.NewTrafficClass x) m)
    (choose (k == 41) (IsOf (λ x. variant.DelTrafficClass x) m)
    (choose (k == 42) (IsOf (λ x. variant.GetTrafficClass x) m)
    (choose (k == 44) (IsOf (λ x. variant.NewTrafficFilter x) m)
    (choose (k == 45) (IsOf (λ x. variant.DelTrafficFilter x) m)
    (choose (k == 46) (IsOf (λ x. variant.GetTrafficFilter x) m)
    (choose (k == 48) (IsOf (λ x. variant.NewTrafficAction x) m)
    (choose (k == 49) (IsOf (λ x. variant.DelTrafficAction x) m)
    (choose (k == 50) (IsOf (λ x. variant.GetTrafficAction x) m)
    (choose (k == 52) (IsOf (λ x. variant.NewPrefix x) m)
    (choose (k == 64) (IsOf (λ x. variant.NewNeighbourTable x) m)
    (choose (k == 66) (IsOf (λ x. variant.GetNeighbourTable x) m)
    (choose (k == 67) (IsOf (λ x. variant.SetNeighbourTable x) m)
    (choose (k == 72) (IsOf (λ x. variant.NewAddrLabel x) m)
    (choose (k == 73) (IsOf (λ x. variant.DelAddrLabel x) m)
    (choose (k == 74) (IsOf (λ x. variant.GetAddrLabel x) m)
    (choose (k == 88) (IsOf (λ x. variant.NewNsId x) m)
    (choose (k == 89) (IsOf (λ x. variant.DelNsId x) m)
    (choose (k == 90) (IsOf (λ x. variant.GetNsId x) m)
    (choose (k == 92) (IsOf (λ x. variant.NewStats x) m)
    (choose (k == 94) (IsOf (λ x. variant.GetStats x) m)
    (choose (k == 100) (IsOf (λ x. variant.NewTrafficChain x) m)
    (choose (k == 101) (IsOf (λ x. variant.DelTrafficChain x) m)
    (choose (k == 102) (IsOf (λ x. variant.GetTrafficChain x) m)
    ⊥))))))))))))))))))))))))))))))))))))))))))))

-- The type of each message tells its variant.
abbrev pub TypesTellVariants : Type 0
TypesTellVariants = (m : RouteNetlinkMessage) → HasVariantOf (kind m) m
