-- Messages of the routing family are read again.
use Rattle.std.proofs.Common.{◌≡◌, ◌==◌, inr, ℕ, Bool, true, false, List, Result, Ok, Err, refl, sym, subst}
use Rattle.std.specs.Prelude.{if◌then◌else◌}
use Rattle.std.proofs.lemmas.Bool.{eqb-true}
use Rattle.nl_core.specs.declared.error.DecodeError.{DecodeError}
use Rattle.nl_core.specs.Numbers.{AreBytes}
use Rattle.nl_core.specs.Reading.{◌>>=◌}
use Rattle.rt_other.specs.RouteAttributeLaws.{made-ok}
use Rattle.rt_other.specs.Link as Link
use Rattle.rt_other.specs.Address as Address
use Rattle.rt_other.specs.Route as Route
use Rattle.rt_other.specs.Rule as Rule
use Rattle.rt_other.specs.Tc as Tc
use Rattle.rt_other.specs.TcAction as TcAction
use Rattle.rt_wire.specs.AddrLabel as AddrLabel
use Rattle.rt_neighbour.specs.Neighbour as Neighbour
use Rattle.rt_neighbour_table.specs.NeighbourTable as NeighbourTable
use Rattle.rt_wire.specs.Nsid as Nsid
use Rattle.rt_wire.specs.Prefix as Prefix
use Rattle.rt_stats.specs.Stats as Stats
use Rattle.rt_dispatch.specs.declared.message.RouteNetlinkMessage.{RouteNetlinkMessage}
use Rattle.rt_dispatch.specs.declared.message.RouteNetlinkMessage.TheVariants as variant
use Rattle.rt_dispatch.specs.Dispatch.{body, text, kind, fits, reads, link_request, address_request, route_request, ReadsBack, MessagesReadBack, ReadMessagesReadBack}
use Rattle.rt_dispatch.proofs.Types.{type-range}
use Rattle.rt_dispatch.proofs.Bodies as Bodies

-- ---- written and read

wrapped : {X : Type 0} (make : X → RouteNetlinkMessage) (r : Result X DecodeError) (m : X) → r ≡ Ok m
    → (r >>= λ x. Ok (make x)) ≡ Ok (make m)
wrapped make r m is = rw is refl

again : (m : RouteNetlinkMessage) → fits m ≡ true → ReadsBack m → reads (kind m) (text m) ≡ Ok m
unfolding reads kind body text fits
again (variant.NewLink m) fit back = wrapped (λ x. variant.NewLink x) _ m (Bodies.link-again m fit back)
again (variant.DelLink m) fit back = wrapped (λ x. variant.DelLink x) _ m (Bodies.link-again m fit back)
again (variant.GetLink m) fit back = wrapped (λ x. variant.GetLink x) _ m (Bodies.link-request-again m (Bodies.link-again m fit back))
again (variant.SetLink m) fit back = wrapped (λ x. variant.SetLink x) _ m (Bodies.link-again m fit back)
again (variant.NewLinkProp m) fit back = absurd back
again (variant.DelLinkProp m) fit back = absurd back
again (variant.NewAddress m) fit back = wrapped (λ x. variant.NewAddress x) _ m (Bodies.address-again m fit back)
again (variant.DelAddress m) fit back = wrapped (λ x. variant.DelAddress x) _ m (Bodies.address-again m fit back)
again (variant.GetAddress m) fit back = wrapped (λ x. variant.GetAddress x) _ m (Bodies.address-request-again m (Bodies.address-again m fit back))
again (variant.NewRoute m) fit back = wrapped (λ x. variant.NewRoute x) _ m (Bodies.route-again m fit back)
again (variant.DelRoute m) fit back = wrapped (λ x. variant.DelRoute x) _ m (Bodies.route-again m fit back)
again (variant.GetRoute m) fit back = wrapped (λ x. variant.GetRoute x) _ m (Bodies.route-request-again m (Bodies.route-again m fit back))
again (variant.NewNeighbour m) fit back = wrapped (λ x. variant.NewNeighbour x) _ m (Bodies.neighbour-again m fit back)
again (variant.DelNeighbour m) fit back = wrapped (λ x. variant.DelNeighbour x) _ m (Bodies.neighbour-again m fit back)
again (variant.GetNeighbour m) fit back = wrapped (λ x. variant.GetNeighbour x) _ m (Bodies.neighbour-again m fit back)
again (variant.NewRule m) fit back = wrapped (λ x. variant.NewRule x) _ m (Bodies.rule-again m fit back)
again (variant.DelRule m) fit back = wrapped (λ x. variant.DelRule x) _ m (Bodies.rule-again m fit back)
again (variant.GetRule m) fit back = wrapped (λ x. variant.GetRule x) _ m (Bodies.rule-again m fit back)
again (variant.NewQueueDiscipline m) fit back = wrapped (λ x. variant.NewQueueDiscipline x) _ m (Bodies.tc-again m fit back)
again (variant.DelQueueDiscipline m) fit back = wrapped (λ x. variant.DelQueueDiscipline x) _ m (Bodies.tc-again m fit back)
again (variant.GetQueueDiscipline m) fit back = wrapped (λ x. variant.GetQueueDiscipline x) _ m (Bodies.tc-again m fit back)
again (variant.NewTrafficClass m) fit back = wrapped (λ x. variant.NewTrafficClass x) _ m (Bodies.tc-again m fit back)
again (variant.DelTrafficClass m) fit back = wrapped (λ x. variant.DelTrafficClass x) _ m (Bodies.tc-again m fit back)
again (variant.GetTrafficClass m) fit back = wrapped (λ x. variant.GetTrafficClass x) _ m (Bodies.tc-again m fit back)
again (variant.NewTrafficFilter m) fit back = wrapped (λ x. variant.NewTrafficFilter x) _ m (Bodies.tc-again m fit back)
again (variant.DelTrafficFilter m) fit back = wrapped (λ x. variant.DelTrafficFilter x) _ m (Bodies.tc-again m fit back)
again (variant.GetTrafficFilter m) fit back = wrapped (λ x. variant.GetTrafficFilter x) _ m (Bodies.tc-again m fit back)
again (variant.NewTrafficAction m) fit back = wrapped (λ x. variant.NewTrafficAction x) _ m (Bodies.tc_action-again m fit back)
again (variant.DelTrafficAction m) fit back = wrapped (λ x. variant.DelTrafficAction x) _ m (Bodies.tc_action-again m fit back)
again (variant.GetTrafficAction m) fit back = wrapped (λ x. variant.GetTrafficAction x) _ m (Bodies.tc_action-again m fit back)
again (variant.NewPrefix m) fit back = wrapped (λ x. variant.NewPrefix x) _ m (Bodies.prefix-again m fit back)
again (variant.NewNeighbourTable m) fit back = wrapped (λ x. variant.NewNeighbourTable x) _ m (Bodies.neighbour_table-again m fit back)
again (variant.GetNeighbourTable m) fit back = wrapped (λ x. variant.GetNeighbourTable x) _ m (Bodies.neighbour_table-again m fit back)
again (variant.SetNeighbourTable m) fit back = wrapped (λ x. variant.SetNeighbourTable x) _ m (Bodies.neighbour_table-again m fit back)
again (variant.NewAddrLabel m) fit back = wrapped (λ x. variant.NewAddrLabel x) _ m (Bodies.addr_label-again m fit back)
again (variant.DelAddrLabel m) fit back = wrapped (λ x. variant.DelAddrLabel x) _ m (Bodies.addr_label-again m fit back)
again (variant.GetAddrLabel m) fit back = wrapped (λ x. variant.GetAddrLabel x) _ m (Bodies.addr_label-again m fit back)
again (variant.NewNsId m) fit back = wrapped (λ x. variant.NewNsId x) _ m (Bodies.nsid-again m fit back)
again (variant.DelNsId m) fit back = wrapped (λ x. variant.DelNsId x) _ m (Bodies.nsid-again m fit back)
again (variant.GetNsId m) fit back = wrapped (λ x. variant.GetNsId x) _ m (Bodies.nsid-again m fit back)
again (variant.NewStats m) fit back = wrapped (λ x. variant.NewStats x) _ m (Bodies.stats-again m fit back)
again (variant.GetStats m) fit back = wrapped (λ x. variant.GetStats x) _ m (Bodies.stats-again m fit back)
again (variant.NewTrafficChain m) fit back = wrapped (λ x. variant.NewTrafficChain x) _ m (Bodies.tc-again m fit back)
again (variant.DelTrafficChain m) fit back = wrapped (λ x. variant.DelTrafficChain x) _ m (Bodies.tc-again m fit back)
again (variant.GetTrafficChain m) fit back = wrapped (λ x. variant.GetTrafficChain x) _ m (Bodies.tc-again m fit back)

-- Each message that fits and reads back does so from its type and its bytes.
pub all-again : MessagesReadBack
all-again m fit back =
    let range = type-range m in
    record { type_in_range = range.1; no_control = inr range.0; again = again m fit back }

-- ---- read

-- A message has a type and reads back.
abbrev IsRead : ℕ → RouteNetlinkMessage → Type 0
IsRead k m = (kind m ≡ k) × ReadsBack m

-- What a type is read as, or what others are.
step-if : {X : Type 0} (k n : ℕ) (m : RouteNetlinkMessage) (b : Bool) (r : Result X DecodeError) (make : X → RouteNetlinkMessage)
    (others : Result RouteNetlinkMessage DecodeError) → (k == n) ≡ b → ((x : X) → r ≡ Ok x → IsRead n (make x)) → (others ≡ Ok m → IsRead k m)
    → (if b then (r >>= λ x. Ok (make x)) else others) ≡ Ok m → IsRead k m
step-if {X} k n m true r make others e read-parts more is =
    let made = made-ok r make m is in
    let same : n ≡ k = sym (eqb-true k n e) in
    subst (λ (t : ℕ). IsRead t m) same (subst (IsRead n) made.2 (read-parts made.0 made.1))
step-if k n m false r make others e read-parts more is = more is

step : {X : Type 0} (k : ℕ) (m : RouteNetlinkMessage) (r : Result X DecodeError) (make : X → RouteNetlinkMessage) (n : ℕ)
    (others : Result RouteNetlinkMessage DecodeError) → ((x : X) → r ≡ Ok x → IsRead n (make x)) → (others ≡ Ok m → IsRead k m)
    → (if k == n then (r >>= λ x. Ok (make x)) else others) ≡ Ok m → IsRead k m
step k m r make n others read-parts more is = step-if k n m (k == n) r make others refl read-parts more is

read-parts : (k : ℕ) (bytes : List ℕ) (m : RouteNetlinkMessage) → AreBytes bytes → reads k bytes ≡ Ok m → IsRead k m
unfolding reads kind body
read-parts k bytes m are =
    let none : (e : DecodeError) → Err e ≡ Ok m → IsRead k m = λ e is. absurd cc in
    let link = λ (x : Link.LinkMessage). Bodies.link-read bytes x are in
    let address = λ (x : Address.AddressMessage). Bodies.address-read bytes x are in
    let route = λ (x : Route.RouteMessage). Bodies.route-read bytes x are in
    let rule = λ (x : Rule.RuleMessage). Bodies.rule-read bytes x are in
    let tc = λ (x : Tc.TcMessage). Bodies.tc-read bytes x are in
    let tc_action = λ (x : TcAction.TcActionMessage). Bodies.tc_action-read bytes x are in
    let addr_label = λ (x : AddrLabel.AddrLabelMessage). Bodies.addr_label-read bytes x are in
    let neighbour = λ (x : Neighbour.NeighbourMessage). Bodies.neighbour-read bytes x are in
    let neighbour_table = λ (x : NeighbourTable.NeighbourTableMessage). Bodies.neighbour_table-read bytes x are in
    let nsid = λ (x : Nsid.NsidMessage). Bodies.nsid-read bytes x are in
    let prefix = λ (x : Prefix.PrefixMessage). Bodies.prefix-read bytes x are in
    let stats = λ (x : Stats.StatsMessage). Bodies.stats-read bytes x are in
    step k m (Link.message_at bytes) (λ x. variant.NewLink x) 16 _ (λ x is. (refl, link x is))
    (step k m (Link.message_at bytes) (λ x. variant.DelLink x) 17 _ (λ x is. (refl, link x is))
    (step k m (link_request bytes) (λ x. variant.GetLink x) 18 _ (λ x is. (refl, Bodies.link-request-read bytes x are is))
    (step k m (Link.message_at bytes) (λ x. variant.SetLink x) 19 _ (λ x is. (refl, link x is))
    (step k m (Address.message_at bytes) (λ x. variant.NewAddress x) 20 _ (λ x is. (refl, address x is))
    (step k m (Address.message_at bytes) (λ x. variant.DelAddress x) 21 _ (λ x is. (refl, address x is))
    (step k m (address_request bytes) (λ x. variant.GetAddress x) 22 _ (λ x is. (refl, Bodies.address-request-read bytes x are is))
    (step k m (Route.message_at bytes) (λ x. variant.NewRoute x) 24 _ (λ x is. (refl, route x is))
    (step k m (Route.message_at bytes) (λ x. variant.DelRoute x) 25 _ (λ x is. (refl, route x is))
    (step k m (route_request bytes) (λ x. variant.GetRoute x) 26 _ (λ x is. (refl, Bodies.route-request-read bytes x are is))
    (step k m (Neighbour.message_at bytes) (λ x. variant.NewNeighbour x) 28 _ (λ x is. (refl, neighbour x is))
    (step k m (Neighbour.message_at bytes) (λ x. variant.DelNeighbour x) 29 _ (λ x is. (refl, neighbour x is))
    (step k m (Neighbour.message_at bytes) (λ x. variant.GetNeighbour x) 30 _ (λ x is. (refl, neighbour x is))
    (step k m (Rule.message_at bytes) (λ x. variant.NewRule x) 32 _ (λ x is. (refl, rule x is))
    (step k m (Rule.message_at bytes) (λ x. variant.DelRule x) 33 _ (λ x is. (refl, rule x is))
    (step k m (Rule.message_at bytes) (λ x. variant.GetRule x) 34 _ (λ x is. (refl, rule x is))
    (step k m (Tc.message_at bytes) (λ x. variant.NewQueueDiscipline x) 36 _ (λ x is. (refl, tc x is))
    (step k m (Tc.message_at bytes) (λ x. variant.DelQueueDiscipline x) 37 _ (λ x is. (refl, tc x is))
    (step k m (Tc.message_at bytes) (λ x. variant.GetQueueDiscipline x) 38 _ (λ x is. (refl, tc x is))
    (step k m (Tc.message_at bytes) (λ x. variant.NewTrafficClass x) 40 _ (λ x is. (refl, tc x is))
    (step k m (Tc.message_at bytes) (λ x. variant.DelTrafficClass x) 41 _ (λ x is. (refl, tc x is))
    (step k m (Tc.message_at bytes) (λ x. variant.GetTrafficClass x) 42 _ (λ x is. (refl, tc x is))
    (step k m (Tc.message_at bytes) (λ x. variant.NewTrafficFilter x) 44 _ (λ x is. (refl, tc x is))
    (step k m (Tc.message_at bytes) (λ x. variant.DelTrafficFilter x) 45 _ (λ x is. (refl, tc x is))
    (step k m (Tc.message_at bytes) (λ x. variant.GetTrafficFilter x) 46 _ (λ x is. (refl, tc x is))
    (step k m (TcAction.message_at bytes) (λ x. variant.NewTrafficAction x) 48 _ (λ x is. (refl, tc_action x is))
    (step k m (TcAction.message_at bytes) (λ x. variant.DelTrafficAction x) 49 _ (λ x is. (refl, tc_action x is))
    (step k m (TcAction.message_at bytes) (λ x. variant.GetTrafficAction x) 50 _ (λ x is. (refl, tc_action x is))
    (step k m (Prefix.message_at bytes) (λ x. variant.NewPrefix x) 52 _ (λ x is. (refl, prefix x is))
    (step k m (NeighbourTable.message_at bytes) (λ x. variant.NewNeighbourTable x) 64 _ (λ x is. (refl, neighbour_table x is))
    (step k m (NeighbourTable.message_at bytes) (λ x. variant.GetNeighbourTable x) 66 _ (λ x is. (refl, neighbour_table x is))
    (step k m (NeighbourTable.message_at bytes) (λ x. variant.SetNeighbourTable x) 67 _ (λ x is. (refl, neighbour_table x is))
    (step k m (AddrLabel.message_at bytes) (λ x. variant.NewAddrLabel x) 72 _ (λ x is. (refl, addr_label x is))
    (step k m (AddrLabel.message_at bytes) (λ x. variant.DelAddrLabel x) 73 _ (λ x is. (refl, addr_label x is))
    (step k m (AddrLabel.message_at bytes) (λ x. variant.GetAddrLabel x) 74 _ (λ x is. (refl, addr_label x is))
    (step k m (Nsid.message_at bytes) (λ x. variant.NewNsId x) 88 _ (λ x is. (refl, nsid x is))
    (step k m (Nsid.message_at bytes) (λ x. variant.DelNsId x) 89 _ (λ x is. (refl, nsid x is))
    (step k m (Nsid.message_at bytes) (λ x. variant.GetNsId x) 90 _ (λ x is. (refl, nsid x is))
    (step k m (Stats.message_at bytes) (λ x. variant.NewStats x) 92 _ (λ x is. (refl, stats x is))
    (step k m (Stats.message_at bytes) (λ x. variant.GetStats x) 94 _ (λ x is. (refl, stats x is))
    (step k m (Tc.message_at bytes) (λ x. variant.NewTrafficChain x) 100 _ (λ x is. (refl, tc x is))
    (step k m (Tc.message_at bytes) (λ x. variant.DelTrafficChain x) 101 _ (λ x is. (refl, tc x is))
    (step k m (Tc.message_at bytes) (λ x. variant.GetTrafficChain x) 102 _ (λ x is. (refl, tc x is))
    (none _)))))))))))))))))))))))))))))))))))))))))))

-- Each message that was read from bytes reads back.
pub read-again : ReadMessagesReadBack
read-again k bytes m are is =
    let both = read-parts k bytes m are is in
    record { type = both.0; back = λ fit. all-again m fit both.1 }
