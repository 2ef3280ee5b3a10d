-- The definitions at work on short histories: what they give is computed here, from the definitions alone.
use Rattle.std.specs.Prelude.{◌≡◌, ℕ, pos, Bool, true, false, not, List, [], ◌∷◌, ◌++◌, Option, Some, None, refl, cond}
use Rattle.nl_core.specs.declared.message.NetlinkMessage.{NetlinkMessage}
use Rattle.nl_core.specs.declared.message.NetlinkPayload.{NetlinkPayload}
use Rattle.nl_core.specs.declared.message.NetlinkPayload.TheVariants.{Done, InnerMessage, Overrun}
use Rattle.rt_other.specs.declared.address_family.AddressFamily.{AddressFamily}
use Rattle.rt_other.specs.declared.address_family.AddressFamily.TheVariants.{Inet, Inet6}
use Rattle.rt_other.specs.declared.route.RouteHeader.{RouteHeader}
use Rattle.rt_other.specs.declared.route_attribute.RouteAddress.TheVariants as bytes
use Rattle.rt_other.specs.declared.route_attribute.RouteAttribute.{RouteAttribute}
use Rattle.rt_other.specs.declared.route_attribute.RouteAttribute.TheVariants.{Destination, Oif, Gateway, Priority, Table}
use Rattle.rt_dispatch.specs.declared.message.RouteNetlinkMessage.{RouteNetlinkMessage}
use Rattle.rt_dispatch.specs.declared.message.RouteNetlinkMessage.TheVariants.{NewRoute}
use Rattle.session_model.specs.declared.address.SocketAddr.{SocketAddr}
use Rattle.session_model.specs.Events.{Event, Sent, Came, Leftover, Overran, Other, OfRoutes, Blocked, Unblocked}
use Rattle.session_model.specs.declared.network.Network.TheVariants as network
use Rattle.session_model.specs.declared.network.Address.TheVariants as address
use Rattle.mirror_model.specs.declared.answer.Answer.TheVariants.{Stale}
use Rattle.mirror_model.specs.Tables.{Tables, Change}
use Rattle.mirror_model.specs.TableEvents.{Ending, Continues, Finished, Failed, TableEvent, DumpAsked, DumpReply, Notified, Lost, Unrelated}
use Rattle.mirror_model.specs.MirrorState.{fresh, state_after}
use Rattle.mirror_model.specs.Clean.{is_in_step_at, table_at}
use Rattle.mirror_model.specs.Sessions.{table_events}
use Rattle.mirror_model.specs.Routes.{RouteKey, NextHop, best_of, contains_network}
use Rattle.mirror_model.specs.Blocked.{blocked_at}
use Rattle.mirror_model.specs.Lookups.{lookup_at}
use Rattle.mirror_model.specs.RouteChanges.{message_change, route_reader, route_readers}

-- ---- dumps and losses, over tables of two keys

-- Whether two truth values are the same.
abbrev pub same_bool : Bool → Bool → Bool
same_bool true b = b
same_bool false b = not b

-- The tables that are functions of the two truth values.
abbrev pub two_keys : Tables (Bool → Option ℕ) Bool ℕ
two_keys = record { same = same_bool; empty = λ k. None; changed = λ c t k. cond (same_bool k c.key) c.value (t k); get = λ t k. t k }

-- A reply of a dump.
abbrev pub dump_reply : ℕ → Option (Change Bool ℕ) → Bool → Ending → TableEvent Bool ℕ
dump_reply k c i e = DumpReply (record { stream = k; change = c; interrupted = i; ending = e })

-- A change that puts.
abbrev pub put : Bool → ℕ → Change Bool ℕ
put k v = record { key = k; value = Some v }

-- A change that deletes.
abbrev pub deleted : Bool → Change Bool ℕ
deleted k = record { key = k; value = None }

-- A loss between two dumps: in step with the clean end of the second one, and not before.
abbrev twice : List (TableEvent Bool ℕ)
twice = DumpAsked 1 ∷ Lost ∷ DumpAsked 2 ∷ dump_reply 1 None false Finished ∷ []

not_by_the_first : is_in_step_at twice ≡ false
not_by_the_first = refl

by_the_second : is_in_step_at (twice ++ dump_reply 2 None false Finished ∷ []) ≡ true
by_the_second = refl

not_if_interrupted : is_in_step_at (twice ++ dump_reply 2 None true Finished ∷ []) ≡ false
not_if_interrupted = refl

not_if_failed : is_in_step_at (twice ++ dump_reply 2 None false Failed ∷ []) ≡ false
not_if_failed = refl

not_if_lost_later : is_in_step_at (twice ++ dump_reply 2 None false Finished ∷ Lost ∷ []) ≡ false
not_if_lost_later = refl

-- The replies of a dump and the notifications since it was asked count in order.
abbrev pub followed : List (TableEvent Bool ℕ)
followed =
    DumpAsked 1
    ∷ dump_reply 1 (Some (put false 5)) false Continues
    ∷ dump_reply 1 (Some (put true 7)) false Continues
    ∷ Notified (deleted true)
    ∷ dump_reply 1 None false Finished
    ∷ []

followed_table : table_at two_keys followed
    ≡ Some (λ k. cond (same_bool k true) None (cond (same_bool k true) (Some 7) (cond (same_bool k false) (Some 5) None)))
followed_table = refl

-- Of two dumps that overlap the one counts that ended last, not the one that was asked last.
abbrev overlapping : List (TableEvent Bool ℕ)
overlapping = DumpAsked 1 ∷ DumpAsked 2 ∷ dump_reply 2 (Some (put false 5)) false Finished ∷ dump_reply 1 (Some (put true 7)) false Finished ∷ []

overlapping_table : table_at two_keys overlapping ≡ Some (λ k. cond (same_bool k true) (Some 7) None)
overlapping_table = refl

overlapping_state : (state_after two_keys overlapping fresh).in_force ≡ Some (λ k. cond (same_bool k true) (Some 7) None)
overlapping_state = refl

-- ---- messages on routes

abbrev header : AddressFamily → ℕ → RouteHeader
header family length = record {
  address_family = family;
  destination_prefix_length = length;
  source_prefix_length = 0;
  tos = 0;
  table = 254;
  protocol = record { 0 = 3 };
  scope = 0;
  kind = record { 0 = 1 };
  flags = 0;
}

abbrev new_route : AddressFamily → ℕ → List RouteAttribute → RouteNetlinkMessage
new_route family length attributes = NewRoute (record { header = header family length; attributes = attributes })

abbrev to_v4 : List ℕ → RouteAttribute
to_v4 octets = Destination (bytes.Inet (record { 0 = octets }))

abbrev by_link : ℕ → NextHop
by_link oif = record { kind = 1; oif = Some oif; gateway = None }

abbrev v4_key : ℕ → ℕ → ℕ → RouteKey
v4_key number length priority = record { network = network.V4 (number, length); priority = priority }

-- Host bits are dropped, and an absent priority is 0.
host_bits : message_change 254 (new_route Inet 16 (to_v4 (10 ∷ 1 ∷ 2 ∷ 3 ∷ []) ∷ Oif 4 ∷ [])) ≡ Some (record {
  key =
      v4_key 167837696 16 0;
  value = Some (by_link 4);
})
host_bits = refl

-- A default route needs no destination.
default_route : message_change 254 (new_route Inet 0 (Oif 4 ∷ [])) ≡ Some (record { key = v4_key 0 0 0; value = Some (by_link 4) })
default_route = refl

no_destination : message_change 254 (new_route Inet 8 (Oif 4 ∷ [])) ≡ None
no_destination = refl

too_long : message_change 254 (new_route Inet 33 (to_v4 (10 ∷ 1 ∷ 2 ∷ 3 ∷ []) ∷ [])) ≡ None
too_long = refl

other_family : message_change 254 (new_route Inet6 8 (to_v4 (10 ∷ 1 ∷ 2 ∷ 3 ∷ []) ∷ [])) ≡ None
other_family = refl

-- The last attribute of a kind counts, and a Table attribute before the header's table.
last_counts : message_change 1000 (new_route Inet 0 (Priority 7 ∷ Table 254 ∷ Table 1000 ∷ Oif 4 ∷ Priority 9 ∷ []))
    ≡ Some (record { key = v4_key 0 0 9; value = Some (by_link 4) })
last_counts = refl

other_table : message_change 254 (new_route Inet 0 (Table 1000 ∷ Oif 4 ∷ [])) ≡ None
other_table = refl

-- A gateway of another family counts as none.
other_gateway : message_change 254 (new_route Inet6 0 (Oif 4 ∷ Gateway (bytes.Inet (record { 0 = 10 ∷ 0 ∷ 0 ∷ 1 ∷ [] })) ∷ []))
    ≡ Some (record { key = record { network = network.V6 (0, 0); priority = 0 }; value = Some (by_link 4) })
other_gateway = refl

-- ---- the events of a session

abbrev port : ℕ → SocketAddr
port n = record { port = n; groups = 0 }

abbrev message : ℕ → ℕ → NetlinkPayload RouteNetlinkMessage → NetlinkMessage RouteNetlinkMessage
message number flags payload =
    record { header = record { length = 0; message_type = 0; flags = flags; sequence_number = number; port_number = 0 }; payload = payload }

abbrev resync : Event RouteNetlinkMessage
resync =
    Sent (port 0)
    (record {
      header = record { length = 28; message_type = 26; flags = 769; sequence_number = 0; port_number = 0 };
      payload = [];
      awaits = true;
      dumps = Some OfRoutes;
    } ∷ [])

abbrev done : ℕ → ℕ → NetlinkMessage RouteNetlinkMessage
done number flags = message number flags (Done (record { code = pos 0; extended_ack = [] }))

abbrev route : ℕ → NetlinkMessage RouteNetlinkMessage
route number = message number 2 (InnerMessage (new_route Inet 0 (Oif 4 ∷ [])))

abbrev route_put : Change RouteKey NextHop
route_put = record { key = v4_key 0 0 0; value = Some (by_link 4) }

-- A dump of one route, the same route from the peer and from another port, and a Done that nothing awaits any more.
session : table_events (route_reader 0 254) 0 (
    resync ∷ Came (route 1) (port 0) ∷ Came (done 1 2) (port 0) ∷ Came (route 7) (port 0) ∷ Came (route 7) (port 9) ∷ Came (done 1 2) (port 0) ∷ [])
    ≡ DumpAsked 1
    ∷ DumpReply (record { stream = 1; change = Some route_put; interrupted = false; ending = Continues })
    ∷ DumpReply (record { stream = 1; change = None; interrupted = false; ending = Finished })
    ∷ Notified route_put
    ∷ Unrelated
    ∷ Unrelated
    ∷ []
session = refl

-- An overrun of the link, an Overrun message from the peer, also as a reply, and a rest from the peer are losses; not so from
-- another port.
losses : table_events (route_reader 0 254) 0 (
    resync ∷ Overran ∷ Came (message 1 0 (Overrun [])) (port 0) ∷ Leftover 2 (port 0) ∷ Came (message 1 0 (Overrun [])) (port 9) ∷ Leftover 2 (port 9) ∷ [])
    ≡ DumpAsked 1 ∷ Lost ∷ Lost ∷ Lost ∷ Unrelated ∷ Unrelated ∷ []
losses = refl

-- ---- answers

-- Stale before the first clean dump, and after a loss.
stale_at_first : lookup_at (route_readers 0 254) 0 (resync ∷ Came (route 1) (port 0) ∷ []) (address.V4 167772161) ≡ Stale
stale_at_first = refl

stale_after_loss : lookup_at (route_readers 0 254) 0 (resync ∷ Overran ∷ Came (done 1 2) (port 0) ∷ []) (address.V4 167772161) ≡ Stale
stale_after_loss = refl

-- What was blocked, host bits dropped, until it is unblocked.
abbrev two_blocked : List (Event RouteNetlinkMessage)
two_blocked = Other (Blocked (network.V4 (167838211, 16))) ∷ Other (Blocked (network.V4 (0, 0))) ∷ []

blocked : blocked_at (two_blocked ++ Other (Unblocked (network.V4 (151587081, 0))) ∷ []) ≡ network.V4 (167837696, 16) ∷ []
blocked = refl

-- The longest network, then the least priority.
best : best_of ((v4_key 167772160 8 0, by_link 2) ∷ (v4_key 167837696 16 100, by_link 3) ∷ (v4_key 167837696 16 50, by_link 4) ∷ [])
    ≡ Some (v4_key 167837696 16 50, by_link 4)
best = refl

-- A blocked network contains itself.
contains_itself : contains_network (network.V4 (167837696, 16)) (network.V4 (167837696, 16)) ≡ true
contains_itself = refl
