-- The request for a dump, and what it makes of a connection.
use Rattle.std.specs.Prelude.{ℕ, true, [], ◌∷◌}
use Rattle.nl_core.specs.declared.message.NetlinkMessage.{NetlinkMessage}
use Rattle.nl_core.specs.declared.message.NetlinkPayload.TheVariants.{InnerMessage}
use Rattle.rt_other.specs.Route.{default_header}
use Rattle.rt_dispatch.specs.Dispatch.{route_netlink_format}
use Rattle.rt_dispatch.specs.declared.message.RouteNetlinkMessage.{RouteNetlinkMessage}
use Rattle.rt_dispatch.specs.declared.message.RouteNetlinkMessage.TheVariants.{GetRoute}
use Rattle.proto_core.specs.declared.error.NetlinkProtoError.{NetlinkProtoError}
use Rattle.proto_core.specs.declared.request.ExpectResponse.TheVariants.{Explicit}
use Rattle.proto_conn.specs.Conn.{Conn}
use Rattle.proto_conn.specs.Handles.{IsQueued}
use Rattle.proto_conn.specs.Handling.{IsRefused}

-- The message that asks for all routes: NLM_F_REQUEST and NLM_F_DUMP are 0x301.
abbrev pub dump_message : NetlinkMessage RouteNetlinkMessage
dump_message = record {
  header = record { length = 28; message_type = 26; flags = 769; sequence_number = 0; port_number = 0 };
  payload = InnerMessage (GetRoute (record { header = default_header; attributes = [] }));
}

-- It was queued as a request of its own, to the peer's port.
abbrev pub IsDumpQueued : {S : Type 0} → ℕ → Conn RouteNetlinkMessage S → Conn RouteNetlinkMessage S → Type 0
IsDumpQueued peer before now =
    IsQueued route_netlink_format.text route_netlink_format.fits before (dump_message ∷ []) (Explicit (true ∷ []))
    (record { port = peer; groups = 0 }) now

-- The handle refuses it, for this cause.
abbrev pub IsDumpRefused : {S : Type 0} → Conn RouteNetlinkMessage S → NetlinkProtoError → Type 0
IsDumpRefused before e = IsRefused route_netlink_format.text route_netlink_format.fits before (dump_message ∷ []) e
