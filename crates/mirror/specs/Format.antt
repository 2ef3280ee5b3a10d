-- The format of the inner messages of a session. Its type is named in src/message.rt.
use Rattle.nl_core.specs.Frames.{Format}
use Rattle.rt_dispatch.specs.Dispatch.{route_netlink_format}
use Rattle.rt_dispatch.specs.declared.message.RouteNetlinkMessage.{RouteNetlinkMessage}
use Rattle.session_model.specs.declared.transcript.Record.{Record}
use Rattle.session_model.specs.Transcript.{IsRecord}

abbrev pub Message : Type 0
Message = RouteNetlinkMessage

abbrev pub format : Format Message
format = route_netlink_format

-- The records that there are.
abbrev pub IsEntry : Record → Type 0
IsEntry r = IsRecord format.reads r
