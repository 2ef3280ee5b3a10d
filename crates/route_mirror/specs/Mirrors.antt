-- The steps of a mirror.
use Rattle.std.specs.Prelude.{ℕ, Bool, [], Option, Some, None}
use Rattle.nl_core.specs.declared.message.NetlinkMessage.{NetlinkMessage}
use Rattle.rt_dispatch.specs.declared.message.RouteNetlinkMessage.{RouteNetlinkMessage}
use Rattle.proto_core.specs.declared.messages.Handled.{Handled}
use Rattle.proto_core.specs.declared.messages.Place.{Place}
use Rattle.proto_core.specs.declared.messages.Place.TheVariants.{Reply, Unsolicited}
use Rattle.session_model.specs.declared.address.SocketAddr.{SocketAddr}
use Rattle.session_model.specs.Events.{Unread, Leftover}
use Rattle.mirror_model.specs.FiniteTables.{finite}
use Rattle.mirror_model.specs.MirrorState.{step}
use Rattle.mirror_model.specs.RouteChanges.{route_reader}
use Rattle.mirror_model.specs.Routes.{RouteKey, NextHop, key_cmp}
use Rattle.mirror_model.specs.Sessions.{handled_event, table_event}
use Rattle.mirror_model.specs.TableEvents.{TableEvent, DumpReply}
use Rattle.route_mirror.specs.declared.dump.Update.{Update}
use Rattle.route_mirror.specs.declared.reply.Ending.{Ending}
use Rattle.route_mirror.specs.Dumps.{completed, ending_value, update_change}
use Rattle.route_mirror.specs.Values.{MirrorValue}

-- A mirror after an event. All but its state stays.
abbrev pub stepped : TableEvent RouteKey NextHop → MirrorValue → MirrorValue
stepped e m = record m { state = step (finite key_cmp) e m.state }

-- What a session says of an arrival: the stream that it answers, if any, and whether it ends its number.
abbrev pub answered_by : Place ℕ → Option (ℕ × Bool)
answered_by (Reply stream done) = Some (stream, done)
answered_by Unsolicited = None

-- A mirror after an arrival, and what became of it.
abbrev pub handled_step : NetlinkMessage RouteNetlinkMessage → SocketAddr → Handled ℕ → MirrorValue → MirrorValue
handled_step message source handled m = stepped (handled_event (route_reader m.peer m.table) message source (answered_by handled.to)) m

-- A mirror after a frame of a type that couldn't be read.
abbrev pub unread_step : ℕ → SocketAddr → MirrorValue → MirrorValue
unread_step kind source m = stepped (table_event (route_reader m.peer m.table) 0 [] (Unread kind 0 source)) m

-- A mirror after bytes that were left over.
abbrev pub leftover_step : SocketAddr → MirrorValue → MirrorValue
leftover_step source m = stepped (table_event (route_reader m.peer m.table) 0 [] (Leftover 0 source)) m

-- A mirror after a reply of a stream.
abbrev pub reply_step : ℕ → Update → Ending → MirrorValue → MirrorValue
reply_step stream u ending m =
    stepped (DumpReply (record { stream = stream; change = update_change u; interrupted = u.interrupted; ending = ending_value ending })) m

-- A mirror after a clean end of a stream.
abbrev pub completed_step : ℕ → MirrorValue → MirrorValue
completed_step stream m = record m { state = completed stream m.state }
