-- What a mirror makes of what a connection reads.
use Rattle.std.specs.Prelude.{◌≡◌, ℕ, Bool, if◌then◌else◌}
use Rattle.nl_core.specs.declared.message.NetlinkMessage.{NetlinkMessage}
use Rattle.rt_dispatch.specs.declared.message.RouteNetlinkMessage.{RouteNetlinkMessage}
use Rattle.session_model.specs.declared.address.SocketAddr.{SocketAddr}
use Rattle.proto_core.specs.declared.messages.Handled.{Handled}
use Rattle.proto_conn.specs.declared.framed.Dropped.{Dropped}
use Rattle.proto_conn.specs.declared.framed.Dropped.TheVariants.{Unreadable, Rest}
use Rattle.mirror_model.specs.TableEvents.{Lost}
use Rattle.route_mirror.specs.Mirrors.{handled_step, leftover_step, stepped, unread_step}
use Rattle.route_mirror.specs.Values.{MirrorValue}

-- A mirror takes the step of a message; one that runs out of memory counts a loss.
abbrev pub mirror_sees : MirrorValue → NetlinkMessage RouteNetlinkMessage → SocketAddr → Handled ℕ → Bool → MirrorValue → Type 0
mirror_sees before message source handled took now =
    now ≡ (if took then handled_step message source handled before else stepped Lost before)

-- A mirror after a frame or a rest that was dropped.
abbrev pub dropped_step : Dropped → SocketAddr → MirrorValue → MirrorValue
dropped_step (Unreadable kind number) source m = unread_step kind source m
dropped_step (Rest count) source m = leftover_step source m

-- A drop is a loss, where it may be one of routes.
abbrev pub mirror_loses : MirrorValue → Dropped → SocketAddr → MirrorValue → Type 0
mirror_loses before what source now = now ≡ dropped_step what source before

-- An overrun of the link is a loss.
abbrev pub mirror_overruns : MirrorValue → MirrorValue → Type 0
mirror_overruns before now = now ≡ stepped Lost before
