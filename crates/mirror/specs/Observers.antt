-- What a ledger and a mirror make of what a connection reads, together.
use Rattle.std.specs.Prelude.{◌≡◌, ℕ, Bool, true}
use Rattle.nl_core.specs.declared.message.NetlinkMessage.{NetlinkMessage}
use Rattle.session_model.specs.declared.address.SocketAddr.{SocketAddr}
use Rattle.proto_core.specs.declared.messages.Handled.{Handled}
use Rattle.proto_conn.specs.declared.framed.Dropped.{Dropped}
use Rattle.route_mirror.specs.Watching.{mirror_loses, mirror_overruns, mirror_sees}
use Rattle.mirror.specs.declared.observers.Observers.{Observers}
use Rattle.mirror.specs.Format.{Message}
use Rattle.mirror.specs.Ledger.{ledger_loses, ledger_sees}

-- A message that both take.
abbrev pub observers_see : Observers → NetlinkMessage Message → SocketAddr → Handled ℕ → Bool → Observers → Type 0
observers_see before message source handled took now =
    took ≡ true → ledger_sees before.ledger message source handled true now.ledger
    × mirror_sees before.mirror message source handled true now.mirror

-- A drop.
abbrev pub observers_lose : Observers → Dropped → SocketAddr → Observers → Type 0
observers_lose before what source now =
    ledger_loses before.ledger what source now.ledger × mirror_loses before.mirror what source now.mirror

-- An overrun, whose message they see next.
abbrev pub observers_overrun : Observers → Observers → Type 0
observers_overrun before now = (now.ledger ≡ before.ledger) × mirror_overruns before.mirror now.mirror
