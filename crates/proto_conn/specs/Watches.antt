-- What nobody watching makes of what is read.
use Rattle.std.specs.Prelude.{◌≡◌, ℕ, Bool, true}
use Rattle.nl_core.specs.declared.message.NetlinkMessage.{NetlinkMessage}
use Rattle.session_model.specs.declared.address.SocketAddr.{SocketAddr}
use Rattle.proto_core.specs.declared.messages.Handled.{Handled}
use Rattle.proto_conn.specs.declared.framed.Dropped.{Dropped}

-- `()` takes every message.
abbrev pub sees_nothing : {T : Type 0} → Unit {0} → NetlinkMessage T → SocketAddr → Handled ℕ → Bool → Unit {0} → Type 0
sees_nothing before message source handled took now = took ≡ true

abbrev pub loses_nothing : Unit {0} → Dropped → SocketAddr → Unit {0} → Type 0
loses_nothing before what source now = Unit {0}

abbrev pub overruns_nothing : Unit {0} → Unit {0} → Type 0
overruns_nothing before now = Unit {0}
