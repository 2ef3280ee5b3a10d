-- What a ledger says of streams, and what it makes of what a connection reads.
use Rattle.std.specs.Prelude.{◌≡◌, ◌+◌, ◌-◌, ◌^◌, ℕ, Bool, true, Option, min}
use Rattle.std.specs.BTreeMap.{get}
use Rattle.std.specs.BTreeSet.{contains}
use Rattle.std.specs.Ordering.{nat_cmp}
use Rattle.nl_core.specs.declared.message.NetlinkMessage.{NetlinkMessage}
use Rattle.session_model.specs.declared.address.SocketAddr.{SocketAddr}
use Rattle.proto_core.specs.declared.messages.Handled.{Handled}
use Rattle.proto_conn.specs.declared.framed.Dropped.{Dropped}
use Rattle.session_laws.specs.Counts.{SettlesAt}
use Rattle.mirror.specs.declared.ledger.Ledger.{Ledger}
use Rattle.mirror.specs.Format.{Message}

-- How many numbers of an open stream are awaited.
abbrev pub awaited_at : Ledger → ℕ → Option ℕ
awaited_at ledger stream = get nat_cmp ledger.open_streams stream

-- Which streams the record at hand closes.
abbrev pub closes : Ledger → ℕ → Bool
closes ledger stream = contains nat_cmp ledger.closing stream

-- A message that was taken settles the number that it is the last reply of.
abbrev pub ledger_sees : Ledger → NetlinkMessage Message → SocketAddr → Handled ℕ → Bool → Ledger → Type 0
ledger_sees before message source handled took now =
    took ≡ true → SettlesAt handled.to (awaited_at before) (awaited_at now) (closes before) (closes now)
    × (now.dropped ≡ before.dropped)

-- A drop is counted, up to the greatest number that the count holds.
abbrev pub ledger_loses : Ledger → Dropped → SocketAddr → Ledger → Type 0
ledger_loses before what source now = now ≡ record before { dropped = min (before.dropped + 1) (2 ^ 64 - 1) }

-- An overrun by itself changes nothing.
abbrev pub ledger_overruns : Ledger → Ledger → Type 0
ledger_overruns before now = now ≡ before
