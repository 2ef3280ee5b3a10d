-- Why a handle's call is refused.
use Rattle.std.specs.Prelude.{◌≡◌, ℕ, Bool, true, false, List}
use Rattle.nl_core.specs.declared.message.NetlinkMessage.{NetlinkMessage}
use Rattle.proto_core.specs.Refused.{IsCause}
use Rattle.proto_core.specs.declared.error.NetlinkProtoError.{NetlinkProtoError}
use Rattle.proto_core.specs.declared.error.NetlinkProtoError.TheVariants as error
use Rattle.proto_core.specs.declared.request.RequestRefusal.TheVariants as refusal
use Rattle.proto_conn.specs.Conn.{Conn, refuses, used}

module _ {T S : Type 0} (text : T → List ℕ) (fits : T → Bool) where
  -- The connection takes no requests; or it does, and the numbers would pass the greatest one, with queued messages counted as used, or else a message
  -- doesn't fit. Want of memory is free.
  abbrev pub IsRefused : Conn T S → List (NetlinkMessage T) → NetlinkProtoError → Type 0
  IsRefused c ms error.ConnectionClosed = refuses c ≡ true
  IsRefused c ms (error.NetlinkError message) = ⊥
  IsRefused c ms (error.SocketIo fault) = ⊥
  IsRefused c ms (error.SequenceExhausted count asked) = (refuses c ≡ false) × IsCause text fits (used c) ms (refusal.SequenceExhausted count asked)
  IsRefused c ms (error.Unfit index) = (refuses c ≡ false) × IsCause text fits (used c) ms (refusal.Unfit index)
  IsRefused c ms error.NoMemory = Unit {0}
