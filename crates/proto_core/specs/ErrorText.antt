-- The texts of a refusal, as `Display` writes them.
use Rattle.std.specs.Prelude.{ℕ, List, ◌++◌, codes}
use Rattle.std.specs.Fmt.{decimal, signed_decimal}
use Rattle.proto_core.specs.declared.request.RequestRefusal.{RequestRefusal}
use Rattle.proto_core.specs.declared.request.RequestRefusal.TheVariants as refusal
use Rattle.proto_core.specs.declared.error.NetlinkProtoError.{NetlinkProtoError}
use Rattle.proto_core.specs.declared.error.NetlinkProtoError.TheVariants.{ConnectionClosed, NetlinkError, SocketIo, SequenceExhausted, Unfit, NoMemory}

abbrev pub error_text : NetlinkProtoError → List ℕ
error_text ConnectionClosed = codes "the netlink connection is closed"
error_text (NetlinkError message) = codes "received an error message as a response"
error_text (SocketIo fault) = codes "error while reading from or writing to the netlink socket: " ++ signed_decimal fault.code
error_text (SequenceExhausted used asked) = codes "sequence numbers are used up: " ++ (decimal used ++ (codes " used, " ++ (decimal asked ++ codes " asked")))
error_text (Unfit index) = codes "message " ++ (decimal index ++ codes " does not fit")
error_text NoMemory = codes "out of memory"

-- Why a request isn't taken, as a refusal of a call on a connection.
abbrev pub error_of : RequestRefusal → NetlinkProtoError
error_of (refusal.SequenceExhausted used asked) = SequenceExhausted used asked
error_of (refusal.Unfit index) = Unfit index
error_of refusal.NoMemory = NoMemory
