-- Why the refusal of a request refuses its record, and the fault of a run at a record that isn't taken.
use Rattle.std.specs.Prelude.{◌≡◌, ◌+◌, ◌<◌, ◌≤◌, ◌^◌, ℕ, false, List, length, get_or}
use Rattle.nl_core.specs.Frames.{message_fits}
use Rattle.nl_core.specs.declared.message.NetlinkMessage.{NetlinkMessage}
use Rattle.session_model.specs.declared.transcript.BatchFrame.{BatchFrame}
use Rattle.proto_core.specs.declared.error.NetlinkProtoError.{NetlinkProtoError}
use Rattle.proto_core.specs.declared.error.NetlinkProtoError.TheVariants as error
use Rattle.session_model.specs.declared.outcome.RunFault.{RunFault}
use Rattle.session_model.specs.declared.outcome.RunFault.TheVariants as run
use Rattle.mirror.specs.declared.step_fault.StepFault.{StepFault}
use Rattle.mirror.specs.declared.step_fault.StepFault.TheVariants as step
use Rattle.session_laws.specs.Requests.{messages_in}
use Rattle.mirror.specs.Format.{Message, format}
use Rattle.mirror.specs.Polled.{RouteConn}

-- A refusal of a request, and no fault of its replies or of the link.
abbrev pub IsRequestRefusal : NetlinkProtoError → Type 0
IsRequestRefusal error.ConnectionClosed = Unit {0}
IsRequestRefusal (error.NetlinkError message) = ⊥
IsRequestRefusal (error.SocketIo fault) = ⊥
IsRequestRefusal (error.SequenceExhausted used asked) = Unit {0}
IsRequestRefusal (error.Unfit index) = Unit {0}
IsRequestRefusal error.NoMemory = Unit {0}

-- The refusal of a request, as one of its record.
abbrev pub fault_of : NetlinkProtoError → StepFault
fault_of error.ConnectionClosed = step.Closed
fault_of (error.NetlinkError message) = step.NoMemory
fault_of (error.SocketIo fault) = step.NoMemory
fault_of (error.SequenceExhausted used asked) = step.SequenceExhausted
fault_of (error.Unfit index) = step.Unfit
fault_of error.NoMemory = step.NoMemory

-- Why a connection that is open doesn't take a batch, out of memory apart: its numbers would pass the greatest one, or
-- else a message doesn't fit.
abbrev pub RefusesBatch : RouteConn → List BatchFrame → StepFault → Type 0
RefusesBatch c frames step.Closed = ⊥
RefusesBatch c frames step.SequenceExhausted = 2 ^ 32 ≤ c.session.last + length (messages_in format frames)
RefusesBatch c frames step.Unfit =
    (index : ℕ) × (c.session.last + length (messages_in format frames) < 2 ^ 32)
    × (index < length (messages_in format frames))
    × ((d : NetlinkMessage Message) → message_fits format.text format.fits (get_or (messages_in format frames) index d) ≡ false)
RefusesBatch c frames step.NoMemory = Unit {0}

-- The fault of a run at a record that isn't taken.
abbrev pub fault_at : StepFault → ℕ → RunFault
fault_at step.Closed at = run.Closed at
fault_at step.SequenceExhausted at = run.SequenceExhausted at
fault_at step.Unfit at = run.Unfit at
fault_at step.NoMemory at = run.NoMemory
