-- What a runner that has taken records knows, how it takes one more, and why it doesn't.
use Rattle.std.specs.Prelude.{◌≡◌, ◌+◌, ◌≤◌, ◌<◌, ◌^◌, ℕ, Bool, List, [], ◌∷◌, ◌++◌, length, Option, Some, None}
use Rattle.session_model.specs.declared.address.SocketAddr.{SocketAddr}
use Rattle.session_model.specs.declared.settings.Settings.{Settings}
use Rattle.session_model.specs.declared.transcript.BatchFrame.{BatchFrame}
use Rattle.session_model.specs.declared.outcome.RunFault.{RunFault}
use Rattle.session_model.specs.declared.outcome.RunFault.TheVariants as run
use Rattle.session_model.specs.declared.transcript.Record.{Record}
use Rattle.session_model.specs.declared.network.Network.{Network}
use Rattle.session_model.specs.declared.transcript.Record.TheVariants.{Recv, Overrun, Close, Batch, Resync, Block, Unblock, Lookup}
use Rattle.session_model.specs.Events.{Event, Overran, Shut, arrivals, datagram_events, peer_address, record_events, events_of, resync_frames}
use Rattle.session_model.specs.Awaited.{awaited, batch_count, last_number}
use Rattle.session_model.specs.Streams.{is_shut}
use Rattle.session_model.specs.Reported.{dropped_count}
use Rattle.session_model.specs.SessionText.{text_of_events}
use Rattle.session_model.specs.Causes.{AreTaken, Refusal, refusal, AfterClose, OutOfNumbers, TooLong}
use Rattle.proto_conn.specs.declared.parts.Forward.{Forward}
use Rattle.session_laws.specs.After.{session_after}
use Rattle.session_laws.specs.Counts.{Counts}
use Rattle.transcript_io.specs.Io.{GainedSome}
use Rattle.mirror_model.specs.Blocked.{blocked_at}
use Rattle.mirror_model.specs.Clean.{IsStateAt}
use Rattle.mirror_model.specs.FiniteTables.{finite}
use Rattle.mirror_model.specs.Lookups.{Readers, routes_state}
use Rattle.mirror_model.specs.OutputText.{in_step_after, output_text}
use Rattle.mirror_model.specs.OutputText.{added_text as added_output}
use Rattle.mirror_model.specs.RouteChanges.{route_reader, route_readers}
use Rattle.mirror_model.specs.Routes.{key_cmp}
use Rattle.mirror_model.specs.Sessions.{table_events}
use Rattle.mirror_model.specs.TableEvents.{DumpAsked, LinkClosed}
use Rattle.route_table.specs.Networks.{is_listed}
use Rattle.route_mirror.specs.Mirrors.{stepped}
use Rattle.route_mirror.specs.Values.{MirrorValue}
use Rattle.mirror.specs.declared.ledger.Ledger.{Ledger}
use Rattle.mirror.specs.declared.runner.Runner.{Runner}
use Rattle.mirror.specs.declared.step_fault.StepFault.{StepFault}
use Rattle.mirror.specs.declared.step_fault.StepFault.TheVariants as step
use Rattle.mirror.specs.Format.{IsEntry, Message, format}
use Rattle.mirror.specs.Ledger.{awaited_at}
use Rattle.mirror.specs.Polled.{AtRest, IsTold, MirrorFollows, OpensBatch, Receives, RouteConn, SendsBatch, emptied, handed_text}

-- ---- records and their text

-- The events of records.
abbrev pub events : Settings → List Record → List (Event Message)
events s rs = events_of format s rs

-- How a mirror reads a session.
abbrev pub readers : Settings → Readers Message
readers s = route_readers s.peer s.table

-- The text of records.
abbrev pub text_of : Settings → List Record → List ℕ
text_of s rs = output_text format s (readers s) rs

-- The text that one more record adds.
abbrev pub added_text : Settings → List Record → Record → List ℕ
added_text s rs r = added_output format s (readers s) rs r

-- What of it is the session's.
abbrev pub session_part : Settings → List Record → Record → List ℕ
session_part s rs r = text_of_events format s (events s rs) (record_events format s r)

-- Whether the mirror is in step after records.
abbrev pub is_in_step_after : Settings → List Record → Bool
is_in_step_after s rs = in_step_after format s (readers s) rs

-- Records that are taken one after another.
abbrev pub AreAllTaken : Settings → List Record → Type 0
AreAllTaken s rs = AreTaken format s IsEntry [] rs

-- ---- the counts of a runner

-- How many numbers of each open stream are awaited.
abbrev pub open_at : Runner → ℕ → Option ℕ
open_at runner = awaited_at runner.observers.ledger

-- How many lines were taken.
abbrev pub line_count : Runner → ℕ
line_count runner = runner.lines

-- How many messages arrived.
abbrev pub message_count : Runner → ℕ
message_count runner = runner.connection.session.arrived

-- How many unreadable frames and rests were dropped.
abbrev pub drop_count : Runner → ℕ
drop_count runner = runner.observers.ledger.dropped

-- No step of a runner has failed: its numbers are in their range, nothing is left of the records that it took, and its
-- mirror follows the peer of its settings.
pub record CountsInRange (runner : Runner) : Type 0 where
  pub numbers : runner.connection.session.last < 2 ^ 32
  pub rest : AtRest runner.connection
  pub closing : runner.observers.ledger.closing.keys ≡ []
  pub peer : runner.observers.mirror.peer ≡ runner.settings.peer

-- Nothing was counted yet.
pub record HasNoCounts (runner : Runner) : Type 0 where
  pub lines : line_count runner ≡ 0
  pub messages : message_count runner ≡ 0
  pub dropped : drop_count runner ≡ 0

-- The counts leave space for one record more.
pub record HasSpace (runner : Runner) : Type 0 where
  pub lines : line_count runner < 2 ^ 63
  pub messages : message_count runner < 2 ^ 63
  pub dropped : drop_count runner < 2 ^ 63

-- How many messages and drops a record can bring at most.
abbrev pub weight : Record → ℕ
weight (Recv source bytes) = length bytes
weight Overrun = 1
weight Close = 0
weight (Batch to frames) = 0
weight Resync = 0
weight (Block n) = 0
weight (Unblock n) = 0
weight (Lookup a) = 0

-- The counts of a runner after one record more.
pub record Grows (r : Record) (old new : Runner) : Type 0 where
  pub lines : new.lines ≡ old.lines + 1
  pub messages : message_count new ≤ message_count old + weight r
  pub dropped : drop_count new ≤ drop_count old + weight r

-- ---- between records

-- Which control replies settings hand on.
abbrev pub forward_of : Settings → Forward
forward_of s = record { noop = s.forward_noop; done = s.forward_done; ack = s.forward_ack }

-- A connection stands as records leave it: the last number, what is awaited and the count of arrivals; how many streams
-- there are; which control replies it hands on; and whether its link closed.
pub record Stands (s : Settings) (es : List (Event Message)) (c : RouteConn) : Type 0 where
  pub session : c.session ≡ session_after s.start es
  pub streams : length c.given_up ≡ batch_count 0 es
  pub forward : c.forward ≡ forward_of s
  pub closed : c.closed ≡ is_shut es

-- A mirror stands as events leave it: its state, and which networks are blocked.
pub record Mirrors (s : Settings) (es : List (Event Message)) (m : MirrorValue) : Type 0 where
  pub peer : m.peer ≡ s.peer
  pub table : m.table ≡ s.table
  pub state : m.state ≡ routes_state (readers s) s.start es
  pub blocked : (n : Network) → is_listed n m.blocked ≡ is_listed n (blocked_at es)

-- A runner has taken these records.
pub record Tracks (s : Settings) (rs : List Record) (runner : Runner) : Type 0 where
  pub settings : runner.settings ≡ s
  pub stands : Stands s (events s rs) runner.connection
  pub counts : Counts (open_at runner) s.start (events s rs)
  pub mirror : Mirrors s (events s rs) runner.observers.mirror
  pub lines : runner.lines ≡ length rs
  pub dropped : drop_count runner ≡ dropped_count (events s rs)
  pub taken : AreAllTaken s rs

-- The session of a connection and its link, as records leave them.
pub record ConnectionStands (s : Settings) (rs : List Record) (c : RouteConn) : Type 0 where
  pub last : c.session.last ≡ last_number s.start (events s rs)
  pub arrived : c.session.arrived ≡ length (arrivals (events s rs))
  pub awaited : c.session.awaited ≡ awaited s.start (events s rs)
  pub closed : c.closed ≡ is_shut (events s rs)

-- A mirror as records leave it: the state after each of their events, which is the one that the whole list of events
-- gives; and what is blocked.
pub record MirrorStands (s : Settings) (rs : List Record) (m : MirrorValue) : Type 0 where
  pub stands : Mirrors s (events s rs) m
  pub afresh : IsStateAt (finite key_cmp) (table_events (route_reader s.peer s.table) s.start (events s rs)) m.state

-- Why a record isn't taken after others, out of memory apart.
abbrev pub WhyNot : Settings → List Record → Record → StepFault → Type 0
WhyNot s rs r step.Closed = refusal format s (events s rs) r ≡ Some AfterClose
WhyNot s rs r step.SequenceExhausted = refusal format s (events s rs) r ≡ Some OutOfNumbers
WhyNot s rs r step.Unfit = refusal format s (events s rs) r ≡ Some TooLong
WhyNot s rs r step.NoMemory = Unit {0}

-- A runner doesn't take a record, after whatever records it has taken.
abbrev pub RefusedBy : Runner → Record → StepFault → Type 0
RefusedBy old r why = (s : Settings) (rs : List Record) → Tracks s rs old → WhyNot s rs r why

-- A runner takes a record, and its text is the one that the record adds.
abbrev pub TakesRecord : Runner → Record → Runner → List ℕ → Type 0
TakesRecord old r new text =
    (s : Settings) (rs : List Record) → Tracks s rs old
    → Tracks s (rs ++ r ∷ []) new × (text ≡ added_text s rs r)

-- ---- amid a record

-- A request of frames went over a connection, and its stream is in a ledger.
abbrev pub Requests : SocketAddr → List BatchFrame → RouteConn → Ledger → RouteConn → Ledger → Type 0
Requests to frames old before new now =
    SendsBatch to frames old new × OpensBatch (length old.given_up + 1) frames before now

-- What a record of the link that is taken does to a connection and its ledger.
abbrev pub Brings : Settings → Record → RouteConn → Ledger → RouteConn → Ledger → Type 0
Brings s (Batch to frames) old before new now = Requests to frames old before new now
Brings s Resync old before new now = Requests (peer_address format s) resync_frames old before new now
Brings s (Recv source bytes) old before new now = Receives (datagram_events format source bytes) old before new now
Brings s Overrun old before new now = Receives (Overran ∷ []) old before new now
Brings s Close old before new now = Receives (Shut ∷ []) old before new now
Brings s (Block n) old before new now = ⊥
Brings s (Unblock n) old before new now = ⊥
Brings s (Lookup a) old before new now = ⊥

-- What it does to a mirror: a dump that is asked, what is read, or a close.
abbrev pub Shows : Record → RouteConn → MirrorValue → MirrorValue → Type 0
Shows (Batch to frames) old before now = now ≡ before
Shows Resync old before now = now ≡ stepped (DumpAsked (length old.given_up + 1)) before
Shows (Recv source bytes) old before now = MirrorFollows (datagram_events format source bytes) old.session before now
Shows Overrun old before now = MirrorFollows (Overran ∷ []) old.session before now
Shows Close old before now = now ≡ stepped LinkClosed before
Shows (Block n) old before now = ⊥
Shows (Unblock n) old before now = ⊥
Shows (Lookup a) old before now = ⊥

-- The text of what a record brought, once it is told, and the runner then.
pub record Tells (old new : Runner) (told : List ℕ) : Type 0 where
  pub text : told ≡ handed_text old.settings old.connection old.observers.ledger
  pub connection : new.connection ≡ emptied old.connection
  pub ledger : IsTold old.connection.closed old.observers.ledger new.observers.ledger
  pub mirror : new.observers.mirror ≡ old.observers.mirror

-- ---- a step that fails

-- A record isn't taken for this reason, with the place that was handed in, and nothing is written.
abbrev pub IsRefused : Settings → List Record → Record → ℕ → Option (List ℕ) → Option (List ℕ) → Refusal → ℕ → Type 0
IsRefused s rs r place before after why at =
    (at ≡ place) × (refusal format s (events s rs) r ≡ Some why) × (after ≡ before)

-- Why a step at a place fails after records, and what its sink gained: nothing where the record isn't taken; some first
-- bytes of its text where writing failed or memory ran out.
abbrev pub Fails : Settings → List Record → Record → ℕ → Option (List ℕ) → Option (List ℕ) → RunFault → Type 0
Fails s rs r place before after (run.BadRecord at) = ⊥
Fails s rs r place before after (run.Closed at) = IsRefused s rs r place before after AfterClose at
Fails s rs r place before after (run.SequenceExhausted at) = IsRefused s rs r place before after OutOfNumbers at
Fails s rs r place before after (run.Unfit at) = IsRefused s rs r place before after TooLong at
Fails s rs r place before after run.Limit = ⊥
Fails s rs r place before after run.ReadFault = ⊥
Fails s rs r place before after run.WriteFault =
    (refusal format s (events s rs) r ≡ None) × GainedSome before after (added_text s rs r)
Fails s rs r place before after run.NoMemory = GainedSome before after (added_text s rs r)
