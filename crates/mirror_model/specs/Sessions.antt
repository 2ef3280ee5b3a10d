-- What the events of a session are to a table that follows a peer's.
use Rattle.std.specs.Prelude.{◌≡◌, ◌+◌, ◌==◌, ◌&&◌, ◌||◌, ◌++◌, ℕ, pos, Bool, true, false, if◌then◌else◌, List, [], ◌∷◌, Option, Some, None}
use Rattle.std.specs.List.{list_any}
use Rattle.std.specs.Ordering.{int_eq}
use Rattle.nl_core.specs.declared.header.NetlinkHeader.{NetlinkHeader}
use Rattle.nl_core.specs.declared.message.NetlinkMessage.{NetlinkMessage}
use Rattle.nl_core.specs.declared.message.NetlinkPayload.{NetlinkPayload}
use Rattle.nl_core.specs.declared.message.NetlinkPayload.TheVariants as payloads
use Rattle.session_model.specs.declared.awaited.Awaited.{Awaited}
use Rattle.session_model.specs.declared.address.SocketAddr.{SocketAddr}
use Rattle.session_model.specs.Events.{Event, Sent, Came, Unread, Leftover, Overran, Shut, Other, Asked, DumpKind}
use Rattle.session_model.specs.Flags.{has}
use Rattle.session_model.specs.Awaited.{awaited, batch_count, first_awaiting, is_last}
use Rattle.mirror_model.specs.Tables.{Change}
use Rattle.mirror_model.specs.TableEvents.{Ending, Continues, Finished, Failed, Reply, TableEvent, DumpAsked, DumpReply, Notified, Lost, LinkClosed, Unrelated}

-- How a table reads its session: its peer's port, which dumps are of its kind, what a message changes, and which unreadable
-- frames of the peer, by their types, are a loss.
pub record Reader (M K V : Type 0) : Type 0 where
  pub peer : ℕ
  pub dumps : DumpKind → Bool
  pub change : M → Option (Change K V)
  pub loses : ℕ → Bool

-- A reply says that its dump was interrupted, and so may miss something (NLM_F_DUMP_INTR of linux/netlink.h).
abbrev pub says_interrupted : NetlinkHeader → Bool
says_interrupted h = has 16 h

module _ {M : Type 0} where
  -- Whether a payload says that messages were lost.
  abbrev pub is_overrun : NetlinkPayload M → Bool
  is_overrun (payloads.InnerMessage m) = false
  is_overrun payloads.Noop = false
  is_overrun (payloads.Done d) = false
  is_overrun (payloads.Error e) = false
  is_overrun (payloads.Overrun bytes) = true

  -- How a payload ends a number, where it does.
  abbrev pub ending_by : NetlinkPayload M → Ending
  ending_by (payloads.Done d) = if int_eq d.code (pos 0) then Finished else Failed
  ending_by (payloads.InnerMessage m) = Failed
  ending_by payloads.Noop = Failed
  ending_by (payloads.Error e) = Failed
  ending_by (payloads.Overrun bytes) = Failed

  -- How a message ends the number that it bears, by whether the request asked for an acknowledgement.
  abbrev pub ending_of : NetlinkMessage M → Bool → Ending
  ending_of m acks = if is_last m acks then ending_by m.payload else Continues

  -- What a session says of an arrival: the stream that it answers, if any, and whether it ends its number.
  abbrev pub handled_as : NetlinkMessage M → Option (Awaited ℕ) → Option (ℕ × Bool)
  handled_as m None = None
  handled_as m (Some w) = Some (w.stream, is_last m w.acks)

  -- What an arrival answers at its place, if anything.
  abbrev pub answered : ℕ → List (Event M) → NetlinkMessage M → SocketAddr → Option (Awaited ℕ)
  answered start before m source = first_awaiting m.header.sequence_number source.port (awaited start before)

-- A change, if there is one, as a notification.
abbrev pub notified_of : {K V : Type 0} → Option (Change K V) → TableEvent K V
notified_of None = Unrelated
notified_of (Some c) = Notified c

module _ {M K V : Type 0} (r : Reader M K V) where
  -- ---- dumps

  -- Whether a frame's dump, if it asks for one, is of the table's kind.
  abbrev pub follows_kind : Option DumpKind → Bool
  follows_kind None = false
  follows_kind (Some kind) = r.dumps kind

  -- Whether a request asks for a dump of the table's kind.
  abbrev pub requests_dump : List Asked → Bool
  requests_dump frames = list_any (λ (a : Asked). follows_kind a.dumps) frames

  -- Whether stream k is that of a dump. The streams of the events' requests follow n.
  abbrev pub is_dump_from : ℕ → List (Event M) → ℕ → Bool
  is_dump_from n [] k = false
  is_dump_from n (Sent to frames ∷ es) k = ((n + 1 == k) && requests_dump frames) || is_dump_from (n + 1) es k
  is_dump_from n (Came m source ∷ es) k = is_dump_from n es k
  is_dump_from n (Unread kind number source ∷ es) k = is_dump_from n es k
  is_dump_from n (Leftover count source ∷ es) k = is_dump_from n es k
  is_dump_from n (Overran ∷ es) k = is_dump_from n es k
  is_dump_from n (Shut ∷ es) k = is_dump_from n es k
  is_dump_from n (Other aside ∷ es) k = is_dump_from n es k

  -- A dump is asked by a request of one frame.
  abbrev pub AsksAlone : Event M → Type 0
  AsksAlone (Sent to []) = Unit {0}
  AsksAlone (Sent to (a ∷ [])) = Unit {0}
  AsksAlone (Sent to (a ∷ b ∷ frames)) = requests_dump (a ∷ b ∷ frames) ≡ false
  AsksAlone (Came m source) = Unit {0}
  AsksAlone (Unread kind number source) = Unit {0}
  AsksAlone (Leftover count source) = Unit {0}
  AsksAlone Overran = Unit {0}
  AsksAlone Shut = Unit {0}
  AsksAlone (Other aside) = Unit {0}

  -- ---- arrivals

  -- From its peer a message that says that messages were lost is a loss, whatever it answers.
  abbrev pub tells_loss : NetlinkMessage M → SocketAddr → Bool
  tells_loss m source = (source.port == r.peer) && is_overrun m.payload

  -- What a payload changes, if it is an inner message.
  abbrev pub change_of : NetlinkPayload M → Option (Change K V)
  change_of (payloads.InnerMessage m) = r.change m
  change_of payloads.Noop = None
  change_of (payloads.Done d) = None
  change_of (payloads.Error e) = None
  change_of (payloads.Overrun bytes) = None

  -- An arrival that answers nothing: from the peer its change, if it has one.
  abbrev pub unsolicited_event : NetlinkMessage M → SocketAddr → TableEvent K V
  unsolicited_event m source = if source.port == r.peer then notified_of (change_of m.payload) else Unrelated

  -- An arrival as a reply of a stream that it ends so.
  abbrev pub reply_of : NetlinkMessage M → ℕ → Ending → Reply K V
  reply_of m stream ending = record { stream = stream; change = change_of m.payload; interrupted = says_interrupted m.header; ending = ending }

  -- An arrival by the number that it answers, if any, where it is known which streams are dumps.
  abbrev pub arrival_event : (ℕ → Bool) → NetlinkMessage M → SocketAddr → Option (Awaited ℕ) → TableEvent K V
  arrival_event is_dump m source None = unsolicited_event m source
  arrival_event is_dump m source (Some w) = if is_dump w.stream then DumpReply (reply_of m w.stream (ending_of m w.acks)) else Unrelated

  -- An arrival by what its session says of it: the stream that it answers, if any, and whether it ends its number. A stream
  -- that is no running dump's changes nothing.
  abbrev pub answering_event : NetlinkMessage M → SocketAddr → Option (ℕ × Bool) → TableEvent K V
  answering_event m source None = unsolicited_event m source
  answering_event m source (Some to) = DumpReply (reply_of m to.0 (if to.1 then ending_by m.payload else Continues))

  -- The same with losses.
  abbrev pub handled_event : NetlinkMessage M → SocketAddr → Option (ℕ × Bool) → TableEvent K V
  handled_event m source to = if tells_loss m source then Lost else answering_event m source to

  -- ---- all events

  -- What an event is at its place, `before` being the events before it.
  abbrev pub table_event : ℕ → List (Event M) → Event M → TableEvent K V
  table_event start before (Sent to frames) = if requests_dump frames then DumpAsked (batch_count 0 before + 1) else Unrelated
  table_event start before (Came m source) =
      if tells_loss m source
      then Lost
      else arrival_event (is_dump_from 0 before) m source (answered start before m source)
  table_event start before (Unread kind number source) = if (source.port == r.peer) && r.loses kind then Lost else Unrelated
  table_event start before (Leftover count source) = if source.port == r.peer then Lost else Unrelated
  table_event start before Overran = Lost
  table_event start before Shut = LinkClosed
  table_event start before (Other aside) = Unrelated

  -- What the events after a place are. No number up to `start` is used.
  abbrev pub table_events_from : ℕ → List (Event M) → List (Event M) → List (TableEvent K V)
  table_events_from start before [] = []
  table_events_from start before (e ∷ es) = table_event start before e ∷ table_events_from start (before ++ e ∷ []) es

  -- What all events of a session are.
  abbrev pub table_events : ℕ → List (Event M) → List (TableEvent K V)
  table_events start es = table_events_from start [] es
