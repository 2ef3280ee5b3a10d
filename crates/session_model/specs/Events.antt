-- The events of a transcript, in order, and the arrivals among them. A place is the list of the events before it.
use Rattle.std.specs.Prelude.{◌+◌, ℕ, Bool, true, false, List, [], ◌∷◌, ◌++◌, map, length, replicate, Option, Some, None, Result, Ok, Err, flat_map}
use Rattle.nl_core.specs.Frames.{Format, header_at, frame_at, payload_text, finalized}
use Rattle.nl_core.specs.declared.header.NetlinkHeader.{NetlinkHeader}
use Rattle.nl_core.specs.declared.error.DecodeError.{DecodeError}
use Rattle.nl_core.specs.declared.message.NetlinkMessage.{NetlinkMessage}
use Rattle.nl_core.specs.declared.message.NetlinkPayload.TheVariants.{Overrun}
use Rattle.session_model.specs.declared.address.SocketAddr.{SocketAddr}
use Rattle.session_model.specs.declared.network.Address.{Address}
use Rattle.session_model.specs.declared.network.Network.{Network}
use Rattle.session_model.specs.declared.settings.Settings.{Settings}
use Rattle.session_model.specs.declared.transcript.Mark.{Mark}
use Rattle.session_model.specs.declared.transcript.Mark.TheVariants.{ByFlags, Expected, NotExpected}
use Rattle.session_model.specs.declared.transcript.BatchFrame.{BatchFrame}
use Rattle.session_model.specs.declared.transcript.Record.{Record}
use Rattle.session_model.specs.declared.transcript.Record.TheVariants as records
use Rattle.session_model.specs.Cut.{frames_of, rest_of}
use Rattle.session_model.specs.Flags.{wants_reply}

-- The tables that a peer can be asked to dump.
pub data DumpKind : Type 0 where
  OfRoutes : DumpKind
  OfLinks : DumpKind

-- A frame of a request: its header, the bytes of its payload, whether its number is awaited from then on, and which dump
-- it asks for, if a mirror is to follow one.
pub record Asked : Type 0 where
  pub header : NetlinkHeader
  pub payload : List ℕ
  pub awaits : Bool
  pub dumps : Option DumpKind

-- What a record says that only a mirror reads. No definition of a session looks into it.
pub data Aside : Type 0 where
  -- a network is blocked
  Blocked : Network → Aside
  -- a network is blocked no longer
  Unblocked : Network → Aside
  -- an address is looked up
  LookedUp : Address → Aside

-- What a record brings, one after another.
pub data Event (M : Type 0) : Type 0 where
  -- a batch leaves
  Sent : SocketAddr → List Asked → Event M
  -- a message is read
  Came : NetlinkMessage M → SocketAddr → Event M
  -- a frame that can't be read, by its type and its number
  Unread : ℕ → ℕ → SocketAddr → Event M
  -- what follows the frames of a datagram, by its length
  Leftover : ℕ → SocketAddr → Event M
  -- the link overran
  Overran : Event M
  -- the link closed
  Shut : Event M
  -- nothing that a session knows of
  Other : Aside → Event M

-- One arrival: a message and where it came from.
pub record Arrival (M : Type 0) : Type 0 where
  pub message : NetlinkMessage M
  pub source : SocketAddr

-- The header of the message that an overrun arrives as.
abbrev pub overrun_header : NetlinkHeader
overrun_header = record { length = 16; message_type = 4; flags = 0; sequence_number = 0; port_number = 0 }

-- An overrun arrives as a message of its own, from port 0.
abbrev pub overrun_arrival : {M : Type 0} → Arrival M
overrun_arrival = record {
  message = record { header = overrun_header; payload = Overrun [] };
  source = record { port = 0; groups = 0 };
}

-- What arrives by an event: one message, or none.
abbrev pub arrival_of : {M : Type 0} → Event M → List (Arrival M)
arrival_of (Came m source) = record { message = m; source = source } ∷ []
arrival_of Overran = overrun_arrival ∷ []
arrival_of (Sent to frames) = []
arrival_of (Unread kind number source) = []
arrival_of (Leftover count source) = []
arrival_of Shut = []
arrival_of (Other aside) = []

-- The arrivals, in order; the i-th of them, from 1, has arrival number i.
abbrev pub arrivals : {M : Type 0} → List (Event M) → List (Arrival M)
arrivals [] = []
arrivals (e ∷ es) = arrival_of e ++ arrivals es

-- Whether a frame of a batch awaits a reply, by its mark and its header.
abbrev pub is_awaited_by : Mark → NetlinkHeader → Bool
is_awaited_by ByFlags h = wants_reply h
is_awaited_by Expected h = true
is_awaited_by NotExpected h = false

-- The request for a dump of all routes: a header of RTM_GETROUTE (26) with NLM_F_REQUEST and NLM_F_DUMP (0x301), and the
-- header of a route, all zero.
abbrev pub resync_bytes : List ℕ
resync_bytes = 28 ∷ 0 ∷ 0 ∷ 0 ∷ 26 ∷ 0 ∷ 1 ∷ 3 ∷ replicate 20 0

-- A resync sends this request, by its flags.
abbrev pub resync_frames : List BatchFrame
resync_frames = record { mark = ByFlags; bytes = resync_bytes } ∷ []

module _ {M : Type 0} (f : Format M) where
  -- What a frame of a datagram brings.
  abbrev pub brought : SocketAddr → List ℕ → Result (NetlinkMessage M) DecodeError → Event M
  brought source frame (Ok m) = Came m source
  brought source frame (Err e) = Unread (header_at frame).message_type (header_at frame).sequence_number source

  -- What a rest brings, if it isn't empty.
  abbrev pub leftover : SocketAddr → List ℕ → List (Event M)
  leftover source [] = []
  leftover source (b ∷ bytes) = Leftover (length bytes + 1) source ∷ []

  -- A datagram is one event for each frame of its cut, and one for the rest.
  abbrev pub datagram_events : SocketAddr → List ℕ → List (Event M)
  datagram_events source bytes =
      map (λ frame. brought source frame (frame_at f.reads frame)) (frames_of bytes) ++ leftover source (rest_of bytes)

  -- A message as a request sends it, with the length and the type of its payload; the dump that it asks for is given.
  abbrev pub asked_message : Option DumpKind → Mark → Result (NetlinkMessage M) DecodeError → List Asked
  asked_message dumps mark (Ok m) =
      record {
        header = (finalized f.kind f.text m).header;
        payload = payload_text f.text m.payload;
        awaits = is_awaited_by mark m.header;
        dumps = dumps;
      } ∷ []
  asked_message dumps mark (Err e) = []

  -- The frames that can be read, as a request sends them.
  abbrev pub asked_for : Option DumpKind → List BatchFrame → List Asked
  asked_for dumps frames = flat_map (λ (frame : BatchFrame). asked_message dumps frame.mark (frame_at f.reads frame.bytes)) frames

  -- The frames of a batch. No mirror follows a dump that they ask for.
  abbrev pub asked : List BatchFrame → List Asked
  asked frames = asked_for None frames

  module _ (s : Settings) where
    -- The address of the peer.
    abbrev pub peer_address : SocketAddr
    peer_address = record { port = s.peer; groups = 0 }

    -- Every record but a datagram is one event.
    abbrev pub record_events : Record → List (Event M)
    record_events (records.Recv source bytes) = datagram_events source bytes
    record_events records.Overrun = Overran ∷ []
    record_events records.Close = Shut ∷ []
    record_events (records.Batch to frames) = Sent to (asked frames) ∷ []
    record_events records.Resync = Sent peer_address (asked_for (Some OfRoutes) resync_frames) ∷ []
    record_events (records.Block n) = Other (Blocked n) ∷ []
    record_events (records.Unblock n) = Other (Unblocked n) ∷ []
    record_events (records.Lookup a) = Other (LookedUp a) ∷ []

    -- The events of records, in order.
    abbrev pub events_of : List Record → List (Event M)
    events_of rs = flat_map record_events rs
