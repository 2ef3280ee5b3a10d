-- The text of a session: for each record in order, what is sent, the arrivals that nothing awaits, the replies, the streams
-- that close.
use Rattle.std.specs.Prelude.{◌≡◌, ◌+◌, ◌&&◌, ℕ, Bool, false, not, if◌then◌else◌, List, [], ◌∷◌, ◌++◌, map, length, Option, Some, None, is_none, flat_map, codes}
use Rattle.std.specs.Fmt.{decimal}
use Rattle.nl_core.specs.Frames.{Format, header_text, payload_text, payload_fits}
use Rattle.nl_core.specs.declared.message.NetlinkMessage.{NetlinkMessage}
use Rattle.nl_core.specs.declared.message.NetlinkPayload.{NetlinkPayload}
use Rattle.nl_core.specs.declared.message.NetlinkPayload.TheVariants.{Done, Error, Noop, Overrun, InnerMessage}
use Rattle.session_model.specs.declared.address.SocketAddr.{SocketAddr}
use Rattle.session_model.specs.declared.awaited.Awaited.{Awaited}
use Rattle.session_model.specs.declared.settings.Settings.{Settings}
use Rattle.session_model.specs.declared.transcript.Record.{Record}
use Rattle.session_model.specs.Events.{Event, Sent, Came, Unread, Leftover, Overran, Shut, Other, Asked, Arrival, arrival_of, arrivals, events_of, record_events}
use Rattle.session_model.specs.Awaited.{awaited, last_number, first_awaiting}
use Rattle.session_model.specs.Streams.{closing}
use Rattle.session_model.specs.Lines.{hex_word, line}

-- A frame under its number.
abbrev pub numbered_frame : ℕ → Asked → List ℕ
numbered_frame number a = header_text (record a.header { sequence_number = number }) ++ a.payload

-- Frames under the numbers that follow one.
abbrev pub numbered_frames : ℕ → List Asked → List (List ℕ)
numbered_frames last [] = []
numbered_frames last (a ∷ frames) = numbered_frame (last + 1) a ∷ numbered_frames (last + 1) frames

-- The bytes of a datagram, by its frames.
abbrev pub joined : List (List ℕ) → List ℕ
joined frames = flat_map (λ frame. frame) frames

-- The line of a datagram that leaves, by its frames; none where it has no frames.
abbrev pub sent_text : SocketAddr → List (List ℕ) → List ℕ
sent_text to [] = []
sent_text to (frame ∷ frames) =
    line (codes "sent" ∷ decimal to.port ∷ decimal to.groups ∷ hex_word (joined (frame ∷ frames)) ∷ [])

-- An arrival in its place: its arrival number, and the stream that it is a reply of.
pub record Placed (M : Type 0) : Type 0 where
  pub number : ℕ
  pub arrival : Arrival M
  pub stream : Option ℕ

-- The stream of what awaits an arrival.
abbrev pub stream_of : Option (Awaited ℕ) → Option ℕ
stream_of None = None
stream_of (Some w) = Some w.stream

-- An arrival after events: it is a reply of the stream that awaits it then.
abbrev pub place_arrival : {M : Type 0} → ℕ → List (Event M) → Arrival M → Placed M
place_arrival start before a = record {
  number = length (arrivals before) + 1;
  arrival = a;
  stream = stream_of (first_awaiting a.message.header.sequence_number a.source.port (awaited start before));
}

-- The arrivals of events, in order, after the events before them.
abbrev pub placed : {M : Type 0} → ℕ → List (Event M) → List (Event M) → List (Placed M)
placed start before [] = []
placed start before (e ∷ es) = map (place_arrival start before) (arrival_of e) ++ placed start (before ++ e ∷ []) es

-- The line of what an event sends, after the last number.
abbrev pub sent_line : {M : Type 0} → ℕ → Event M → List ℕ
sent_line last (Sent to frames) = sent_text to (numbered_frames last frames)
sent_line last (Came m source) = []
sent_line last (Unread kind number source) = []
sent_line last (Leftover count source) = []
sent_line last Overran = []
sent_line last Shut = []
sent_line last (Other aside) = []

-- The line of a stream that closes.
abbrev pub closed_line : ℕ → List ℕ
closed_line stream = line (codes "closed" ∷ decimal stream ∷ [])

module _ {M : Type 0} (f : Format M) where
  -- The word of a payload: its canonical text, or that it doesn't fit.
  abbrev pub payload_word : NetlinkPayload M → List ℕ
  payload_word payload =
      if payload_fits f.text f.fits payload then hex_word (payload_text f.text payload) else codes "unfit"

  -- The words of a message: its header's fields, and its payload.
  abbrev pub message_words : NetlinkMessage M → List (List ℕ)
  message_words m =
      decimal m.header.message_type ∷ decimal m.header.flags ∷ decimal m.header.sequence_number ∷ decimal m.header.port_number
      ∷ payload_word m.payload ∷ []

  -- The line of an arrival that nothing awaits.
  abbrev pub unsolicited_text : ℕ → Arrival M → List ℕ
  unsolicited_text number a =
      line (codes "unsol" ∷ decimal number ∷ decimal a.source.port ∷ decimal a.source.groups ∷ message_words a.message)

  -- The line of an arrival in its place, if nothing awaits it.
  abbrev pub unsolicited_line : Placed M → List ℕ
  unsolicited_line p = elim p.stream [ None ↦ unsolicited_text p.number p.arrival | Some stream ↦ [] ]

-- A reply is kept back where its kind isn't handed on: whether no-ops, ends of dumps and acknowledgements are, is given.
abbrev pub is_kept_back : {M : Type 0} → Bool → Bool → Bool → NetlinkPayload M → Bool
is_kept_back forward_noop forward_done forward_ack Noop = not forward_noop
is_kept_back forward_noop forward_done forward_ack (Done d) = not forward_done
is_kept_back forward_noop forward_done forward_ack (Error e) = is_none e.code && not forward_ack
is_kept_back forward_noop forward_done forward_ack (Overrun bytes) = false
is_kept_back forward_noop forward_done forward_ack (InnerMessage m) = false

module _ {M : Type 0} (f : Format M) (s : Settings) where
  -- The line of a reply, unless it is kept back.
  abbrev pub reply_text : ℕ → ℕ → NetlinkMessage M → List ℕ
  reply_text number stream m =
      if is_kept_back s.forward_noop s.forward_done s.forward_ack m.payload then []
      else line (codes "reply" ∷ decimal number ∷ decimal stream ∷ message_words f m)

  -- The line of an arrival in its place, if it is a reply.
  abbrev pub reply_line : Placed M → List ℕ
  reply_line p = elim p.stream [ None ↦ [] | Some stream ↦ reply_text p.number stream p.arrival.message ]

  -- The text of the events of one record, after the events before it.
  abbrev pub text_of_events : List (Event M) → List (Event M) → List ℕ
  text_of_events before es =
      flat_map (sent_line (last_number s.start before)) es
      ++ flat_map (unsolicited_line f) (placed s.start before es)
      ++ flat_map reply_line (placed s.start before es)
      ++ flat_map closed_line (closing s.start before es)

  -- The text of records, after the events before them.
  abbrev pub text_after : List (Event M) → List Record → List ℕ
  text_after before [] = []
  text_after before (r ∷ rs) =
      text_of_events before (record_events f s r) ++ text_after (before ++ record_events f s r) rs

  -- The text of a whole session.
  abbrev pub session_text : List Record → List ℕ
  session_text rs = text_after [] rs

-- The text of a record follows that of the records before it, and depends on these alone.
abbrev pub TextGrows : {M : Type 0} → Format M → Type 0
TextGrows {M} f =
    (s : Settings) (rs : List Record) (r : Record)
    → session_text f s (rs ++ r ∷ []) ≡ session_text f s rs ++ text_of_events f s (events_of f s rs) (record_events f s r)
