-- Which numbers are awaited at a place, and which arrivals are replies.
use Rattle.std.specs.Prelude.{◌+◌, ◌==◌, ◌&&◌, ◌||◌, ℕ, Bool, true, false, not, if◌then◌else◌, List, [], ◌∷◌, ◌++◌, length, Option, Some, None}
use Rattle.std.specs.List.{filter, list_any}
use Rattle.nl_core.specs.Frames.{finalized}
use Rattle.nl_core.specs.declared.message.NetlinkMessage.{NetlinkMessage}
use Rattle.nl_core.specs.declared.message.NetlinkPayload.{NetlinkPayload}
use Rattle.nl_core.specs.declared.message.NetlinkPayload.TheVariants.{Done, Error, Noop, Overrun, InnerMessage}
use Rattle.session_model.specs.declared.awaited.Awaited.{Awaited}
use Rattle.session_model.specs.Events.{Event, Sent, Came, Unread, Leftover, Overran, Shut, Other, Asked, Arrival, arrivals}
use Rattle.session_model.specs.Flags.{asks_ack, is_multipart}

-- How many frames an event sends.
abbrev pub frames_sent : {M : Type 0} → Event M → ℕ
frames_sent (Sent to frames) = length frames
frames_sent (Came m source) = 0
frames_sent (Unread kind number source) = 0
frames_sent (Leftover count source) = 0
frames_sent Overran = 0
frames_sent Shut = 0
frames_sent (Other aside) = 0

-- How many batches an event sends.
abbrev pub batches_sent : {M : Type 0} → Event M → ℕ
batches_sent (Sent to frames) = 1
batches_sent (Came m source) = 0
batches_sent (Unread kind number source) = 0
batches_sent (Leftover count source) = 0
batches_sent Overran = 0
batches_sent Shut = 0
batches_sent (Other aside) = 0

-- The last number that events use, when the first follows `start`.
abbrev pub last_number : {M : Type 0} → ℕ → List (Event M) → ℕ
last_number start [] = start
last_number start (e ∷ es) = last_number (start + frames_sent e) es

-- How many batches events send, counted on from a number.
abbrev pub batch_count : {M : Type 0} → ℕ → List (Event M) → ℕ
batch_count n [] = n
batch_count n (e ∷ es) = batch_count (n + batches_sent e) es

-- What a frame of a batch awaits under its number: one reply, or none.
abbrev pub awaited_frame : {S : Type 0} → ℕ → S → ℕ → Asked → List (Awaited S)
awaited_frame number stream port a =
    if a.awaits then record { number = number; port = port; stream = stream; acks = asks_ack a.header } ∷ [] else []

-- The frames of a batch take the numbers that follow one; those that await a reply, in order.
abbrev pub awaited_frames : {S : Type 0} → ℕ → S → ℕ → List Asked → List (Awaited S)
awaited_frames last stream port [] = []
awaited_frames last stream port (a ∷ frames) =
    awaited_frame (last + 1) stream port a ++ awaited_frames (last + 1) stream port frames

-- What an event awaits from then on. The stream of a batch is its number among the batches, from 1.
abbrev pub newly_awaited : {M : Type 0} → ℕ → ℕ → Event M → List (Awaited ℕ)
newly_awaited last batches (Sent to frames) = awaited_frames last (batches + 1) to.port frames
newly_awaited last batches (Came m source) = []
newly_awaited last batches (Unread kind number source) = []
newly_awaited last batches (Leftover count source) = []
newly_awaited last batches Overran = []
newly_awaited last batches Shut = []
newly_awaited last batches (Other aside) = []

-- A message answers what is awaited where it has its number and came from its port.
abbrev pub answers : {S : Type 0} → ℕ → ℕ → Awaited S → Bool
answers number port w = (w.number == number) && (w.port == port)

-- Control messages: each of them ends its number.
abbrev pub is_control : {M : Type 0} → NetlinkPayload M → Bool
is_control Noop = true
is_control (Done d) = true
is_control (Error e) = true
is_control (Overrun bytes) = true
is_control (InnerMessage m) = false

-- The last message under a number: a control message, or an inner message that is no part of several and that no
-- acknowledgement follows.
abbrev pub is_last : {M : Type 0} → NetlinkMessage M → Bool → Bool
is_last m acks = is_control m.payload || (not (is_multipart m.header) && not acks)

-- An arrival ends what is awaited where it answers it and is the last.
abbrev pub ends : {M S : Type 0} → Arrival M → Awaited S → Bool
ends a w = answers a.message.header.sequence_number a.source.port w && is_last a.message w.acks

-- Some arrival among events ends it.
abbrev pub is_ended : {M S : Type 0} → List (Event M) → Awaited S → Bool
is_ended es w = list_any (λ a. ends a w) (arrivals es)

-- What is awaited after events: each number that was awaited when it was sent, and that no later arrival ends.
abbrev pub awaited_from : {M : Type 0} → ℕ → ℕ → List (Event M) → List (Awaited ℕ)
awaited_from last batches [] = []
awaited_from last batches (e ∷ es) =
    filter (λ w. not (is_ended es w)) (newly_awaited last batches e)
    ++ awaited_from (last + frames_sent e) (batches + batches_sent e) es

-- What is awaited after the events of a whole session, whose numbers follow `start`.
abbrev pub awaited : {M : Type 0} → ℕ → List (Event M) → List (Awaited ℕ)
awaited start es = awaited_from start 0 es

-- What awaits a number from a port, if anything does: then the arrival is a reply, else it is unsolicited.
abbrev pub first_awaiting : {S : Type 0} → ℕ → ℕ → List (Awaited S) → Option (Awaited S)
first_awaiting number port [] = None
first_awaiting number port (w ∷ ws) = if answers number port w then Some w else first_awaiting number port ws

-- What is still awaited after an arrival.
abbrev pub after_arrival : {M S : Type 0} → Arrival M → List (Awaited S) → List (Awaited S)
after_arrival a ws = filter (λ w. not (ends a w)) ws

-- A message under a number.
abbrev pub with_number : {M : Type 0} → ℕ → NetlinkMessage M → NetlinkMessage M
with_number number m = record m { header = record m.header { sequence_number = number } }

-- Messages under the numbers that follow one, each with the length and the type of its payload.
abbrev pub numbered : {M : Type 0} → (M → ℕ) → (M → List ℕ) → ℕ → List (NetlinkMessage M) → List (NetlinkMessage M)
numbered kind text last [] = []
numbered kind text last (m ∷ ms) = with_number (last + 1) (finalized kind text m) ∷ numbered kind text (last + 1) ms
