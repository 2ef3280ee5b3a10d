-- What a session is, and the steps that it takes.
use Rattle.std.specs.Prelude.{◌≡◌, ◌+◌, ◌≤◌, ℕ, false, true, List, [], ◌∷◌, ◌++◌, length, take, Option, Some, None}
use Rattle.nl_core.specs.declared.message.NetlinkMessage.{NetlinkMessage}
use Rattle.session_model.specs.declared.address.SocketAddr.{SocketAddr}
use Rattle.session_model.specs.declared.awaited.Awaited.{Awaited}
use Rattle.session_model.specs.Events.{Arrival}
use Rattle.session_model.specs.Awaited.{first_awaiting, after_arrival, is_last, numbered}
use Rattle.proto_core.specs.Noted.{noted_of}
use Rattle.proto_core.specs.Numbers.{is_awaited}
use Rattle.proto_core.specs.declared.request.Request.{Request}
use Rattle.proto_core.specs.declared.messages.Response.{Response}
use Rattle.proto_core.specs.declared.messages.Incoming.{Incoming}
use Rattle.proto_core.specs.declared.messages.Outgoing.{Outgoing}
use Rattle.proto_core.specs.declared.messages.Handled.{Handled}
use Rattle.proto_core.specs.declared.messages.Place.{Place}
use Rattle.proto_core.specs.declared.messages.Place.TheVariants.{Reply, Unsolicited}

-- The last number given, what is awaited, how many messages arrived, and the three queues.
pub record Session (T M : Type 0) : Type 0 where
  pub last : ℕ
  pub awaited : List (Awaited M)
  pub arrived : ℕ
  pub responses : List (Response T M)
  pub incoming : List (Incoming T)
  pub outgoing : List (Outgoing T)

-- A session, and how many messages it can take in before room must be made again.
pub record Roomy (T M : Type 0) : Type 0 where
  pub session : Session T M
  pub spare : ℕ

-- A session that has given the numbers up to `start`, and has taken in and sent nothing.
abbrev pub fresh : {T M : Type 0} → ℕ → Session T M
fresh start = record { last = start; awaited = []; arrived = 0; responses = []; incoming = []; outgoing = [] }

-- A request takes the next numbers, notes what it awaits, and leaves as one datagram.
abbrev pub requested : {T M : Type 0} → (T → ℕ) → (T → List ℕ) → Session T M → Request T M → Session T M
requested kind text s r = record s {
  last = s.last + length r.messages;
  awaited = s.awaited ++ noted_of r s.last;
  outgoing = s.outgoing ++ record { messages = numbered kind text s.last r.messages; destination = r.destination } ∷ [];
}

-- The numbers that follow one are taken back, with all but the first of what is awaited.
abbrev pub taken_back : {T M : Type 0} → ℕ → ℕ → Session T M → Session T M
taken_back last pending s = record s { last = last; awaited = take pending s.awaited }

-- A message from an address.
abbrev pub arrival_of : {T : Type 0} → NetlinkMessage T → SocketAddr → Arrival T
arrival_of message source = record { message = message; source = source }

-- A message that is awaited is a reply, and every other is unsolicited.
abbrev pub replied : {T M : Type 0} → Arrival T → Session T M → Option (Awaited M) → Session T M
replied a s (Some w) = record s {
  awaited = after_arrival a s.awaited;
  arrived = s.arrived + 1;
  responses = s.responses ++ record { done = is_last a.message w.acks; message = a.message; metadata = w.stream; arrival = s.arrived + 1 } ∷ [];
}
replied a s None = record s {
  arrived = s.arrived + 1;
  incoming = s.incoming ++ record { message = a.message; source = a.source; arrival = s.arrived + 1 } ∷ [];
}

-- What awaits an arrival, if anything does.
abbrev pub awaiting : {T M : Type 0} → Arrival T → Session T M → Option (Awaited M)
awaiting a s = first_awaiting a.message.header.sequence_number a.source.port s.awaited

-- The session after an arrival.
abbrev pub arrived_at : {T M : Type 0} → Arrival T → Session T M → Session T M
arrived_at a s = replied a s (awaiting a s)

-- Where an arrival goes, by what awaits it.
abbrev pub place_of : {T M : Type 0} → Arrival T → Option (Awaited M) → Place M
place_of a (Some w) = Reply w.stream (is_last a.message w.acks)
place_of a None = Unsolicited

-- What the session answers for an arrival: its place in the order of arrivals, and where it goes.
abbrev pub handled : {T M : Type 0} → Arrival T → Session T M → Handled M
handled a s = record { arrival = s.arrived + 1; to = place_of a (awaiting a s) }

-- Where a place is that of the last reply, its number is awaited no longer.
abbrev pub EndsNumber : {T M : Type 0} → Place M → ℕ → Session T M → Type 0
EndsNumber place number s = (metadata : _) → place ≡ Reply metadata true → is_awaited number s.awaited ≡ false

-- A session with one more in front of a queue.
abbrev pub with_response : {T M : Type 0} → Response T M → Session T M → Session T M
with_response r s = record s { responses = r ∷ s.responses }

abbrev pub with_incoming : {T M : Type 0} → Incoming T → Session T M → Session T M
with_incoming i s = record s { incoming = i ∷ s.incoming }

abbrev pub with_outgoing : {T M : Type 0} → Outgoing T → Session T M → Session T M
with_outgoing o s = record s { outgoing = o ∷ s.outgoing }

-- A list begins with an item.
pub record BeginsWith {X : Type 0} (x : X) (xs : List X) : Type 0 where
  pub rest : List X
  pub is : xs ≡ x ∷ rest

-- After a step no number is used again: the last number never falls, and of the numbers used before
-- it none is awaited that wasn't.
pub record Continues {T M : Type 0} (old new : Session T M) : Type 0 where
  pub rises : old.last ≤ new.last
  pub stays_ended : (number : ℕ) → number ≤ old.last → is_awaited number old.awaited ≡ false → is_awaited number new.awaited ≡ false
