-- What reading brings: the events of what was taken from a link.
use Rattle.std.specs.Prelude.{◌≡◌, ◌+◌, ◌*◌, ◌==◌, ◌≤◌, ◌<◌, ◌⊎◌, ℕ, true, false, if◌then◌else◌, List, [], ◌∷◌, ◌++◌, length, flat_map, IfSome, Result}
use Rattle.nl_core.specs.Frames.{Format}
use Rattle.nl_core.specs.declared.error.DecodeError.{DecodeError}
use Rattle.session_model.specs.declared.address.SocketAddr.{SocketAddr}
use Rattle.session_model.specs.Events.{Event, Came, Unread, Leftover, Overran, Shut, arrivals, datagram_events}
use Rattle.session_model.specs.Streams.{is_shut}
use Rattle.proto_core.specs.declared.codec.Decoded.{Decoded}
use Rattle.proto_core.specs.declared.codec.Decoded.TheVariants as decoded
use Rattle.proto_conn.specs.declared.link.Arrival.{Arrival}
use Rattle.proto_conn.specs.declared.link.Arrival.TheVariants as arrival
use Rattle.proto_conn.specs.declared.framed.Dropped.{Dropped}
use Rattle.proto_conn.specs.declared.framed.Dropped.TheVariants as dropped
use Rattle.proto_conn.specs.declared.framed.Step.{Step}
use Rattle.proto_conn.specs.declared.framed.Step.TheVariants as step
use Rattle.proto_conn.specs.Links.{Meaning, HasRisen, IsLater, is_prompt, with_front}

-- The link; the bytes of a datagram that aren't read yet, and its source; the bytes that aren't sent yet, and where they go.
pub record Framing (S : Type 0) : Type 0 where
  pub link : S
  pub reader : List ℕ
  pub source : SocketAddr
  pub writer : List ℕ
  pub destination : SocketAddr

-- A loss as an event.
abbrev pub loss : {M : Type 0} → Dropped → SocketAddr → Event M
loss (dropped.Unreadable kind number) source = Unread kind number source
loss (dropped.Rest n) source = Leftover n source

-- The event of a link that closed: only the first such answer is one.
abbrev pub shut_by : {M : Type 0} → ℕ → List (Event M)
shut_by closings = if closings == 0 then Shut ∷ [] else []

module _ {M : Type 0} where
  abbrev pub front_seen : SocketAddr → Decoded M → List (Event M)
  front_seen source (decoded.Message m) = Came m source ∷ []
  front_seen source (decoded.Unreadable kind number) = Unread kind number source ∷ []
  front_seen source (decoded.Rest n) = Leftover n source ∷ []
  front_seen source decoded.Empty = []

  -- The events that a step of reading shows, by how often the link had said that it is closed.
  abbrev pub seen_by : ℕ → Step M → List (Event M)
  seen_by closings (step.Message m source) = Came m source ∷ []
  seen_by closings (step.Lost d source) = loss d source ∷ []
  seen_by closings step.Overrun = Overran ∷ []
  seen_by closings step.Fetched = []
  seen_by closings step.Closed = shut_by closings
  seen_by closings step.Failed = []
  seen_by closings step.NotYet = []

  -- How many messages arrive by events.
  abbrev pub arrived_in : List (Event M) → ℕ
  arrived_in es = length (arrivals es)

module _ {M : Type 0} (reads : ℕ → List ℕ → Result M DecodeError) where
  -- A format of which only the reading counts.
  abbrev pub read_only : Format M
  read_only = record { reads = reads; kind = λ m. 0; text = λ m. []; fits = λ m. true }

  -- The events of the bytes of a datagram.
  unfoldable pub events_in : SocketAddr → List ℕ → List (Event M)
  events_in source bytes = datagram_events read_only source bytes

  -- The events of an arrival.
  abbrev pub brings : Arrival → List (Event M)
  brings (arrival.Datagram source bytes) = events_in source bytes
  brings arrival.Overrun = Overran ∷ []
  brings arrival.Closed = Shut ∷ []

  -- The events that are still to come of what was taken.
  abbrev pub pending : {S : Type 0} → Framing S → List (Event M)
  pending f = events_in f.source f.reader

  module _ {S : Type 0} (meaning : S → Meaning) where
    -- Reading went on, from a link with these events still to come to a link with those: it showed the events that were to come, and those of the
    -- arrivals that it took, up to those that are to come now. The first answer that the link is closed is an event.
    pub record DidSee (before : S) (due : List (Event M)) (es : List (Event M)) (now : S) (left : List (Event M)) : Type 0 where
      pub taken : List Arrival
      pub told : (meaning before).waits ≡ with_front taken (meaning now).waits
      pub seen : es ++ left ≡ due ++ flat_map brings taken
      pub later : IsLater (meaning before) (meaning now)
      pub posted : (meaning now).posted ≡ (meaning before).posted
      pub first : 0 < (meaning now).closings → (0 < (meaning before).closings) ⊎ (is_shut es ≡ true)

    -- The same of a reader and writer over a link; what isn't sent stays.
    pub record DidRead (before : Framing S) (es : List (Event M)) (now : Framing S) : Type 0 where
      pub saw : DidSee before.link (pending before) es now.link (pending now)
      pub writer : now.writer ≡ before.writer
      pub destination : now.destination ≡ before.destination

module _ {S : Type 0} (meaning : S → Meaning) where
  -- What is left to read: 65537 for each datagram of the backlog, and the reader's bytes.
  abbrev pub work : Framing S → ℕ
  work f = 65537 * (meaning f.link).backlog + length f.reader

  -- The bytes that are left to read at most.
  abbrev pub room : Framing S → ℕ
  room f = 65536 * (meaning f.link).backlog + length f.reader

module _ {M S : Type 0} (meaning : S → Meaning) where
  -- There is less to read, and room for what is left: each message had sixteen bytes, or a datagram of the backlog.
  pub record IsProgress (before : Framing S) (es : List (Event M)) (now : Framing S) : Type 0 where
    pub less : work meaning now < work meaning before
    pub within : 16 * arrived_in es + room meaning now ≤ room meaning before
    pub closings : (meaning now.link).closings ≡ (meaning before.link).closings

  -- Why a step of reading shows what it does.
  abbrev pub Because : Framing S → Step M → Framing S → Type 0
  Because before (step.Message m source) now = IsProgress before (Came m source ∷ []) now
  Because before (step.Lost d source) now = IsProgress before (loss d source ∷ []) now
  Because before step.Overrun now = IsProgress before (Overran ∷ []) now × (now.reader ≡ [])
  Because before step.Fetched now = IsProgress before [] now
  Because before step.Closed now = HasRisen (meaning before.link).closings (meaning now.link).closings × (now.reader ≡ [])
  Because before step.Failed now =
      HasRisen (meaning before.link).faults (meaning now.link).faults × (is_prompt (meaning before.link).manners ≡ false) × (now.reader ≡ [])
  Because before step.NotYet now = HasRisen (meaning before.link).stalls (meaning now.link).stalls × (now.reader ≡ [])
      × (is_prompt (meaning before.link).manners ≡ true → IfSome (meaning now.link).waits (λ waits. waits ≡ []))

module _ {M : Type 0} (reads : ℕ → List ℕ → Result M DecodeError) {S : Type 0} (meaning : S → Meaning) where
  pub record IsStep (before : Framing S) (taken : Step M) (now : Framing S) : Type 0 where
    pub read : DidRead reads meaning before (seen_by (meaning before.link).closings taken) now
    pub because : Because meaning before taken now
