-- What a connection reads, and what its watch is told.
use Rattle.std.specs.Prelude.{◌≡◌, ◌+◌, ◌*◌, ◌<◌, ◌≤◌, ◌⊎◌, ◌||◌, ℕ, Bool, true, false, List, [], ◌∷◌, length, flat_map, IfSome, Result}
use Rattle.nl_core.specs.declared.error.DecodeError.{DecodeError}
use Rattle.nl_core.specs.declared.message.NetlinkMessage.{NetlinkMessage}
use Rattle.session_model.specs.declared.address.SocketAddr.{SocketAddr}
use Rattle.session_model.specs.Events.{Arrival, Event, Sent, Came, Unread, Leftover, Overran, Shut, Other, arrival_of, overrun_arrival}
use Rattle.session_model.specs.Streams.{is_shut}
use Rattle.proto_core.specs.Session.{Session, arrived_at, handled}
use Rattle.proto_core.specs.declared.messages.Handled.{Handled}
use Rattle.proto_conn.specs.declared.framed.Dropped.{Dropped}
use Rattle.proto_conn.specs.declared.framed.Dropped.TheVariants as dropped
use Rattle.proto_conn.specs.declared.link.Arrival.{Arrival as LinkArrival}
use Rattle.proto_conn.specs.declared.link.Arrival.TheVariants as arrival
use Rattle.proto_conn.specs.Links.{Meaning, HasRisen, is_prompt}
use Rattle.proto_conn.specs.Seen.{DidSee, arrived_in, brings}
use Rattle.proto_conn.specs.Conn.{Conn}

-- A session takes arrivals, in order.
abbrev pub takes : {M : Type 0} → List (Arrival M) → Session M ℕ → Session M ℕ
takes [] s = s
takes (a ∷ more) s = takes more (arrived_at a s)

abbrev pub after_event : {M : Type 0} → Event M → Session M ℕ → Session M ℕ
after_event e s = takes (arrival_of e) s

-- The bytes that an arrival stands for: at least sixteen for each message.
abbrev pub load_of : LinkArrival → ℕ
load_of (arrival.Datagram source bytes) = length bytes
load_of arrival.Overrun = 16
load_of arrival.Closed = 0

abbrev pub loads_of : List LinkArrival → ℕ
loads_of [] = 0
loads_of (a ∷ more) = load_of a + loads_of more

module _ {M S : Type 0} (meaning : S → Meaning) where
  -- What is left to do at most, and the bytes that are left to read at most.
  abbrev pub work_of : Conn M S → ℕ
  work_of c = 65537 * (meaning c.link).backlog + loads_of c.waiting

  abbrev pub room_of : Conn M S → ℕ
  room_of c = 65536 * (meaning c.link).backlog + loads_of c.waiting

  -- Nothing is left to be read for now: the link closed, or it isn't ready and nothing waits, nor at a prompt link.
  abbrev pub Drained : Conn M S → Conn M S → Type 0
  Drained before now = (now.closed ≡ true) ⊎ (HasRisen (meaning before.link).stalls (meaning now.link).stalls
      × (now.waiting ≡ []) × (is_prompt (meaning before.link).manners ≡ true → IfSome (meaning now.link).waits (λ waits. waits ≡ [])))

  -- The link closed or failed; a prompt link doesn't fail.
  abbrev pub IsGone : Conn M S → Conn M S → Type 0
  IsGone before now = HasRisen (meaning before.link).closings (meaning now.link).closings ⊎ (HasRisen (meaning before.link).faults
      (meaning now.link).faults × (is_prompt (meaning before.link).manners ≡ false))

  -- A step on which reading goes on: there is less to do, and room for what is left.
  pub record Progress (before : Conn M S) (es : List (Event M)) (now : Conn M S) : Type 0 where
    pub less : work_of now < work_of before
    pub within : 16 * arrived_in es + room_of now ≤ room_of before

  abbrev pub GoesOn : Bool → Conn M S → List (Event M) → Conn M S → Type 0
  GoesOn true before es now = Progress before es now
  GoesOn false before es now = Drained before now

module _ {M W : Type 0} (sees : W → NetlinkMessage M → SocketAddr → Handled ℕ → Bool → W → Type 0) (loses : W → Dropped → SocketAddr → W
    → Type 0) (overruns : W → W → Type 0) where
  -- What a watch makes of an event, by whether it took it.
  abbrev pub Follows : Event M → Session M ℕ → W → Bool → W → Type 0
  Follows (Came m source) s w took w2 = sees w m source (handled (record { message = m; source = source }) s) took w2
  Follows (Unread kind number source) s w took w2 = loses w (dropped.Unreadable kind number) source w2 × (took ≡ true)
  Follows (Leftover n source) s w took w2 = loses w (dropped.Rest n) source w2 × (took ≡ true)
  Follows Overran s w took w2 =
      (mid : W) × overruns w mid × sees mid (overrun_arrival {M = M}).message (overrun_arrival {M = M}).source (handled overrun_arrival s) took w2
  Follows Shut s w took w2 = (w2 ≡ w) × (took ≡ true)
  Follows (Sent to frames) s w took w2 = ⊥
  Follows (Other aside) s w took w2 = ⊥

  -- The session and the watch after events, in order.
  abbrev pub Followed : Session M ℕ → W → List (Event M) → Session M ℕ → W → Type 0
  Followed s w [] s2 w2 = (s2 ≡ s) × (w2 ≡ w)
  Followed s w (e ∷ es) s2 w2 = (mid : W) × Follows e s w true mid × Followed (after_event e s) mid es s2 w2

  module _ (reads : ℕ → List ℕ → Result M DecodeError) {S : Type 0} (meaning : S → Meaning) where
    -- The events of what waits in a connection.
    abbrev pub due : Conn M S → List (Event M)
    due c = flat_map (brings reads) c.waiting

    -- These events were read, in order: the link, what waits, the session and the watch follow them, and all else stays. The link counts as closed
    -- where it did, where it closed, or where it failed.
    pub record Reads (before : Conn M S) (w : W) (now : Conn M S) (w2 : W) : Type 0 where
      pub events : List (Event M)
      pub saw : DidSee reads meaning before.link (due before) events now.link (due now)
      pub followed : Followed before.session w events now.session w2
      pub stays : now ≡ record before { link = now.link; waiting = now.waiting; session = now.session; closed = now.closed }
      pub closes : (before.closed || is_shut events) ≡ true → now.closed ≡ true
      pub cause : (now.closed ≡ before.closed) ⊎ IsGone meaning before now

    -- The watch refused one message, which the session took.
    pub record Missed (before : Conn M S) (w : W) (now : Conn M S) (w2 : W) : Type 0 where
      pub event : Event M
      pub saw : DidSee reads meaning before.link (due before) (event ∷ []) now.link (due now)
      pub follows : Follows event before.session w false w2
      pub session : now.session ≡ after_event event before.session
      pub stays : now ≡ record before { link = now.link; waiting = now.waiting; session = now.session }

    -- Reading that memory stopped: some was read, and then nothing, or one that the watch refused.
    pub record Stopped (before : Conn M S) (w : W) (now : Conn M S) (w2 : W) : Type 0 where
      pub mid : Conn M S
      pub watch : W
      pub reads_to : Reads before w mid watch
      pub last : ((now ≡ mid) × (w2 ≡ watch)) ⊎ Missed mid watch now w2

    pub record DidStep (before : Conn M S) (w : W) (more : Bool) (now : Conn M S) (w2 : W) : Type 0 where
      pub reads_to : Reads before w now w2
      pub goes : GoesOn meaning more before reads_to.events now
