-- A whole poll; and a datagram taken by itself.
use Rattle.std.specs.Prelude.{◌≡◌, ◌⊎◌, ℕ, Bool, true, false, List, [], ◌∷◌, Result}
use Rattle.nl_core.specs.declared.error.DecodeError.{DecodeError}
use Rattle.nl_core.specs.declared.message.NetlinkMessage.{NetlinkMessage}
use Rattle.session_model.specs.declared.address.SocketAddr.{SocketAddr}
use Rattle.proto_core.specs.declared.messages.Handled.{Handled}
use Rattle.proto_conn.specs.declared.framed.Dropped.{Dropped}
use Rattle.proto_conn.specs.declared.framed.Polled.{Polled}
use Rattle.proto_conn.specs.declared.framed.Polled.TheVariants as polled
use Rattle.proto_conn.specs.declared.link.Arrival.{Arrival as LinkArrival}
use Rattle.proto_conn.specs.declared.link.Arrival.TheVariants as arrival
use Rattle.proto_conn.specs.declared.link.Received.{Received}
use Rattle.proto_conn.specs.declared.link.Received.TheVariants as received
use Rattle.proto_conn.specs.declared.parts.Waiting.{Waiting}
use Rattle.proto_conn.specs.declared.parts.Waiting.TheVariants as waiting
use Rattle.proto_conn.specs.Links.{Meaning, DidReceive}
use Rattle.proto_conn.specs.Conn.{AskedSome, Conn, HasDatagram, asked, forwarded, shuts_down}
use Rattle.proto_conn.specs.Flushing.{SendStopped, SendsNext}
use Rattle.proto_conn.specs.Reading.{Drained, Reads, Stopped}
use Rattle.proto_conn.specs.Seen.{Framing}

-- A poll is over where there is no more to do.
abbrev pub poll_answer : Bool → Polled (Unit {0})
poll_answer true = polled.Ready tt
poll_answer false = polled.NotYet

module _ {M W : Type 0} (sees : W → NetlinkMessage M → SocketAddr → Handled ℕ → Bool → W → Type 0) (loses : W → Dropped → SocketAddr → W
    → Type 0) (overruns : W → W → Type 0)
    (reads : ℕ → List ℕ → Result M DecodeError) (kind : M → ℕ) (text : M → List ℕ) {S : Type 0} (meaning : S → Meaning) where
  -- It reads until nothing is left for now, hands on what came, takes the requests, and sends.
  pub record DidPoll (before : Conn M S) (w : W) (answer : Polled (Unit {0})) (now : Conn M S) (w2 : W) : Type 0 where
    pub read : Conn M S
    pub reads_to : Reads sees loses overruns reads meaning before w read w2
    pub drained : Drained meaning before read
    pub sent : SendsNext meaning text (asked kind text (forwarded read)) now
    pub answers : answer ≡ poll_answer (shuts_down now)

  -- Memory stopped it after the reading.
  pub record StoppedLater (fits : M → Bool) (before : Conn M S) (w : W) (now : Conn M S) (w2 : W) : Type 0 where
    pub read : Conn M S
    pub reads_to : Reads sees loses overruns reads meaning before w read w2
    pub drained : Drained meaning before read
    pub later : AskedSome kind text fits (forwarded read) now ⊎ SendStopped meaning text fits (asked kind text (forwarded read)) now

  abbrev pub PollStopped : (M → Bool) → Conn M S → W → Conn M S → W → Type 0
  PollStopped fits before w now w2 = Stopped sees loses overruns reads meaning before w now w2 ⊎ StoppedLater fits before w now w2

-- ---- a datagram by itself

-- Where a datagram of an answer comes from.
abbrev pub source_of : Received → SocketAddr → SocketAddr
source_of (received.Datagram source) before = source
source_of received.Overrun before = before
source_of received.NotReady before = before
source_of received.Closed before = before
source_of received.Failed before = before

-- One read of the link, into a reader.
pub record Gets {S : Type 0} (meaning : S → Meaning) (before : Framing S) (answer : Received) (now : Framing S) : Type 0 where
  pub did : DidReceive (meaning before.link) answer now.reader (meaning now.link)
  pub stays : now ≡ record before { link = now.link; reader = now.reader; source = source_of answer before.source }

-- What is told of what waits.
abbrev pub waits_as : LinkArrival → Waiting
waits_as (arrival.Datagram source bytes) = waiting.Datagram
waits_as arrival.Overrun = waiting.Overrun
waits_as arrival.Closed = waiting.Closed

-- A datagram waits where the answer says so.
abbrev pub Waits : Waiting → List LinkArrival → Type 0
Waits waiting.Datagram arrivals = HasDatagram arrivals
Waits waiting.Overrun arrivals = Unit {0}
Waits waiting.Closed arrivals = Unit {0}
Waits waiting.Nothing arrivals = Unit {0}

module _ {M S : Type 0} (meaning : S → Meaning) where
  -- What one read of the link brings to a connection in which nothing waits.
  abbrev pub FillsBy : Conn M S → Waiting → Conn M S → Type 0
  FillsBy before waiting.Datagram now =
      (source : SocketAddr) × (bytes : List ℕ) × (now ≡ record before { link = now.link; waiting = arrival.Datagram source bytes ∷ [] })
      × DidReceive (meaning before.link) (received.Datagram source) bytes (meaning now.link)
  FillsBy before waiting.Overrun now =
      (now ≡ record before { link = now.link; waiting = arrival.Overrun ∷ [] }) × DidReceive (meaning before.link) received.Overrun []
      (meaning now.link)
  FillsBy before waiting.Closed now = (now ≡ record before { link = now.link; closed = true })
      × (DidReceive (meaning before.link) received.Closed [] (meaning now.link) ⊎ DidReceive (meaning before.link) received.Failed [] (meaning now.link))
  FillsBy before waiting.Nothing now = (now ≡ record before { link = now.link }) × DidReceive (meaning before.link) received.NotReady [] (meaning now.link)

  -- Where something waits, or the link counts as closed, nothing is asked of it.
  abbrev pub FillsFrom : List LinkArrival → Bool → Conn M S → Waiting → Conn M S → Type 0
  FillsFrom (a ∷ more) closed before answer now = (now ≡ before) × (answer ≡ waits_as a)
  FillsFrom [] true before answer now = (now ≡ before) × (answer ≡ waiting.Nothing)
  FillsFrom [] false before answer now = FillsBy before answer now

  abbrev pub Fills : Conn M S → Waiting → Conn M S → Type 0
  Fills before answer now = FillsFrom before.waiting before.closed before answer now
