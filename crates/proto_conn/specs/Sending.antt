-- What is sent, and how much of it a link takes.
use Rattle.std.specs.Prelude.{◌≡◌, ◌<◌, ℕ, Bool, false, List, [], ◌∷◌, length, take, flat_map, Result, Ok, Err}
use Rattle.nl_core.specs.declared.message.NetlinkMessage.{NetlinkMessage}
use Rattle.nl_core.specs.Frames.{message_text}
use Rattle.session_model.specs.declared.address.SocketAddr.{SocketAddr}
use Rattle.proto_conn.specs.declared.link.Posted.{Posted}
use Rattle.proto_conn.specs.declared.framed.Polled.{Polled}
use Rattle.proto_conn.specs.declared.framed.Polled.TheVariants as polled
use Rattle.proto_conn.specs.declared.framed.FramedError.{FramedError}
use Rattle.proto_conn.specs.declared.framed.FramedError.TheVariants as framed
use Rattle.proto_conn.specs.Links.{Meaning, HasRisen, IsLater, is_sure, with_back}
use Rattle.proto_conn.specs.Seen.{Framing}

-- Bytes as one datagram, and none where there are no bytes.
abbrev pub datagram_of : List ℕ → SocketAddr → List Posted
datagram_of [] to = []
datagram_of (b ∷ bytes) to = record { bytes = b ∷ bytes; to = to } ∷ []

-- The texts of messages, joined.
abbrev pub texts : {M : Type 0} → (M → List ℕ) → List (NetlinkMessage M) → List ℕ
texts text ms = flat_map (message_text text) ms

-- `start_send` refuses a message that doesn't fit, or for want of memory.
abbrev pub IsRefusal : Bool → FramedError → Type 0
IsRefusal fits framed.Unfit = fits ≡ false
IsRefusal fits framed.NoMemory = Unit {0}
IsRefusal fits framed.LinkFailed = ⊥
IsRefusal fits (framed.Short took len) = ⊥

-- Between two moments a link was asked for nothing but to send: what waits stays, and it sent these.
pub record Sends (before : Meaning) (out : List Posted) (now : Meaning) : Type 0 where
  pub later : IsLater before now
  pub waits : now.waits ≡ before.waits
  pub posted : now.posted ≡ with_back before.posted out
  pub closings : now.closings ≡ before.closings

module _ {S : Type 0} (meaning : S → Meaning) where
  -- What a flush leaves to be sent, and why; nothing is asked of the link where nothing is to be sent.
  abbrev pub Flushes : Framing S → Result (Polled (Unit {0})) FramedError → Framing S → Type 0
  Flushes before (Ok (polled.Ready u)) now = (now.writer ≡ []) × Sends (meaning before.link) (datagram_of before.writer before.destination) (meaning now.link)
      × (before.writer ≡ [] → now.link ≡ before.link)
  Flushes before (Ok polled.Ended) now = ⊥
  Flushes before (Ok polled.NotYet) now = (now.writer ≡ before.writer) × Sends (meaning before.link) [] (meaning now.link)
      × HasRisen (meaning before.link).stalls (meaning now.link).stalls × (is_sure (meaning before.link).manners ≡ false)
  Flushes before (Err framed.LinkFailed) now = (now.writer ≡ []) × Sends (meaning before.link) [] (meaning now.link)
      × HasRisen (meaning before.link).faults (meaning now.link).faults × (is_sure (meaning before.link).manners ≡ false)
  Flushes before (Err (framed.Short took len)) now =
      (now.writer ≡ []) × Sends (meaning before.link) (record { bytes = take took before.writer; to = before.destination } ∷ []) (meaning now.link)
      × (took < len) × (len ≡ length before.writer) × HasRisen (meaning before.link).faults (meaning now.link).faults × (is_sure
      (meaning before.link).manners ≡ false)
  Flushes before (Err framed.Unfit) now = ⊥
  Flushes before (Err framed.NoMemory) now = (now.writer ≡ before.writer) × Sends (meaning before.link) [] (meaning now.link)

  -- A flush, which leaves what was read.
  pub record DidFlush (before : Framing S) (answer : Result (Polled (Unit {0})) FramedError) (now : Framing S) : Type 0 where
    pub flushes : Flushes before answer now
    pub reader : now.reader ≡ before.reader
    pub source : now.source ≡ before.source
    pub destination : now.destination ≡ before.destination
