-- A request that is taken and sent in one call.
use Rattle.std.specs.Prelude.{◌≡◌, ◌||◌, ℕ, Bool, true, false, not, List, [], ◌∷◌, ◌++◌, drop, Ok, Err}
use Rattle.nl_core.specs.declared.message.NetlinkMessage.{NetlinkMessage}
use Rattle.session_model.specs.declared.address.SocketAddr.{SocketAddr}
use Rattle.proto_core.specs.Session.{Session, requested}
use Rattle.proto_core.specs.declared.request.ExpectResponse.TheVariants.{Explicit}
use Rattle.proto_core.specs.declared.request.ReplyExpectation.{ReplyExpectation}
use Rattle.proto_core.specs.declared.request.Request.{Request}
use Rattle.proto_conn.specs.declared.framed.Polled.{Polled}
use Rattle.proto_conn.specs.declared.framed.FramedError.{FramedError}
use Rattle.proto_conn.specs.Conn.{Conn, next_request}
use Rattle.proto_conn.specs.Flushing.{GoesOn, Loads, is_break, is_nothing}
use Rattle.proto_conn.specs.Handles.{marks_of, messages_of}
use Rattle.proto_conn.specs.Links.{Meaning}
use Rattle.proto_conn.specs.Seen.{Framing}
use Rattle.proto_conn.specs.Sending.{DidFlush}

-- A batch is ahead of the next one: something is unsent, or a batch waits in the session.
abbrev pub is_behind : {X Y : Type 0} → List X → List Y → Bool
is_behind unsent outgoing = not (is_nothing unsent) || not (is_nothing outgoing)

-- The request of marked messages, for the next stream.
abbrev pub marked_request : {T S : Type 0} → Conn T S → List (NetlinkMessage T × ReplyExpectation) → SocketAddr → Request T ℕ
marked_request c ps destination = next_request c (messages_of ps) (Explicit (marks_of ps)) destination

module _ {T S : Type 0} (kind : T → ℕ) (text : T → List ℕ) where
  -- A request of the next stream is numbered and noted, and its batch waits in the session.
  abbrev pub submitted : Request T ℕ → Conn T S → Conn T S
  submitted r c = record c { session = requested kind text c.session r; given_up = c.given_up ++ false ∷ [] }

  -- A request is taken. Where a batch is ahead of it, nothing is sent; else it is what is sent.
  abbrev pub Submits : (S → Meaning) → Request T ℕ → Conn T S → Conn T S → Type 0
  Submits meaning r before now = GoesOn meaning text (is_behind before.unsent before.session.outgoing) (submitted r before) now

-- ---- the same of a reader and writer and of a session

-- The session without its oldest batch.
abbrev pub without_first : {T : Type 0} → Session T ℕ → Session T ℕ
without_first s = record s { outgoing = drop 1 s.outgoing }

module _ {S : Type 0} (meaning : S → Meaning) where
  -- A flush, which broke the link or didn't.
  abbrev pub FlushesAs : Bool → Framing S → Framing S → Type 0
  FlushesAs true f f2 = (e : FramedError) × (is_break e ≡ true) × DidFlush meaning f (Err e) f2
  FlushesAs false f f2 = (p : Polled (Unit {0})) × DidFlush meaning f (Ok p) f2

  module _ {T : Type 0} (text : T → List ℕ) where
    -- The oldest batch is loaded and flushed.
    pub record SendsFirst (f : Framing S) (s : Session T ℕ) (broke : Bool) (f2 : Framing S) (s2 : Session T ℕ) : Type 0 where
      pub mid : Framing S
      pub loads : Loads text f s s.outgoing mid s2
      pub flushes : FlushesAs broke mid f2
      pub idle : mid.writer ≡ [] → f2 ≡ mid

    abbrev pub SendsIf : Bool → Framing S → Session T ℕ → Bool → Framing S → Session T ℕ → Type 0
    SendsIf true f s broke f2 s2 = (f2 ≡ f) × (s2 ≡ s) × (broke ≡ false)
    SendsIf false f s broke f2 s2 = SendsFirst f s broke f2 s2

  -- A request is taken, and sent where no batch is ahead of it.
  abbrev pub Takes : {T : Type 0} → (T → ℕ) → (T → List ℕ) → Framing S → Session T ℕ → Request T ℕ → Bool → Framing S → Session T ℕ → Type 0
  Takes kind text f s r broke f2 s2 = SendsIf text (is_behind f.writer s.outgoing) f (requested kind text s r) broke f2 s2
