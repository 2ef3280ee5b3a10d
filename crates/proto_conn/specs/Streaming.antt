-- What a stream's calls answer.
use Rattle.std.specs.Prelude.{◌≡◌, ◌-◌, ◌==◌, ◌&&◌, ◌||◌, if◌then◌else◌, ℕ, Bool, true, false, not, List, [], ◌∷◌, ◌++◌, length, nat_lt, nat_le, slice_set}
use Rattle.std.specs.List.{filter, list_any}
use Rattle.nl_core.specs.declared.message.NetlinkMessage.{NetlinkMessage}
use Rattle.proto_core.specs.declared.messages.Incoming.{Incoming}
use Rattle.proto_core.specs.declared.request.Request.{Request}
use Rattle.proto_conn.specs.declared.framed.Polled.{Polled}
use Rattle.proto_conn.specs.declared.framed.Polled.TheVariants as polled
use Rattle.proto_conn.specs.declared.handle.ReplyStream.{ReplyStream}
use Rattle.proto_conn.specs.declared.parts.Reply.{Reply}
use Rattle.proto_conn.specs.Conn.{Conn, shuts_down}
use Rattle.proto_conn.specs.Tallies.{awaits_of, replies_of}

abbrev pub stream_id : ReplyStream → ℕ
stream_id s = s.id

-- The marks of streams, from 1, with that of a stream set, if it was given.
abbrev pub marked_at : ℕ → List Bool → List Bool
marked_at id marks = if nat_lt 0 id && nat_le id (length marks) then slice_set marks (id - 1) true else marks

module _ {T S : Type 0} where
  -- A connection whose stream was given up: its replies are gone, and later ones are dropped. A stream that wasn't given yet changes nothing.
  abbrev pub without_stream : ℕ → Conn T S → Conn T S
  without_stream id c = record c { replies = filter (λ (r : Reply T). not (r.stream == id)) c.replies; given_up = marked_at id c.given_up }

  -- No message that nothing awaited comes any more.
  abbrev pub is_over : Conn T S → Bool
  is_over c = (length c.session.incoming == 0) && (c.closed || c.unsolicited_gone)

  -- What a poll for such a message answers.
  abbrev pub UnsolicitedAnswers : Conn T S → Polled (Incoming T) → Conn T S → Type 0
  UnsolicitedAnswers before (polled.Ready i) now = before ≡ record now { unsolicited = i ∷ now.unsolicited }
  UnsolicitedAnswers before polled.Ended now = (now ≡ before) × (before.unsolicited ≡ []) × (is_over before ≡ true)
  UnsolicitedAnswers before polled.NotYet now = (now ≡ before) × (before.unsolicited ≡ []) × (is_over before ≡ false)

-- ---- the replies of a stream

module _ {T S : Type 0} where
  -- The request of a stream waits in the queue, or the stream isn't given yet.
  abbrev pub is_asking : ℕ → Conn T S → Bool
  is_asking id c = list_any (λ (r : Request T ℕ). r.metadata == id) c.queue || nat_lt (length c.given_up) id

  -- More replies of a stream may be read: there is more to do, and its request waits or a number of it is awaited.
  abbrev pub awaits : ℕ → Conn T S → Bool
  awaits id c = not (shuts_down c) && (is_asking id c || awaits_of id c.session.awaited)

  -- No reply of a stream waits in the session, and none may be read.
  abbrev pub is_ended : ℕ → Conn T S → Bool
  is_ended id c = not (replies_of id c.session.responses) && not (awaits id c)

  -- The oldest reply of a stream is taken out of the list; the others stay in their order.
  pub record TakesReply (id : ℕ) (before : Conn T S) (r : Reply T) (now : Conn T S) : Type 0 where
    pub earlier : List (Reply T)
    pub later : List (Reply T)
    pub among : before.replies ≡ earlier ++ r ∷ later
    pub own : r.stream ≡ id
    pub others : list_any (λ (x : Reply T). x.stream == id) earlier ≡ false
    pub stays : now ≡ record before { replies = earlier ++ later }

  -- None of a stream is in the list, and nothing changes.
  pub record HasNone (id : ℕ) (before now : Conn T S) : Type 0 where
    pub none : list_any (λ (x : Reply T). x.stream == id) before.replies ≡ false
    pub same : now ≡ before

  -- What a poll for a message of a stream answers.
  abbrev pub StreamAnswers : ℕ → Conn T S → Polled (NetlinkMessage T) → Conn T S → Type 0
  StreamAnswers id before (polled.Ready m) now = (r : Reply T) × TakesReply id before r now × (r.message ≡ m)
  StreamAnswers id before polled.Ended now = HasNone id before now × (is_ended id before ≡ true)
  StreamAnswers id before polled.NotYet now = HasNone id before now × (is_ended id before ≡ false)
