-- What a runner's connection is between records, what a record makes of it, and what is handed out then.
use Rattle.std.specs.Prelude.{◌≡◌, ◌+◌, ◌<◌, ◌^◌, ◌==◌, ℕ, Bool, true, false, if◌then◌else◌, List, [], ◌∷◌, ◌++◌, length, flat_map, codes}
use Rattle.std.specs.Bool.{OnFalse, OnTrue}
use Rattle.std.specs.BTreeMap.{keys}
use Rattle.std.specs.BTreeSet.{IsOrdered, insert_key}
use Rattle.std.specs.Fmt.{decimal}
use Rattle.std.specs.List.{list_all}
use Rattle.std.specs.List.Sorted.{IsStrictlySortedBy}
use Rattle.std.specs.Ordering.{nat_cmp}
use Rattle.nl_core.specs.Frames.{message_fits}
use Rattle.session_model.specs.declared.address.SocketAddr.{SocketAddr}
use Rattle.session_model.specs.declared.settings.Settings.{Settings}
use Rattle.session_model.specs.declared.transcript.BatchFrame.{BatchFrame}
use Rattle.session_model.specs.Awaited.{numbered}
use Rattle.session_model.specs.Events.{Event}
use Rattle.session_model.specs.Lines.{hex_word, line}
use Rattle.session_model.specs.SessionText.{closed_line, reply_text}
use Rattle.session_model.specs.Streams.{is_shut}
use Rattle.proto_core.specs.Session.{Session, requested}
use Rattle.proto_core.specs.declared.request.ExpectResponse.TheVariants.{Explicit}
use Rattle.proto_core.specs.declared.request.Request.{Request}
use Rattle.proto_conn.specs.Conn.{Conn, gave_up, handed_on, next_request}
use Rattle.proto_conn.specs.Links.{is_prompt}
use Rattle.proto_conn.specs.Reading.{Followed}
use Rattle.proto_conn.specs.Sending.{datagram_of, texts}
use Rattle.proto_conn.specs.Tapes.{Tape, manners_of}
use Rattle.proto_conn.specs.declared.link.Posted.{Posted}
use Rattle.proto_conn.specs.declared.parts.Reply.{Reply}
use Rattle.session_laws.specs.After.{drained, incoming_lines, without_outgoing}
use Rattle.session_laws.specs.Requests.{marked, marks_in, messages_in, Opens}
use Rattle.route_mirror.specs.Values.{MirrorValue}
use Rattle.route_mirror.specs.Watching.{mirror_loses, mirror_overruns, mirror_sees}
use Rattle.mirror.specs.declared.ledger.Ledger.{Ledger}
use Rattle.mirror.specs.Format.{Message, format}
use Rattle.mirror.specs.Ledger.{awaited_at, ledger_loses, ledger_overruns, ledger_sees}

-- A connection over a tape.
abbrev pub RouteConn : Type 0
RouteConn = Conn Message Tape

-- A tape with an empty plan on which nothing waits.
pub record IsSpent (tape : Tape) : Type 0 where
  pub waits : tape.waits ≡ []
  pub prompt : is_prompt (manners_of tape.fail tape.stall) ≡ true

-- Between records nothing waits in a connection but what is awaited; no stream was given up, and no side is gone.
pub record AtRest (c : RouteConn) : Type 0 where
  pub link : IsSpent c.link
  pub posted : c.link.posted ≡ []
  pub closings : c.closed ≡ false → c.link.closings ≡ 0
  pub waiting : c.closed ≡ false → c.waiting ≡ []
  pub unsent : c.unsent ≡ []
  pub queue : c.queue ≡ []
  pub replies : c.replies ≡ []
  pub unsolicited : c.unsolicited ≡ []
  pub responses : c.session.responses ≡ []
  pub incoming : c.session.incoming ≡ []
  pub outgoing : c.session.outgoing ≡ []
  pub kept : (stream : ℕ) → gave_up c.given_up stream ≡ false
  pub takes_requests : c.requests_closed ≡ false
  pub requests_side : c.requests_gone ≡ false
  pub unsolicited_side : c.unsolicited_gone ≡ false

-- These events went past a mirror, as a session takes them.
abbrev pub MirrorFollows : List (Event Message) → Session Message ℕ → MirrorValue → MirrorValue → Type 0
MirrorFollows es session before now =
    (left : Session Message ℕ) × Followed mirror_sees mirror_loses mirror_overruns session before es left now

-- These events went over a connection and past a ledger, and what they brought is handed on.
pub record Receives (es : List (Event Message)) (old : RouteConn) (before : Ledger) (new : RouteConn) (now : Ledger)
    : Type 0 where
  pub session : Session Message ℕ
  pub followed : Followed ledger_sees ledger_loses ledger_overruns old.session before es session now
  pub is : new ≡ record old {
    link = new.link;
    waiting = new.waiting;
    session = drained session;
    replies = handed_on old.forward old.given_up session.responses;
    unsolicited = session.incoming;
    closed = is_shut es;
  }
  pub link : IsSpent new.link
  pub posted : new.link.posted ≡ []
  pub open_still : is_shut es ≡ false → (new.link.closings ≡ 0) × (new.waiting ≡ [])

-- The request of a batch, as the connection's next one.
abbrev pub batch_request : RouteConn → SocketAddr → List BatchFrame → Request Message ℕ
batch_request c to frames = next_request c (messages_in format frames) (Explicit (marks_in format frames)) to

-- The datagram of a batch, as the session numbers its messages.
abbrev pub batch_datagram : RouteConn → SocketAddr → List BatchFrame → List Posted
batch_datagram c to frames =
    datagram_of (texts format.text (numbered format.kind format.text c.session.last (messages_in format frames))) to

-- A batch went over a connection as one datagram.
pub record SendsBatch (to : SocketAddr) (frames : List BatchFrame) (old new : RouteConn) : Type 0 where
  pub in_range : old.session.last + length (messages_in format frames) < 2 ^ 32
  pub fit : list_all (message_fits format.text format.fits) (messages_in format frames) ≡ true
  pub is : new ≡ record old {
    link = new.link;
    session = without_outgoing (requested format.kind format.text old.session (batch_request old to frames));
    given_up = old.given_up ++ false ∷ [];
  }
  pub link : IsSpent new.link
  pub posted : new.link.posted ≡ batch_datagram old to frames
  pub closings : new.link.closings ≡ 0

-- The stream of a batch opens in a ledger, or closes at once.
pub record OpensBatch (stream : ℕ) (frames : List BatchFrame) (before now : Ledger) : Type 0 where
  pub opens : Opens stream (marked (marks_in format frames)) (awaited_at before) (awaited_at now)
  pub closing : now.closing.keys
      ≡ (if marked (marks_in format frames) == 0 then insert_key nat_cmp before.closing.keys stream else before.closing.keys)
  pub dropped : now.dropped ≡ before.dropped

-- ---- what is handed out

-- The line of a datagram that was sent.
abbrev pub posted_line : Posted → List ℕ
posted_line p = line (codes "sent" ∷ decimal p.to.port ∷ decimal p.to.groups ∷ hex_word p.bytes ∷ [])

-- The line of a reply that was handed on.
abbrev pub handed_line : Settings → Reply Message → List ℕ
handed_line s r = reply_text format s r.arrival r.stream r.message

-- The streams that a record closes: those that it settled, and all open ones where the link closed.
abbrev pub closing_streams : Bool → Ledger → List ℕ
closing_streams shut ledger = if shut then ledger.closing.keys ++ keys ledger.open_streams else ledger.closing.keys

-- The text of what a connection hands out, and of the streams that close.
abbrev pub handed_text : Settings → RouteConn → Ledger → List ℕ
handed_text s c ledger =
    flat_map posted_line c.link.posted ++ (incoming_lines format c.unsolicited
    ++ (flat_map (handed_line s) c.replies ++ flat_map closed_line (closing_streams c.closed ledger)))

-- A connection once what it hands out is taken.
abbrev pub emptied : RouteConn → RouteConn
emptied c = record c { link = record c.link { posted = [] }; replies = []; unsolicited = [] }

-- A ledger once the streams that close are told.
pub record IsTold (shut : Bool) (before now : Ledger) : Type 0 where
  pub closing : now.closing.keys ≡ []
  pub left : OnFalse shut (now.open_streams ≡ before.open_streams)
  pub none : OnTrue shut (now.open_streams.entries ≡ [])
  pub dropped : now.dropped ≡ before.dropped
  pub rising : IsOrdered nat_cmp before.closing
  pub open_rising : OnTrue shut (IsStrictlySortedBy nat_cmp (keys before.open_streams))
