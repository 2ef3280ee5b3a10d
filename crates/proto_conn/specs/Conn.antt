-- What a connection is.
use Rattle.std.specs.Prelude.{◌≡◌, ◌+◌, ◌-◌, ◌^◌, ◌<◌, ◌≤◌, ◌&&◌, ◌||◌, ℕ, Bool, true, false, not, if◌then◌else◌}
use Rattle.std.specs.Prelude.{List, [], ◌∷◌, ◌++◌, map, length, get_or, is_none}
use Rattle.std.specs.List.{filter}
use Rattle.nl_core.specs.declared.message.NetlinkMessage.{NetlinkMessage}
use Rattle.nl_core.specs.declared.message.NetlinkPayload.{NetlinkPayload}
use Rattle.nl_core.specs.declared.message.NetlinkPayload.TheVariants.{Done, Error, Noop, Overrun, InnerMessage}
use Rattle.session_model.specs.declared.address.SocketAddr.{SocketAddr}
use Rattle.stream_list.specs.Listed.{Room}
use Rattle.proto_core.specs.Session.{Session, fresh, requested}
use Rattle.proto_core.specs.declared.request.ExpectResponse.{ExpectResponse}
use Rattle.proto_core.specs.declared.request.Request.{Request}
use Rattle.proto_core.specs.declared.messages.Incoming.{Incoming}
use Rattle.proto_core.specs.declared.messages.Response.{Response}
use Rattle.proto_conn.specs.declared.link.Arrival.{Arrival}
use Rattle.proto_conn.specs.declared.link.Arrival.TheVariants as arrival
use Rattle.proto_conn.specs.declared.link.Posted.{Posted}
use Rattle.proto_conn.specs.declared.parts.Forward.{Forward}
use Rattle.proto_conn.specs.declared.parts.Held.{Held}
use Rattle.proto_conn.specs.declared.parts.Held.TheVariants as held
use Rattle.proto_conn.specs.declared.parts.Reply.{Reply}
use Rattle.proto_conn.specs.Fitting.{BatchesFit, IsTakable, RequestsFit}
use Rattle.proto_conn.specs.Tallies.{AreNewest, IsTallied, Tallied}

-- The link; what was taken from it and isn't handled yet, and the datagram that isn't sent yet, each one at most; the session; the requests that it hasn't
-- taken; the forwarded replies and unsolicited messages, oldest first; by stream, from 1, whether it was given up; which control replies are handed on;
-- whether the link counts as closed, whether requests are refused, and whether the side of the requests and that of the unsolicited messages are gone.
pub record Conn (T S : Type 0) : Type 0 where
  pub link : S
  pub waiting : List Arrival
  pub unsent : List Posted
  pub session : Session T ℕ
  pub queue : List (Request T ℕ)
  pub replies : List (Reply T)
  pub unsolicited : List (Incoming T)
  pub given_up : List Bool
  pub forward : Forward
  pub closed : Bool
  pub requests_closed : Bool
  pub requests_gone : Bool
  pub unsolicited_gone : Bool

-- What waits, by what was last taken and the bytes that are left of it.
abbrev pub waiting_in : Held → SocketAddr → List ℕ → List Arrival
waiting_in held.Nothing source [] = []
waiting_in held.Nothing source (b ∷ bytes) = arrival.Datagram source (b ∷ bytes) ∷ []
waiting_in held.Datagram source bytes = arrival.Datagram source bytes ∷ []
waiting_in held.Overrun source bytes = arrival.Overrun ∷ []

-- A datagram waits, and nothing else.
abbrev pub one_datagram : List ℕ → SocketAddr → List Arrival
one_datagram bytes source = arrival.Datagram source bytes ∷ []

-- What waits is a datagram.
abbrev pub HasDatagram : List Arrival → Type 0
HasDatagram [] = ⊥
HasDatagram (arrival.Datagram source bytes ∷ more) = Unit {0}
HasDatagram (arrival.Overrun ∷ more) = ⊥
HasDatagram (arrival.Closed ∷ more) = ⊥

-- No bytes are left where an overrun waits.
abbrev pub IsHeld : Held → List ℕ → Type 0
IsHeld held.Nothing bytes = Unit {0}
IsHeld held.Datagram bytes = Unit {0}
IsHeld held.Overrun bytes = bytes ≡ []

abbrev pub is_overrun : Held → Bool
is_overrun held.Nothing = false
is_overrun held.Datagram = false
is_overrun held.Overrun = true

abbrev pub is_datagram : Held → Bool
is_datagram held.Nothing = false
is_datagram held.Datagram = true
is_datagram held.Overrun = false

-- A connection that was just made, whose numbers follow `start`.
abbrev pub fresh_conn : {T S : Type 0} → S → ℕ → Conn T S
fresh_conn link start = record {
  link = link;
  waiting = [];
  unsent = [];
  session = fresh start;
  queue = [];
  replies = [];
  unsolicited = [];
  given_up = [];
  forward = record { noop = false; done = false; ack = false };
  closed = false;
  requests_closed = false;
  requests_gone = false;
  unsolicited_gone = false;
}

-- How many messages requests have.
abbrev pub messages_in : {T : Type 0} → List (Request T ℕ) → ℕ
messages_in [] = 0
messages_in (r ∷ rs) = length r.messages + messages_in rs

module _ {T S : Type 0} where
  -- It has no more to do: the link closed, or both sides are gone.
  abbrev pub shuts_down : Conn T S → Bool
  shuts_down c = c.closed || (c.requests_gone && c.unsolicited_gone)

  -- It takes no requests.
  abbrev pub refuses : Conn T S → Bool
  refuses c = c.closed || c.requests_closed

  -- The last number that is used once all requests are taken.
  abbrev pub used : Conn T S → ℕ
  used c = c.session.last + messages_in c.queue

-- ---- what is handed on

-- A control reply is kept back unless its kind is handed on.
abbrev pub is_kept_back : {M : Type 0} → Forward → NetlinkPayload M → Bool
is_kept_back f Noop = not f.noop
is_kept_back f (Done d) = not f.done
is_kept_back f (Error e) = is_none e.code && not f.ack
is_kept_back f (Overrun bytes) = false
is_kept_back f (InnerMessage m) = false

-- Whether a stream was given up; the streams are numbered from 1.
abbrev pub gave_up : List Bool → ℕ → Bool
gave_up given_up stream = get_or given_up (stream - 1) false

module _ {T : Type 0} where
  abbrev pub is_handed_on : Forward → List Bool → Response T ℕ → Bool
  is_handed_on f given_up r = not (is_kept_back f r.message.payload) && not (gave_up given_up r.metadata)

  abbrev pub reply_of : Response T ℕ → Reply T
  reply_of r = record { arrival = r.arrival; stream = r.metadata; message = r.message }

  abbrev pub handed_on : Forward → List Bool → List (Response T ℕ) → List (Reply T)
  handed_on f given_up rs = map reply_of (filter (is_handed_on f given_up) rs)

module _ {T S : Type 0} where
  -- The replies, and the messages that nothing awaited, leave the session for the lists.
  abbrev pub with_replies : Conn T S → Conn T S
  with_replies c = record c { session = record c.session { responses = [] }; replies = c.replies ++ handed_on c.forward c.given_up c.session.responses }

  abbrev pub with_unsolicited : Conn T S → Conn T S
  with_unsolicited c =
      record c {
        session = record c.session { incoming = [] };
        unsolicited = c.unsolicited ++
            (if c.unsolicited_gone then [] else c.session.incoming);
      }

  abbrev pub forwarded : Conn T S → Conn T S
  forwarded c = with_replies (with_unsolicited c)

-- ---- requests

-- A session after requests.
abbrev pub taken_in : {T : Type 0} → (T → ℕ) → (T → List ℕ) → List (Request T ℕ) → Session T ℕ → Session T ℕ
taken_in kind text [] s = s
taken_in kind text (r ∷ rs) s = taken_in kind text rs (requested kind text s r)

-- Of requests some are taken into a session, and the others stay.
pub record TookSome {T : Type 0} (kind : T → ℕ) (text : T
    → List ℕ) (queue : List (Request T ℕ)) (s : Session T ℕ) (queue_now : List (Request T ℕ)) (s_now : Session T ℕ) : Type 0 where
  pub front : List (Request T ℕ)
  pub split : queue ≡ front ++ queue_now
  pub session : s_now ≡ taken_in kind text front s

module _ {T S : Type 0} (kind : T → ℕ) (text : T → List ℕ) where
  -- All requests are taken.
  abbrev pub asked : Conn T S → Conn T S
  asked c = record c { session = taken_in kind text c.queue c.session; queue = []; requests_gone = c.requests_closed }

  -- Some are taken, and the others stay, of which memory alone refused the first.
  pub record AskedSome (fits : T → Bool) (before now : Conn T S) : Type 0 where
    pub took : TookSome kind text before.queue before.session now.queue now.session
    pub memory : IsTakable text fits now.queue now.session.last
    pub stays : now ≡ record before { session = now.session; queue = now.queue }

-- The request of the next stream.
abbrev pub next_request : {T S : Type 0} → Conn T S → List (NetlinkMessage T) → ExpectResponse → SocketAddr → Request T ℕ
next_request c messages expect destination =
    record { metadata = length c.given_up + 1; messages = messages; destination = destination; expect_response = expect }

-- A request is queued under the next stream.
abbrev pub queued : {T S : Type 0} → Request T ℕ → Conn T S → Conn T S
queued r c = record c { queue = c.queue ++ r ∷ []; given_up = c.given_up ++ false ∷ [] }

-- What a connection keeps: the count of queued messages, whose numbers are left; that each message fits, queued or in a batch of the session; room in
-- the lists for what waits in the session; no bytes beside an overrun; and of each stream what is awaited and waits in the session, where the requests
-- of the newest ones are queued.
pub record IsSound {T : Type 0} (text : T → List ℕ) (fits : T → Bool) (s : Session T ℕ) (queue : List (Request T ℕ))
    (count replies_len : ℕ) (replies_room : Room) (unsolicited_len unsolicited_room : ℕ) (h : Held) (reader : List ℕ)
    (given : ℕ) (t : Tallied) : Type 0 where
  pub counted : count ≡ messages_in queue
  pub numbers : s.last + count < 2 ^ 32
  pub fit : RequestsFit text fits queue
  pub batches : BatchesFit text fits s.outgoing
  pub replies : length s.responses + replies_len ≤ replies_room.items
  pub known : 0 < given → given < replies_room.streams
  pub unsolicited : length s.incoming + unsolicited_len ≤ unsolicited_room
  pub held : IsHeld h reader
  pub streams : length t.streams ≡ given
  pub newest : AreNewest given queue
  pub tallied : IsTallied s.awaited s.responses s.arrived t
