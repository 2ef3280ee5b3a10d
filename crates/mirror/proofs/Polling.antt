-- What one poll makes of a connection at rest: with one arrival, or with the request of one batch.
use Rattle.std.proofs.Common.{◌≡◌, ◌+◌, ◌<◌, ◌^◌, ℕ, Bool, true, false, if◌then◌else◌, List, [], ◌∷◌, ◌++◌, length, Some, refl, sym, ◌∙◌, ap, subst, add-zero}
use Rattle.std.specs.List.{list_all}
use Rattle.nl_core.specs.Frames.{message_fits}
use Rattle.nl_core.specs.declared.message.NetlinkMessage.{NetlinkMessage}
use Rattle.session_model.specs.declared.address.SocketAddr.{SocketAddr}
use Rattle.session_model.specs.declared.transcript.BatchFrame.{BatchFrame}
use Rattle.session_model.specs.Awaited.{numbered}
use Rattle.session_model.specs.Events.{Event}
use Rattle.session_model.specs.Streams.{is_shut}
use Rattle.proto_core.specs.Session.{Session, requested}
use Rattle.proto_core.specs.declared.messages.Outgoing.{Outgoing}
use Rattle.proto_core.specs.declared.request.ExpectResponse.TheVariants.{Explicit}
use Rattle.proto_core.specs.declared.request.Request.{Request}
use Rattle.proto_conn.specs.Conn.{asked, forwarded, handed_on, next_request, taken_in, used}
use Rattle.proto_conn.specs.Conn.{messages_in as requests_in}
use Rattle.proto_conn.specs.Flushing.{SendsNext}
use Rattle.proto_conn.specs.Handles.{IsQueued}
use Rattle.proto_conn.specs.Links.{is_prompt}
use Rattle.proto_conn.specs.Polls.{DidPoll}
use Rattle.proto_conn.specs.Sending.{datagram_of, texts}
use Rattle.proto_conn.specs.Tapes.{Tape, means}
use Rattle.proto_conn.specs.declared.link.Posted.{Posted}
use Rattle.proto_conn.specs.declared.framed.Polled.{Polled}
use Rattle.proto_conn.specs.declared.link.Arrival.{Arrival}
use Rattle.proto_conn.specs.declared.parts.Reply.{Reply}
use Rattle.proto_core.specs.declared.messages.Incoming.{Incoming}
use Rattle.session_laws.specs.After.{drained, without_outgoing}
use Rattle.session_laws.specs.Requests.{marks_in, messages_in}
use Rattle.mirror.specs.declared.observers.Observers.{Observers}
use Rattle.mirror.specs.Format.{Message, format}
use Rattle.mirror.specs.Observers.{observers_lose, observers_overrun, observers_see}
use Rattle.mirror.specs.Polled.{AtRest, IsSpent, MirrorFollows, Receives, RouteConn, SendsBatch, batch_request}
use Rattle.mirror.proofs.Following.{followed_counts}
use Rattle.mirror.proofs.Readings.{ReadsEvents, brought_by, reads_nothing, reads_one}
use Rattle.mirror.proofs.Sends.{manners, sends_nothing, sends_one}
use Rattle.mirror.proofs.Watched.{FollowsBoth, ledger_follows, mirror_follows}

abbrev pub Polls : RouteConn → Observers → Polled (Unit {0}) → RouteConn → Observers → Type 0
Polls = DidPoll observers_see observers_lose observers_overrun format.reads format.kind format.text means

unposted : (xs ys : List Posted) → Some xs ≡ Some ys → xs ≡ ys
unposted xs ys e = cc

-- What was read and is handed on, before the requests are taken.
abbrev handed : RouteConn → Tape → List (Request Message ℕ) → List Bool → RouteConn → Session Message ℕ → Bool → RouteConn
handed old t q g r session shut = record old {
  link = r.link;
  waiting = r.waiting;
  session = taken_in format.kind format.text q (drained session);
  queue = [];
  given_up = g;
  replies = handed_on old.forward g session.responses;
  unsolicited = session.incoming;
  closed = shut;
}

-- A connection at rest, with this tape, these requests and these marks, that was polled.
module _ (old : RouteConn) (t : Tape) (q : List (Request Message ℕ)) (g : List Bool) (w w2 : Observers) (answer : Polled (Unit {0})) (now : RouteConn)
    (rest : AtRest old) (open_still : old.closed ≡ false) (closings : t.closings ≡ 0) (prompt : is_prompt (manners t) ≡ true)
    (h : Polls (record old { link = t; queue = q; given_up = g }) w answer now w2) where
  abbrev begun : RouteConn
  begun = record old { link = t; queue = q; given_up = g }

  abbrev read : RouteConn
  read = h.read

  is_prompt_still : is_prompt (manners read.link) ≡ true
  is_prompt_still = h.reads_to.saw.later.prompt prompt

  -- What was read is handed on, and the requests are taken.
  handed_is : (es : List (Event Message)) → ReadsEvents es begun read h.reads_to.events
      → asked format.kind format.text (forwarded read) ≡ handed old t q g read read.session (is_shut es)
  handed_is es r =
      let session = read.session in
      let gone = rest.unsolicited_side in
      let with : List (Reply Message) → List (Incoming Message) → Bool → Bool → RouteConn = λ replies unsolicited shut requests. record old {
        link = read.link;
        waiting = read.waiting;
        session = taken_in format.kind format.text q (drained session);
        queue = [];
        given_up = g;
        replies = replies ++ handed_on old.forward g session.responses;
        unsolicited = unsolicited;
        closed = shut;
        requests_gone = requests;
      } in
      ap (λ c. asked format.kind format.text (forwarded c)) h.reads_to.stays
      ∙ ap (λ replies. with replies (old.unsolicited ++ (if old.unsolicited_gone then [] else session.incoming)) read.closed old.requests_closed) rest.replies
      ∙ ap (λ u. with [] (u ++ (if old.unsolicited_gone then [] else session.incoming)) read.closed old.requests_closed) rest.unsolicited
      ∙ ap (λ b. with [] (if b then [] else session.incoming) read.closed old.requests_closed) gone
      ∙ ap (λ b. with [] session.incoming b old.requests_closed) r.closed
      ∙ ap (λ b. with [] session.incoming (is_shut es) b) (rest.takes_requests ∙ sym rest.requests_side)

  followed_as : (es : List (Event Message)) → ReadsEvents es begun read h.reads_to.events → FollowsBoth old.session w es read.session w2
  followed_as es r = subst (λ fs. FollowsBoth old.session w fs read.session w2) r.events_are h.reads_to.followed

  -- An arrival that waited was received.
  pub received_one : (a : Arrival) → t.waits ≡ a ∷ [] → t.posted ≡ [] → q ≡ [] → g ≡ old.given_up
      → Receives (brought_by a) old w.ledger now w2.ledger × MirrorFollows (brought_by a) old.session w.mirror w2.mirror
  received_one a waits posted none same =
      let es = brought_by a in
      let r = reads_one begun read w w2 open_still (rest.waiting open_still) closings prompt h.reads_to h.drained a waits in
      let both = followed_as es r in
      let followed = ledger_follows es old.session w read.session w2 both in
      let counts = followed_counts es old.session w.ledger read.session w2.ledger followed in
      let plain : RouteConn = record old {
        link = read.link;
        waiting = read.waiting;
        session = drained read.session;
        replies = handed_on old.forward old.given_up read.session.responses;
        unsolicited = read.session.incoming;
        closed = is_shut es;
      } in
      let is : asked format.kind format.text (forwarded read) ≡ plain =
      handed_is es r ∙ ap (λ requests. handed old t requests g read read.session (is_shut es)) none
      ∙ ap (λ marks. handed old t [] marks read read.session (is_shut es)) same
      ∙ ap (λ requests. record plain { queue = requests }) (sym rest.queue) in
      let sent : now ≡ plain =
      sends_nothing plain now rest.unsent (counts.outgoing ∙ rest.outgoing) is_prompt_still
      (subst (λ c. SendsNext means format.text c now) is h.sent) in
      let link : now.link ≡ read.link = ap (λ (c : RouteConn). c.link) sent in
      let left : now.waiting ≡ read.waiting = ap (λ (c : RouteConn). c.waiting) sent in (
        record {
          session = read.session;
          followed = followed;
          is = sent ∙ ap (λ l. record plain { link = l }) (sym link) ∙ ap (λ l. record plain { link = now.link; waiting = l }) (sym left);
          link = record { waits = ap (λ (l : Tape). l.waits) link ∙ r.waits; prompt = ap (λ (l : Tape). is_prompt (manners l)) link ∙ is_prompt_still };
          posted = ap (λ (l : Tape). l.posted) link ∙ unposted read.link.posted t.posted h.reads_to.saw.posted ∙ posted;
          open_still = λ e. (ap (λ (l : Tape). l.closings) link ∙ (r.open_still e).0, left ∙ (r.open_still e).1);
        },
        (read.session, mirror_follows es old.session w read.session w2 both),
      )

  -- The request of a batch was sent, and nothing was read.
  pub sent_one : (r : Request Message ℕ) → t.waits ≡ [] → t.posted ≡ [] → q ≡ r ∷ []
      → (w2 ≡ w)
      × (now ≡ record old { link = now.link; session = without_outgoing (requested format.kind format.text old.session r); given_up = g })
      × IsSpent now.link
      × (now.link.posted ≡ datagram_of (texts format.text (numbered format.kind format.text old.session.last r.messages)) r.destination)
      × (now.link.closings ≡ 0)
  sent_one r waits posted one =
      let reads = reads_nothing begun read w w2 open_still (rest.waiting open_still) closings prompt h.reads_to h.drained waits in
      let followed = followed_as [] reads in
      let left = reads.open_still refl in
      let o : Outgoing Message = record { messages = numbered format.kind format.text old.session.last r.messages; destination = r.destination } in
      let plain : RouteConn = record old { link = read.link; session = requested format.kind format.text old.session r; given_up = g } in
      let asking = taken_in format.kind format.text (r ∷ []) in
      let with : List Arrival → List (Reply Message) → List (Incoming Message) → Bool → List (Request Message ℕ) → Session Message ℕ
      → RouteConn = λ waiting replies unsolicited shut requests session. record old {
        link = read.link;
        waiting = waiting;
        session = asking session;
        queue = requests;
        given_up = g;
        replies = replies;
        unsolicited = unsolicited;
        closed = shut;
      } in
      let session = drained old.session in
      let same_session : session ≡ old.session =
      ap (λ rs. record old.session { responses = rs; incoming = [] }) (sym rest.responses)
      ∙ ap (λ is. record old.session { incoming = is }) (sym rest.incoming) in
      let is : asked format.kind format.text (forwarded read) ≡ plain =
      handed_is [] reads ∙ ap (λ requests. handed old t requests g read read.session false) one
      ∙ ap (λ q. handed old t (r ∷ []) g read q false) followed.0
      ∙ ap (λ ws. with ws (handed_on old.forward g old.session.responses) old.session.incoming false [] session)
      (left.1 ∙ sym (rest.waiting open_still))
      ∙ ap (λ rs. with old.waiting (handed_on old.forward g rs) old.session.incoming false [] session) rest.responses
      ∙ ap (λ rs. with old.waiting rs old.session.incoming false [] session) (sym rest.replies)
      ∙ ap (λ u. with old.waiting old.replies u false [] session) (rest.incoming ∙ sym rest.unsolicited)
      ∙ ap (λ k. with old.waiting old.replies old.unsolicited k [] session) (sym open_still)
      ∙ ap (λ requests. with old.waiting old.replies old.unsolicited old.closed requests session) (sym rest.queue)
      ∙ ap (with old.waiting old.replies old.unsolicited old.closed old.queue) same_session in
      let sent = sends_one plain now o rest.unsent open_still (ap (λ os. os ++ o ∷ []) rest.outgoing) is_prompt_still
      (subst (λ c. SendsNext means format.text c now) is h.sent) in
      let bytes = datagram_of (texts format.text o.messages) o.destination in
      let posted_before : Some read.link.posted ≡ Some t.posted = h.reads_to.saw.posted in (
        followed.1,
        sent.is,
        record { waits = sent.waits ∙ reads.waits; prompt = sent.prompt },
        sent.posted ∙ ap (λ ps. ps ++ bytes) (unposted read.link.posted t.posted posted_before ∙ posted),
        sent.closings ∙ left.0,
      )

-- A request that was queued, polled once, is a batch that was sent.
pub sends_batch : (old c : RouteConn) (w w2 : Observers) (answer : Polled (Unit {0})) (now : RouteConn) (to : SocketAddr) (frames : List BatchFrame)
    (messages : List (NetlinkMessage Message)) (marks : List Bool) → AtRest old → old.closed ≡ false
    → messages ≡ messages_in format frames → marks ≡ marks_in format frames
    → IsQueued format.text format.fits old messages (Explicit marks) to c → Polls c w answer now w2
    → (w2 ≡ w) × SendsBatch to frames old now
sends_batch old c w w2 answer now to frames messages marks rest open_still messages_are marks_are queue h =
    let r : Request Message ℕ = next_request old messages (Explicit marks) to in
    let same : r ≡ batch_request old to frames =
    ap (λ ms. next_request old ms (Explicit marks) to) messages_are ∙ ap (λ ms. next_request old (messages_in format frames) (Explicit ms) to) marks_are in
    let sent = sent_one old old.link (old.queue ++ r ∷ []) (old.given_up ++ false ∷ []) w w2 answer now rest open_still
    (rest.closings open_still) rest.link.prompt (subst (λ k. Polls k w answer now w2) queue.queue h) r rest.link.waits rest.posted (ap (λ rs. rs ++ r ∷ []) rest.queue) in
    let count : used old ≡ old.session.last = ap (λ rs. old.session.last + requests_in rs) rest.queue ∙ add-zero old.session.last in (
      sent.0,
      record {
        in_range = subst (λ n. n + length (messages_in format frames) < 2 ^ 32) count (subst (λ ms. used old + length ms < 2 ^ 32) messages_are queue.in_range);
        fit = subst (λ ms. list_all (message_fits format.text format.fits) ms ≡ true) messages_are queue.fit;
        is = sent.1 ∙ ap (λ k. record old { link = now.link; session = without_outgoing (requested format.kind format.text old.session k); given_up = old.given_up ++ false ∷ [] }) same;
        link = sent.2;
        posted = sent.3 ∙ ap (λ ms. datagram_of (texts format.text (numbered format.kind format.text old.session.last ms)) to) messages_are;
        closings = sent.4;
      },
    )
