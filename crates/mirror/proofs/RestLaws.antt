-- A connection is at rest again once a record is told, and how much the record brought at most.
use Rattle.std.proofs.Common.{◌≡◌, ◌+◌, ◌-◌, ◌<◌, ◌≤◌, ◌^◌, ℕ, zero, suc, Bool, false, List, [], ◌∷◌, ◌++◌, length, get_or, refl, sym, ◌∙◌, ap, subst, arith, add-zero}
use Rattle.session_model.specs.declared.address.SocketAddr.{SocketAddr}
use Rattle.session_model.specs.declared.settings.Settings.{Settings}
use Rattle.session_model.specs.declared.transcript.BatchFrame.{BatchFrame}
use Rattle.session_model.specs.declared.transcript.Record.{Record}
use Rattle.session_model.specs.declared.transcript.Record.TheVariants.{Recv, Overrun, Close, Batch, Resync, Block, Unblock, Lookup}
use Rattle.session_model.specs.Events.{Event, Overran, Shut, arrivals, datagram_events, record_events, resync_frames}
use Rattle.session_model.specs.Reported.{dropped_count}
use Rattle.session_model.specs.Streams.{is_shut}
use Rattle.proto_core.specs.Session.{Session}
use Rattle.proto_conn.specs.Conn.{gave_up}
use Rattle.session_laws.proofs.Amounts.{amount, datagram_few}
use Rattle.mirror.specs.declared.ledger.Ledger.{Ledger}
use Rattle.mirror.specs.Format.{IsEntry, Message, format}
use Rattle.mirror.specs.Polled.{AtRest, Receives, RouteConn, SendsBatch, emptied}
use Rattle.mirror.specs.Runner.{Brings, Requests, weight}
use Rattle.mirror.proofs.Following.{Arrived, followed_counts, followed_drops}

-- ---- what a record leaves of a connection

-- No stream of those that were given is given up, nor is the next one.
one_more_kept : (marks : List Bool) → ((stream : ℕ) → gave_up marks stream ≡ false) → (stream : ℕ) → gave_up (marks ++ false ∷ []) stream ≡ false
one_more_kept marks h stream = by marks (λ i. ap (λ j. get_or marks j false) (sym (back i)) ∙ h (i + 1)) (stream - 1)
  where
    back : (i : ℕ) → (i + 1) - 1 ≡ i
    back i = omega arith

    by : (xs : List Bool) → ((i : ℕ) → get_or xs i false ≡ false) → (i : ℕ) → get_or (xs ++ false ∷ []) i false ≡ false
    by [] g zero = refl
    by [] g (suc i) = refl
    by (x ∷ xs) g zero = g zero
    by (x ∷ xs) g (suc i) = by xs (λ j. g (suc j)) i

module _ (es : List (Event Message)) (old : RouteConn) (before : Ledger) (new : RouteConn) (now : Ledger) (rest : AtRest old)
    (h : Receives es old before new now) where
  counts : Arrived (length (arrivals es)) old.session h.session
  counts = followed_counts es old.session before h.session now h.followed

  closed_is : new.closed ≡ is_shut es
  closed_is = ap (λ (c : RouteConn). c.closed) h.is

  session_is : {A : Type 0} (f : Session Message ℕ → A) → f new.session ≡ f (record h.session { responses = []; incoming = [] })
  session_is f = ap (λ (c : RouteConn). f c.session) h.is

  -- After a record that receives.
  pub received_rests : AtRest (emptied new)
  received_rests = record {
    link = record { waits = h.link.waits; prompt = h.link.prompt };
    posted = refl;
    closings = λ e. (h.open_still (sym closed_is ∙ e)).0;
    waiting = λ e. (h.open_still (sym closed_is ∙ e)).1;
    unsent = ap (λ (c : RouteConn). c.unsent) h.is ∙ rest.unsent;
    queue = ap (λ (c : RouteConn). c.queue) h.is ∙ rest.queue;
    replies = refl;
    unsolicited = refl;
    responses = session_is (λ q. q.responses);
    incoming = session_is (λ q. q.incoming);
    outgoing = session_is (λ q. q.outgoing) ∙ counts.outgoing ∙ rest.outgoing;
    kept = λ stream. ap (λ (c : RouteConn). gave_up c.given_up stream) h.is ∙ rest.kept stream;
    takes_requests = ap (λ (c : RouteConn). c.requests_closed) h.is ∙ rest.takes_requests;
    requests_side = ap (λ (c : RouteConn). c.requests_gone) h.is ∙ rest.requests_side;
    unsolicited_side = ap (λ (c : RouteConn). c.unsolicited_gone) h.is ∙ rest.unsolicited_side;
  }

  -- The last number is as before.
  pub received_last : new.session.last ≡ old.session.last
  received_last = session_is (λ q. q.last) ∙ counts.last

  -- Each arrival is counted.
  pub received_count : new.session.arrived ≡ old.session.arrived + length (arrivals es)
  received_count = session_is (λ q. q.arrived) ∙ counts.arrived

-- After a batch.
sent_rests : (old new : RouteConn) (to : _) (frames : _) → AtRest old → SendsBatch to frames old new → AtRest (emptied new)
sent_rests old new to frames rest h =
    let is = h.is in
    record {
      link = record { waits = h.link.waits; prompt = h.link.prompt };
      posted = refl;
      closings = λ e. h.closings;
      waiting = λ e. ap (λ (c : RouteConn). c.waiting) is ∙ rest.waiting (sym (ap (λ (c : RouteConn). c.closed) is) ∙ e);
      unsent = ap (λ (c : RouteConn). c.unsent) is ∙ rest.unsent;
      queue = ap (λ (c : RouteConn). c.queue) is ∙ rest.queue;
      replies = refl;
      unsolicited = refl;
      responses = ap (λ (c : RouteConn). c.session.responses) is ∙ rest.responses;
      incoming = ap (λ (c : RouteConn). c.session.incoming) is ∙ rest.incoming;
      outgoing = ap (λ (c : RouteConn). c.session.outgoing) is;
      kept = λ stream. ap (λ (c : RouteConn). gave_up c.given_up stream) is ∙ one_more_kept old.given_up rest.kept stream;
      takes_requests = ap (λ (c : RouteConn). c.requests_closed) is ∙ rest.takes_requests;
      requests_side = ap (λ (c : RouteConn). c.requests_gone) is ∙ rest.requests_side;
      unsolicited_side = ap (λ (c : RouteConn). c.unsolicited_gone) is ∙ rest.unsolicited_side;
    }

-- ---- the counts of a record

-- After a record that is told the connection is at rest, its last number is in range, and the counts have grown by the record's weight at most.
pub record Settled (s : Settings) (r : Record) (old : RouteConn) (before : Ledger) (new : RouteConn) (now : Ledger) : Type 0 where
  pub rest : AtRest (emptied new)
  pub numbers : new.session.last < 2 ^ 32
  pub messages : new.session.arrived ≤ old.session.arrived + weight r
  pub dropped : now.dropped ≡ before.dropped + dropped_count (record_events format s r)
  pub few : dropped_count (record_events format s r) ≤ weight r

settled_by : (s : Settings) (r : Record) (es : List (Event Message)) (old : RouteConn) (before : Ledger) (new : RouteConn) (now : Ledger)
    → es ≡ record_events format s r
    → AtRest old → old.session.last < 2 ^ 32 → before.dropped < 2 ^ 63 → amount es ≤ weight r → weight r ≤ 65536
    → Receives es old before new now → Settled s r old before new now
settled_by s r es old before new now is rest low space few small h =
    let count = received_count es old before new now rest h in
    let last = received_last es old before new now rest h in
    record {
      rest = received_rests es old before new now rest h;
      numbers = subst (λ n. n < 2 ^ 32) (sym last) low;
      messages = more new.session.arrived old.session.arrived (length (arrivals es)) (dropped_count es) (weight r) count few;
      dropped = subst (λ fs. now.dropped ≡ before.dropped + dropped_count fs) is
          (followed_drops es old.session before h.session now h.followed (under before.dropped (length (arrivals es)) (dropped_count es) (weight r) space few small));
      few = subst (λ fs. dropped_count fs ≤ weight r) is (second (length (arrivals es)) (dropped_count es) (weight r) few);
    }
  where
    more : (x y a d w : ℕ) → x ≡ y + a → a + d ≤ w → x ≤ y + w
    more x y a d w e f = omega (arith, e, f)

    second : (a d w : ℕ) → a + d ≤ w → d ≤ w
    second a d w f = omega (arith, f)

    under : (b a d w : ℕ) → b < 2 ^ 63 → a + d ≤ w → w ≤ 65536 → b + d ≤ 2 ^ 64 - 1
    under b a d w e f g = omega (arith, e, f, g)

requests_settled : (s : Settings) (r : Record) (to : SocketAddr) (frames : List BatchFrame) (old : RouteConn) (before : Ledger) (new : RouteConn)
    (now : Ledger) → dropped_count (record_events format s r) ≡ 0 → AtRest old → Requests to frames old before new now → Settled s r old before new now
requests_settled s r to frames old before new now none rest h =
    let last = ap (λ (c : RouteConn). c.session.last) h.0.is in
    let count = ap (λ (c : RouteConn). c.session.arrived) h.0.is in
    record {
      rest = sent_rests old new to frames rest h.0;
      numbers = subst (λ n. n < 2 ^ 32) (sym last) h.0.in_range;
      messages = omega (arith, count);
      dropped = h.1.dropped ∙ sym (add-zero before.dropped) ∙ ap (λ n. before.dropped + n) (sym none);
      few = omega (arith, none);
    }

-- What a record brings leaves its connection at rest, and its counts grow within the record's weight.
pub settled : (s : Settings) (r : Record) (old : RouteConn) (before : Ledger) (new : RouteConn) (now : Ledger) → IsEntry r → AtRest old
    → old.session.last < 2 ^ 32 → before.dropped < 2 ^ 63 → Brings s r old before new now → Settled s r old before new now
settled s (Recv source bytes) old before new now entry rest low space h =
    settled_by s (Recv source bytes) (datagram_events format source bytes) old before new now refl rest low space (datagram_few format source bytes) entry.0.2 h
settled s Overrun old before new now entry rest low space h =
    settled_by s Overrun (Overran ∷ []) old before new now refl rest low space (omega arith) (omega arith) h
settled s Close old before new now entry rest low space h =
    settled_by s Close (Shut ∷ []) old before new now refl rest low space (omega arith) (omega arith) h
settled s (Batch to frames) old before new now entry rest low space h = requests_settled s (Batch to frames) to frames old before new now refl rest h
settled s Resync old before new now entry rest low space h =
    requests_settled s Resync (record { port = s.peer; groups = 0 }) resync_frames old before new now refl rest h
settled s (Block n) old before new now entry rest low space h = absurd h
settled s (Unblock n) old before new now entry rest low space h = absurd h
settled s (Lookup a) old before new now entry rest low space h = absurd h
