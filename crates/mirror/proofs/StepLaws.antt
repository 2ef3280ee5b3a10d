-- What a record that is taken leaves: the connection, the open streams and its text.
use Rattle.std.proofs.Common.{◌≡◌, ◌+◌, ◌<◌, ◌==◌, ◌^◌, ℕ, Bool, true, false, cond, List, [], ◌∷◌, ◌++◌, length, Option, Some, None, flat_map, refl, sym, ◌∙◌, ap, subst}
use Rattle.std.proofs.Math.Bool.{or-false}
use Rattle.std.specs.List.{list_any}
use Rattle.std.specs.List.Sorted.{IsStrictlySortedBy}
use Rattle.std.specs.Map.{lookup}
use Rattle.std.specs.BTreeMap.{get, is_at, keys}
use Rattle.std.specs.BTreeSet.{insert_key}
use Rattle.std.specs.Ordering.{nat_cmp}
use Rattle.std.proofs.lemmas.List.{append-nil, length-append}
use Rattle.std.proofs.lemmas.List.Folds.{list_any-append}
use Rattle.session_model.specs.declared.address.SocketAddr.{SocketAddr}
use Rattle.session_model.specs.declared.settings.Settings.{Settings}
use Rattle.session_model.specs.declared.transcript.BatchFrame.{BatchFrame}
use Rattle.session_model.specs.declared.transcript.Record.{Record}
use Rattle.session_model.specs.declared.transcript.Record.TheVariants.{Recv, Overrun, Close, Batch, Resync, Block, Unblock, Lookup}
use Rattle.session_model.specs.Awaited.{batch_count, last_number, numbered}
use Rattle.session_model.specs.Causes.{all_fit, numbers_of, refusal}
use Rattle.session_model.specs.Events.{DumpKind, Event, OfRoutes, Overran, Sent, Shut, asked_for, datagram_events, record_events, resync_frames}
use Rattle.session_model.specs.SessionText.{closed_line, sent_line, text_of_events}
use Rattle.session_model.specs.Streams.{is_shut, shuts}
use Rattle.session_model.proofs.Places.{batch_count-append}
use Rattle.proto_core.specs.Session.{Session, requested}
use Rattle.proto_core.specs.declared.request.ExpectResponse.TheVariants.{Explicit}
use Rattle.proto_core.specs.declared.request.Request.{Request}
use Rattle.proto_conn.specs.Conn.{handed_on}
use Rattle.proto_conn.specs.Sending.{datagram_of, texts}
use Rattle.session_laws.specs.After.{drained, incoming_lines, response_lines, session_after, without_outgoing}
use Rattle.session_laws.specs.Counts.{Counts}
use Rattle.session_laws.specs.Requests.{marked, marks_in, messages_in, Opens}
use Rattle.session_laws.proofs.Amounts.{datagram_open}
use Rattle.session_laws.proofs.Rising.{rises}
use Rattle.session_laws.proofs.Stages.{received_text}
use Rattle.session_laws.proofs.RecordEnds.{begun, shut_counts, shut_session, shut_shut, shut_streams, shut_text}
use Rattle.session_laws.proofs.WholeBatches.{batch_line, batch_text, counts_sent, request, session_asked}
use Rattle.mirror.specs.declared.ledger.Ledger.{Ledger}
use Rattle.mirror.specs.Format.{IsEntry, Message, format}
use Rattle.mirror.specs.Ledger.{awaited_at, closes}
use Rattle.mirror.specs.Polled.{AtRest, IsTold, Receives, RouteConn, batch_request, closing_streams, emptied, handed_line, handed_text, posted_line}
use Rattle.mirror.specs.Runner.{Brings, Requests, Stands, events}
use Rattle.mirror.proofs.Following.{Amid, FollowsAll, amid_more}
use Rattle.mirror.proofs.HandedLaws.{datagram_text, replies_text}
use Rattle.mirror.proofs.RecordLaws.{batch_free, has_entry, has_keys, taken_free}
use Rattle.mirror.proofs.ResyncLaws.{resync_free}

-- The request of a batch, after so many streams.
abbrev asked_at : SocketAddr → List BatchFrame → ℕ → Request Message ℕ
asked_at to frames streams = record {
  metadata = streams + 1;
  messages = messages_in format frames;
  destination = to;
  expect_response = Explicit (marks_in format frames);
}

-- What a record of the link that is taken leaves of its events, once it is told.
pub record Applies (s : Settings) (rs : List Record) (r : Record) (es : List (Event Message)) (new : RouteConn) (now told : Ledger)
    : Type 0 where
  pub stands : Stands s (events s rs ++ es) (emptied new)
  pub counts : Counts (awaited_at told) s.start (events s rs ++ es)
  pub text : handed_text s new now ≡ text_of_events format s (events s rs) es
  pub free : refusal format s (events s rs) r ≡ None

-- A runner before a record: at rest, with what it has taken, and an open link.
pub record Before (s : Settings) (rs : List Record) (old : RouteConn) (before : Ledger) : Type 0 where
  pub rest : AtRest old
  pub low : old.session.last < 2 ^ 32
  pub closing : before.closing.keys ≡ []
  pub stands : Stands s (events s rs) old
  pub counts : Counts (awaited_at before) s.start (events s rs)
  pub open_still : old.closed ≡ false

module _ (s : Settings) (rs : List Record) (old : RouteConn) (before : Ledger) (b : Before s rs old before) where
  unshut : is_shut (events s rs) ≡ false
  unshut = sym b.stands.closed ∙ b.open_still

  -- A record begins amid none of its events.
  pub amid_begins : Amid s (events s rs) [] old.session before
  amid_begins =
      subst (λ q. Amid s (events s rs) [] q before) (sym b.stands.session)
      (begun format s (events s rs) (session_after s.start (events s rs)) (awaited_at before) (closes before) refl b.counts unshut
      (λ k. ap (list_any (is_at (nat_cmp k))) b.closing))

  -- The text of a connection and a ledger, by its parts.
  told_text : (new : RouteConn) (now : Ledger) (sent unsolicited replies : List ℕ) (shut : Bool) → flat_map posted_line new.link.posted ≡ sent
      → incoming_lines format new.unsolicited ≡ unsolicited → flat_map (handed_line s) new.replies ≡ replies → new.closed ≡ shut
      → handed_text s new now ≡ sent ++ (unsolicited ++ (replies ++ flat_map closed_line (closing_streams shut now)))
  told_text new now sent unsolicited replies shut a c d e =
      let closed = closing_streams new.closed now in
      ap (λ t. t ++ (incoming_lines format new.unsolicited ++ (flat_map (handed_line s) new.replies ++ flat_map closed_line closed))) a
      ∙ ap (λ t. sent ++ (t ++ (flat_map (handed_line s) new.replies ++ flat_map closed_line closed))) c
      ∙ ap (λ t. sent ++ (unsolicited ++ (t ++ flat_map closed_line closed))) d
      ∙ ap (λ k. sent ++ (unsolicited ++ (replies ++ flat_map closed_line (closing_streams k now)))) e

  module _ (es : List (Event Message)) (new : RouteConn) (now told : Ledger) (h : Receives es old before new now)
      (t : IsTold new.closed now told) where
    closed_is : new.closed ≡ is_shut es
    closed_is = ap (λ (c : RouteConn). c.closed) h.is

    replies_is : flat_map (handed_line s) new.replies ≡ response_lines format s h.session.responses
    replies_is =
        ap (λ (c : RouteConn). flat_map (handed_line s) c.replies) h.is
        ∙ ap (λ f. flat_map (handed_line s) (handed_on f old.given_up h.session.responses)) b.stands.forward
        ∙ replies_text s old.given_up h.session.responses b.rest.kept

    unsolicited_is : incoming_lines format new.unsolicited ≡ incoming_lines format h.session.incoming
    unsolicited_is = ap (λ (c : RouteConn). incoming_lines format c.unsolicited) h.is

    posted_is : flat_map posted_line new.link.posted ≡ []
    posted_is = ap (flat_map posted_line) h.posted

    -- A datagram or an overrun.
    receives_open : (r : Record) → is_shut es ≡ false → numbers_of r ≡ 0 → all_fit format r ≡ true → Applies s rs r es new now told
    receives_open r open_es none fits =
        let stage = amid_more s (events s rs) es [] old.session before h.session now open_es h.followed amid_begins in
        let told_here : IsTold false now told = subst (λ k. IsTold k now told) (closed_is ∙ open_es) t in
        record {
          stands = record {
            session = ap (λ (c : RouteConn). c.session) h.is ∙ stage.stands;
            streams = ap (λ (c : RouteConn). length c.given_up) h.is ∙ b.stands.streams ∙ sym stage.streams;
            forward = ap (λ (c : RouteConn). c.forward) h.is ∙ b.stands.forward;
            closed = closed_is ∙ open_es ∙ sym stage.unshut;
          };
          counts = λ k. ap (λ m. get nat_cmp m k) told_here.left ∙ stage.counts k;
          text = told_text new now [] (incoming_lines format h.session.incoming) (response_lines format s h.session.responses) false
              posted_is unsolicited_is replies_is (closed_is ∙ open_es)
              ∙ received_text format s (events s rs) es (drained h.session) (awaited_at now) (closes now) (incoming_lines format h.session.incoming)
              (response_lines format s h.session.responses) now.closing.keys stage (rises now.closing.keys told_here.rising) (has_keys now.closing.keys);
          free = taken_free s rs r old b.stands b.open_still b.low none fits;
        }

    -- A close.
    closes_all : es ≡ Shut ∷ [] → Applies s rs Close (Shut ∷ []) new now told
    closes_all is =
        let followed = subst (λ fs. FollowsAll old.session before fs h.session now) is h.followed in
        let same : now ≡ before = followed.2.1 ∙ followed.1.0 in
        let session : h.session ≡ old.session = followed.2.0 in
        let shut : new.closed ≡ true = closed_is ∙ ap is_shut is in
        let told_here : IsTold true now told = subst (λ k. IsTold k now told) shut t in
        let rising : IsStrictlySortedBy nat_cmp (keys before.open_streams) = subst (λ l. IsStrictlySortedBy nat_cmp (keys l.open_streams)) same told_here.open_rising in
        record {
          stands = record {
            session = ap (λ (c : RouteConn). c.session) h.is ∙ ap drained session ∙ ap drained b.stands.session ∙ sym (shut_session format s (events s rs));
            streams = ap (λ (c : RouteConn). length c.given_up) h.is ∙ b.stands.streams ∙ sym (shut_streams format s (events s rs));
            forward = ap (λ (c : RouteConn). c.forward) h.is ∙ b.stands.forward;
            closed = shut ∙ sym (shut_shut format s (events s rs));
          };
          counts = shut_counts format s (events s rs) (awaited_at told) (λ k. ap (lookup (is_at (nat_cmp k))) told_here.none);
          text = told_text new now [] [] [] true posted_is
              (unsolicited_is ∙ ap (λ q. incoming_lines format q.incoming) session ∙ ap (incoming_lines format) b.rest.incoming)
              (replies_is ∙ ap (λ q. response_lines format s q.responses) session ∙ ap (response_lines format s) b.rest.responses) shut
              ∙ ap (λ l. flat_map closed_line (l.closing.keys ++ keys l.open_streams)) same
              ∙ ap (λ ks. flat_map closed_line (ks ++ keys before.open_streams)) b.closing
              ∙ shut_text format s (events s rs) (awaited_at before) (keys before.open_streams) b.counts (rises (keys before.open_streams) rising)
              (has_entry before.open_streams.entries);
          free = taken_free s rs Close old b.stands b.open_still b.low refl refl;
        }

  -- A request: its frames, and which dump they ask for.
  sends_all : (r : Record) (to : SocketAddr) (d : Option DumpKind) (frames : List BatchFrame) (new : RouteConn) (now told : Ledger)
      → refusal format s (events s rs) r ≡ None → Requests to frames old before new now → IsTold new.closed now told
      → Applies s rs r (Sent to (asked_for format d frames) ∷ []) new now told
  sends_all r to d frames new now told free q t =
      let h = q.0 in
      let o = q.1 in
      let es : List (Event Message) = Sent to (asked_for format d frames) ∷ [] in
      let n = marked (marks_in format frames) in
      let stream = batch_count 0 (events s rs) + 1 in
      let open_now : new.closed ≡ false = ap (λ (c : RouteConn). c.closed) h.is ∙ b.open_still in
      let told_here : IsTold false now told = subst (λ k. IsTold k now told) open_now t in
      let asks : batch_request old to frames ≡ request format s (events s rs) to d frames = ap (asked_at to frames) b.stands.streams in
      let last : old.session.last ≡ last_number s.start (events s rs) = ap (λ (q : Session Message ℕ). q.last) b.stands.session in
      let line = sent_line {M = Message} (last_number s.start (events s rs)) (Sent to (asked_for format d frames)) in
      record {
        stands = record {
          session = ap (λ (c : RouteConn). c.session) h.is ∙ ap (λ r. without_outgoing (requested format.kind format.text old.session r)) asks
              ∙ (session_asked format s (events s rs) to d frames old.session b.stands.session).0;
          streams = ap (λ (c : RouteConn). length c.given_up) h.is ∙ length-append old.given_up (false ∷ []) ∙ ap (λ k. k + 1) b.stands.streams
              ∙ sym (batch_count-append 0 (events s rs) es);
          forward = ap (λ (c : RouteConn). c.forward) h.is ∙ b.stands.forward;
          closed = ap (λ (c : RouteConn). c.closed) h.is ∙ b.stands.closed ∙ sym (list_any-append shuts (events s rs) es ∙ or-false (is_shut (events s rs)));
        };
        counts = λ k. ap (λ m. get nat_cmp m k) told_here.left
            ∙ counts_sent format s (events s rs) to d frames (awaited_at before) (awaited_at now) unshut b.counts
            (subst (λ i. Opens (i + 1) n (awaited_at before) (awaited_at now)) b.stands.streams o.opens) k;
        text = told_text new now line [] [] false
            (ap (flat_map posted_line) h.posted
            ∙ ap (λ i. flat_map posted_line (datagram_of (texts format.text (numbered format.kind format.text i (messages_in format frames))) to)) last
            ∙ datagram_text to (numbered format.kind format.text (last_number s.start (events s rs)) (messages_in format frames))
            ∙ batch_line format s (events s rs) to d frames)
            (ap (λ (c : RouteConn). incoming_lines format c.unsolicited) h.is ∙ ap (incoming_lines format) b.rest.unsolicited)
            (ap (λ (c : RouteConn). flat_map (handed_line s) c.replies) h.is ∙ ap (flat_map (handed_line s)) b.rest.replies) open_now
            ∙ ap (λ ks. line ++ flat_map closed_line ks) (o.closing
            ∙ ap (λ ks. cond (n == 0) (insert_key nat_cmp ks (length old.given_up + 1)) ks) b.closing
            ∙ ap (λ i. cond (n == 0) ((i + 1) ∷ []) []) b.stands.streams)
            ∙ ap (λ u. line ++ u) (one_closed (n == 0) stream)
            ∙ batch_text format s (events s rs) to d frames unshut;
        free = free;
      }
    where
      one_closed : (k : Bool) (i : ℕ) → flat_map closed_line (cond k (i ∷ []) []) ≡ cond k (closed_line i) []
      one_closed true i = append-nil (closed_line i)
      one_closed false i = refl

  -- What a record of the link that is taken leaves.
  pub applies : (r : Record) (new : RouteConn) (now told : Ledger) → IsEntry r → Brings s r old before new now → IsTold new.closed now told
      → Applies s rs r (record_events format s r) new now told
  applies (Recv source bytes) new now told entry h t =
      receives_open (datagram_events format source bytes) new now told h t (Recv source bytes) (datagram_open format source bytes) refl refl
  applies Overrun new now told entry h t = receives_open (Overran ∷ []) new now told h t Overrun refl refl refl
  applies Close new now told entry h t = closes_all (Shut ∷ []) new now told h t refl
  applies (Batch to frames) new now told entry h t =
      sends_all (Batch to frames) to None frames new now told (batch_free s rs to frames old b.stands b.open_still entry h.0.in_range h.0.fit) h t
  applies Resync new now told entry h t =
      sends_all Resync (record { port = s.peer; groups = 0 }) (Some OfRoutes) resync_frames new now told
      (resync_free s rs old b.stands b.open_still h.0.in_range) h t
  applies (Block n) new now told entry h t = absurd h
  applies (Unblock n) new now told entry h t = absurd h
  applies (Lookup a) new now told entry h t = absurd h
