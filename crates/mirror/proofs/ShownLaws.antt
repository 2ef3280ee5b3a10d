-- What a record of the link makes of a mirror.
use Rattle.std.proofs.Common.{◌≡◌, ◌&&◌, ℕ, Bool, true, false, List, [], ◌∷◌, ◌++◌, length, Some, refl, sym, ◌∙◌, ap, subst}
use Rattle.std.specs.List.{AllByRecursion}
use Rattle.std.proofs.lemmas.List.{append-nil}
use Rattle.session_model.specs.declared.settings.Settings.{Settings}
use Rattle.session_model.specs.declared.transcript.Record.{Record}
use Rattle.session_model.specs.declared.transcript.Record.TheVariants.{Recv, Overrun, Close, Batch, Resync, Block, Unblock, Lookup}
use Rattle.session_model.specs.Events.{Event, OfRoutes, Sent, Came, Unread, Leftover, Overran, Shut, Other, asked, asked_for, datagram_events, record_events, resync_frames}
use Rattle.session_model.specs.SessionText.{text_of_events}
use Rattle.session_model.specs.Streams.{is_shut}
use Rattle.proto_core.specs.Session.{Session}
use Rattle.proto_conn.specs.Reading.{after_event}
use Rattle.session_laws.proofs.Amounts.{datagram_open}
use Rattle.mirror_model.specs.Clean.{is_in_step_at}
use Rattle.mirror_model.specs.FiniteTables.{finite}
use Rattle.mirror_model.specs.Lookups.{routes_state}
use Rattle.mirror_model.specs.MirrorState.{is_in_step}
use Rattle.mirror_model.specs.RouteChanges.{route_reader}
use Rattle.mirror_model.specs.Routes.{key_cmp}
use Rattle.mirror_model.specs.Sessions.{AsksAlone, table_events}
use Rattle.mirror_model.proofs.Orderly.{orderly}
use Rattle.mirror_model.proofs.Records.{batch_asks_none, records_alone}
use Rattle.mirror_model.proofs.StateOfEvents.{afresh}
use Rattle.mirror_model.specs.Clean.{IsStateAt}
use Rattle.route_mirror.specs.Values.{MirrorValue}
use Rattle.mirror.specs.declared.ledger.Ledger.{Ledger}
use Rattle.mirror.specs.declared.runner.Runner.{Runner}
use Rattle.mirror.specs.Format.{Message, format}
use Rattle.mirror.specs.Polled.{Receives, RouteConn}
use Rattle.mirror.specs.Runner.{Brings, MirrorStands, Mirrors, Shows, Tracks, added_text, events, is_in_step_after, readers}
use Rattle.mirror.proofs.MirrorLaws.{asked_one, closed_one, mirror_more, sent_one}
use Rattle.mirror.proofs.ResyncLaws.{resync_asks}
use Rattle.mirror.proofs.StepLaws.{Before, amid_begins}
use Rattle.mirror.proofs.Watched.{MirrorFollowsTo}

-- ---- the peer

follows_peer : (es : List (Event Message)) (s : Session Message ℕ) (m : MirrorValue) (s2 : Session Message ℕ) (m2 : MirrorValue)
    → MirrorFollowsTo s m es s2 m2 → m2.peer ≡ m.peer
follows_peer [] s m s2 m2 h = ap (λ (v : MirrorValue). v.peer) h.1
follows_peer (Came message source ∷ es) s m s2 m2 h =
    follows_peer es (after_event (Came message source) s) h.0 s2 m2 h.2 ∙ ap (λ (v : MirrorValue). v.peer) h.1
follows_peer (Unread kind number source ∷ es) s m s2 m2 h =
    follows_peer es (after_event (Unread kind number source) s) h.0 s2 m2 h.2 ∙ ap (λ (v : MirrorValue). v.peer) h.1.0
follows_peer (Leftover n source ∷ es) s m s2 m2 h =
    follows_peer es (after_event (Leftover n source) s) h.0 s2 m2 h.2 ∙ ap (λ (v : MirrorValue). v.peer) h.1.0
follows_peer (Overran ∷ es) s m s2 m2 h =
    follows_peer es (after_event Overran s) h.0 s2 m2 h.2 ∙ ap (λ (v : MirrorValue). v.peer) h.1.2 ∙ ap (λ (v : MirrorValue). v.peer) h.1.1
follows_peer (Shut ∷ es) s m s2 m2 h = follows_peer es (after_event Shut s) h.0 s2 m2 h.2 ∙ ap (λ (v : MirrorValue). v.peer) h.1.0
follows_peer (Sent to frames ∷ es) s m s2 m2 h = absurd h.1
follows_peer (Other aside ∷ es) s m s2 m2 h = absurd h.1

-- A record leaves the peer of a mirror.
pub shown_peer : (r : Record) (old : RouteConn) (before now : MirrorValue) → Shows r old before now → now.peer ≡ before.peer
shown_peer (Recv source bytes) old before now h = follows_peer (datagram_events format source bytes) old.session before h.0 now h.1
shown_peer Overrun old before now h = follows_peer (Overran ∷ []) old.session before h.0 now h.1
shown_peer Close old before now h = ap (λ (v : MirrorValue). v.peer) h
shown_peer (Batch to frames) old before now h = ap (λ (v : MirrorValue). v.peer) h
shown_peer Resync old before now h = ap (λ (v : MirrorValue). v.peer) h
shown_peer (Block n) old before now h = absurd h
shown_peer (Unblock n) old before now h = absurd h
shown_peer (Lookup a) old before now h = absurd h

-- ---- the state

module _ (s : Settings) (rs : List Record) where
  -- The dumps of records are asked alone.
  pub alone : AllByRecursion (AsksAlone (route_reader s.peer s.table)) (events s rs)
  alone = records_alone (route_reader s.peer s.table) format s rs

  module _ (old : RouteConn) (before : Ledger) (b : Before s rs old before) (new : RouteConn) (now : Ledger) (m m2 : MirrorValue) where
    reads_more : (es : List (Event Message)) → is_shut es ≡ false → Receives es old before new now
        → (left : Session Message ℕ) → MirrorFollowsTo old.session m es left m2 → Mirrors s (events s rs) m → Mirrors s (events s rs ++ es) m2
    reads_more es unshut h left f stands =
        let same : events s rs ++ [] ≡ events s rs = append-nil (events s rs) in
        subst (λ fs. Mirrors s (fs ++ es) m2) same
        (mirror_more s (events s rs) [] es old.session before m h.session left now m2 unshut
        (subst (AllByRecursion (AsksAlone (route_reader s.peer s.table))) (sym same) alone) h.followed f
        (amid_begins s rs old before b) (subst (λ fs. Mirrors s fs m) (sym same) stands))

    -- What a record that is taken makes of a mirror that stood as the records before it left it.
    pub shown_mirror : (r : Record) → Brings s r old before new now → Shows r old m m2 → Mirrors s (events s rs) m
        → Mirrors s (events s rs ++ record_events format s r) m2
    shown_mirror (Recv source bytes) h f stands =
        reads_more (datagram_events format source bytes) (datagram_open format source bytes) h f.0 f.1 stands
    shown_mirror Overrun h f stands = reads_more (Overran ∷ []) refl h f.0 f.1 stands
    shown_mirror Close h f stands = closed_one s (events s rs) m m2 f stands
    shown_mirror (Batch to frames) h f stands =
        sent_one s (events s rs) to (asked format frames) m m2 (batch_asks_none (route_reader s.peer s.table) format s frames) f stands
    shown_mirror Resync h f stands =
        asked_one s (events s rs) (record { port = s.peer; groups = 0 }) (asked_for format (Some OfRoutes) resync_frames) (length old.given_up) m m2
        (resync_asks s.peer s.table) b.stands.streams f stands
    shown_mirror (Block n) h f stands = absurd h
    shown_mirror (Unblock n) h f stands = absurd h
    shown_mirror (Lookup a) h f stands = absurd h

  -- A record of the link adds its session's text alone.
  pub of_session : (r : Record) (old : RouteConn) (before : Ledger) (new : RouteConn) (now : Ledger) → Brings s r old before new now
      → text_of_events format s (events s rs) (record_events format s r) ≡ added_text s rs r
  of_session (Recv source bytes) old before new now h = sym (append-nil _)
  of_session Overrun old before new now h = sym (append-nil _)
  of_session Close old before new now h = sym (append-nil _)
  of_session (Batch to frames) old before new now h = sym (append-nil _)
  of_session Resync old before new now h = sym (append-nil _)
  of_session (Block n) old before new now h = absurd h
  of_session (Unblock n) old before new now h = absurd h
  of_session (Lookup a) old before new now h = absurd h

  and_true : (b : Bool) → (b && true) ≡ b
  and_true true = refl
  and_true false = refl

  is_afresh : IsStateAt (finite key_cmp) (table_events (route_reader s.peer s.table) s.start (events s rs)) (routes_state (readers s) s.start (events s rs))
  is_afresh = afresh (finite key_cmp) (table_events (route_reader s.peer s.table) s.start (events s rs))
      (orderly (route_reader s.peer s.table) s.start (events s rs) alone)

  -- A mirror says whether it is in step as the definitions do.
  pub in_step_is : (m : MirrorValue) → Mirrors s (events s rs) m → is_in_step m.state ≡ is_in_step_after s rs
  in_step_is m h =
      ap is_in_step h.state ∙ is_afresh.in_step
      ∙ sym (and_true (is_in_step_at (table_events (route_reader s.peer s.table) s.start (events s rs))))

  -- The mirror of a runner stands as its records leave it.
  pub mirror_stands : (runner : Runner) (m : MirrorValue) → m ≡ runner.observers.mirror → Tracks s rs runner → MirrorStands s rs m
  mirror_stands runner m is h = subst (MirrorStands s rs) (sym is) (record {
    stands = h.mirror;
    afresh = subst (IsStateAt (finite key_cmp) (table_events (route_reader s.peer s.table) s.start (events s rs))) (sym h.mirror.state) is_afresh;
  })
