-- What the events of a record make of a mirror.
use Rattle.std.proofs.Common.{◌≡◌, ◌+◌, ◌&&◌, ◌==◌, ℕ, Bool, true, false, not, cond, List, [], ◌∷◌, ◌++◌, Option, Some, None, refl, sym, ◌∙◌, ap, subst, append_assoc}
use Rattle.std.specs.List.{AllByRecursion, filter}
use Rattle.std.proofs.lemmas.List.{append-nil}
use Rattle.nl_core.specs.declared.message.NetlinkMessage.{NetlinkMessage}
use Rattle.session_model.specs.declared.awaited.Awaited.{Awaited}
use Rattle.session_model.specs.declared.network.Network.{Network}
use Rattle.session_model.specs.declared.address.SocketAddr.{SocketAddr}
use Rattle.session_model.specs.declared.settings.Settings.{Settings}
use Rattle.session_model.specs.Events.{Event, Sent, Came, Unread, Leftover, Overran, Shut, Other, Arrival, Asked, overrun_arrival}
use Rattle.session_model.specs.Awaited.{awaited, batch_count, first_awaiting}
use Rattle.session_model.specs.Streams.{is_shut}
use Rattle.session_model.proofs.Places.{filter-all, filter-same}
use Rattle.proto_core.specs.Session.{Session, awaiting, handled, place_of}
use Rattle.proto_conn.specs.Reading.{Follows, after_event}
use Rattle.mirror_model.specs.Blocked.{blocked_at, newly_blocked, unblocks}
use Rattle.mirror_model.specs.Clean.{running_at}
use Rattle.mirror_model.specs.FiniteTables.{finite}
use Rattle.mirror_model.specs.Lookups.{routes_state}
use Rattle.mirror_model.specs.MirrorState.{MirrorState, step}
use Rattle.mirror_model.specs.RouteChanges.{route_reader}
use Rattle.mirror_model.specs.Routes.{RouteKey, NextHop, RouteTable, key_cmp}
use Rattle.mirror_model.specs.Sessions.{AsksAlone, Reader, answering_event, handled_as, handled_event, requests_dump, table_event, table_events}
use Rattle.mirror_model.specs.TableEvents.{TableEvent, DumpAsked, Lost, LinkClosed, Unrelated}
use Rattle.mirror_model.proofs.Blocked.{blocked_at-more}
use Rattle.mirror_model.proofs.Handled.{as_handled, grows}
use Rattle.mirror_model.proofs.Lists.{all_append}
use Rattle.mirror_model.proofs.Orderly.{orderly}
use Rattle.mirror_model.proofs.StateOfEvents.{afresh}
use Rattle.route_table.specs.Networks.{is_listed}
use Rattle.route_mirror.specs.Mirrors.{answered_by, handled_step, stepped}
use Rattle.route_mirror.specs.Values.{MirrorValue}
use Rattle.mirror.specs.declared.ledger.Ledger.{Ledger}
use Rattle.mirror.specs.Format.{Message}
use Rattle.mirror.specs.Runner.{Mirrors, readers}
use Rattle.mirror.proofs.Following.{Amid, FollowsAll, amid_one, unshut_parts}
use Rattle.mirror.proofs.Watched.{MirrorFollowsTo}
use Rattle.route_mirror.specs.Watching.{mirror_loses, mirror_overruns, mirror_sees}

-- What a session says of an arrival is what its place says.
answered_as : (a : Arrival Message) (o : Option (Awaited ℕ)) → answered_by (place_of a o) ≡ handled_as a.message o
answered_as a None = refl
answered_as a (Some w) = refl

-- Events that block and unblock nothing leave what is blocked.
pub plain_blocked : (es : List (Event Message)) (e : Event Message) → ((n : Network) → unblocks n e ≡ false) → newly_blocked e ≡ []
    → blocked_at (es ++ e ∷ []) ≡ blocked_at es
plain_blocked es e keeps none =
    blocked_at-more es e
    ∙ ap (λ ns. filter (λ n. not (unblocks n e)) (blocked_at es) ++ ns) none
    ∙ append-nil (filter (λ n. not (unblocks n e)) (blocked_at es))
    ∙ filter-same (λ n. not (unblocks n e)) (λ n. true) (λ n. ap not (keeps n)) (blocked_at es)
    ∙ filter-all (blocked_at es)

module _ (s : Settings) where
  abbrev r : Reader Message RouteKey NextHop
  r = route_reader s.peer s.table

  -- The state after events.
  abbrev state_at : List (Event Message) → MirrorState RouteTable
  state_at es = routes_state (readers s) s.start es

  abbrev step_of : TableEvent RouteKey NextHop → MirrorState RouteTable → MirrorState RouteTable
  step_of e m = step (finite key_cmp) e m

  -- A mirror that took the step of one event more, which blocks and unblocks nothing.
  pub stands_more : (es : List (Event Message)) (e : Event Message) (m now : MirrorValue) (t : TableEvent RouteKey NextHop) → now ≡ stepped t m
      → step_of t m.state ≡ step_of (table_event r s.start es e) m.state → ((n : Network) → unblocks n e ≡ false) → newly_blocked e ≡ []
      → Mirrors s es m → Mirrors s (es ++ e ∷ []) now
  stands_more es e m now t is same keeps none h = record {
    peer = ap (λ (v : MirrorValue). v.peer) is ∙ h.peer;
    table = ap (λ (v : MirrorValue). v.table) is ∙ h.table;
    state = ap (λ (v : MirrorValue). v.state) is ∙ same ∙ ap (step_of (table_event r s.start es e)) h.state
        ∙ sym (grows r s.start (finite key_cmp) es e);
    blocked = λ n. ap (λ (v : MirrorValue). is_listed n v.blocked) is ∙ h.blocked n
        ∙ ap (is_listed n) (sym (plain_blocked es e keeps none));
  }

  -- The dumps that run are those of the events.
  running : (es : List (Event Message)) → AllByRecursion (AsksAlone r) es → (m : MirrorValue) → Mirrors s es m
      → m.state.running ≡ running_at (finite key_cmp) (table_events r s.start es)
  running es alone m h =
      ap (λ (x : MirrorState RouteTable). x.running) h.state
      ∙ (afresh (finite key_cmp) (table_events r s.start es) (orderly r s.start es alone)).running

  -- A message that was taken in.
  came_one : (es : List (Event Message)) (m : NetlinkMessage Message) (source : SocketAddr) (session : Session Message ℕ)
      (before now : MirrorValue) → AllByRecursion (AsksAlone r) es
      → session.awaited ≡ awaited s.start es
      → now ≡ handled_step m source (handled (record { message = m; source = source }) session) before
      → Mirrors s es before → Mirrors s (es ++ Came m source ∷ []) now
  came_one es m source session before now alone waits is h =
      let a : Arrival Message = record { message = m; source = source } in
      let to = answered_by (handled a session).to in
      stands_more es (Came m source) before now (handled_event (route_reader before.peer before.table) m source to) is
      (ap (λ p. step_of (handled_event (route_reader p before.table) m source to) before.state) h.peer
      ∙ ap (λ q. step_of (handled_event (route_reader s.peer q) m source to) before.state) h.table
      ∙ ap (λ o. step_of (handled_event r m source o) before.state)
      (answered_as a (awaiting a session) ∙ ap (λ ws. handled_as m (first_awaiting m.header.sequence_number source.port ws)) waits)
      ∙ as_handled r s.start (finite key_cmp) es m source before.state (running es alone before h))
      (λ n. refl) refl h

  -- After a loss the message of an overrun changes nothing.
  after_loss : (to : Option (ℕ × Bool)) (peer table : ℕ) (m : MirrorState RouteTable)
      → step_of (handled_event (route_reader peer table) (overrun_arrival {M = Message}).message (overrun_arrival {M = Message}).source to) (step_of Lost m)
      ≡ step_of Lost m
  after_loss to peer table m = by (0 == peer) to
    where
      apart : (c : Bool) → step_of (cond {A = TableEvent RouteKey NextHop} c Unrelated Unrelated) (step_of Lost m) ≡ step_of Lost m
      apart true = refl
      apart false = refl

      by : (b : Bool) (to : Option (ℕ × Bool))
          → step_of (cond (b && true) Lost
          (answering_event (route_reader peer table) (overrun_arrival {M = Message}).message (overrun_arrival {M = Message}).source to)) (step_of Lost m)
          ≡ step_of Lost m
      by true to = refl
      by false None = apart (0 == peer)
      by false (Some p) = refl

  -- An overrun, and its message.
  overran_one : (es : List (Event Message)) (session : Session Message ℕ) (before mid now : MirrorValue) → mid ≡ stepped Lost before
      → now ≡ handled_step (overrun_arrival {M = Message}).message (overrun_arrival {M = Message}).source (handled overrun_arrival session) mid
      → Mirrors s es before → Mirrors s (es ++ Overran ∷ []) now
  overran_one es session before mid now lost is h =
      let m = (overrun_arrival {M = Message}).message in
      let source = (overrun_arrival {M = Message}).source in
      let to = answered_by (handled {T = Message} {M = ℕ} overrun_arrival session).to in
      stands_more es Overran before now Lost
      (is ∙ ap (λ (v : MirrorValue). stepped (handled_event (route_reader v.peer v.table) m source to) v) lost
      ∙ ap (λ x. let v : MirrorValue = record before { state = x } in v) (after_loss to before.peer before.table before.state))
      refl (λ n. refl) refl h

  -- One event more.
  follows_one : (es : List (Event Message)) (e : Event Message) (session : Session Message ℕ) (before now : MirrorValue)
      → AllByRecursion (AsksAlone r) es → session.awaited ≡ awaited s.start es → is_shut (e ∷ []) ≡ false
      → Follows mirror_sees mirror_loses mirror_overruns e session before true now
      → Mirrors s es before → Mirrors s (es ++ e ∷ []) now
  follows_one es (Came m source) session before now alone waits unshut f h = came_one es m source session before now alone waits f h
  follows_one es (Unread kind number source) session before now alone waits unshut f h =
      stands_more es (Unread kind number source) before now _ f.0
      (ap (λ p. step_of (table_event (route_reader p before.table) 0 [] (Unread kind 0 source)) before.state) h.peer)
      (λ n. refl) refl h
  follows_one es (Leftover count source) session before now alone waits unshut f h =
      stands_more es (Leftover count source) before now _ f.0
      (ap (λ p. step_of (table_event (route_reader p before.table) 0 [] (Leftover 0 source)) before.state) h.peer)
      (λ n. refl) refl h
  follows_one es Overran session before now alone waits unshut f h = overran_one es session before f.0 now f.1 f.2 h
  follows_one es Shut session before now alone waits unshut f h = cc
  follows_one es (Sent to frames) session before now alone waits unshut f h = absurd f
  follows_one es (Other aside) session before now alone waits unshut f h = absurd f

  -- What is read asks for no dump.
  read_alone : (e : Event Message) (session : Session Message ℕ) (before now : MirrorValue)
      → Follows mirror_sees mirror_loses mirror_overruns e session before true now → AsksAlone r e
  read_alone (Came m source) session before now f = tt
  read_alone (Unread kind number source) session before now f = tt
  read_alone (Leftover count source) session before now f = tt
  read_alone Overran session before now f = tt
  read_alone Shut session before now f = tt
  read_alone (Sent to frames) session before now f = absurd f
  read_alone (Other aside) session before now f = tt

  -- Events that don't close the link.
  pub mirror_more : (before done es : List (Event Message)) (session : Session Message ℕ) (w : Ledger) (m : MirrorValue)
      (s2 s3 : Session Message ℕ) (w2 : Ledger) (m2 : MirrorValue) → is_shut es ≡ false → AllByRecursion (AsksAlone r) (before ++ done)
      → FollowsAll session w es s2 w2 → MirrorFollowsTo session m es s3 m2 → Amid s before done session w
      → Mirrors s (before ++ done) m → Mirrors s ((before ++ done) ++ es) m2
  mirror_more before done [] session w m s2 s3 w2 m2 unshut alone hl hm amid h =
      subst (λ fs. Mirrors s fs m2) (sym (append-nil (before ++ done))) (subst (Mirrors s (before ++ done)) (sym hm.1) h)
  mirror_more before done (e ∷ es) session w m s2 s3 w2 m2 unshut alone hl hm amid h =
      let parts = unshut_parts e es unshut in
      let waits : session.awaited ≡ awaited s.start (before ++ done) = ap (λ (q : Session Message ℕ). q.awaited) amid.stands in
      let one = follows_one (before ++ done) e session m hm.0 alone waits parts.0 hm.1 h in
      let same : (before ++ done) ++ e ∷ [] ≡ before ++ (done ++ e ∷ []) = append_assoc before done (e ∷ []) in
      let all = all_append (AsksAlone r) (before ++ done) (e ∷ []) alone (read_alone e session m hm.0 hm.1, tt) in
      subst (λ fs. Mirrors s fs m2) (ap (λ fs. fs ++ es) (sym same) ∙ append_assoc (before ++ done) (e ∷ []) es)
      (mirror_more before (done ++ e ∷ []) es (after_event e session) hl.0 hm.0 s2 s3 w2 m2 parts.1
      (subst (AllByRecursion (AsksAlone r)) same all) hl.2 hm.2 (amid_one s before done e session w hl.0 parts.0 hl.1 amid)
      (subst (λ fs. Mirrors s fs hm.0) same one))

  -- A link that closed.
  pub closed_one : (es : List (Event Message)) (m now : MirrorValue) → now ≡ stepped LinkClosed m → Mirrors s es m
      → Mirrors s (es ++ Shut ∷ []) now
  closed_one es m now is h = stands_more es Shut m now LinkClosed is refl (λ n. refl) refl h

  -- A request that asks for no dump.
  pub sent_one : (es : List (Event Message)) (to : SocketAddr) (frames : List Asked) (m now : MirrorValue) → requests_dump r frames ≡ false
      → now ≡ m → Mirrors s es m → Mirrors s (es ++ Sent to frames ∷ []) now
  sent_one es to frames m now none is h =
      stands_more es (Sent to frames) m now Unrelated is
      (ap (λ b. step_of (cond {A = TableEvent RouteKey NextHop} b (DumpAsked (batch_count 0 es + 1)) Unrelated) m.state) (sym none))
      (λ n. refl) refl h

  -- A dump that is asked.
  pub asked_one : (es : List (Event Message)) (to : SocketAddr) (frames : List Asked) (streams : ℕ) (m now : MirrorValue)
      → requests_dump r frames ≡ true → streams ≡ batch_count 0 es → now ≡ stepped (DumpAsked (streams + 1)) m → Mirrors s es m
      → Mirrors s (es ++ Sent to frames ∷ []) now
  asked_one es to frames streams m now asks count is h =
      stands_more es (Sent to frames) m now (DumpAsked (streams + 1)) is
      (ap (λ n. step_of (DumpAsked (n + 1)) m.state) count
      ∙ ap (λ b. step_of (cond {A = TableEvent RouteKey NextHop} b (DumpAsked (batch_count 0 es + 1)) Unrelated) m.state) (sym asks))
      (λ n. refl) refl h
