-- What events do to a session and a ledger, one after another.
use Rattle.std.proofs.Common.{◌≡◌, ◌+◌, ◌-◌, ◌≤◌, ◌^◌, ◌||◌, ℕ, suc, Bool, true, false, List, [], ◌∷◌, ◌++◌, length, min, Option, Some, None, refl, sym, ◌∙◌, ap, subst, append_assoc, arith, add-zero}
use Rattle.std.proofs.lemmas.List.{append-nil, length-append}
use Rattle.session_model.specs.declared.awaited.Awaited.{Awaited}
use Rattle.session_model.specs.declared.settings.Settings.{Settings}
use Rattle.session_model.specs.Events.{Event, Sent, Came, Unread, Leftover, Overran, Shut, Other, Arrival, arrival_of, arrivals, overrun_arrival}
use Rattle.session_model.specs.Reported.{drops, dropped_count}
use Rattle.session_model.specs.Streams.{is_shut}
use Rattle.proto_core.specs.Session.{Session, arrived_at, awaiting, replied}
use Rattle.proto_conn.specs.Reading.{Follows, Followed, after_event, takes}
use Rattle.session_laws.specs.After.{drained, incoming_lines, response_lines}
use Rattle.session_laws.specs.Stage.{Stage}
use Rattle.session_laws.proofs.Received.{came, overran, unread}
use Rattle.session_laws.proofs.Received.{leftover as leftover_brings}
use Rattle.session_laws.proofs.Stages.{passed, received}
use Rattle.mirror.specs.declared.ledger.Ledger.{Ledger}
use Rattle.mirror.specs.Format.{Message, format}
use Rattle.mirror.specs.Ledger.{awaited_at, closes, ledger_loses, ledger_overruns, ledger_sees}

-- What a ledger makes of one event, and of events in order.
abbrev pub FollowsOne : Event Message → Session Message ℕ → Ledger → Ledger → Type 0
FollowsOne e session before now = Follows ledger_sees ledger_loses ledger_overruns e session before true now

abbrev pub FollowsAll : Session Message ℕ → Ledger → List (Event Message) → Session Message ℕ → Ledger → Type 0
FollowsAll = Followed ledger_sees ledger_loses ledger_overruns

-- ---- what stays, and what is counted

-- From one session to another only replies and messages came: so many.
pub record Arrived (n : ℕ) (old new : Session Message ℕ) : Type 0 where
  pub outgoing : new.outgoing ≡ old.outgoing
  pub last : new.last ≡ old.last
  pub arrived : new.arrived ≡ old.arrived + n

replied_one : (a : Arrival Message) (s : Session Message ℕ) (o : Option (Awaited ℕ)) → Arrived 1 s (replied a s o)
replied_one a s None = record { outgoing = refl; last = refl; arrived = refl }
replied_one a s (Some w) = record { outgoing = refl; last = refl; arrived = refl }

arrived_all : (arrived : List (Arrival Message)) (s : Session Message ℕ) → Arrived (length arrived) s (takes arrived s)
arrived_all [] s = record { outgoing = refl; last = refl; arrived = sym (add-zero s.arrived) }
arrived_all (a ∷ more) s =
    let one = replied_one a s (awaiting a s) in
    let rest = arrived_all more (arrived_at a s) in
    record {
      outgoing = rest.outgoing ∙ one.outgoing;
      last = rest.last ∙ one.last;
      arrived = plain (takes more (arrived_at a s)).arrived (arrived_at a s).arrived s.arrived (length more) rest.arrived one.arrived;
    }
  where
    plain : (z y x n : ℕ) → z ≡ y + n → y ≡ x + 1 → z ≡ x + suc n
    plain z y x n h k = omega arith

-- Events change neither the last number nor what is to be sent, and each arrival is counted.
pub followed_counts : (es : List (Event Message)) (s : Session Message ℕ) (w : Ledger) (s2 : Session Message ℕ) (w2 : Ledger)
    → FollowsAll s w es s2 w2 → Arrived (length (arrivals es)) s s2
followed_counts [] s w s2 w2 h = record {
  outgoing = ap (λ (q : Session Message ℕ). q.outgoing) h.0;
  last = ap (λ (q : Session Message ℕ). q.last) h.0;
  arrived = ap (λ (q : Session Message ℕ). q.arrived) h.0 ∙ sym (add-zero s.arrived);
}
followed_counts (e ∷ es) s w s2 w2 h =
    let one = arrived_all (arrival_of e) s in
    let rest = followed_counts es (after_event e s) h.0 s2 w2 h.2 in
    record {
      outgoing = rest.outgoing ∙ one.outgoing;
      last = rest.last ∙ one.last;
      arrived = plain s2.arrived (after_event e s).arrived s.arrived (length (arrival_of e)) (length (arrivals es)) (length (arrivals (e ∷ es)))
          rest.arrived one.arrived (length-append (arrival_of e) (arrivals es));
    }
  where
    plain : (z y x n m k : ℕ) → z ≡ y + m → y ≡ x + n → k ≡ n + m → z ≡ x + k
    plain z y x n m k h g l = omega arith

drop_one : (n : ℕ) → n + 1 ≤ 2 ^ 64 - 1 → min (n + 1) (2 ^ 64 - 1) ≡ n + 1
drop_one n h = omega arith

followed_drop : (e : Event Message) (s : Session Message ℕ) (w w2 : Ledger) → FollowsOne e s w w2
    → w.dropped + drops e ≤ 2 ^ 64 - 1 → w2.dropped ≡ w.dropped + drops e
followed_drop (Came m source) s w w2 h low = (h refl).1 ∙ sym (add-zero w.dropped)
followed_drop (Unread kind number source) s w w2 h low = ap (λ (l : Ledger). l.dropped) h.0 ∙ drop_one w.dropped low
followed_drop (Leftover n source) s w w2 h low = ap (λ (l : Ledger). l.dropped) h.0 ∙ drop_one w.dropped low
followed_drop Overran s w w2 h low = (h.2 refl).1 ∙ ap (λ (l : Ledger). l.dropped) h.1 ∙ sym (add-zero w.dropped)
followed_drop Shut s w w2 h low = ap (λ (l : Ledger). l.dropped) h.0 ∙ sym (add-zero w.dropped)
followed_drop (Sent to frames) s w w2 h low = absurd h
followed_drop (Other aside) s w w2 h low = absurd h

-- Each drop is counted.
pub followed_drops : (es : List (Event Message)) (s : Session Message ℕ) (w : Ledger) (s2 : Session Message ℕ) (w2 : Ledger)
    → FollowsAll s w es s2 w2 → w.dropped + dropped_count es ≤ 2 ^ 64 - 1 → w2.dropped ≡ w.dropped + dropped_count es
followed_drops [] s w s2 w2 h low = ap (λ (l : Ledger). l.dropped) h.1 ∙ sym (add-zero w.dropped)
followed_drops (e ∷ es) s w s2 w2 h low =
    let one : h.0.dropped ≡ w.dropped + drops e = followed_drop e s w h.0 h.1 (first w.dropped (drops e) (dropped_count es) low) in
    let rest = followed_drops es (after_event e s) h.0 s2 w2 h.2 (then h.0.dropped w.dropped (drops e) (dropped_count es) one low) in
    plain w2.dropped h.0.dropped w.dropped (drops e) (dropped_count es) rest one
  where
    first : (x d ds : ℕ) → x + (d + ds) ≤ 2 ^ 64 - 1 → x + d ≤ 2 ^ 64 - 1
    first x d ds l = omega (arith, l)

    then : (y x d ds : ℕ) → y ≡ x + d → x + (d + ds) ≤ 2 ^ 64 - 1 → y + ds ≤ 2 ^ 64 - 1
    then y x d ds k l = omega (arith, k, l)

    plain : (z y x d ds : ℕ) → z ≡ y + ds → y ≡ x + d → z ≡ x + (d + ds)
    plain z y x d ds h k = omega arith

-- ---- how far a record has come

both_false : (a b : Bool) → (a || b) ≡ false → (a ≡ false) × (b ≡ false)
both_false true b e = cc
both_false false b e = (refl, e)

one_shut : (e : Event Message) (es : List (Event Message)) → is_shut (e ∷ es) ≡ (is_shut (e ∷ []) || is_shut es)
one_shut (Came m source) es = refl
one_shut (Unread kind number source) es = refl
one_shut (Leftover n source) es = refl
one_shut Overran es = refl
one_shut Shut es = refl
one_shut (Sent to frames) es = refl
one_shut (Other aside) es = refl

-- Where events don't close the link, neither the first one nor the others do.
pub unshut_parts : (e : Event Message) (es : List (Event Message)) → is_shut (e ∷ es) ≡ false → (is_shut (e ∷ []) ≡ false) × (is_shut es ≡ false)
unshut_parts e es unshut = both_false (is_shut (e ∷ [])) (is_shut es) (sym (one_shut e es) ∙ unshut)

module _ (s : Settings) (before : List (Event Message)) where
  -- A session and a ledger amid a record, after some of its events.
  abbrev pub Amid : List (Event Message) → Session Message ℕ → Ledger → Type 0
  Amid es session ledger =
      Stage format s before es (drained session) (awaited_at ledger) (closes ledger)
      (incoming_lines format session.incoming) (response_lines format s session.responses)

  -- One event more.
  pub amid_one : (done : List (Event Message)) (e : Event Message) (session : Session Message ℕ) (w w2 : Ledger) → is_shut (e ∷ []) ≡ false
      → FollowsOne e session w w2 → Amid done session w → Amid (done ++ e ∷ []) (after_event e session) w2
  amid_one done (Came m source) session w w2 unshut h amid =
      received format s before done (Came m source) (record { message = m; source = source }) (came m source) session
      (awaited_at w) (awaited_at w2) (closes w) (closes w2) amid (h refl).0
  amid_one done (Unread kind number source) session w w2 unshut h amid =
      subst (Amid (done ++ Unread kind number source ∷ []) session) (sym h.0)
      (passed format s before done (Unread kind number source) (unread kind number source) (drained session) (awaited_at w) (closes w)
      (incoming_lines format session.incoming) (response_lines format s session.responses) amid)
  amid_one done (Leftover n source) session w w2 unshut h amid =
      subst (Amid (done ++ Leftover n source ∷ []) session) (sym h.0)
      (passed format s before done (Leftover n source) (leftover_brings n source) (drained session) (awaited_at w) (closes w)
      (incoming_lines format session.incoming) (response_lines format s session.responses) amid)
  amid_one done Overran session w w2 unshut h amid =
      received format s before done Overran overrun_arrival overran session
      (awaited_at h.0) (awaited_at w2) (closes h.0) (closes w2) (subst (Amid done session) (sym h.1) amid) (h.2 refl).0
  amid_one done Shut session w w2 unshut h amid = cc
  amid_one done (Sent to frames) session w w2 unshut h amid = absurd h
  amid_one done (Other aside) session w w2 unshut h amid = absurd h

  -- Events that don't close the link bring a record further.
  pub amid_more : (es done : List (Event Message)) (session : Session Message ℕ) (w : Ledger) (s2 : Session Message ℕ) (w2 : Ledger)
      → is_shut es ≡ false → FollowsAll session w es s2 w2 → Amid done session w → Amid (done ++ es) s2 w2
  amid_more [] done session w s2 w2 unshut h amid =
      subst (λ fs. Amid fs s2 w2) (sym (append-nil done))
      (subst (λ l. Amid done s2 l) (sym h.1) (subst (λ q. Amid done q w) (sym h.0) amid))
  amid_more (e ∷ es) done session w s2 w2 unshut h amid =
      let parts = unshut_parts e es unshut in
      subst (λ fs. Amid fs s2 w2) (append_assoc done (e ∷ []) es)
      (amid_more es (done ++ e ∷ []) (after_event e session) h.0 s2 w2 parts.1 h.2 (amid_one done e session w h.0 parts.0 h.1 amid))
