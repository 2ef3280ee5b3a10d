-- What a ledger and a mirror make of what both are shown, each by itself.
use Rattle.std.proofs.Common.{ℕ, true, List, [], ◌∷◌, refl, ap}
use Rattle.session_model.specs.Events.{Event, Sent, Came, Unread, Leftover, Overran, Shut, Other}
use Rattle.proto_core.specs.Session.{Session}
use Rattle.proto_conn.specs.Reading.{Follows, Followed, after_event}
use Rattle.route_mirror.specs.Values.{MirrorValue}
use Rattle.route_mirror.specs.Watching.{mirror_loses, mirror_overruns, mirror_sees}
use Rattle.mirror.specs.declared.ledger.Ledger.{Ledger}
use Rattle.mirror.specs.declared.observers.Observers.{Observers}
use Rattle.mirror.specs.Format.{Message}
use Rattle.mirror.specs.Ledger.{ledger_loses, ledger_overruns, ledger_sees}
use Rattle.mirror.specs.Observers.{observers_lose, observers_overrun, observers_see}

-- What both make of events in order, and what each does.
abbrev pub FollowsBoth : Session Message ℕ → Observers → List (Event Message) → Session Message ℕ → Observers → Type 0
FollowsBoth = Followed observers_see observers_lose observers_overrun

abbrev pub LedgerFollows : Session Message ℕ → Ledger → List (Event Message) → Session Message ℕ → Ledger → Type 0
LedgerFollows = Followed ledger_sees ledger_loses ledger_overruns

abbrev pub MirrorFollowsTo : Session Message ℕ → MirrorValue → List (Event Message) → Session Message ℕ → MirrorValue → Type 0
MirrorFollowsTo = Followed mirror_sees mirror_loses mirror_overruns

module _ (s : Session Message ℕ) (w mid : Observers) where
  ledger_one : (e : Event Message) → Follows observers_see observers_lose observers_overrun e s w true mid
      → Follows ledger_sees ledger_loses ledger_overruns e s w.ledger true mid.ledger
  ledger_one (Came m source) h = (h refl).0
  ledger_one (Unread kind number source) h = (h.0.0, h.1)
  ledger_one (Leftover n source) h = (h.0.0, h.1)
  ledger_one Overran h = (h.0.ledger, h.1.0, (h.2 refl).0)
  ledger_one Shut h = (ap (λ (o : Observers). o.ledger) h.0, h.1)
  ledger_one (Sent to frames) h = h
  ledger_one (Other aside) h = h

  mirror_one : (e : Event Message) → Follows observers_see observers_lose observers_overrun e s w true mid
      → Follows mirror_sees mirror_loses mirror_overruns e s w.mirror true mid.mirror
  mirror_one (Came m source) h = (h refl).1
  mirror_one (Unread kind number source) h = (h.0.1, h.1)
  mirror_one (Leftover n source) h = (h.0.1, h.1)
  mirror_one Overran h = (h.0.mirror, h.1.1, (h.2 refl).1)
  mirror_one Shut h = (ap (λ (o : Observers). o.mirror) h.0, h.1)
  mirror_one (Sent to frames) h = h
  mirror_one (Other aside) h = h

-- The ledger of two that followed events has followed them.
pub ledger_follows : (es : List (Event Message)) (s : Session Message ℕ) (w : Observers) (s2 : Session Message ℕ) (w2 : Observers)
    → FollowsBoth s w es s2 w2 → LedgerFollows s w.ledger es s2 w2.ledger
ledger_follows [] s w s2 w2 h = (h.0, ap (λ (o : Observers). o.ledger) h.1)
ledger_follows (e ∷ es) s w s2 w2 h = (h.0.ledger, ledger_one s w h.0 e h.1, ledger_follows es (after_event e s) h.0 s2 w2 h.2)

-- And so has the mirror.
pub mirror_follows : (es : List (Event Message)) (s : Session Message ℕ) (w : Observers) (s2 : Session Message ℕ) (w2 : Observers)
    → FollowsBoth s w es s2 w2 → MirrorFollowsTo s w.mirror es s2 w2.mirror
mirror_follows [] s w s2 w2 h = (h.0, ap (λ (o : Observers). o.mirror) h.1)
mirror_follows (e ∷ es) s w s2 w2 h = (h.0.mirror, mirror_one s w h.0 e h.1, mirror_follows es (after_event e s) h.0 s2 w2 h.2)
