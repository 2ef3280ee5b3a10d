-- Records that are taken one after another.
use Rattle.std.proofs.Common.{◌≡◌, List, [], ◌∷◌, ◌++◌, None, sym, ap, ◌∙◌, append_assoc}
use Rattle.std.specs.List.{AllByRecursion}
use Rattle.nl_core.specs.Frames.{Format}
use Rattle.session_model.specs.declared.settings.Settings.{Settings}
use Rattle.session_model.specs.declared.transcript.Record.{Record}
use Rattle.session_model.specs.Events.{Event, record_events, events_of}
use Rattle.session_model.specs.Causes.{refusal, AreTaken}
use Rattle.session_model.proofs.Places.{append-nil}

module _ {M : Type 0} (f : Format M) (s : Settings) (Allowed : Record → Type 0) where
  -- One more record is taken after others.
  pub taken_more : (before : List (Event M)) (rs : List Record) (r : Record) → AreTaken f s Allowed before rs → Allowed r
      → refusal f s (before ++ events_of f s rs) r ≡ None → AreTaken f s Allowed before (rs ++ r ∷ [])
  taken_more before [] r taken allowed free = (allowed, ap (λ es. refusal f s es r) (sym (append-nil before)) ∙ free, tt)
  taken_more before (x ∷ rs) r taken allowed free = (
    taken.0,
    taken.1,
    taken_more (before ++ record_events f s x) rs r taken.2 allowed
        (ap (λ es. refusal f s es r) (append_assoc before (record_events f s x) (events_of f s rs)) ∙ free),
  )

  -- Records that are taken are all allowed.
  pub all_allowed : (before : List (Event M)) (rs : List Record) → AreTaken f s Allowed before rs → AllByRecursion Allowed rs
  all_allowed before [] taken = tt
  all_allowed before (x ∷ rs) taken = (taken.0, all_allowed (before ++ record_events f s x) rs taken.2)
