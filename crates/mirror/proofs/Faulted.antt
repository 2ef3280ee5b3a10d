-- What a step leaves where it fails.
use Rattle.std.proofs.Common.{◌≡◌, ℕ, List, [], ◌∷◌, ◌++◌, Option, None, Result, Ok, Err, IfErr, refl, sym, ◌∙◌, ap, subst, append_assoc}
use Rattle.std.specs.Prelude.{OnErr}
use Rattle.std.proofs.lemmas.List.{append-nil}
use Rattle.session_model.specs.declared.outcome.RunFault.{RunFault}
use Rattle.session_model.specs.declared.outcome.RunFault.TheVariants as run
use Rattle.session_model.specs.declared.settings.Settings.{Settings}
use Rattle.session_model.specs.declared.transcript.Record.{Record}
use Rattle.session_model.specs.Causes.{AreTaken, refusal}
use Rattle.session_model.specs.Events.{Event, record_events}
use Rattle.mirror.specs.declared.step_fault.StepFault.{StepFault}
use Rattle.mirror.specs.declared.step_fault.StepFault.TheVariants as step
use Rattle.mirror.specs.declared.runner.Runner.{Runner}
use Rattle.mirror.specs.Format.{IsEntry, Message, format}
use Rattle.mirror.specs.Faults.{IsStepFault, IsOutputFault}
use Rattle.transcript_io.specs.Io.{GainedSome}
use Rattle.transcript_io.proofs.Gains.{gained_none}
use Rattle.mirror.specs.Refusals.{fault_at}
use Rattle.mirror.specs.Runner.{Fails, TakesRecord, Tracks, WhyNot, events, added_text}

-- The last of records that are taken is free.
last_free : (s : Settings) (before : List (Event Message)) (rs : List Record) (r : Record)
    → AreTaken format s IsEntry before (rs ++ r ∷ []) → refusal format s (before ++ events s rs) r ≡ None
last_free s before [] r h = ap (λ es. refusal format s es r) (append-nil before) ∙ h.1
last_free s before (x ∷ rs) r h = ap (λ es. refusal format s es r) (sym (append_assoc before (record_events format s x) (events s rs)))
    ∙ last_free s (before ++ record_events format s x) rs r h.2

-- A record that is not taken writes nothing.
pub not_taken : (s : Settings) (rs : List Record) (r : Record) (place : ℕ) (w : Option (List ℕ)) (why : StepFault)
    → WhyNot s rs r why → Fails s rs r place w w (fault_at why place)
not_taken s rs r place w step.Closed h = (refl, h, refl)
not_taken s rs r place w step.SequenceExhausted h = (refl, h, refl)
not_taken s rs r place w step.Unfit h = (refl, h, refl)
not_taken s rs r place w step.NoMemory h = record { rest = added_text s rs r; gained = gained_none w (added_text s rs r) }

-- A record whose text is not written whole has written some first bytes of it.
pub not_written : (r : Record) (old new : Runner) (place : ℕ) (w0 w1 : Option (List ℕ)) (text : List ℕ)
    (result : Result (Unit {0}) RunFault) → OnErr result (GainedSome w0 w1 text) → IfErr result IsOutputFault
    → TakesRecord old r new text
    → IfErr result (λ e. (s : Settings) (rs : List Record) → Tracks s rs old → Fails s rs r place w0 w1 e)
not_written r old new place w0 w1 text (Ok u) some only step = tt
not_written r old new place w0 w1 text (Err e) some only step = by e only
  where
    by : (e : RunFault) → IsOutputFault e → (s : Settings) (rs : List Record) → Tracks s rs old → Fails s rs r place w0 w1 e
    by (run.BadRecord at) h s rs tracks = absurd h
    by (run.Closed at) h s rs tracks = absurd h
    by (run.SequenceExhausted at) h s rs tracks = absurd h
    by (run.Unfit at) h s rs tracks = absurd h
    by run.Limit h s rs tracks = absurd h
    by run.ReadFault h s rs tracks = absurd h
    by run.WriteFault h s rs tracks = let t = step s rs tracks in (last_free s [] rs r t.0.taken, subst (λ z. GainedSome w0 w1 z) t.1 some)
    by run.NoMemory h s rs tracks = let t = step s rs tracks in subst (λ z. GainedSome w0 w1 z) t.1 some

-- What refuses a record is a fault of a step.
pub refused_steps : (why : StepFault) (place : ℕ) → IsStepFault (fault_at why place)
refused_steps step.Closed place = tt
refused_steps step.SequenceExhausted place = tt
refused_steps step.Unfit place = tt
refused_steps step.NoMemory place = tt

-- A fault of writing is a fault of a step.
pub writing_steps : (r : Result (Unit {0}) RunFault) → IfErr r IsOutputFault → IfErr r IsStepFault
writing_steps (Ok u) h = tt
writing_steps (Err (run.BadRecord at)) h = absurd h
writing_steps (Err (run.Closed at)) h = tt
writing_steps (Err (run.SequenceExhausted at)) h = tt
writing_steps (Err (run.Unfit at)) h = tt
writing_steps (Err run.Limit) h = absurd h
writing_steps (Err run.ReadFault) h = absurd h
writing_steps (Err run.WriteFault) h = tt
writing_steps (Err run.NoMemory) h = tt
