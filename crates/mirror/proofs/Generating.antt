-- The run of a generated transcript, and what its status says.
use Rattle.std.proofs.Common.{◌≡◌, ◌≤◌, inl, inr, ℕ, List, [], ◌++◌, Option, Some, Result, Ok, Err, IfOk, IfErr, refl, sym, ◌∙◌, ap, subst, arith}
use Rattle.std.specs.Prelude.{OnOk, OnErr}
use Rattle.std.specs.Io.KnownBytes.{IsAtEnd}
use Rattle.std.proofs.lemmas.List.{append-nil}
use Rattle.session_model.specs.declared.outcome.Report.{Report}
use Rattle.session_model.specs.declared.outcome.RunFault.{RunFault}
use Rattle.session_model.specs.declared.outcome.RunFault.TheVariants as run
use Rattle.session_model.specs.Causes.{IsValid}
use Rattle.session_model.specs.Reported.{report_of}
use Rattle.session_model.specs.Usual.{usual}
use Rattle.transcript_generator.specs.Generated.{gen_text, generated, most_routes}
use Rattle.transcript_generator.proofs.Valid.{generated-valid}
use Rattle.transcript_lines.proofs.OneOutcome.{one_reading}
use Rattle.transcript_io.specs.Io.{GainedSome, HasRisen, Traffic}
use Rattle.transcript_io.proofs.Gains.{gained_none}
use Rattle.mirror.specs.Cli.{fault_status, ok_line}
use Rattle.mirror.specs.Faults.{IsOutputFault}
use Rattle.mirror.specs.Format.{IsEntry, format}
use Rattle.mirror.specs.Generating.{HasGenerated, generated_report}
use Rattle.mirror.specs.Outcome.{IsComplete, IsNoCause, WasRun}
use Rattle.mirror.specs.Runner.{is_in_step_after}
use Rattle.mirror.proofs.Complete.{left_told}

-- A count that is always 0 never rises.
pub never_risen : HasRisen 0 0 → ⊥
never_risen (inl less) = omega (arith, less)
never_risen (inr full) = omega (arith, full)

module _ (n : ℕ) (most : n ≤ most_routes) (io : Traffic) (told : io.left_before ≡ Some (gen_text n)) where
  -- The report of a run of the generated text is that of the generated transcript.
  report_is : (report : Report) → WasRun usual io report → IsAtEnd io.left_after → report ≡ generated_report n
  report_is report h end =
      let a = left_told h.input (gen_text n) io.left_after (sym told ∙ h.read) in
      let none : a.0 ≡ [] = subst IsAtEnd a.1 end in
      let whole : gen_text n ≡ h.input = a.2 ∙ ap (λ z. h.input ++ z) none ∙ append-nil h.input in
      let valid = subst (λ z. IsValid format usual IsEntry z h.records) (sym whole) h.valid in
      let same = one_reading format usual IsEntry (λ r entry. entry.0) (gen_text n) h.records (generated n) valid (generated-valid format n most) in
      h.reported ∙ ap (λ rs. report_of format usual (is_in_step_after usual rs) rs) same

  -- So it is of each run that is done.
  pub reports : (r : Result Report RunFault) → IfOk r (WasRun usual io) → OnOk r (IsAtEnd io.left_after)
      → IfOk r (λ report. report ≡ generated_report n)
  reports (Ok report) h end = report_is report h end
  reports (Err e) h end = tt

  -- A run that isn't done is out of memory.
  pub only_memory : (r : Result Report RunFault) → IsComplete usual io.left_before r (HasRisen 0 0) (HasRisen 0 0)
      → IfErr r (λ fault. fault ≡ run.NoMemory)
  only_memory (Ok report) complete = tt
  only_memory (Err e) complete = by e (complete.valid (gen_text n) (generated n) told (generated-valid format n most))
    where
      by : (e : RunFault) → IsNoCause (HasRisen 0 0) (HasRisen 0 0) e → e ≡ run.NoMemory
      by (run.BadRecord at) h = absurd h
      by (run.Closed at) h = absurd h
      by (run.SequenceExhausted at) h = absurd h
      by (run.Unfit at) h = absurd h
      by run.Limit h = absurd h
      by run.ReadFault h = absurd (never_risen h)
      by run.WriteFault h = absurd (never_risen h)
      by run.NoMemory h = refl

-- What the status of a fault of writing says.
pub status_told : (n : ℕ) (before after : Option (List ℕ)) (fault : RunFault) → IsOutputFault fault
    → GainedSome before after (ok_line (generated_report n)) → HasGenerated n before after (fault_status fault)
status_told n before after (run.BadRecord at) h some = absurd h
status_told n before after (run.Closed at) h some = absurd h
status_told n before after (run.SequenceExhausted at) h some = absurd h
status_told n before after (run.Unfit at) h some = absurd h
status_told n before after run.Limit h some = absurd h
status_told n before after run.ReadFault h some = absurd h
status_told n before after run.WriteFault h some = inr (inl refl, some)
status_told n before after run.NoMemory h some = inr (inr refl, some)

-- Where nothing is written, no byte of the line is.
pub none_written : {X : Type 0} (n : ℕ) (w : Option (List ℕ)) (r : Result X RunFault) → OnErr r (GainedSome w w (ok_line (generated_report n)))
none_written n w (Ok x) = tt
none_written n w (Err e) = let line = ok_line (generated_report n) in record { rest = line; gained = gained_none w line }
