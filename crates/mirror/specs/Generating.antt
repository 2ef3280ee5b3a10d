-- What the program writes of a generated transcript.
use Rattle.std.specs.Prelude.{◌≡◌, ◌⊎◌, ℕ, List, Option, Result, Ok, Err}
use Rattle.session_model.specs.declared.outcome.Report.{Report}
use Rattle.session_model.specs.Reported.{report_of}
use Rattle.session_model.specs.Usual.{usual}
use Rattle.transcript_generator.specs.Generated.{generated}
use Rattle.transcript_io.specs.Io.{GainedSome, with_back}
use Rattle.mirror.specs.declared.program_fault.ProgramFault.{ProgramFault}
use Rattle.mirror.specs.declared.program_fault.ProgramFault.TheVariants as program
use Rattle.mirror.specs.Cli.{ok_line}
use Rattle.mirror.specs.Faults.{IsOutputFault}
use Rattle.mirror.specs.Format.{format}
use Rattle.mirror.specs.Runner.{is_in_step_after}

-- The report of the generated transcript of n routes, under the usual settings.
abbrev pub generated_report : ℕ → Report
generated_report n = report_of format usual (is_in_step_after usual (generated n)) (generated n)

-- What a status of `gen N` says of what was written before and after: 0 where the sink gained exactly the line of this
-- report; 8 where it failed and 9 out of memory, and it gained some first bytes of the line.
abbrev pub HasGenerated : ℕ → Option (List ℕ) → Option (List ℕ) → ℕ → Type 0
HasGenerated n before after status =
    ((status ≡ 0) × (after ≡ with_back before (ok_line (generated_report n))))
    ⊎ (((status ≡ 8) ⊎ (status ≡ 9)) × GainedSome before after (ok_line (generated_report n)))

-- What the run of a generated transcript came to, and what was written before and after: this report, and its line; or a
-- fault of writing, and some first bytes of the line.
abbrev pub GeneratedTo : ℕ → Option (List ℕ) → Option (List ℕ) → Result Report ProgramFault → Type 0
GeneratedTo n before after (Ok report) =
    (report ≡ generated_report n) × (after ≡ with_back before (ok_line (generated_report n)))
GeneratedTo n before after (Err program.OtherWords) = ⊥
GeneratedTo n before after (Err (program.Run fault)) =
    IsOutputFault fault × GainedSome before after (ok_line (generated_report n))
