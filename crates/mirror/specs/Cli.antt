-- Which status the program ends with, and what it writes last.
use Rattle.std.specs.Prelude.{◌≡◌, ◌⊎◌, ℕ, Bool, true, false, List, [], ◌∷◌, Option, Result, Ok, Err, codes}
use Rattle.std.specs.Io.KnownBytes.{IsAtEnd}
use Rattle.std.specs.Fmt.{decimal}
use Rattle.session_model.specs.declared.settings.Settings.{Settings}
use Rattle.session_model.specs.declared.outcome.Report.{Report}
use Rattle.session_model.specs.declared.outcome.RunFault.{RunFault}
use Rattle.session_model.specs.declared.outcome.RunFault.TheVariants as run
use Rattle.session_model.specs.Lines.{line}
use Rattle.mirror.specs.declared.program_fault.ProgramFault.{ProgramFault}
use Rattle.mirror.specs.declared.program_fault.ProgramFault.TheVariants as program
use Rattle.mirror.specs.Faults.{IsOutputFault}
use Rattle.transcript_io.specs.Io.{GainedSome, Traffic, with_back}
use Rattle.mirror.specs.Outcome.{WasEnded, WasRun}

-- The exit status of a fault.
abbrev pub fault_status : RunFault → ℕ
fault_status (run.BadRecord at) = 2
fault_status (run.Closed at) = 3
fault_status (run.SequenceExhausted at) = 4
fault_status (run.Unfit at) = 5
fault_status run.Limit = 6
fault_status run.ReadFault = 7
fault_status run.WriteFault = 8
fault_status run.NoMemory = 9

-- The exit status of what keeps the program from status 0.
abbrev pub program_status : ProgramFault → ℕ
program_status program.OtherWords = 1
program_status (program.Run fault) = fault_status fault

-- A truth as a word.
abbrev pub yes_or_no : Bool → List ℕ
yes_or_no true = codes "yes"
yes_or_no false = codes "no"

-- The words after `ok` that report.
abbrev pub report_words : Report → List (List ℕ)
report_words r =
    decimal r.lines ∷ decimal r.messages ∷ decimal r.dropped ∷ decimal r.still_open ∷ yes_or_no r.in_step ∷ []

-- The line `ok LINES MESSAGES DROPPED OPEN STEP`.
abbrev pub ok_line : Report → List ℕ
ok_line r = line (codes "ok" ∷ report_words r)

-- The whole input was run, the sink gained its text, and then the line of its report.
pub record WasReported (s : Settings) (io : Traffic) : Type 0 where
  pub report : Report
  pub between : Option (List ℕ)
  pub run : WasRun s (record io { written_after = between }) report
  pub end : IsAtEnd io.left_after
  pub wrote : io.written_after ≡ with_back between (ok_line report)

-- The whole input was run and the sink gained its text, and then only some first bytes of the line of its report.
pub record WasCutShort (s : Settings) (io : Traffic) (fault : RunFault) : Type 0 where
  pub report : Report
  pub between : Option (List ℕ)
  pub run : WasRun s (record io { written_after = between }) report
  pub end : IsAtEnd io.left_after
  pub wrote : GainedSome between io.written_after (ok_line report)
  pub cause : IsOutputFault fault

-- A run ended by a fault, or its report could not be written whole.
abbrev pub HasFailed : Settings → Traffic → RunFault → Type 0
HasFailed s io fault = WasEnded s io fault ⊎ WasCutShort s io fault

-- The whole input was run, the sink gained its text, and then the line of this report, which is its own.
abbrev pub HasReported : Settings → Traffic → Report → Type 0
HasReported s io report = (reported : WasReported s io) × (reported.report ≡ report)

-- What a run of the source's transcript came to: its report, or a fault.
abbrev pub RanTo : Settings → Traffic → Result Report ProgramFault → Type 0
RanTo s io (Ok report) = HasReported s io report
RanTo s io (Err program.OtherWords) = ⊥
RanTo s io (Err (program.Run fault)) = HasFailed s io fault

-- What a status says: 0 of a run whose report is written whole, and that of the fault of one that failed.
abbrev pub Ran : Settings → Traffic → ℕ → Type 0
Ran s io status =
    ((status ≡ 0) × WasReported s io)
    ⊎ ((fault : RunFault) × ((status ≡ fault_status fault) × HasFailed s io fault))
