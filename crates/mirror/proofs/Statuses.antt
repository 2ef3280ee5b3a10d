-- The statuses of what the program's words came to.
use Rattle.std.proofs.Common.{◌≡◌, inl, inr, ℕ, List, Option, Err, refl, sym, ◌∙◌, subst}
use Rattle.session_model.specs.declared.settings.Settings.{Settings}
use Rattle.session_model.specs.declared.outcome.RunFault.TheVariants as run
use Rattle.transcript_io.specs.Io.{Traffic}
use Rattle.mirror.specs.declared.program_fault.ProgramFault.{ProgramFault}
use Rattle.mirror.specs.declared.program_fault.ProgramFault.TheVariants as program
use Rattle.mirror.specs.Cli.{Ran, RanTo, program_status}
use Rattle.mirror.specs.Generating.{GeneratedTo, HasGenerated}
use Rattle.mirror.proofs.Generating.{status_told}

-- The status of a run that failed is that of its fault.
pub ran_by : (s : Settings) (io : Traffic) (fault : ProgramFault) (status : ℕ) → status ≡ program_status fault
    → RanTo s io (Err fault) → Ran s io status
ran_by s io program.OtherWords status is h = absurd h
ran_by s io (program.Run fault) status is h = inr (fault, (is, h))

-- So it is of a generated transcript.
pub generated_by : (n : ℕ) (before after : Option (List ℕ)) (fault : ProgramFault) (status : ℕ) → status ≡ program_status fault
    → GeneratedTo n before after (Err fault) → HasGenerated n before after status
generated_by n before after program.OtherWords status is h = absurd h
generated_by n before after (program.Run fault) status is h =
    subst (HasGenerated n before after) (sym is) (status_told n before after fault h.0 h.1)

-- Status 1 is that of other words alone.
pub other_of : (fault : ProgramFault) → program_status fault ≡ 1 → fault ≡ program.OtherWords
other_of program.OtherWords is = refl
other_of (program.Run (run.BadRecord at)) is = cc
other_of (program.Run (run.Closed at)) is = cc
other_of (program.Run (run.SequenceExhausted at)) is = cc
other_of (program.Run (run.Unfit at)) is = cc
other_of (program.Run run.Limit) is = cc
other_of (program.Run run.ReadFault) is = cc
other_of (program.Run run.WriteFault) is = cc
other_of (program.Run run.NoMemory) is = cc

-- Status 7 is that of a failed read alone.
pub reading_of : (fault : ProgramFault) → program_status fault ≡ 7 → fault ≡ program.Run run.ReadFault
reading_of program.OtherWords is = cc
reading_of (program.Run (run.BadRecord at)) is = cc
reading_of (program.Run (run.Closed at)) is = cc
reading_of (program.Run (run.SequenceExhausted at)) is = cc
reading_of (program.Run (run.Unfit at)) is = cc
reading_of (program.Run run.Limit) is = cc
reading_of (program.Run run.ReadFault) is = refl
reading_of (program.Run run.WriteFault) is = cc
reading_of (program.Run run.NoMemory) is = cc

-- Status 8 is that of a failed write alone.
pub writing_of : (fault : ProgramFault) → program_status fault ≡ 8 → fault ≡ program.Run run.WriteFault
writing_of program.OtherWords is = cc
writing_of (program.Run (run.BadRecord at)) is = cc
writing_of (program.Run (run.Closed at)) is = cc
writing_of (program.Run (run.SequenceExhausted at)) is = cc
writing_of (program.Run (run.Unfit at)) is = cc
writing_of (program.Run run.Limit) is = cc
writing_of (program.Run run.ReadFault) is = cc
writing_of (program.Run run.WriteFault) is = refl
writing_of (program.Run run.NoMemory) is = cc
