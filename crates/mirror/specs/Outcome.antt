-- How a run ends: what it took of its source, what its sink gained, and why.
use Rattle.std.specs.Prelude.{◌≡◌, ◌≤◌, ◌⊎◌, ℕ, false, List, [], ◌++◌, Option, Some, Result, IfErr, MatchResult}
use Rattle.session_model.specs.declared.settings.Settings.{Settings}
use Rattle.session_model.specs.declared.outcome.Report.{Report}
use Rattle.session_model.specs.declared.outcome.RunFault.{RunFault}
use Rattle.session_model.specs.declared.outcome.RunFault.TheVariants as run
use Rattle.session_model.specs.declared.transcript.Record.{Record}
use Rattle.session_model.specs.Causes.{HasCause, IsValid}
use Rattle.session_model.specs.Reported.{report_of}
use Rattle.session_model.specs.Transcript.{lines_of, has_newline}
use Rattle.transcript_io.specs.Io.{with_front, with_back, Gained, Traffic}
use Rattle.mirror.specs.declared.run_state.RunState.{RunState}
use Rattle.mirror.specs.Format.{IsEntry, format}
use Rattle.mirror.specs.Feeding.{HasRead}
use Rattle.mirror.specs.Runner.{AreAllTaken, is_in_step_after, text_of}

-- A run goes on: what it took of its source is lines and an unfinished line, and what the sink gained and what waits is
-- their text.
pub record Running (s : Settings) (io : Traffic) (p : RunState) : Type 0 where
  pub bytes : List ℕ
  pub text : List ℕ
  pub read : io.left_before ≡ with_front bytes io.left_after
  pub limit : p.taken ≤ s.limit
  pub reached : HasRead s bytes p text
  pub gained : Gained io.written_before io.written_after text p.text.items

-- What a run took of its source is the lines of records that are taken and a part; the sink gained the first bytes of their
-- text, some text waits, and more of it is lost.
pub record HasWritten (s : Settings) (io : Traffic) (waiting : List ℕ) : Type 0 where
  pub records : List Record
  pub part : List ℕ
  pub lost : List ℕ
  pub taken : AreAllTaken s records
  pub read : io.left_before ≡ with_front (lines_of records ++ part) io.left_after
  pub gained : Gained io.written_before io.written_after (text_of s records) (waiting ++ lost)

-- A fault of the input is its cause, after records, a part and what is left, and no text is lost.
abbrev pub EndsByCause : Settings → Option (List ℕ) → List Record → List ℕ → List ℕ → RunFault → Type 0
EndsByCause s left rs part lost fault =
    (lost ≡ []) × ((after : List ℕ) → left ≡ Some after
    → HasCause format s IsEntry ((lines_of rs ++ part) ++ after) rs fault)

-- How a run ended after records and a part. A fault of the input is its cause, and no text is lost; where reading failed
-- the part holds no whole line, and no text is lost; where writing failed or memory ran out, the rest of the text is lost.
abbrev pub EndsBy : Settings → Option (List ℕ) → List Record → List ℕ → List ℕ → RunFault → Type 0
EndsBy s left rs part lost (run.BadRecord at) = EndsByCause s left rs part lost (run.BadRecord at)
EndsBy s left rs part lost (run.Closed at) = EndsByCause s left rs part lost (run.Closed at)
EndsBy s left rs part lost (run.SequenceExhausted at) = EndsByCause s left rs part lost (run.SequenceExhausted at)
EndsBy s left rs part lost (run.Unfit at) = EndsByCause s left rs part lost (run.Unfit at)
EndsBy s left rs part lost run.Limit = EndsByCause s left rs part lost run.Limit
EndsBy s left rs part lost run.ReadFault = (lost ≡ []) × (has_newline part ≡ false)
EndsBy s left rs part lost run.WriteFault = Unit {0}
EndsBy s left rs part lost run.NoMemory = Unit {0}

-- A run ended by a fault, and some of its text still waits.
pub record Ended (s : Settings) (io : Traffic) (waiting : List ℕ) (fault : RunFault) : Type 0 where
  pub stands : HasWritten s io waiting
  pub ends : EndsBy s io.left_after stands.records stands.part stands.lost fault

-- A run ended by a fault: the records that are taken before it, and how much of their text the sink gained.
abbrev pub WasEnded : Settings → Traffic → RunFault → Type 0
WasEnded s io fault = Ended s io [] fault

-- A run came to the end of its input: what it took of its source is a valid input, the sink gained the text of its records,
-- and the report is theirs.
pub record WasRun (s : Settings) (io : Traffic) (report : Report) : Type 0 where
  pub input : List ℕ
  pub records : List Record
  pub read : io.left_before ≡ with_front input io.left_after
  pub valid : IsValid format s IsEntry input records
  pub wrote : io.written_after ≡ with_back io.written_before (text_of s records)
  pub reported : report ≡ report_of format s (is_in_step_after s records) records

-- A fault that no input asks for: the source or the sink failed and its count of faults rose, or memory ran out.
abbrev pub IsNoCause : Type 0 → Type 0 → RunFault → Type 0
IsNoCause read_failed write_failed (run.BadRecord at) = ⊥
IsNoCause read_failed write_failed (run.Closed at) = ⊥
IsNoCause read_failed write_failed (run.SequenceExhausted at) = ⊥
IsNoCause read_failed write_failed (run.Unfit at) = ⊥
IsNoCause read_failed write_failed run.Limit = ⊥
IsNoCause read_failed write_failed run.ReadFault = read_failed
IsNoCause read_failed write_failed run.WriteFault = write_failed
IsNoCause read_failed write_failed run.NoMemory = Unit {0}

-- A run over a source that tells its bytes answers what they ask for: Ok to a valid input, and to one with a cause this
-- cause, unless memory ran out, or the source or the sink failed.
pub record IsComplete (s : Settings) (left : Option (List ℕ)) (result : Result Report RunFault)
    (read_failed write_failed : Type 0) : Type 0 where
  pub valid : (input : List ℕ) (rs : List Record) → left ≡ Some input → IsValid format s IsEntry input rs
      → IfErr result (IsNoCause read_failed write_failed)
  pub caused : (input : List ℕ) (rs : List Record) (cause : RunFault) → left ≡ Some input
      → HasCause format s IsEntry input rs cause
      → MatchResult result (λ _. ⊥) (λ fault. (fault ≡ cause) ⊎ IsNoCause read_failed write_failed fault)
