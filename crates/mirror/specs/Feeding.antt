-- Where a run stands after a part of its input.
use Rattle.std.specs.Prelude.{◌≡◌, ◌+◌, ◌*◌, ◌≤◌, ℕ, false, List, ◌∷◌, [], ◌++◌, length, Some}
use Rattle.session_model.specs.declared.settings.Settings.{Settings}
use Rattle.session_model.specs.declared.outcome.RunFault.{RunFault}
use Rattle.session_model.specs.declared.outcome.RunFault.TheVariants as run
use Rattle.session_model.specs.declared.transcript.Record.{Record}
use Rattle.session_model.specs.Causes.{AfterClose, OutOfNumbers, Refusal, Stops, TooLong, refusal}
use Rattle.session_model.specs.Transcript.{lines_of, has_newline}
use Rattle.transcript_lines.specs.LineDecoder.{Stands}
use Rattle.transcript_lines.specs.declared.decoder.Line.{Line}
use Rattle.transcript_lines.specs.declared.decoder.Line.TheVariants as told
use Rattle.mirror.specs.declared.run_state.RunState.{RunState}
use Rattle.mirror.specs.declared.runner.Runner.{Runner}
use Rattle.mirror.specs.Format.{IsEntry, format}
use Rattle.mirror.specs.Runner.{Tracks, CountsInRange, Grows, AreAllTaken, added_text, drop_count, events, line_count, message_count, text_of}

-- ---- between pieces

-- Bytes are the lines of records that are taken, and of an unfinished line after them, which the decoder has taken; and
-- text is the text of these records.
pub record HasRead (s : Settings) (bytes : List ℕ) (p : RunState) (text : List ℕ) : Type 0 where
  pub records : List Record
  pub line : List ℕ
  pub spelled : bytes ≡ lines_of records ++ line
  pub part : has_newline line ≡ false
  pub decoded : Stands line p.decoder
  pub start : p.line_start ≡ length (lines_of records)
  pub count : p.taken ≡ length bytes
  pub tracks : Tracks s records p.runner
  pub told : text ≡ text_of s records

-- From one state of a run to another over a piece of the input.
abbrev pub FedPiece : RunState → List ℕ → RunState → Type 0
FedPiece old piece new =
    (s : Settings) (bytes text : List ℕ) → HasRead s bytes old text
    → (more : List ℕ) × HasRead s (bytes ++ piece) new (text ++ more) × (new.text.items ≡ old.text.items ++ more)

-- A count of a run stays within half the count of bytes of whole lines.
abbrev pub IsWithinHalf : RunState → ℕ → Type 0
IsWithinHalf p count = 2 * count ≤ p.line_start

-- An unfinished line was decoded from its start on, and the counts of a run stay within half the count of bytes of whole
-- lines.
pub record CountsFitInput (p : RunState) : Type 0 where
  pub line : List ℕ
  pub decoded : Stands line p.decoder
  pub place : p.line_start + length line ≡ p.taken
  pub counted : CountsInRange p.runner
  pub lines : IsWithinHalf p (line_count p.runner)
  pub messages : IsWithinHalf p (message_count p.runner)
  pub dropped : IsWithinHalf p (drop_count p.runner)

-- Only the text that waits has changed.
pub record KeepsInput (old new : RunState) : Type 0 where
  pub runner : new.runner ≡ old.runner
  pub decoder : new.decoder ≡ old.decoder
  pub start : new.line_start ≡ old.line_start
  pub taken : new.taken ≡ old.taken

-- ---- at the end of a line

-- A line that was told can be spelled.
abbrev pub IsAllowed : Line → Type 0
IsAllowed (told.Record r) = IsEntry r
IsAllowed told.Bad = Unit {0}

-- Only the records and the text that waits have changed.
pub record KeepsPlace (old new : RunState) : Type 0 where
  pub decoder : new.decoder ≡ old.decoder
  pub start : new.line_start ≡ old.line_start
  pub taken : new.taken ≡ old.taken

-- The counts of a runner after one line more.
abbrev pub GrowsBy : Line → Runner → Runner → Type 0
GrowsBy (told.Record r) old new = Grows r old new
GrowsBy told.Bad old new = ⊥

-- A line is a record, which is taken, and its text waits too.
abbrev pub TakesLine : Line → RunState → RunState → Type 0
TakesLine (told.Record r) old new =
    (s : Settings) (rs : List Record) → Tracks s rs old.runner
    → Tracks s (rs ++ r ∷ []) new.runner × (new.text.items ≡ old.text.items ++ added_text s rs r)
TakesLine told.Bad old new = ⊥

-- A record isn't taken for this reason, and the fault has its place.
abbrev pub IsFaultOf : Settings → List Record → Record → ℕ → Refusal → ℕ → Type 0
IsFaultOf s rs r place why at = (at ≡ place) × (refusal format s (events s rs) r ≡ Some why)

-- Why a record at a place isn't taken after others, out of memory apart.
abbrev pub RefusesRecord : Settings → List Record → Record → ℕ → RunFault → Type 0
RefusesRecord s rs r place (run.BadRecord at) = ⊥
RefusesRecord s rs r place (run.Closed at) = IsFaultOf s rs r place AfterClose at
RefusesRecord s rs r place (run.SequenceExhausted at) = IsFaultOf s rs r place OutOfNumbers at
RefusesRecord s rs r place (run.Unfit at) = IsFaultOf s rs r place TooLong at
RefusesRecord s rs r place run.Limit = ⊥
RefusesRecord s rs r place run.ReadFault = ⊥
RefusesRecord s rs r place run.WriteFault = ⊥
RefusesRecord s rs r place run.NoMemory = Unit {0}

-- A line isn't taken: it is no record, or a record that isn't taken; and the text that waits is what waited before.
abbrev pub RefusesLine : Line → RunState → List ℕ → RunFault → Type 0
RefusesLine (told.Record r) old waiting fault =
    (s : Settings) (rs : List Record) → Tracks s rs old.runner
    → RefusesRecord s rs r old.line_start fault × (waiting ≡ old.text.items)
RefusesLine told.Bad old waiting fault = (fault ≡ run.BadRecord old.line_start) × (waiting ≡ old.text.items)

-- ---- halting

-- Why a run halts after records, before what is left of the input, out of memory apart.
abbrev pub HaltsBy : Settings → List Record → List ℕ → RunFault → Type 0
HaltsBy s rs left (run.BadRecord at) = Stops format s IsEntry rs left (run.BadRecord at)
HaltsBy s rs left (run.Closed at) = Stops format s IsEntry rs left (run.Closed at)
HaltsBy s rs left (run.SequenceExhausted at) = Stops format s IsEntry rs left (run.SequenceExhausted at)
HaltsBy s rs left (run.Unfit at) = Stops format s IsEntry rs left (run.Unfit at)
HaltsBy s rs left run.Limit = Stops format s IsEntry rs left run.Limit
HaltsBy s rs left run.ReadFault = Unit {0}
HaltsBy s rs left run.WriteFault = Unit {0}
HaltsBy s rs left run.NoMemory = Unit {0}

-- Bytes are the lines of records that are taken, whose text this is, and a part at which a run halts whatever follows.
pub record Halting (s : Settings) (bytes text : List ℕ) (fault : RunFault) : Type 0 where
  pub records : List Record
  pub part : List ℕ
  pub taken : AreAllTaken s records
  pub spelled : bytes ≡ lines_of records ++ part
  pub told : text ≡ text_of s records
  pub stops : (after : List ℕ) → HaltsBy s records (part ++ after) fault

-- A piece halts a run in this state, and this text waits then.
abbrev pub HaltedBy : RunState → List ℕ → List ℕ → RunFault → Type 0
HaltedBy old piece waiting fault =
    (s : Settings) (bytes text : List ℕ) → HasRead s bytes old text
    → (more : List ℕ) × Halting s (bytes ++ piece) (text ++ more) fault × (waiting ≡ old.text.items ++ more)
