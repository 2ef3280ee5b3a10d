-- Why an input isn't run to its end: the cause of the first whole line that has one, or else its length or its unfinished
-- line. `Allowed` says which records there are.
use Rattle.std.specs.Prelude.{◌≡◌, ◌≢◌, ◌+◌, ◌<◌, ◌≤◌, ◌⊎◌, ◌&&◌, ℕ, Bool, true, false, if◌then◌else◌, not, List, [], ◌∷◌, ◌++◌, length, Option, Some, None, Result, Ok, Err, nat_lt}
use Rattle.std.specs.List.{list_all}
use Rattle.nl_core.specs.Frames.{Format, frame_at, message_fits}
use Rattle.nl_core.specs.declared.error.DecodeError.{DecodeError}
use Rattle.nl_core.specs.declared.message.NetlinkMessage.{NetlinkMessage}
use Rattle.session_model.specs.declared.outcome.RunFault.{RunFault}
use Rattle.session_model.specs.declared.outcome.RunFault.TheVariants as run
use Rattle.session_model.specs.declared.settings.Settings.{Settings}
use Rattle.session_model.specs.declared.transcript.BatchFrame.{BatchFrame}
use Rattle.session_model.specs.declared.transcript.Record.{Record}
use Rattle.session_model.specs.declared.transcript.Record.TheVariants.{Recv, Overrun, Close, Batch, Resync, Block, Unblock, Lookup}
use Rattle.session_model.specs.Events.{Event, record_events, events_of}
use Rattle.session_model.specs.Awaited.{last_number}
use Rattle.session_model.specs.Streams.{is_shut}
use Rattle.session_model.specs.Lines.{newline}
use Rattle.session_model.specs.Transcript.{record_line, lines_of, has_newline}

-- Why a record isn't taken.
pub data Refusal : Type 0 where
  -- the link has closed before it
  AfterClose : Refusal
  -- its numbers would pass the greatest one
  OutOfNumbers : Refusal
  -- a frame of it doesn't fit
  TooLong : Refusal

-- The greatest number of a message.
abbrev pub greatest_number : ℕ
greatest_number = 4294967295

-- How many numbers a record takes.
abbrev pub numbers_of : Record → ℕ
numbers_of (Recv source bytes) = 0
numbers_of Overrun = 0
numbers_of Close = 0
numbers_of (Batch to frames) = length frames
numbers_of Resync = 1
numbers_of (Block n) = 0
numbers_of (Unblock n) = 0
numbers_of (Lookup a) = 0

-- Whether a record is of the link. The others are taken after its close too.
abbrev pub is_of_link : Record → Bool
is_of_link (Recv source bytes) = true
is_of_link Overrun = true
is_of_link Close = true
is_of_link (Batch to frames) = true
is_of_link Resync = true
is_of_link (Block n) = false
is_of_link (Unblock n) = false
is_of_link (Lookup a) = false

module _ {M : Type 0} (f : Format M) where
  -- Whether what a frame reads as fits; one that can't be read is no message.
  abbrev pub read_fits : Result (NetlinkMessage M) DecodeError → Bool
  read_fits (Ok m) = message_fits f.text f.fits m
  read_fits (Err e) = true

  -- Whether what a frame of a batch reads as fits.
  abbrev pub frame_fits : BatchFrame → Bool
  frame_fits frame = read_fits (frame_at f.reads frame.bytes)

  -- Whether each frame of a record fits.
  abbrev pub all_fit : Record → Bool
  all_fit (Recv source bytes) = true
  all_fit Overrun = true
  all_fit Close = true
  all_fit (Batch to frames) = list_all frame_fits frames
  all_fit Resync = true
  all_fit (Block n) = true
  all_fit (Unblock n) = true
  all_fit (Lookup a) = true

-- No record that is allowed has this line.
abbrev pub IsNoRecord : (Record → Type 0) → List ℕ → Type 0
IsNoRecord Allowed line = (r : Record) → Allowed r → line ++ newline ∷ [] ≢ record_line r

module _ {M : Type 0} (f : Format M) (s : Settings) where
  -- Why a record isn't taken after events, the first cause of these.
  abbrev pub refusal : List (Event M) → Record → Option Refusal
  refusal before r =
      if is_of_link r && is_shut before then Some AfterClose
      else if nat_lt greatest_number (last_number s.start before + numbers_of r) then Some OutOfNumbers
      else if not (all_fit f r) then Some TooLong
      else None

  module _ (Allowed : Record → Type 0) where
    -- Records that are taken one after another.
    abbrev pub AreTaken : List (Event M) → List Record → Type 0
    AreTaken before [] = Unit {0}
    AreTaken before (r ∷ rs) = Allowed r × (refusal before r ≡ None) × AreTaken (before ++ record_events f s r) rs

    -- What is left after records begins with a whole line that ends within the limit.
    pub record BeginsLine (rs : List Record) (left line : List ℕ) : Type 0 where
      pub rest : List ℕ
      pub spelled : left ≡ line ++ newline ∷ rest
      pub one : has_newline line ≡ false
      pub within : length (lines_of rs) + length line < s.limit

    -- What is left begins with a whole line that is no record.
    pub record BeginsBad (rs : List Record) (left : List ℕ) : Type 0 where
      pub line : List ℕ
      pub begins : BeginsLine rs left line
      pub none : IsNoRecord Allowed line

    -- What is left begins with the line of a record that isn't taken.
    pub record BeginsRefused (rs : List Record) (left : List ℕ) (why : Refusal) : Type 0 where
      pub entry : Record
      pub line : List ℕ
      pub begins : BeginsLine rs left line
      pub is : line ++ newline ∷ [] ≡ record_line entry
      pub allowed : Allowed entry
      pub cause : refusal (events_of f s rs) entry ≡ Some why

    -- What is left is a line without its end, and the input isn't longer than the limit.
    pub record IsUnfinished (rs : List Record) (left : List ℕ) : Type 0 where
      pub some : 0 < length left
      pub part : has_newline left ≡ false
      pub within : length (lines_of rs) + length left ≤ s.limit

    -- The input is longer than the limit, and no line after the records ends within it.
    pub record IsPast (rs : List Record) (left : List ℕ) : Type 0 where
      pub piece : List ℕ
      pub rest : List ℕ
      pub spelled : left ≡ piece ++ rest
      pub part : has_newline piece ≡ false
      pub reaches : length (lines_of rs) + length piece ≡ s.limit
      pub more : 0 < length rest

    -- Why a run stops after records, before what is left of the input. The last three are no fault of the input.
    abbrev pub Stops : List Record → List ℕ → RunFault → Type 0
    Stops rs left (run.BadRecord at) = (at ≡ length (lines_of rs)) × (BeginsBad rs left ⊎ IsUnfinished rs left)
    Stops rs left (run.Closed at) = (at ≡ length (lines_of rs)) × BeginsRefused rs left AfterClose
    Stops rs left (run.SequenceExhausted at) = (at ≡ length (lines_of rs)) × BeginsRefused rs left OutOfNumbers
    Stops rs left (run.Unfit at) = (at ≡ length (lines_of rs)) × BeginsRefused rs left TooLong
    Stops rs left run.Limit = IsPast rs left
    Stops rs left run.ReadFault = ⊥
    Stops rs left run.WriteFault = ⊥
    Stops rs left run.NoMemory = ⊥

    -- The cause of an input, after the records that are taken before it.
    pub record HasCause (input : List ℕ) (rs : List Record) (fault : RunFault) : Type 0 where
      pub left : List ℕ
      pub spelled : input ≡ lines_of rs ++ left
      pub taken : AreTaken [] rs
      pub stops : Stops rs left fault

    -- An input without a cause: the lines of records that are all taken, within the limit.
    pub record IsValid (input : List ℕ) (rs : List Record) : Type 0 where
      pub spelled : input ≡ lines_of rs
      pub taken : AreTaken [] rs
      pub within : length input ≤ s.limit

    -- An input is valid, or has a cause.
    abbrev pub HasOutcome : List ℕ → Type 0
    HasOutcome input = (rs : List Record) × (IsValid input rs ⊎ ((fault : RunFault) × HasCause input rs fault))
