-- What a reader of a number says of the digits that it was fed.
use Rattle.std.specs.Prelude.{◌≡◌, ◌≢◌, ◌<◌, ◌^◌, ℕ, List, [], ◌++◌, Option, Some, None}
use Rattle.std.specs.Fmt.{decimal}
use Rattle.transcript_lines.specs.declared.number.NumberReader.{NumberReader}
use Rattle.transcript_lines.specs.declared.number.NumberReader.TheVariants.{Begin, Value, Bad}

-- No number below 2 ^ 32 has a spelling that begins like this.
abbrev pub BeginsNoNumber : List ℕ → Type 0
BeginsNoNumber fed = (more : List ℕ) (number : ℕ) → number < 2 ^ 32 → fed ++ more ≢ decimal number

-- The reader was fed exactly this.
abbrev pub ReadsNumber : List ℕ → NumberReader → Type 0
ReadsNumber fed Begin = fed ≡ []
ReadsNumber fed (Value number) = (number < 2 ^ 32) × (fed ≡ decimal number)
ReadsNumber fed Bad = BeginsNoNumber fed

-- Whatever a reader was fed, it was fed these bytes more.
abbrev pub FeedsNumber : NumberReader → List ℕ → NumberReader → Type 0
FeedsNumber before more after = (fed : List ℕ) → ReadsNumber fed before → ReadsNumber (fed ++ more) after

-- This is the number below 2 ^ 32 that the word spells, and None where it spells none.
abbrev pub IsNumberOf : List ℕ → Option ℕ → Type 0
IsNumberOf word (Some number) = (number < 2 ^ 32) × (word ≡ decimal number)
IsNumberOf word None = (number : ℕ) → number < 2 ^ 32 → word ≢ decimal number
