-- What bytes of an unfinished line were taken.
use Rattle.std.specs.Prelude.{◌≡◌, ◌+◌, ◌<◌, ◌≤◌, ℕ, List, [], ◌∷◌, ◌++◌, length, flat_map, codes, Option, Some, None}
use Rattle.std.specs.List.{join_with_byte}
use Rattle.session_model.specs.Lines.{space}
use Rattle.transcript_lines.specs.Decoding.{AreWords, BeginsNoRecord, ReadsBatch, ReadsDatagram, bytes_in, kept_in_word, spaced}
use Rattle.transcript_lines.specs.declared.open_line.Head.{Head}
use Rattle.transcript_lines.specs.declared.open_line.OpenLine.{OpenLine}
use Rattle.transcript_lines.specs.declared.open_line.Tail.{Tail}
use Rattle.transcript_lines.specs.declared.open_line.Tail.TheVariants.{Datagram, Batch, Bad}

-- Three words at most.
pub record HasFewWords (line : List ℕ) : Type 0 where
  pub words : List (List ℕ)
  pub apart : AreWords words
  pub joined : line ≡ join_with_byte space words
  pub some : 0 < length words
  pub few : length words ≤ 3

-- These are the first three words of a line and what follows the space after them; None where no space does.
abbrev pub IsCutInWords : List ℕ → Option Head → Type 0
IsCutInWords line (Some head) = AreWords (head.first.now ∷ head.second.now ∷ head.third.now ∷ [])
    × (line ≡ flat_map spaced (head.first.now ∷ head.second.now ∷ head.third.now ∷ []) ++ head.rest.now)
IsCutInWords line None = HasFewWords line

-- The line is one of a datagram, as far as it has come.
abbrev pub IsRecvLine : List ℕ → Type 0
IsRecvLine taken = (more : List ℕ) × (taken ≡ codes "recv " ++ more)

-- These bytes of the line were taken, of which the tail has read what follows the head.
abbrev pub ReadsTail : List ℕ → Tail → Type 0
ReadsTail taken (Datagram reader) = ReadsDatagram taken reader
ReadsTail taken (Batch reader) = ReadsBatch taken reader
ReadsTail taken Bad = BeginsNoRecord taken

-- How many decoded bytes a tail keeps.
abbrev pub kept_in : Tail → ℕ
kept_in (Datagram reader) = length reader.digits.bytes.items
kept_in (Batch reader) = kept_in_word reader.word + bytes_in reader.frames
kept_in Bad = 0

-- Whatever bytes were taken, these were taken more.
abbrev pub FeedsTail : Tail → List ℕ → Tail → Type 0
FeedsTail before more after = (taken : List ℕ) → ReadsTail taken before → ReadsTail (taken ++ more) after

-- The most bytes of a record's first three words with the spaces between them.
abbrev pub longest_head : ℕ
longest_head = 55

-- The bytes taken are kept as they came.
pub record ReadsHead (taken head : List ℕ) : Type 0 where
  pub kept : head ≡ taken
  pub short : length head ≤ longest_head

-- These bytes were taken: they are kept as they came, or the tail has read them.
abbrev pub StandsAt : List ℕ → List ℕ → Option Tail → Type 0
StandsAt taken head (Some tail) = ReadsTail taken tail
StandsAt taken head None = ReadsHead taken head

-- Exactly these bytes of the line were taken.
abbrev pub ReadsLine : List ℕ → OpenLine → Type 0
ReadsLine taken line = StandsAt taken line.head.items line.tail

-- How many decoded bytes a line keeps whose tail this is.
abbrev pub kept_at : Option Tail → ℕ
kept_at (Some tail) = kept_in tail
kept_at None = 0

-- Whatever bytes were taken, these were taken more.
abbrev pub TakesBytes : OpenLine → List ℕ → OpenLine → Type 0
TakesBytes before more after = (taken : List ℕ) → ReadsLine taken before → ReadsLine (taken ++ more) after
