-- What bytes of an unfinished line a reader of its words stands for.
use Rattle.std.specs.Prelude.{◌≡◌, ◌≢◌, ◌-◌, ◌^◌, ◌≤◌, min, ℕ, List, [], ◌∷◌, ◌++◌, length, flat_map, codes, Option, Some, None}
use Rattle.std.specs.List.{AllByRecursion, sum_by}
use Rattle.std.specs.Fmt.{decimal}
use Rattle.session_model.specs.Causes.{IsNoRecord}
use Rattle.session_model.specs.Lines.{space}
use Rattle.session_model.specs.Transcript.{AreBytes, AreFrames, IsAddress, IsSpelled, colon, frame_word, longest_datagram, mark_letter, record_words}
use Rattle.session_model.specs.declared.address.SocketAddr.{SocketAddr}
use Rattle.session_model.specs.declared.transcript.BatchFrame.{BatchFrame}
use Rattle.session_model.specs.declared.transcript.Record.TheVariants.{Batch as batch_record}
use Rattle.transcript_lines.specs.BytesReader.{ReadsBytes}
use Rattle.transcript_lines.specs.Cut.{HasNoByte}
use Rattle.transcript_lines.specs.Line.{IsRecordOf}
use Rattle.transcript_lines.specs.Words.{words_of}
use Rattle.transcript_lines.specs.declared.batch_reader.BatchReader.{BatchReader}
use Rattle.transcript_lines.specs.declared.bytes.Last.TheVariants.{Bad as BadDigits}
use Rattle.transcript_lines.specs.declared.datagram_reader.DatagramReader.{DatagramReader}
use Rattle.transcript_lines.specs.declared.frame_word.FrameReader.{FrameReader}
use Rattle.transcript_lines.specs.declared.frame_word.FrameReader.TheVariants.{Begin, Letter, Digits, Bad}

-- A word with the space behind it.
abbrev pub spaced : List ℕ → List ℕ
spaced word = word ++ space ∷ []

-- No word has a space.
abbrev pub AreWords : List (List ℕ) → Type 0
AreWords words = AllByRecursion (HasNoByte space) words

-- The first three words of a record with an address.
abbrev pub head_words : List ℕ → SocketAddr → List (List ℕ)
head_words keyword a = keyword ∷ decimal a.port ∷ decimal a.groups ∷ []

-- No record's line begins like this.
abbrev pub BeginsNoRecord : List ℕ → Type 0
BeginsNoRecord taken = (more : List ℕ) → IsNoRecord IsSpelled (taken ++ more)

-- ---- a datagram

-- The bytes taken are those of the head, and of the digits that were read since.
pub record ReadsDatagram (taken : List ℕ) (reader : DatagramReader) : Type 0 where
  pub address : IsAddress reader.source
  pub word : List ℕ
  pub spelled : taken ≡ flat_map spaced (head_words (codes "recv") reader.source) ++ word
  pub reads : ReadsBytes word reader.digits
  pub good : reader.digits.last ≢ BadDigits
  pub short : length reader.digits.bytes.items ≤ longest_datagram

-- From one reader to another over a piece; to none where no record's line begins like this.
abbrev pub FeedsDatagram : DatagramReader → List ℕ → Option DatagramReader → Type 0
FeedsDatagram before more (Some after) = (taken : List ℕ) → ReadsDatagram taken before → ReadsDatagram (taken ++ more) after
FeedsDatagram before more None = (taken : List ℕ) → ReadsDatagram taken before → BeginsNoRecord (taken ++ more)

-- ---- a frame

-- No frame's word begins like this.
abbrev pub BeginsNoFrame : List ℕ → Type 0
BeginsNoFrame word = (more : List ℕ) (frame : BatchFrame) → AreBytes frame.bytes → word ++ more ≢ frame_word frame

-- The reader was fed exactly this of a word.
abbrev pub ReadsFrame : List ℕ → FrameReader → Type 0
ReadsFrame word Begin = word ≡ []
ReadsFrame word (Letter mark) = word ≡ mark_letter mark ∷ []
ReadsFrame word (Digits mark digits) = (fed : List ℕ) × (word ≡ mark_letter mark ∷ colon ∷ fed) × ReadsBytes fed digits
ReadsFrame word Bad = BeginsNoFrame word

-- Whatever a reader was fed, it was fed these bytes more.
abbrev pub FeedsFrame : FrameReader → List ℕ → FrameReader → Type 0
FeedsFrame before more after = (word : List ℕ) → ReadsFrame word before → ReadsFrame (word ++ more) after

-- ---- a batch

-- The bytes taken are those of the head and of whole frames, and a word that was read since.
pub record ReadsBatch (taken : List ℕ) (reader : BatchReader) : Type 0 where
  pub address : IsAddress reader.to
  pub frames : AreFrames AreBytes reader.frames
  pub word : List ℕ
  pub one : HasNoByte space word
  pub spelled : taken ≡ flat_map spaced (record_words (batch_record reader.to reader.frames)) ++ word
  pub reads : ReadsFrame word reader.word

-- Whatever bytes were taken, these were taken more.
abbrev pub FeedsBatch : BatchReader → List ℕ → BatchReader → Type 0
FeedsBatch before more after = (taken : List ℕ) → ReadsBatch taken before → ReadsBatch (taken ++ more) after

-- From one reader to another at the end of a word: the bytes taken are a batch's line, and a space more may follow.
-- To none where the bytes taken are no record's line, and none begins with them and a space.
abbrev pub EndsWord : BatchReader → Option BatchReader → Type 0
EndsWord before (Some after) = (taken : List ℕ) → ReadsBatch taken before
    → IsRecordOf (words_of taken) (Some (batch_record after.to after.frames)) × ReadsBatch (taken ++ space ∷ []) after
EndsWord before None = (taken : List ℕ) → ReadsBatch taken before
    → IsRecordOf (words_of taken) None × BeginsNoRecord (taken ++ space ∷ [])

-- From one reader to another over a piece; to none where no record's line begins like this.
abbrev pub GoesOnInBatch : BatchReader → List ℕ → Option BatchReader → Type 0
GoesOnInBatch before more (Some after) = FeedsBatch before more after
GoesOnInBatch before more None = (taken : List ℕ) → ReadsBatch taken before → BeginsNoRecord (taken ++ more)

-- ---- how much is kept

-- This is a count, or the greatest number where the count is above that.
abbrev pub IsCount : ℕ → ℕ → Type 0
IsCount number count = number ≡ min count (2 ^ 64 - 1)

-- How many decoded bytes a frame whose word isn't whole has.
abbrev pub kept_in_word : FrameReader → ℕ
kept_in_word Begin = 0
kept_in_word (Letter mark) = 0
kept_in_word (Digits mark digits) = length digits.bytes.items
kept_in_word Bad = 0

-- How many bytes frames have.
abbrev pub bytes_in : List BatchFrame → ℕ
bytes_in frames = sum_by (λ (frame : BatchFrame). length frame.bytes) frames
