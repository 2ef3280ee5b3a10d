-- Which record a line spells.
use Rattle.std.specs.Prelude.{◌≡◌, ◌≢◌, ℕ, List, ◌∷◌, codes, Option, Some, None}
use Rattle.std.specs.Fmt.{decimal}
use Rattle.session_model.specs.Transcript.{AreBytes, IsAddress, IsSpelled, record_words, record_line, frame_word, mark_letter}
use Rattle.session_model.specs.declared.address.SocketAddr.{SocketAddr}
use Rattle.session_model.specs.declared.transcript.Mark.{Mark}
use Rattle.session_model.specs.declared.transcript.BatchFrame.{BatchFrame}
use Rattle.session_model.specs.declared.transcript.Record.{Record}
use Rattle.transcript_lines.specs.declared.line.Kind.{Kind}
use Rattle.transcript_lines.specs.declared.line.Kind.TheVariants.{Recv as ForRecv, Overrun as ForOverrun, Close as ForClose, Batch as ForBatch, Resync as ForResync, Block as ForBlock, Unblock as ForUnblock, Lookup as ForLookup}

-- Records that have one line are one record.
abbrev pub SpellingIsInjective : Type 0
SpellingIsInjective = (r s : Record) → IsSpelled r → IsSpelled s → record_line r ≡ record_line s → r ≡ s

-- This is the record that the words spell, and None where they spell none.
abbrev pub IsRecordOf : List (List ℕ) → Option Record → Type 0
IsRecordOf words (Some r) = IsSpelled r × (words ≡ record_words r)
IsRecordOf words None = (r : Record) → IsSpelled r → words ≢ record_words r

-- The first two words spell this address and the others are left, and None where they spell none.
abbrev pub IsAddressOf : List (List ℕ) → Option SocketAddr → List (List ℕ) → Type 0
IsAddressOf words (Some a) left = IsAddress a × (words ≡ decimal a.port ∷ decimal a.groups ∷ left)
IsAddressOf words None left =
    (a : SocketAddr) (rest : List (List ℕ)) → IsAddress a → words ≢ decimal a.port ∷ decimal a.groups ∷ rest

-- This is the frame that the word spells, and None where it spells none.
abbrev pub IsFrameOf : List ℕ → Option BatchFrame → Type 0
IsFrameOf word (Some frame) = AreBytes frame.bytes × (word ≡ frame_word frame)
IsFrameOf word None = (frame : BatchFrame) → AreBytes frame.bytes → word ≢ frame_word frame

-- This is the mark of the letter, and None where it is the letter of none.
abbrev pub IsMarkOf : ℕ → Option Mark → Type 0
IsMarkOf letter (Some mark) = letter ≡ mark_letter mark
IsMarkOf letter None = (mark : Mark) → letter ≢ mark_letter mark

-- The first word of a record of this kind.
abbrev pub keyword : Kind → List ℕ
keyword ForRecv = codes "recv"
keyword ForOverrun = codes "overrun"
keyword ForClose = codes "close"
keyword ForBatch = codes "batch"
keyword ForResync = codes "resync"
keyword ForBlock = codes "block"
keyword ForUnblock = codes "unblock"
keyword ForLookup = codes "lookup"

-- This is the kind whose first word this is, and None where no kind has it.
abbrev pub IsKindOf : List ℕ → Option Kind → Type 0
IsKindOf word (Some kind) = word ≡ keyword kind
IsKindOf word None = (kind : Kind) → word ≢ keyword kind
