-- How a transcript is spelled, each record as one line, and which records there are.
use Rattle.std.specs.Prelude.{◌<◌, ◌≤◌, ◌^◌, ◌==◌, ℕ, Bool, List, [], ◌∷◌, map, length, codes, flat_map, Result, IsOk}
use Rattle.std.specs.List.{AllByRecursion, list_any}
use Rattle.std.specs.Fmt.{decimal}
use Rattle.nl_core.specs.Frames.{frame_at, IsFrame}
use Rattle.nl_core.specs.declared.error.DecodeError.{DecodeError}
use Rattle.session_model.specs.declared.address.SocketAddr.{SocketAddr}
use Rattle.session_model.specs.declared.transcript.Mark.{Mark}
use Rattle.session_model.specs.declared.transcript.Mark.TheVariants.{ByFlags, Expected, NotExpected}
use Rattle.session_model.specs.declared.transcript.BatchFrame.{BatchFrame}
use Rattle.session_model.specs.declared.transcript.Record.{Record}
use Rattle.session_model.specs.declared.transcript.Record.TheVariants.{Recv, Overrun, Close, Batch, Resync, Block, Unblock, Lookup}
use Rattle.session_model.specs.Lines.{newline, hex_word, line}
use Rattle.session_model.specs.Networks.{IsHost, IsNetwork, address_words, network_words}

-- The letters `f`, `e` and `n`.
abbrev pub mark_letter : Mark → ℕ
mark_letter ByFlags = 102
mark_letter Expected = 101
mark_letter NotExpected = 110

-- The byte `:`, which stands between a mark and a frame.
abbrev pub colon : ℕ
colon = 58

-- The word of a frame of a batch.
abbrev pub frame_word : BatchFrame → List ℕ
frame_word frame = mark_letter frame.mark ∷ colon ∷ hex_word frame.bytes

-- The words of a record's line.
abbrev pub record_words : Record → List (List ℕ)
record_words (Recv source bytes) = codes "recv" ∷ decimal source.port ∷ decimal source.groups ∷ hex_word bytes ∷ []
record_words Overrun = codes "overrun" ∷ []
record_words Close = codes "close" ∷ []
record_words (Batch to frames) = codes "batch" ∷ decimal to.port ∷ decimal to.groups ∷ map frame_word frames
record_words Resync = codes "resync" ∷ []
record_words (Block n) = codes "block" ∷ network_words n
record_words (Unblock n) = codes "unblock" ∷ network_words n
record_words (Lookup a) = codes "lookup" ∷ address_words a

-- The line of a record.
abbrev pub record_line : Record → List ℕ
record_line r = line (record_words r)

-- The lines of records, joined.
abbrev pub lines_of : List Record → List ℕ
lines_of rs = flat_map record_line rs

-- Whether bytes have a newline.
abbrev pub has_newline : List ℕ → Bool
has_newline bytes = list_any (λ b. b == newline) bytes

-- ---- which records there are

-- Each number is that of a byte.
abbrev pub AreBytes : List ℕ → Type 0
AreBytes bytes = AllByRecursion (λ b. b < 256) bytes

-- The numbers of an address are in range.
pub record IsAddress (a : SocketAddr) : Type 0 where
  pub port : a.port < 2 ^ 32
  pub groups : a.groups < 2 ^ 32

-- The most bytes of a datagram.
abbrev pub longest_datagram : ℕ
longest_datagram = 65536

-- The bytes of each frame of a batch are such.
abbrev pub AreFrames : (List ℕ → Type 0) → List BatchFrame → Type 0
AreFrames Such frames = AllByRecursion (λ (frame : BatchFrame). Such frame.bytes) frames

-- A line can spell this record: its numbers and bytes are in range, and a datagram isn't too long.
abbrev pub IsSpelled : Record → Type 0
IsSpelled (Recv source bytes) = IsAddress source × AreBytes bytes × (length bytes ≤ longest_datagram)
IsSpelled Overrun = Unit {0}
IsSpelled Close = Unit {0}
IsSpelled (Batch to frames) = IsAddress to × AreFrames AreBytes frames
IsSpelled Resync = Unit {0}
IsSpelled (Block n) = IsNetwork n
IsSpelled (Unblock n) = IsNetwork n
IsSpelled (Lookup a) = IsHost a

-- Bytes are one frame that can be read, and whose length field is its count of bytes.
pub record IsWholeFrame {M : Type 0} (reads : ℕ → List ℕ → Result M DecodeError) (bytes : List ℕ) : Type 0 where
  pub frame : IsFrame bytes
  pub readable : IsOk (frame_at reads bytes)

-- Each frame of a record's batch is whole.
abbrev pub HasWholeFrames : {M : Type 0} → (ℕ → List ℕ → Result M DecodeError) → Record → Type 0
HasWholeFrames reads (Recv source bytes) = Unit {0}
HasWholeFrames reads Overrun = Unit {0}
HasWholeFrames reads Close = Unit {0}
HasWholeFrames reads (Batch to frames) = AreFrames (IsWholeFrame reads) frames
HasWholeFrames reads Resync = Unit {0}
HasWholeFrames reads (Block n) = Unit {0}
HasWholeFrames reads (Unblock n) = Unit {0}
HasWholeFrames reads (Lookup a) = Unit {0}

-- A record of a transcript, by how the inner messages of its frames are read.
abbrev pub IsRecord : {M : Type 0} → (ℕ → List ℕ → Result M DecodeError) → Record → Type 0
IsRecord reads r = IsSpelled r × HasWholeFrames reads r
