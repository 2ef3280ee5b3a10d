-- What a decoder of lines was fed, and what it tells of a line.
use Rattle.std.specs.Prelude.{◌≡◌, ◌+◌, ℕ, false, List, [], ◌∷◌, ◌++◌, length, Result}
use Rattle.std.specs.List.{concat}
use Rattle.nl_core.specs.declared.error.DecodeError.{DecodeError}
use Rattle.session_model.specs.Causes.{IsNoRecord}
use Rattle.session_model.specs.Lines.{newline}
use Rattle.session_model.specs.Transcript.{IsRecord, has_newline, record_line}
use Rattle.session_model.specs.declared.transcript.Record.{Record}
use Rattle.transcript_lines.specs.OpenLine.{ReadsLine, kept_at}
use Rattle.transcript_lines.specs.declared.decoder.Line.{Line}
use Rattle.transcript_lines.specs.declared.decoder.Line.TheVariants as told
use Rattle.transcript_lines.specs.declared.decoder.LineDecoder.{LineDecoder}

-- Exactly these bytes of the unfinished line were taken.
abbrev pub Stands : {T : Type 0} → List ℕ → LineDecoder T → Type 0
Stands taken decoder = ReadsLine taken decoder.line

-- How many decoded bytes of the unfinished line are kept.
abbrev pub kept : {T : Type 0} → LineDecoder T → ℕ
kept decoder = kept_at decoder.line.tail

-- This is what a whole line is, without its newline: the record that is allowed and has it, or none.
abbrev pub IsLineOf : (Record → Type 0) → List ℕ → Line → Type 0
IsLineOf Allowed bytes (told.Record r) = (bytes ++ newline ∷ [] ≡ record_line r) × Allowed r
IsLineOf Allowed bytes told.Bad = IsNoRecord Allowed bytes

-- A piece without a newline is taken whole.
pub record TakesAll {T : Type 0} (before : LineDecoder T) (piece : List ℕ) (took : ℕ) (after : LineDecoder T) : Type 0 where
  pub part : has_newline piece ≡ false
  pub all : took ≡ length piece
  pub goes_on : (taken : List ℕ) → Stands taken before → Stands (taken ++ piece) after

-- A piece is taken up to and with its first newline: this line ends there, and nothing of the next one was taken.
pub record EndsLine {T M : Type 0} (reads : ℕ → List ℕ → Result M DecodeError) (before : LineDecoder T) (piece : List ℕ) (took : ℕ)
    (after : LineDecoder T) (line : Line) : Type 0 where
  pub front : List ℕ
  pub rest : List ℕ
  pub cut : piece ≡ front ++ newline ∷ rest
  pub first : has_newline front ≡ false
  pub count : took ≡ length front + 1
  pub told : (taken : List ℕ) → Stands taken before → IsLineOf (IsRecord reads) (taken ++ front) line
  pub fresh : Stands [] after

-- A decoder is fed these pieces, of which the last alone has a newline, as its last byte, and tells this line.
abbrev pub Tells : {T M : Type 0} → (ℕ → List ℕ → Result M DecodeError) → LineDecoder T → List (List ℕ) → Line → Type 0
Tells reads before [] line = ⊥
Tells {T} reads before (piece ∷ []) line =
    (took : ℕ) × (after : LineDecoder T) × EndsLine reads before piece took after line × (took ≡ length piece)
Tells {T} reads before (piece ∷ next ∷ pieces) line =
    (took : ℕ) × (after : LineDecoder T) × TakesAll before piece took after × Tells reads after (next ∷ pieces) line

-- Fresh decoders that are fed one line, each in pieces of its own, tell one answer.
abbrev pub PiecesAgree : (T : Type 0) {M : Type 0} → (ℕ → List ℕ → Result M DecodeError) → Type 0
PiecesAgree T reads = (d e : LineDecoder T) (ps qs : List (List ℕ)) (l m : Line) → Stands [] d → Stands [] e
    → concat ps ≡ concat qs → Tells reads d ps l → Tells reads e qs m → l ≡ m
