-- What a source gives and what a sink takes, where they tell it.
use Rattle.std.specs.Prelude.{◌≡◌, ◌+◌, ◌<◌, ◌≤◌, ◌^◌, ◌⊎◌, ℕ, List, ◌++◌, length, take, Option, Some, None}
use Rattle.std.specs.Io.KnownBytes.{IsAtEnd}
use Rattle.transcript_io.specs.declared.source.Read.{Read}
use Rattle.transcript_io.specs.declared.source.Read.TheVariants as read
use Rattle.transcript_io.specs.declared.sink.Wrote.{Wrote}
use Rattle.transcript_io.specs.declared.sink.Wrote.TheVariants as wrote

-- A count of faults rose. One that has reached the greatest number stays there.
abbrev pub HasRisen : ℕ → ℕ → Type 0
HasRisen before now = (before < now) ⊎ (2 ^ 64 ≤ now + 1)

-- What is told, with these bytes in front of it.
abbrev pub with_front : List ℕ → Option (List ℕ) → Option (List ℕ)
with_front front None = None
with_front front (Some bytes) = Some (front ++ bytes)

-- What is told, with these bytes after it.
abbrev pub with_back : Option (List ℕ) → List ℕ → Option (List ℕ)
with_back None back = None
with_back (Some bytes) back = Some (bytes ++ back)

-- A read into a buffer: how the answer, the buffer and what is left before and after belong together.
abbrev pub DidRead : Option (List ℕ) → Read → List ℕ → Option (List ℕ) → Type 0
DidRead before (read.Got n) buffer after =
    (1 ≤ n) × (n ≤ length buffer) × (before ≡ with_front (take n buffer) after)
DidRead before read.End buffer after = (after ≡ before) × IsAtEnd before
DidRead before read.Failed buffer after = after ≡ before

-- A write of a piece: how the answer, the piece and what is written before and after belong together.
abbrev pub DidWrite : Option (List ℕ) → Wrote → List ℕ → Option (List ℕ) → Type 0
DidWrite before (wrote.Took n) piece after =
    (1 ≤ n) × (n ≤ length piece) × (after ≡ with_back before (take n piece))
DidWrite before wrote.Failed piece after = after ≡ before
DidWrite before wrote.NoMemory piece after = after ≡ before

-- A sink gained the first bytes of a text, and the rest of it waits.
pub record Gained (before after : Option (List ℕ)) (text rest : List ℕ) : Type 0 where
  pub shown : List ℕ
  pub wrote : after ≡ with_back before shown
  pub parts : text ≡ shown ++ rest

-- A sink gained some first bytes of a text, maybe none or all.
pub record GainedSome (before after : Option (List ℕ)) (text : List ℕ) : Type 0 where
  pub rest : List ℕ
  pub gained : Gained before after text rest

-- What a source had left and what was written to a sink, before and after a call, where they tell it.
pub record Traffic : Type 0 where
  pub left_before : Option (List ℕ)
  pub left_after : Option (List ℕ)
  pub written_before : Option (List ℕ)
  pub written_after : Option (List ℕ)

abbrev pub between : Option (List ℕ) → Option (List ℕ) → Option (List ℕ) → Option (List ℕ) → Traffic
between left_before left_after written_before written_after = record {
  left_before = left_before;
  left_after = left_after;
  written_before = written_before;
  written_after = written_after;
}

-- The same of a source before and after a call, and of a sink before and after it.
abbrev pub traffic : {S K : Type 0} → (S → Option (List ℕ)) → S → S → (K → Option (List ℕ)) → K → K → Traffic
traffic left input input' written out out' = between (left input) (left input') (written out) (written out')
