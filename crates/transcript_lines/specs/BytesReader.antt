-- What a reader of bytes was fed.
use Rattle.std.specs.Prelude.{ℕ, List, ◌++◌}
use Rattle.transcript_lines.specs.Bytes.{ReadsAt}
use Rattle.transcript_lines.specs.declared.bytes.BytesReader.{BytesReader}

-- The reader was fed exactly this.
abbrev pub ReadsBytes : List ℕ → BytesReader → Type 0
ReadsBytes fed reader = ReadsAt fed reader.bytes.items reader.last

-- Whatever a reader was fed, it was fed these bytes more.
abbrev pub FeedsBytes : BytesReader → List ℕ → BytesReader → Type 0
FeedsBytes before more after = (fed : List ℕ) → ReadsBytes fed before → ReadsBytes (fed ++ more) after
