use Rattle.std.proofs.Common.{List, ℕ, ◌++◌, take}
use Rattle.transcript_lines.specs.BytesReader.{ReadsBytes}
use Rattle.transcript_lines.proofs.bytes.BytesReader.take_each.Given as goal

abbrev pub invariant-loop-byte : goal.invariant-loop-byte
invariant-loop-byte l = (fed : List ℕ) → ReadsBytes fed l.fn.self → ReadsBytes (fed ++ take l.byte-index l.piece) l.self
