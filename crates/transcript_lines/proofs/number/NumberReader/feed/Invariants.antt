use Rattle.std.proofs.Common.{List, ℕ, ◌++◌, take}
use Rattle.transcript_lines.specs.Number.{ReadsNumber}
use Rattle.transcript_lines.proofs.number.NumberReader.feed.Given as goal

abbrev pub invariant-loop-byte : goal.invariant-loop-byte
invariant-loop-byte l = (fed : List ℕ) → ReadsNumber fed l.fn.self → ReadsNumber (fed ++ take l.byte-index l.piece) l.reader
