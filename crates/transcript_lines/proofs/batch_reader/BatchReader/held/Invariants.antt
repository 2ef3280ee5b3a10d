use Rattle.std.proofs.Common.{◌+◌, take}
use Rattle.transcript_lines.specs.Decoding.{IsCount, bytes_in, kept_in_word}
use Rattle.transcript_lines.proofs.batch_reader.BatchReader.held.Given as goal

abbrev pub invariant-loop-frame : goal.invariant-loop-frame
invariant-loop-frame l = IsCount l.held (kept_in_word l.fn.self.word + bytes_in (take l.frame-index l.fn.self.frames))
