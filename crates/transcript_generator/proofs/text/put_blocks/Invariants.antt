use Rattle.std.proofs.Common.{◌≡◌, ◌++◌, ◌%◌, ◌==◌, map}
use Rattle.std.specs.List.{filter}
use Rattle.session_model.specs.Transcript.{lines_of}
use Rattle.transcript_generator.specs.Generated.{block_record, numbers}
use Rattle.transcript_generator.proofs.text.put_blocks.Given as goal

abbrev pub invariant-loop-i : goal.invariant-loop-i
invariant-loop-i l = l.text.items ≡ l.initial.text.items ++ lines_of (map block_record (filter (λ i. i % 1000 == 0) (numbers l.i)))
