use Rattle.std.proofs.Common.{◌≡◌, ◌++◌, map}
use Rattle.session_model.specs.Transcript.{lines_of}
use Rattle.transcript_generator.specs.Generated.{lookup_record, numbers}
use Rattle.transcript_generator.proofs.text.put_lookups.Given as goal

abbrev pub invariant-loop-i : goal.invariant-loop-i
invariant-loop-i l = l.text.items ≡ l.initial.text.items ++ lines_of (map lookup_record (numbers l.i))
