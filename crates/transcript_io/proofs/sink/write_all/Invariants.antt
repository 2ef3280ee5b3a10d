use Rattle.std.proofs.Common.{◌≤◌, length}
use Rattle.transcript_io.specs.Io.{Gained}
use Rattle.transcript_io.proofs.sink.write_all.Given as goal

-- the sink gained the first bytes of the text, and the rest waits
abbrev pub invariant-loop-rest : goal.invariant-loop-rest
invariant-loop-rest g l = record {
  gained : Gained (g.K.Sink.written l.initial.out) (g.K.Sink.written l.out) l.text l.rest;
  later : g.K.Sink.faults l.initial.out ≤ g.K.Sink.faults l.out;
}

abbrev pub decreases-loop-rest : goal.decreases-loop-rest
decreases-loop-rest g l = length l.rest
