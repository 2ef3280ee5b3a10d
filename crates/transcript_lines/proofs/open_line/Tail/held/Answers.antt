use Rattle.transcript_lines.proofs.OpenLines.{no_recv}
use Rattle.transcript_lines.proofs.open_line.Tail.held.Goals as goal

pub returns-in-Batch-clause-short : goal.returns-in-Batch-clause-short
returns-in-Batch-clause-short c taken t r = absurd (no_recv taken _ (rw c.in-Batch.is at t) r)
