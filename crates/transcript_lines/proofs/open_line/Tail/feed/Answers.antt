use Rattle.transcript_lines.proofs.open_line.Tail.feed.Goals as goal

pub returns-in-None : goal.returns-in-None
returns-in-None c taken t = (rw c.in-None.is at c.in_ok-reader-in-Datagram.ensures) taken (rw c.in-Datagram.is at t)

pub returns-in-None-2 : goal.returns-in-None-2
returns-in-None-2 c taken t = (rw c.in-None-2.is at c.in_ok-reader-in-Batch.ensures) taken (rw c.in-Batch.is at t)
