use Rattle.transcript_lines.proofs.batch_reader.BatchReader.end.Goals as goal

pub returns-in_default : goal.returns-in_default
returns-in_default c taken b = ((rw c.in_default.is at c.in_ok-reader.ensures) taken b).0

pub returns : goal.returns
returns c taken b = ((rw c.in-Some.is at c.in_ok-reader.ensures) taken b).0
