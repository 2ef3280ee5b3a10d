use Rattle.transcript_lines.proofs.Heads.{no_record}
use Rattle.transcript_lines.proofs.open_line.Tail.end.Goals as goal

pub returns-in-Bad : goal.returns-in-Bad
returns-in-Bad c taken t = no_record taken (rw c.in-Bad.is at t)
