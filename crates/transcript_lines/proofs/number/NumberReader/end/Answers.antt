use Rattle.transcript_lines.proofs.Decimals.{empty}
use Rattle.transcript_lines.proofs.number.NumberReader.end.Goals as goal

pub returns-in-Begin : goal.returns-in-Begin
returns-in-Begin c fed r = empty fed (rw c.in-Begin.is at r)
