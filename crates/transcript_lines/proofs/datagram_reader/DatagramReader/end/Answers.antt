use Rattle.transcript_lines.proofs.DatagramDigits.{ends_none, ends_some}
use Rattle.transcript_lines.proofs.datagram_reader.DatagramReader.end.Goals as goal

pub returns-in_err-bytes : goal.returns-in_err-bytes
returns-in_err-bytes c taken d = rw c.from_residual.ensures (ends_none c.args.self taken c.in_err-bytes.ensures d)

pub returns : goal.returns
returns c taken d = ends_some c.args.self c.in_ok-bytes.bytes taken c.in_ok-bytes.ensures d
