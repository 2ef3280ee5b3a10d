use Rattle.transcript_lines.proofs.DatagramDigits.{no_digits}
use Rattle.transcript_lines.proofs.datagram_reader.DatagramReader.new.Goals as goal

pub returns : goal.returns
returns c address = no_digits c.args.source c.in_ok-with_capacity.field-0 c.in_ok-with_capacity.ensures address
