use Rattle.std.proofs.Common.{arith}
use Rattle.transcript_lines.proofs.DatagramDigits.{at_most_half}
use Rattle.transcript_lines.proofs.datagram_reader.DatagramReader.held.Goals as goal

pub returns-clause-half : goal.returns-clause-half
returns-clause-half c taken d = at_most_half c.args.self.now taken c.held.result c.held.ensures.half d

pub returns-clause-short : goal.returns-clause-short
returns-clause-short c taken d = omega (arith, c.held.ensures.count, d.short)
