use Rattle.std.proofs.Common.{◌∙◌}
use Rattle.transcript_lines.specs.Network.{word_of}
use Rattle.transcript_lines.proofs.NetworkWords.{host_of_octets, no_octets}
use Rattle.transcript_lines.proofs.network.host_of_digits.Goals as goal

pub returns-then-read_octets : goal.returns-then-read_octets
returns-then-read_octets c =
    let read = c.if-read_octets.ensures in
    host_of_octets (word_of c.args.family) c.args.digits.now c.read_octets.new.octets c.host_at.result read.0 read.1 c.host_at.ensures

pub returns-else-read_octets : goal.returns-else-read_octets
returns-else-read_octets c =
    no_octets c.args.family c.args.digits.now c.read_octets.new.octets (c.read_octets.auto.octets ∙ c.requires) c.if-read_octets.ensures
