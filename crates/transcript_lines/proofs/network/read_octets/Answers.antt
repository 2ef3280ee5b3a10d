use Rattle.transcript_lines.proofs.NetworkWords.{other_count, pairs_spell}
use Rattle.transcript_lines.proofs.network.read_octets.Goals as goal

pub returns-then-digits-octets : goal.returns-then-digits-octets
returns-then-digits-octets c = other_count c.args.digits.now c.args.octets.now c.requires c.if-digits-octets.true

pub returns : goal.returns
returns c = pairs_spell c.args.digits.now c.decode_pairs.new.bytes c.decode_pairs.result (rw c.decode_pairs.auto.bytes c.requires) c.decode_pairs.ensures
