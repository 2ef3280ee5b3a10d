use Rattle.trie_model.proofs.CommonBits.{common_len}
use Rattle.trie_map.proofs.prefixes.U128KeyBits.common_bits.Goals as goal

pub returns : goal.returns
returns c = common_len 128 c.args.self c.args.other c.ranges.self.fits c.ranges.other.fits
