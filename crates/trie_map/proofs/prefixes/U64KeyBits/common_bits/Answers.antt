use Rattle.trie_model.proofs.CommonBits.{common_len}
use Rattle.trie_map.proofs.prefixes.U64KeyBits.common_bits.Goals as goal

pub returns : goal.returns
returns c = common_len 64 c.args.self c.args.other c.ranges.self.fits c.ranges.other.fits
