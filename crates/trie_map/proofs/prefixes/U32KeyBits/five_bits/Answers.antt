use Rattle.std.proofs.Common.{arith}
use Rattle.trie_model.proofs.MaskLaws.{five_shift}
use Rattle.trie_map.proofs.prefixes.U32KeyBits.five_bits.Goals as goal

pub returns : goal.returns
returns c = five_shift 32 c.args.depth c.args.self (omega arith) c.requires.depth
