use Rattle.std.proofs.Common.{rules}
use Rattle.trie_model.proofs.MaskNets.{covers_first}
use Rattle.trie_map.proofs.prefixes.Tuple2U128U8Prefix.contains.Goals as goal

pub returns-then-self-other : goal.returns-then-self-other
returns-then-self-other c =
    let both = covers_first 128 c.args.self.now.0 c.args.self.now.1 c.args.other.now.0 c.args.other.now.1 c.first_bits.result c.number.result c.if-self-other.true c.requires.other c.first_bits.ensures c.number.ensures.bits in
    search (rules, both)
