use Rattle.trie_model.proofs.MaskNets.{prefix_masked}
use Rattle.trie_map.proofs.prefixes.Tuple2U64U8PlainPrefix.from_number.Goals as goal

pub returns-clause-net : goal.returns-clause-net
returns-clause-net c = prefix_masked 64 c.args.number c.args.len c.first_bits.result c.requires.len c.first_bits.ensures
