use Rattle.trie_map.specs.Shape.{node_shape}
use Rattle.trie_model.proofs.TrieMaps.{ok_empty, list_empty}
use Rattle.trie_map.proofs.map.PrefixMap.new.Goals as goal

pub invariant_of-result : goal.invariant_of-result
invariant_of-result g c = ok_empty node_shape g.P.Number.KeyBits.width c.empty.result c.empty.ensures.data_bits c.empty.ensures.child_bits (c.empty.ensures.good g.P.Number.KeyBits.width 0) c.empty.ensures.full

pub returns : goal.returns
returns g c = list_empty node_shape g.P.Number.KeyBits.width c.empty.result c.empty.ensures.data_bits c.empty.ensures.child_bits
