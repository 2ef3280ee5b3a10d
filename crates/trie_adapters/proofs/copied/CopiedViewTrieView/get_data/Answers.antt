use Rattle.std.proofs.Common.{refl}
use Rattle.trie_adapters.proofs.copied.CopiedViewTrieView.get_data.Goals as goal

pub returns-clause-data : goal.returns-clause-data
returns-clause-data g c = (g.V.TrieView.item c.in_ok-item.item, c.in_ok-item.ensures.data, (c.in_ok-item.item, refl, refl))
