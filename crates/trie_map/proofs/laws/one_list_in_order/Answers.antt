use Rattle.trie_model.proofs.MapLists.{unique}
use Rattle.trie_map.proofs.laws.one_list_in_order.Goals as goal

pub returns : goal.returns
returns g c = unique g.V.P.Number.KeyBits.width (g.V.TrieView.told c.args.view.now).at
