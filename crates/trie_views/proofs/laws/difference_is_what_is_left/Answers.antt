use Rattle.view_model.proofs.Laws.{difference_has}
use Rattle.trie_views.proofs.laws.difference_is_what_is_left.Goals as goal

pub returns : goal.returns
returns g c = difference_has (g.L.TrieView.told c.args.left.now) (g.R.TrieView.told c.args.right.now)
