use Rattle.view_model.proofs.Laws.{intersection_has}
use Rattle.trie_views.proofs.laws.intersection_is_what_both_have.Goals as goal

pub returns : goal.returns
returns g c = intersection_has (g.L.TrieView.told c.args.left.now) (g.R.TrieView.told c.args.right.now)
