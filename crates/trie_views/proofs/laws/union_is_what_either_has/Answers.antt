use Rattle.view_model.proofs.Laws.{union_lacks}
use Rattle.trie_views.proofs.laws.union_is_what_either_has.Goals as goal

pub returns : goal.returns
returns g c = union_lacks (g.L.TrieView.told c.args.left.now) (g.R.TrieView.told c.args.right.now)
