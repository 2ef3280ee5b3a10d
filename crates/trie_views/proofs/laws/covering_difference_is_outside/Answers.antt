use Rattle.view_model.proofs.Laws.{covering_difference_has}
use Rattle.trie_views.proofs.laws.covering_difference_is_outside.Goals as goal

pub returns : goal.returns
returns g c = covering_difference_has g.L.P.Number.KeyBits.width (g.L.TrieView.told c.args.left.now) (g.R.TrieView.told c.args.right.now)
