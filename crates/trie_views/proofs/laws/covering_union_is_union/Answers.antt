use Rattle.view_model.proofs.Laws.{covering_is_union}
use Rattle.trie_views.proofs.laws.covering_union_is_union.Goals as goal

pub returns : goal.returns
returns g c = covering_is_union g.L.P.Number.KeyBits.width g.L.P.PlainPrefix.net g.L.P.PlainPrefix.raw
    (g.L.TrieView.told c.args.left.now) (g.R.TrieView.told c.args.right.now)
