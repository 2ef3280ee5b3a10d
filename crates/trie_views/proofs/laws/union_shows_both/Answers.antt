use Rattle.std.proofs.Common.{rules}
use Rattle.view_model.proofs.Laws.{union_shows}
use Rattle.trie_views.proofs.laws.union_shows_both.Goals as goal

pub returns : goal.returns
returns g c =
    union_shows g.L.P.Number.KeyBits.width (g.L.TrieView.told c.args.left.now) (g.R.TrieView.told c.args.right.now)
    ((g.met.L.TrieView c.lifetimes (search rules)).laws c.args.left.now c.requires.left)
    ((g.met.R.TrieView c.lifetimes (search rules)).laws c.args.right.now c.requires.right)
