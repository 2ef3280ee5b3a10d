use Rattle.trie_map.specs.Walking.{CanWalk, ToCome, work_left}
use Rattle.std.specs.Prelude.{◌↔◌}
use Rattle.trie_adapters.specs.Equal.{Accepts, AreEqualBy}
use Rattle.trie_adapters.proofs.EqualLaws.{ComeFrom}
use Rattle.trie_adapters.proofs.equal.equal_by.Given as goal

abbrev pub invariant-pairs : goal.invariant-pairs
invariant-pairs g l =
    CanWalk g.L.TrieView.valid g.L.TrieView.told g.L.P.Number.KeyBits.width l.left_walk
    × CanWalk g.R.TrieView.valid g.R.TrieView.told g.L.P.Number.KeyBits.width l.right_walk
    × ComeFrom (ToCome g.L.TrieView.told g.L.P.Number.KeyBits.width l.left_walk) (g.L.TrieView.told l.fn.left)
    × ComeFrom (ToCome g.R.TrieView.told g.L.P.Number.KeyBits.width l.right_walk) (g.R.TrieView.told l.fn.right)
    × (AreEqualBy (Accepts g.L.TrieView.item g.R.TrieView.item (goal.F-post g l.accepts)) (g.L.TrieView.told l.fn.left).at (g.R.TrieView.told l.fn.right).at
    ↔ AreEqualBy (Accepts g.L.TrieView.item g.R.TrieView.item (goal.F-post g l.accepts)) (ToCome g.L.TrieView.told g.L.P.Number.KeyBits.width l.left_walk)
    (ToCome g.R.TrieView.told g.L.P.Number.KeyBits.width l.right_walk))

abbrev pub decreases-pairs : goal.decreases-pairs
decreases-pairs g l = work_left g.L.TrieView.told g.L.P.Number.KeyBits.width l.left_walk
