use Rattle.std.proofs.Common.{◌-◌}
use Rattle.trie_adapters.specs.Filtered.{AcceptsPair, KeepsBelow}
use Rattle.trie_adapters.proofs.filter.filter_view.Given as goal

abbrev pub invariant-bits : goal.invariant-bits
invariant-bits g l =
    g.V.TrieView.valid l.rest
    × KeepsBelow g.V.TrieView.item (AcceptsPair g.V.P.PlainPrefix.net g.V.P.PlainPrefix.raw g.V.TrieView.item (goal.F-post g l.by)) g.V.P.Number.KeyBits.width
    l.bit l.data_bitmap l.kept (g.V.TrieView.told l.fn.view) (g.V.TrieView.told l.rest)

abbrev pub decreases-bits : goal.decreases-bits
decreases-bits g l = 31 - l.bit
