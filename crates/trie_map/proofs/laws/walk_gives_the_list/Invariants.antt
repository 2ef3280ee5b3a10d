use Rattle.std.proofs.Common.{◌≡◌, map}
use Rattle.std.specs.List.{All}
use Rattle.trie_model.proofs.GatherLaws.{Gathered}
use Rattle.trie_map.specs.Walking.{CanWalk, ToCome, work_left}
use Rattle.trie_map.proofs.laws.walk_gives_the_list.Given as goal

abbrev pub invariant-pairs : goal.invariant-pairs
invariant-pairs g l =
    CanWalk g.V.TrieView.valid g.V.TrieView.told g.V.P.Number.KeyBits.width l.walk
    × Gathered g.V.P.Number.KeyBits.width (g.V.TrieView.told l.fn.view).at (ToCome g.V.TrieView.told g.V.P.Number.KeyBits.width l.walk) (map (λ p. (g.V.P.PlainPrefix.net p.0, g.V.TrieView.item p.1)) l.pairs.items)
    × All (λ p. g.V.P.PlainPrefix.raw p.0 ≡ (g.V.P.PlainPrefix.net p.0).bits) l.pairs.items

abbrev pub decreases-pairs : goal.decreases-pairs
decreases-pairs g l = work_left g.V.TrieView.told g.V.P.Number.KeyBits.width l.walk
