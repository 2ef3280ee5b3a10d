use Rattle.std.specs.Prelude.{◌↔◌, ◌≤◌}
use Rattle.trie_model.specs.Nets.{Net}
use Rattle.trie_map.specs.Walking.{CanWalk, IsFrugalWalk, ToCome, work_left}
use Rattle.trie_map.proofs.walk.ViewIter.next.Given as goal

abbrev pub invariant-moves : goal.invariant-moves
invariant-moves g l = CanWalk g.V.TrieView.valid g.V.TrieView.told g.V.P.Number.KeyBits.width l.self
    × ((n : Net) (x : g.V.TrieView.Item) → ToCome g.V.TrieView.told g.V.P.Number.KeyBits.width l.self n x ↔ ToCome g.V.TrieView.told
    g.V.P.Number.KeyBits.width l.initial.self n x) × (IsFrugalWalk g.V.TrieView.told l.initial.self → IsFrugalWalk g.V.TrieView.told l.self)
    × (work_left g.V.TrieView.told g.V.P.Number.KeyBits.width l.self ≤ work_left g.V.TrieView.told g.V.P.Number.KeyBits.width l.initial.self)

abbrev pub decreases-moves : goal.decreases-moves
decreases-moves g l = work_left g.V.TrieView.told g.V.P.Number.KeyBits.width l.self
