use Rattle.std.proofs.Common.{◌-◌}
use Rattle.std.specs.Prelude.{vec_capacity}
use Rattle.trie_model.specs.Walks.{rest}
use Rattle.trie_model.proofs.DownLaws.{Down}
use Rattle.trie_map.proofs.walk.descend.Given as goal

abbrev pub invariant-down : goal.invariant-down
invariant-down g l = record {
  usable : g.V.TrieView.valid l.view;
  way : Down (λ k. g.V.TrieView.valid k.view) (λ k. rest g.V.P.Number.KeyBits.width (g.V.TrieView.told k.view) k.spot) (λ k. g.V.TrieView.told k.view)
      (λ k. k.spot) g.V.P.Number.KeyBits.width l.inclusive (record { bits = g.V.P.Number.KeyBits.number l.key; len = l.len })
      (g.V.TrieView.told l.initial.view) l.initial.levels.items (g.V.TrieView.told l.view) l.levels.items (vec_capacity l.levels);
}

abbrev pub decreases-down : goal.decreases-down
decreases-down g l = l.len - (g.V.TrieView.told l.view).place.len
