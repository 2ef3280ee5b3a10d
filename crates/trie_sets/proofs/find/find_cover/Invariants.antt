use Rattle.std.proofs.Common.{◌≡◌, ◌-◌, ◌≤◌}
use Rattle.trie_model.specs.Views.{depth_at}
use Rattle.view_model.specs.Find.{FindingCover}
use Rattle.trie_sets.proofs.find.find_cover.Given as goal

abbrev pub invariant-loop-depth : goal.invariant-loop-depth
invariant-loop-depth g l = record {
  usable : g.V.TrieView.valid l.view;
  depth : l.depth ≡ depth_at (g.V.TrieView.told l.view).place.len;
  low : l.depth ≤ l.len;
  climbing : FindingCover g.V.P.Number.KeyBits.width (record {
    bits = g.V.P.Number.KeyBits.number l.key;
    len =
        l.len;
  }) (g.V.TrieView.told l.fn.view) (g.V.TrieView.told l.view);
}

abbrev pub decreases-loop-depth : goal.decreases-loop-depth
decreases-loop-depth g l = l.len - l.depth
