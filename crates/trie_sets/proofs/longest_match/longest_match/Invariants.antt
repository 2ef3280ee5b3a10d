use Rattle.std.proofs.Common.{◌≡◌, ◌+◌, ◌-◌, ◌*◌, ◌/◌, ◌≤◌, Some, None}
use Rattle.trie_model.specs.Views.{depth_at}
use Rattle.view_model.specs.CoveringUnion.{InNode, Longest, pair_value}
use Rattle.view_model.specs.LongestMatch.{HasNoHostBits, Matching, net_of}
use Rattle.trie_sets.proofs.longest_match.longest_match.Given as goal

abbrev pub invariant-loop-depth : goal.invariant-loop-depth
invariant-loop-depth g l = record {
  usable : g.V.TrieView.valid l.view;
  depth : l.depth ≡ depth_at (g.V.TrieView.told l.view).place.len;
  low : l.depth ≤ l.len;
  start : depth_at (g.V.TrieView.told l.fn.view).place.len ≤ l.depth;
  matching : Matching g.V.P.Number.KeyBits.width l.depth (net_of (g.V.P.Number.KeyBits.number l.key) l.len) (g.V.TrieView.told l.fn.view)
      (g.V.TrieView.told l.view);
  longest : Longest g.V.P.Number.KeyBits.width (InNode g.V.TrieView.told (Some l.fn.view) l.depth) None (net_of (g.V.P.Number.KeyBits.number l.key) l.len)
      (pair_value g.V.P.PlainPrefix.net g.V.TrieView.item l.found);
  plain : HasNoHostBits g.V.P.PlainPrefix.net g.V.P.PlainPrefix.raw l.found;
  forward : l.fn.steps ≤ l.steps;
  cost : l.steps ≤ l.fn.steps + g.V.TrieView.cost * ((l.depth - depth_at (g.V.TrieView.told l.fn.view).place.len) / 5);
}

abbrev pub decreases-loop-depth : goal.decreases-loop-depth
decreases-loop-depth g l = l.len - l.depth
