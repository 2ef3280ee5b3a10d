use Rattle.std.proofs.Common.{◌-◌}
use Rattle.trie_map.proofs.node.shrink.+remove_below.Given as goal

abbrev pub decreases-remove_below : goal.decreases-remove_below
decreases-remove_below g l = l.len - l.depth
