use Rattle.std.proofs.Common.{◌-◌}
use Rattle.trie_map.proofs.node.look.+get_below.Given as goal

abbrev pub decreases-get_below : goal.decreases-get_below
decreases-get_below g l = l.len - l.depth
