use Rattle.std.proofs.Common.{◌-◌}
use Rattle.trie_map.proofs.node.grow.+insert_below.Given as goal

abbrev pub decreases-insert_below : goal.decreases-insert_below
decreases-insert_below g l = l.len - l.depth
