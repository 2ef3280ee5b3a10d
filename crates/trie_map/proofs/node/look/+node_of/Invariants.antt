use Rattle.std.proofs.Common.{◌-◌}
use Rattle.trie_map.proofs.node.look.+node_of.Given as goal

abbrev pub decreases-node_of : goal.decreases-node_of
decreases-node_of g l = l.len - l.depth
