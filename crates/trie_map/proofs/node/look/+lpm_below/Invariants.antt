use Rattle.std.proofs.Common.{◌-◌}
use Rattle.trie_map.proofs.node.look.+lpm_below.Given as goal

abbrev pub decreases-lpm_below : goal.decreases-lpm_below
decreases-lpm_below g l = l.len - l.depth
