use Rattle.std.proofs.Common.{◌-◌, ◌/◌, ◌^◌, ◌≡◌, ◌≤◌}
use Rattle.trie_json.proofs.bits.number_of.Given as goal

abbrev pub invariant-fives : goal.invariant-fives
invariant-fives g l = (l.depth ≤ l.width) × (l.number ≡ g.W.KeyBits.number l.key / 2 ^ (l.width - l.depth))

abbrev pub decreases-fives : goal.decreases-fives
decreases-fives g l = l.width - l.depth
