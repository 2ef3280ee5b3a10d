use Rattle.std.proofs.Common.{◌-◌, ◌≡◌, ◌≤◌}
use Rattle.trie_model.specs.Nets.{masked}
use Rattle.trie_json.proofs.bits.key_of.Given as goal

abbrev pub invariant-words : goal.invariant-words
invariant-words g l = (l.depth ≤ l.width) × (g.W.KeyBits.number l.key ≡ masked l.width l.number l.depth)

abbrev pub decreases-words : goal.decreases-words
decreases-words g l = l.width - l.depth
