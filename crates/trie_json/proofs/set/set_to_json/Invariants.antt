use Rattle.std.proofs.Common.{map}
use Rattle.serde_json.specs.View.{view}
use Rattle.trie_map.specs.TrieRefs.{CanWalkRef, RefToCome, ref_value}
use Rattle.trie_map.specs.Walking.{work_left}
use Rattle.trie_json.specs.Writing.{net_data}
use Rattle.trie_json.proofs.WriteLaws.{WrittenSoFar}
use Rattle.trie_json.proofs.set.set_to_json.Given as goal

abbrev pub invariant-members : goal.invariant-members
invariant-members g l =
    CanWalkRef g.P.Number.KeyBits.number g.P.Number.KeyBits.width l.walk
    × WrittenSoFar g.P.Number.KeyBits.width (λ p. net_data g.P.Number.KeyBits.width p.0)
    (RefToCome g.P.Number.KeyBits.number g.P.Number.KeyBits.width l.walk) l.set (map view l.members.items)

abbrev pub decreases-members : goal.decreases-members
decreases-members g l = work_left (ref_value g.P.Number.KeyBits.number g.P.Number.KeyBits.width) g.P.Number.KeyBits.width l.walk
