use Rattle.std.proofs.Common.{map}
use Rattle.serde_json.specs.View.{view}
use Rattle.trie_map.specs.TrieRefs.{CanWalkRef, RefToCome, ref_value}
use Rattle.trie_map.specs.Walking.{work_left}
use Rattle.trie_json.specs.Writing.{entry_data}
use Rattle.trie_json.proofs.WriteLaws.{WrittenSoFar}
use Rattle.trie_json.proofs.map.map_to_json.Given as goal

abbrev pub invariant-entries : goal.invariant-entries
invariant-entries g l =
    CanWalkRef g.P.Number.KeyBits.number g.P.Number.KeyBits.width l.walk
    × WrittenSoFar g.P.Number.KeyBits.width (entry_data g.P.Number.KeyBits.width g.T.JsonItem.written)
    (RefToCome g.P.Number.KeyBits.number g.P.Number.KeyBits.width l.walk) l.map (map view l.entries.items)

abbrev pub decreases-entries : goal.decreases-entries
decreases-entries g l = work_left (ref_value g.P.Number.KeyBits.number g.P.Number.KeyBits.width) g.P.Number.KeyBits.width l.walk
