use Rattle.std.proofs.Common.{map, take}
use Rattle.serde_json.specs.View.{view}
use Rattle.trie_json.specs.Reading.{ReadsEntry}
use Rattle.trie_json.proofs.ReadLaws.{ReadSoFar}
use Rattle.trie_json.proofs.map.map_from_json.Given as goal

abbrev pub invariant-elements : goal.invariant-elements
invariant-elements g l = ReadSoFar (ReadsEntry g.P.Number.KeyBits.width g.T.JsonItem.read) g.P.Number.KeyBits.width (take l.at (map view l.element-items)) l.map
