use Rattle.std.proofs.Common.{map, take}
use Rattle.serde_json.specs.View.{view}
use Rattle.trie_json.specs.Reading.{ReadsMember}
use Rattle.trie_json.proofs.ReadLaws.{ReadSoFar}
use Rattle.trie_json.proofs.set.set_from_json.Given as goal

abbrev pub invariant-elements : goal.invariant-elements
invariant-elements g l = ReadSoFar (ReadsMember g.P.Number.KeyBits.width) g.P.Number.KeyBits.width (take l.at (map view l.element-items)) l.set
