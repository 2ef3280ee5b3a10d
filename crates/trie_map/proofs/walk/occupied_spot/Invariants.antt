use Rattle.std.specs.Prelude.{◌-◌, ◌≤◌}
use Rattle.trie_model.specs.Spots.{rank_at}
use Rattle.trie_map.specs.Moves.{PassesTo}
use Rattle.trie_map.proofs.walk.occupied_spot.Given as goal

abbrev pub invariant-spots : goal.invariant-spots
invariant-spots l = record {
  first : 1 ≤ l.at;
  last : l.at ≤ 64;
  passed : PassesTo l.data_bits l.child_bits l.spot l.at;
}

abbrev pub decreases-spots : goal.decreases-spots
decreases-spots l = 197 - rank_at l.at
