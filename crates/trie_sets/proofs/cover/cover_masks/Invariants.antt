use Rattle.std.proofs.Common.{◌≡◌, ℕ, ◌^◌, ◌<◌}
use Rattle.std.specs.Int.{bit_at}
use Rattle.trie_model.specs.Spots.{children_below, rows_below}
use Rattle.view_model.specs.CoveringDifference.{IsCoverOfTaken}
use Rattle.trie_sets.proofs.cover.cover_masks.Given as goal

abbrev pub invariant-loop-rest : goal.invariant-loop-rest
invariant-loop-rest l = record {
  fits : l.rest < 2 ^ 31;
  within : (i : ℕ) → bit_at l.rest i ≡ 1 → bit_at l.bits i ≡ 1;
  covered_data : IsCoverOfTaken rows_below l.bits l.rest l.covered_data;
  covered_children : IsCoverOfTaken children_below l.bits l.rest l.covered_children;
}

abbrev pub decreases-loop-rest : goal.decreases-loop-rest
decreases-loop-rest l = l.rest
