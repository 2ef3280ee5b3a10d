use Rattle.std.proofs.Common.{◌≡◌, ◌*◌, ◌≤◌, drop, flat_map, length, take}
use Rattle.session_model.specs.Lines.{hex_byte}
use Rattle.transcript_lines.proofs.digits.spread_pairs.Given as goal

abbrev pub invariant-loop-at : goal.invariant-loop-at
invariant-loop-at l = record {
  within : l.at ≤ l.count;
  size : length l.row ≡ 2 * l.count;
  before : take l.at l.row ≡ take l.at (take l.count l.initial.row);
  after : drop (2 * l.at) l.row ≡ flat_map hex_byte (drop l.at (take l.count l.initial.row));
}

abbrev pub decreases-loop-at : goal.decreases-loop-at
decreases-loop-at l = l.at
