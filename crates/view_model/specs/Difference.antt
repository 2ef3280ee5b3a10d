-- The pairs of one view whose prefix another lacks.
use Rattle.std.specs.Prelude.{◌&&◌, Option, bit_and}
use Rattle.std.specs.Int.{w32, bit_not}
use Rattle.trie_model.specs.Views.{ViewValue, depth_at}
use Rattle.view_model.specs.Sides.{SideHasPrefix, side_data_bits, side_frugal}

-- What contracts see of a difference.
abbrev pub difference_told : {V X Y : Type 0} → (V → ViewValue Y) → ViewValue X → Option V → ViewValue X
difference_told tell left right = record {
  place = left.place;
  data_bits = bit_and left.data_bits (bit_not w32 (side_data_bits tell (depth_at left.place.len) right));
  child_bits = left.child_bits;
  at = λ n x. left.at n x × (SideHasPrefix tell right n → ⊥);
  frugal = left.frugal && side_frugal tell right;
}
