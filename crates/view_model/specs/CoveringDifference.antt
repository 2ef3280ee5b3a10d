-- The pairs of one view that lie in no prefix of another.
use Rattle.std.specs.Prelude.{◌≡◌, ℕ, ◌+◌, ◌^◌, ◌<◌, ◌≤◌, ◌⊎◌, ◌↔◌, ◌&&◌, Bool, true, Option, bit_and}
use Rattle.std.specs.Int.{bit_at, w32, bit_not}
use Rattle.trie_model.specs.Nets.{Net, covers}
use Rattle.trie_model.specs.Views.{ViewValue, depth_at, level_of, data_net, child_net}
use Rattle.view_model.specs.Sides.{SideHasPrefix, side_frugal}

-- A prefix of the side contains this one, or one above the place does.
abbrev pub IsCovered : {V Y : Type 0} → ℕ → (V → ViewValue Y) → Bool → Option V → Net → Type 0
IsCovered w tell covered side n = (covered ≡ true) ⊎ ((m : Net) × ((covers w m n ≡ true) × SideHasPrefix tell side m))

-- The same, of the prefixes that are shorter than this.
abbrev pub IsCoveredByShorter : {V Y : Type 0} → ℕ → (V → ViewValue Y) → Bool → Option V → ℕ → Net → Type 0
IsCoveredByShorter w tell covered side limit n =
    (covered ≡ true) ⊎ ((m : Net) × ((m.len < limit) × (covers w m n ≡ true) × SideHasPrefix tell side m))

-- These data bits and children of the node lie in a prefix of the side.
pub record CoveredBits {V Y : Type 0} (w : ℕ) (place : Net) (tell : V →
    ViewValue Y) (covered : Bool) (side : Option V) (covered_data covered_children : ℕ) : Type 0 where
  pub data_fit : covered_data < 2 ^ 32
  pub children_fit : covered_children < 2 ^ 32
  pub data_in : (bit : ℕ) → bit < 31 → depth_at place.len + level_of bit ≤ w → bit_at covered_data bit ≡ 1 →
      IsCoveredByShorter w tell covered side (depth_at place.len + 5) (data_net w place bit)
  pub data_all : (bit : ℕ) → bit < 31 → depth_at place.len + level_of bit ≤ w →
      IsCoveredByShorter w tell covered side (depth_at place.len + 5) (data_net w place bit)
      → bit_at covered_data bit ≡ 1
  pub children_in : (bit : ℕ) → bit < 32 → depth_at place.len + 5 ≤ w → bit_at covered_children bit ≡ 1 →
      IsCoveredByShorter w tell covered side (depth_at place.len + 5) (child_net w place bit)
  pub children_all : (bit : ℕ) → bit < 32 → depth_at place.len + 5 ≤ w →
      IsCoveredByShorter w tell covered side (depth_at place.len + 5) (child_net w place bit)
      → bit_at covered_children bit ≡ 1

-- What contracts see of a covering difference.
abbrev pub covering_difference_told : {V X Y : Type 0} → ℕ → (V → ViewValue Y) → ViewValue X → Bool
    → Option V → ℕ → ℕ → ViewValue X
covering_difference_told w tell left covered side covered_data covered_children = record {
  place = left.place;
  data_bits = bit_and left.data_bits (bit_not w32 covered_data);
  child_bits = bit_and left.child_bits (bit_not w32 covered_children);
  at = λ n x. left.at n x × (IsCovered w tell covered side n → ⊥);
  frugal = left.frugal && side_frugal tell side;
}

-- The bits that lie below some of these data bits.
abbrev pub IsCoverOf : (ℕ → ℕ) → ℕ → ℕ → Type 0
IsCoverOf cover bits m = (b : ℕ) → (bit_at m b ≡ 1)
    ↔ ((a : ℕ) × ((a < 31) × (bit_at bits a ≡ 1) × (bit_at (cover (a + 1)) b ≡ 1)))

-- The bits that lie below some of these data bits that the rest has no more.
abbrev pub IsCoverOfTaken : (ℕ → ℕ) → ℕ → ℕ → ℕ → Type 0
IsCoverOfTaken cover bits rest m = (b : ℕ) → (bit_at m b ≡ 1)
    ↔ ((a : ℕ) × ((a < 31) × (bit_at bits a ≡ 1) × (bit_at rest a ≡ 0) × (bit_at (cover (a + 1)) b ≡ 1)))
