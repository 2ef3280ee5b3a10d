-- The sides of a composed view. A side may be missing.
use Rattle.std.specs.Prelude.{◌≡◌, ◌≢◌, ◌↔◌, ℕ, ◌+◌, ◌^◌, ◌≤◌, Bool, true, false, cond, eqb}
use Rattle.std.specs.Prelude.{IsTrue, ⊤, Option, Some, None}
use Rattle.std.specs.Int.{bit_at}
use Rattle.trie_model.specs.Nets.{Net, covers, masked}
use Rattle.trie_model.specs.Views.{ViewValue, depth_at, child_net, child_toward}

-- A pair of a side.
abbrev pub SideHasItem : {V X : Type 0} → (V → ViewValue X) → Option V → Net → X → Type 0
SideHasItem tell None n x = ⊥
SideHasItem tell (Some v) n x = (tell v).at n x

-- A side has a prefix.
abbrev pub SideHasPrefix : {V X : Type 0} → (V → ViewValue X) → Option V → Net → Type 0
SideHasPrefix {V} {X} tell side n = (x : X) × SideHasItem tell side n x

-- The second place stands at the node of the first or below it.
pub record IsAligned (w : ℕ) (place side : Net) : Type 0 where
  pub deeper : depth_at place.len ≤ depth_at side.len
  pub node : masked w side.bits (depth_at place.len) ≡ masked w place.bits (depth_at place.len)

-- A side may be used.
abbrev pub IsUsableSide : {V : Type 0} → (V → Type 0) → Option V → Type 0
IsUsableSide valid None = ⊤
IsUsableSide valid (Some v) = valid v

-- A side may be used, and stands at the node of this place or below it.
abbrev pub IsAlignedSide : {V X : Type 0} → (V → Type 0) → (V → ViewValue X) → ℕ → Net → Option V → Type 0
IsAlignedSide valid tell w place None = ⊤
IsAlignedSide valid tell w place (Some v) = valid v × IsAligned w place (tell v).place

-- A side may be used, and its place lies in this place.
abbrev pub IsInnerSide : {V X : Type 0} → (V → Type 0) → (V → ViewValue X) → ℕ → Net → Option V → Type 0
IsInnerSide valid tell w place None = ⊤
IsInnerSide valid tell w place (Some v) = valid v × (covers w place (tell v).place ≡ true)

-- The data bits of a side in the node at this depth.
abbrev pub side_data_bits : {V X : Type 0} → (V → ViewValue X) → ℕ → Option V → ℕ
side_data_bits tell depth None = 0
side_data_bits tell depth (Some v) = cond (eqb (depth_at (tell v).place.len) depth) (tell v).data_bits 0

-- The children of the node at this depth below which a side may have a pair.
abbrev pub side_child_bits : {V X : Type 0} → (V → ViewValue X) → ℕ → ℕ → Option V → ℕ
side_child_bits tell w depth None = 0
side_child_bits tell w depth (Some v) =
    cond (eqb (depth_at (tell v).place.len) depth) (tell v).child_bits (2 ^ child_toward w depth (tell v).place.bits)

-- A side that stands below the node at this depth leaves room for a child.
abbrev pub HasRoomForChild : {V X : Type 0} → (V → ViewValue X) → ℕ → ℕ → Option V → Type 0
HasRoomForChild tell w depth None = ⊤
HasRoomForChild tell w depth (Some v) = (depth_at (tell v).place.len ≡ depth → ⊥) → depth + 5 ≤ w

-- A side takes no memory.
abbrev pub side_frugal : {V X : Type 0} → (V → ViewValue X) → Option V → Bool
side_frugal tell None = true
side_frugal tell (Some v) = (tell v).frugal

-- A side's child and what stays of it, where the child of this bit is taken.
pub record SideSplit {V Y : Type 0} (valid : V → Type 0) (tell : V → ViewValue Y) (w : ℕ) (place : Net) (bit : ℕ)
    (old child rest : Option V) : Type 0 where
  pub child_in : IsInnerSide valid tell w (child_net w place bit) child
  pub rest_ok : IsAlignedSide valid tell w place rest
  pub rest_in : IsInnerSide valid tell w place old → IsInnerSide valid tell w place rest
  pub child_at : (n : Net) (y : Y) → covers w (child_net w place bit) n ≡ true
      → SideHasItem tell child n y ↔ SideHasItem tell old n y
  pub rest_at : (n : Net) (y : Y) → covers w (child_net w place bit) n ≡ false
      → SideHasItem tell rest n y ↔ SideHasItem tell old n y
  pub child_inside : (n : Net) (y : Y) → SideHasItem tell child n y → covers w (child_net w place bit) n ≡ true
  pub rest_outside : (n : Net) (y : Y) → SideHasItem tell rest n y → covers w (child_net w place bit) n ≡ false
  pub bits : side_data_bits tell (depth_at place.len) rest ≡ side_data_bits tell (depth_at place.len) old
  pub others : (b : ℕ) → b ≢ bit
      → bit_at (side_child_bits tell w (depth_at place.len) rest) b
      ≡ bit_at (side_child_bits tell w (depth_at place.len) old) b
  pub gone : bit_at (side_child_bits tell w (depth_at place.len) rest) bit ≡ 0
  pub child_frugal : IsTrue (side_frugal tell old) → IsTrue (side_frugal tell child)
  pub rest_frugal : IsTrue (side_frugal tell old) → IsTrue (side_frugal tell rest)

-- A side that is narrowed to a place in the same node.
pub record SideMoved {V Y : Type 0} (valid : V → Type 0) (tell : V → ViewValue Y) (w : ℕ) (to : Net)
    (old new : Option V) : Type 0 where
  pub inside : IsInnerSide valid tell w to new
  pub at : (n : Net) (y : Y) → SideHasItem tell new n y ↔ (SideHasItem tell old n y × (covers w to n ≡ true))
  pub frugal : IsTrue (side_frugal tell old) → IsTrue (side_frugal tell new)
