-- The pairs of either view.
use Rattle.std.specs.Prelude.{◌≡◌, ℕ, ◌&&◌, ◌≤◌, true, false, IsTrue, ◌↔◌, ⊤, Option, Some, None}
use Rattle.std.specs.Int.RustNames.{bit_or}
use Rattle.trie_model.specs.Nets.{Net, covers}
use Rattle.trie_model.specs.Views.{ViewValue, Has, depth_at, data_net, same_net}
use Rattle.view_model.specs.Sides.{SideHasItem, SideHasPrefix, IsInnerSide, side_data_bits}
use Rattle.view_model.specs.Sides.{side_child_bits, side_frugal}
use Rattle.view_model.specs.declared.items.UnionItem.{UnionItem}
use Rattle.view_model.specs.declared.items.UnionItem.TheVariants.{Left, Right, Both}

-- What contracts see of an item of a union.
abbrev pub union_value : {A B X Y : Type 0} → (A → X) → (B → Y) → UnionItem A B → UnionItem X Y
union_value f g (Left a) = Left (f a)
union_value f g (Right b) = Right (g b)
union_value f g (Both a b) = Both (f a) (g b)

-- A pair of either side, with the items of both where both have the prefix.
abbrev pub union_at : {A B X Y : Type 0} → (A → ViewValue X) → (B → ViewValue Y) → Option A → Option B → Net
    → UnionItem X Y → Type 0
union_at ta tb a b n (Left x) = SideHasItem ta a n x × (SideHasPrefix tb b n → ⊥)
union_at ta tb a b n (Right y) = SideHasItem tb b n y × (SideHasPrefix ta a n → ⊥)
union_at ta tb a b n (Both x y) = SideHasItem ta a n x × SideHasItem tb b n y

-- The data bits of either side in the node at this depth.
abbrev pub either_data_bits : {A B X Y : Type 0} → (A → ViewValue X) → (B → ViewValue Y) → ℕ → Option A → Option B → ℕ
either_data_bits ta tb d a b = bit_or (side_data_bits ta d a) (side_data_bits tb d b)

-- The children of the node at this depth below which either side may have a pair.
abbrev pub either_child_bits : {A B X Y : Type 0} → (A → ViewValue X) → (B → ViewValue Y) → ℕ → ℕ
    → Option A → Option B → ℕ
either_child_bits ta tb w d a b = bit_or (side_child_bits ta w d a) (side_child_bits tb w d b)

-- What contracts see of a union.
abbrev pub union_told : {A B X Y : Type 0} → ℕ → (A → ViewValue X) → (B → ViewValue Y) → Net → Option A → Option B
    → ViewValue (UnionItem X Y)
union_told w ta tb place a b = record {
  place = place;
  data_bits = either_data_bits ta tb (depth_at place.len) a b;
  child_bits = either_child_bits ta tb w (depth_at place.len) a b;
  at = union_at ta tb a b;
  frugal = side_frugal ta a && side_frugal tb b;
}

-- What a side has for the prefix of a data bit.
abbrev pub FindsItem : {V T Y : Type 0} → (V → ViewValue Y) → (T → Y) → Option V → Net → Option T → Type 0
FindsItem tell item side n None = SideHasPrefix tell side n → ⊥
FindsItem tell item side n (Some x) = SideHasItem tell side n (item x)

-- The item of a data bit is taken out of a side, if it is there.
pub record SideTook {V T Y : Type 0} (valid : V → Type 0) (tell : V → ViewValue Y) (item : T →
    Y) (w : ℕ) (place : Net) (bit : ℕ) (old new : Option V) (found : Option T) : Type 0 where
  pub inside : IsInnerSide valid tell w place new
  pub has : FindsItem tell item old (data_net w place bit) found
  pub at : (n : Net) (y : Y) → SideHasItem tell new n y ↔
      (SideHasItem tell old n y × (same_net (data_net w place bit) n ≡ false))
  pub child_bits : side_child_bits tell w (depth_at place.len) new ≡ side_child_bits tell w (depth_at place.len) old
  pub frugal : IsTrue (side_frugal tell old) → IsTrue (side_frugal tell new)

-- One side has an item at least.
abbrev pub HasSomeSide : {S T : Type 0} → Option S → Option T → Type 0
HasSomeSide None None = ⊥
HasSomeSide (Some x) y = ⊤
HasSomeSide None (Some y) = ⊤

-- The item of the sides that have one.
abbrev pub IsJoined : {S T : Type 0} → Option S → Option T → UnionItem S T → Type 0
IsJoined None None z = ⊥
IsJoined (Some x) None z = z ≡ Left x
IsJoined None (Some y) z = z ≡ Right y
IsJoined (Some x) (Some y) z = z ≡ Both x y

-- The pairs of a union of two views.
abbrev pub union_pairs : {X Y : Type 0} → ViewValue X → ViewValue Y → Net → UnionItem X Y → Type 0
union_pairs s t n (Left x) = s.at n x × (Has t n → ⊥)
union_pairs s t n (Right y) = t.at n y × (Has s n → ⊥)
union_pairs s t n (Both x y) = s.at n x × t.at n y

-- The longest prefix that contains both.
pub record IsLongestCommon (w : ℕ) (a b p : Net) : Type 0 where
  pub left : covers w p a ≡ true
  pub right : covers w p b ≡ true
  pub longest : (m : Net) → covers w m a ≡ true → covers w m b ≡ true → m.len ≤ p.len
