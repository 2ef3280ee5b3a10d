-- What a view stands for, and the laws that every view keeps.
use Rattle.std.specs.Prelude.{◌≡◌, ℕ, ◌+◌, ◌-◌, ◌*◌, ◌/◌, ◌%◌, ◌^◌, ◌<◌, ◌≤◌, ◌≢◌, ◌↔◌, Bool, true, false, cond, ◌&&◌, eqb, leb, IsTrue}
use Rattle.std.specs.Int.{bit_at}
use Rattle.trie_model.specs.Nets.{Net, IsNet, covers, masked, net_of}

-- The place of the root.
abbrev pub root_place : Net
root_place = record { bits = 0; len = 0 }

-- How deep the node of a place is.
abbrev pub depth_at : ℕ → ℕ
depth_at len = len / 5 * 5

-- The level of a data bit: the first bit of level l is 2 ^ l - 1.
abbrev pub level_of : ℕ → ℕ
level_of bit = cond (leb 15 bit) 4 (cond (leb 7 bit) 3 (cond (leb 3 bit) 2 (cond (leb 1 bit) 1 0)))

-- The prefix of a data bit of the node of this depth on the way to these bits.
abbrev pub net_of_bit : ℕ → ℕ → ℕ → ℕ → Net
net_of_bit w depth bits bit = record { bits = masked w bits depth + (bit + 1 - 2 ^ level_of bit) * 2 ^ (w - (depth + level_of bit)); len = depth + level_of bit }

-- The prefix of a data bit of the node of this place.
abbrev pub data_net : ℕ → Net → ℕ → Net
data_net w place bit = net_of_bit w (depth_at place.len) place.bits bit

-- The place of a child.
abbrev pub child_net : ℕ → Net → ℕ → Net
child_net w place bit = record { bits = masked w place.bits (depth_at place.len) + bit * 2 ^ (w - (depth_at place.len + 5)); len = depth_at place.len + 5 }

-- The child below depth that these bits lead to.
abbrev pub child_toward : ℕ → ℕ → ℕ → ℕ
child_toward w depth bits = bits / 2 ^ (w - (depth + 5)) % 32

-- Whether two prefixes are one.
abbrev pub same_net : Net → Net → Bool
same_net a b = eqb a.bits b.bits && eqb a.len b.len

-- What contracts see of a view: its place, its two bitmaps, which prefix has which item, and whether it takes no memory.
pub record ViewValue (X : Type 0) : Type 1 where
  pub place : Net
  pub data_bits : ℕ
  pub child_bits : ℕ
  pub at : Net → X → Type 0
  pub frugal : Bool

-- Both have the same pairs.
abbrev pub SamePairs : {X : Type 0} → (Net → X → Type 0) → (Net → X → Type 0) → Type 0
SamePairs {X} at pairs = (n : Net) (x : X) → at n x ↔ pairs n x

-- A view is at this place, with exactly these pairs.
pub record Shows {X : Type 0} (t : ViewValue X) (net : Net) (pairs : Net → X → Type 0) : Type 0 where
  pub place : t.place ≡ net
  pub at : SamePairs t.at pairs

-- Both views are at one place and have the same pairs.
abbrev pub ShowSame : {X : Type 0} → ViewValue X → ViewValue X → Type 0
ShowSame t u = Shows t u.place u.at

-- The prefix has an item.
abbrev pub Has : {X : Type 0} → ViewValue X → Net → Type 0
Has {X} t n = (x : X) × t.at n x

-- Some pair lies below the child of this bit.
abbrev pub HasBelow : {X : Type 0} → ℕ → ViewValue X → ℕ → Type 0
HasBelow {X} w t bit = (n : Net) × ((x : X) × (t.at n x × (covers w (child_net w t.place bit) n ≡ true)))

-- The prefix of the data bit has this item.
abbrev pub HasAtBit : {X : Type 0} → ℕ → ℕ → ViewValue X → X → Type 0
HasAtBit w bit t x = t.at (data_net w t.place bit) x

-- Some pair lies below each child whose bit is set.
abbrev pub EachChildHasPair : {X : Type 0} → ℕ → ViewValue X → Type 0
EachChildHasPair w t = (bit : ℕ) → bit_at t.child_bits bit ≡ 1 → HasBelow w t bit

-- The laws.
pub record IsView {X : Type 0} (w : ℕ) (t : ViewValue X) : Type 0 where
  pub place_ok : IsNet w t.place
  pub data_fit : t.data_bits < 2 ^ 31
  pub children_fit : t.child_bits < 2 ^ 32
  -- Each pair is one of a network inside the place, and a prefix has one item.
  pub pairs : (n : Net) (x : X) → t.at n x → IsNet w n × (covers w t.place n ≡ true)
  pub one : (n : Net) (x y : X) → t.at n x → t.at n y → x ≡ y
  -- A data bit is set exactly where its prefix has a pair.
  pub told : (bit : ℕ) → bit < 31 → bit_at t.data_bits bit ≡ 1 → Has t (data_net w t.place bit)
  pub untold : (bit : ℕ) (x : X) → bit < 31 → t.at (data_net w t.place bit) x → bit_at t.data_bits bit ≡ 1
  -- Each pair below the node has its child bit set.
  pub below : (n : Net) (x : X) → t.at n x → depth_at t.place.len + 5 ≤ n.len → bit_at t.child_bits (child_toward w (depth_at t.place.len) n.bits) ≡ 1
  pub deep : (bit : ℕ) → bit_at t.child_bits bit ≡ 1 → depth_at t.place.len + 5 ≤ w

-- The view after the pair of a data bit was taken out.
pub record TookData {X : Type 0} (w bit : ℕ) (t u : ViewValue X) : Type 0 where
  pub place : u.place ≡ t.place
  pub child_bits : u.child_bits ≡ t.child_bits
  pub at : (n : Net) (x : X) → u.at n x ↔ (t.at n x × (same_net (data_net w t.place bit) n ≡ false))
  pub frugal : IsTrue t.frugal → IsTrue u.frugal

-- The view after a child was taken out.
pub record TookChild {X : Type 0} (w bit : ℕ) (t u : ViewValue X) : Type 0 where
  pub place : u.place ≡ t.place
  pub data_bits : u.data_bits ≡ t.data_bits
  pub others : (b : ℕ) → b ≢ bit → bit_at u.child_bits b ≡ bit_at t.child_bits b
  pub gone : bit_at u.child_bits bit ≡ 0
  pub at : (n : Net) (x : X) → u.at n x ↔ (t.at n x × (covers w (child_net w t.place bit) n ≡ false))
  pub frugal : IsTrue t.frugal → IsTrue u.frugal

-- The child: exactly the pairs under its bit.
pub record IsChild {X : Type 0} (w bit : ℕ) (t u : ViewValue X) : Type 0 where
  pub place : u.place ≡ child_net w t.place bit
  pub at : (n : Net) (x : X) → u.at n x ↔ (t.at n x × (covers w (child_net w t.place bit) n ≡ true))
  pub frugal : IsTrue t.frugal → IsTrue u.frugal

-- A place in the same node, inside the place so far.
pub record CanMove (w : ℕ) (old new : Net) : Type 0 where
  pub fits : IsNet w new
  pub within : covers w old new ≡ true
  pub node : depth_at new.len ≡ depth_at old.len

-- The view at a new place, with its pairs that lie there.
pub record Moved {X : Type 0} (w : ℕ) (to : Net) (t u : ViewValue X) : Type 0 where
  pub place : u.place ≡ to
  pub at : (n : Net) (x : X) → u.at n x ↔ (t.at n x × (covers w to n ≡ true))
  pub frugal : IsTrue t.frugal → IsTrue u.frugal

-- The view can move to the prefix of these bits.
abbrev pub CanMoveTo : {X : Type 0} → ℕ → ViewValue X → ℕ → ℕ → Type 0
CanMoveTo w t bits len = CanMove w t.place (net_of bits len)

-- The view moved to the prefix of these bits.
abbrev pub MoveTo : {V X : Type 0} → ℕ → ℕ → ℕ → (V → ViewValue X) → V → V → Type 0
MoveTo w bits len tell old new = Moved w (net_of bits len) (tell old) (tell new)
