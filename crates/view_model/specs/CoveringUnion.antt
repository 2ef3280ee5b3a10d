-- The pairs of either view, those of one alone with the longest pair of the other that contains their prefix.
use Rattle.std.specs.Prelude.{◌≡◌, ℕ, ◌+◌, ◌<◌, ◌≤◌, ◌⊎◌, ◌&&◌, true, ⊤, Option, Some, None}
use Rattle.trie_model.specs.Nets.{Net, IsNet, covers}
use Rattle.trie_model.specs.Views.{ViewValue, Has, depth_at}
use Rattle.view_model.specs.Sides.{SideHasItem, side_frugal}
use Rattle.view_model.specs.LongestMatch.{HasNoHostBits, LongestMatchOf}
use Rattle.view_model.specs.Union.{union_at, union_told}
use Rattle.view_model.specs.declared.items.UnionItem.{UnionItem}
use Rattle.view_model.specs.declared.items.UnionItem.TheVariants as U
use Rattle.view_model.specs.declared.items.CoveringUnionItem.{CoveringUnionItem}
use Rattle.view_model.specs.declared.items.CoveringUnionItem.TheVariants.{Left, Right, Both}

-- What contracts see of a pair that may be there.
abbrev pub pair_value : {P Q T Y : Type 0} → (P → Q) → (T → Y) → Option (P × T) → Option (Q × Y)
pair_value net item None = None
pair_value net item (Some p) = Some (net p.0, item p.1)

-- What contracts see of an item.
abbrev pub covering_value : {P Q A B X Y : Type 0} → (P → Q) → (A → X) → (B → Y) → CoveringUnionItem P A B
    → CoveringUnionItem Q X Y
covering_value net f g (Left a l) = Left (f a) (pair_value net g l)
covering_value net f g (Right l b) = Right (pair_value net f l) (g b)
covering_value net f g (Both a b) = Both (f a) (g b)

-- The pairs of the node at this depth.
abbrev pub InNode : {V Y : Type 0} → (V → ViewValue Y) → Option V → ℕ → Net → Y → Type 0
InNode tell all d m y = (m.len < d + 5) × SideHasItem tell all m y

-- The pairs of the node as they were, and those below it.
abbrev pub AsEntered : {V Y : Type 0} → (V → ViewValue Y) → Option V → Option V → ℕ → Net → Y → Type 0
AsEntered tell all side d m y =
    ((m.len < d + 5) × SideHasItem tell all m y) ⊎ ((d + 5 ≤ m.len) × SideHasItem tell side m y)

-- The longest of these pairs that contains this prefix; if none does, what stands above.
abbrev pub Longest : {Y : Type 0} → ℕ → (Net → Y → Type 0) → Option (Net × Y) → Net → Option (Net × Y) → Type 0
Longest {Y} w S above n None = ((m : Net) (y : Y) → S m y → covers w m n ≡ true → ⊥) × (above ≡ None)
Longest {Y} w S above n (Some p) =
    (S p.0 p.1 × (covers w p.0 n ≡ true) × ((m : Net) (y : Y) → S m y → covers w m n ≡ true → m.len ≤ p.0.len)) ⊎
    (((m : Net) (y : Y) → S m y → covers w m n ≡ true → ⊥) × (above ≡ Some p))

-- A side of a covering union besides its pairs: the node's pairs as they were, and the longest pair above the node.
pub record EnteredSide (V Y : Type 0) : Type 0 where
  pub all : Option V
  pub above : Option (Net × Y)

-- A pair of either side.
abbrev pub covering_at : {A B X Y : Type 0} → ℕ → (A → ViewValue X) → (B → ViewValue Y) → ℕ → Option A → Option B
    → EnteredSide A X → EnteredSide B Y → Net →
    CoveringUnionItem Net X Y → Type 0
covering_at w ta tb d a b over_a over_b n (Left x l) =
    union_at ta tb a b n (U.Left x) × Longest w (AsEntered tb over_b.all b d) over_b.above n l
covering_at w ta tb d a b over_a over_b n (Right l y) =
    union_at ta tb a b n (U.Right y) × Longest w (AsEntered ta over_a.all a d) over_a.above n l
covering_at w ta tb d a b over_a over_b n (Both x y) = union_at ta tb a b n (U.Both x y)

-- What contracts see of a covering union.
abbrev pub covering_told : {A B X Y : Type 0} → ℕ → (A → ViewValue X) → (B → ViewValue Y) → Net → Option A → Option B
    → EnteredSide A X → EnteredSide B Y →
    ViewValue (CoveringUnionItem Net X Y)
covering_told w ta tb place a b over_a over_b = record {
  place = place;
  data_bits = (union_told w ta tb place a b).data_bits;
  child_bits = (union_told w ta tb place a b).child_bits;
  at = covering_at w ta tb (depth_at place.len) a b over_a over_b;
  frugal = (union_told w ta tb place a b).frugal && (side_frugal ta over_a.all && side_frugal tb over_b.all);
}

-- A union's item with what contains its prefix on the other side.
abbrev pub WithLongest : {P S T X Y : Type 0} → ℕ → (P → Net) → (S → X) → (T → Y) → (Net → X → Type 0)
    → (Net → Y → Type 0) → Option (P × S) →
    Option (P × T) → Net → UnionItem S T → CoveringUnionItem P S T → Type 0
WithLongest w net f g SA SB above_a above_b n (U.Left s) (Left t l) =
    (s ≡ t) × Longest w SB (pair_value net g above_b) n (pair_value net g l)
WithLongest w net f g SA SB above_a above_b n (U.Right s) (Right l t) =
    (s ≡ t) × Longest w SA (pair_value net f above_a) n (pair_value net f l)
WithLongest w net f g SA SB above_a above_b n (U.Both s t) (Both u v) = (s ≡ u) × (t ≡ v)
WithLongest w net f g SA SB above_a above_b n x y = ⊥

-- The pair of a network is this pair of a prefix without host bits.
abbrev pub IsPlainPair : {P Y : Type 0} → (P → Net) → (P → ℕ) → Option (Net × Y) → Option (P × Y) → Type 0
IsPlainPair net raw None None = ⊤
IsPlainPair net raw (Some a) (Some b) = (a.0 ≡ net b.0) × (raw b.0 ≡ (net b.0).bits) × (a.1 ≡ b.1)
IsPlainPair net raw None (Some b) = ⊥
IsPlainPair net raw (Some a) None = ⊥

-- The same item, with prefixes in place of networks.
abbrev pub WithPrefixes : {P X Y : Type 0} → (P → Net) → (P → ℕ) → CoveringUnionItem Net X Y
    → CoveringUnionItem P X Y → Type 0
WithPrefixes net raw (Left x l) (Left u m) = (x ≡ u) × IsPlainPair net raw l m
WithPrefixes net raw (Right l y) (Right m u) = IsPlainPair net raw l m × (y ≡ u)
WithPrefixes net raw (Both x y) (Both u v) = (x ≡ u) × (y ≡ v)
WithPrefixes net raw x y = ⊥

-- The prefixes of an item have no host bits.
abbrev pub HasPlainPairs : {P A B : Type 0} → (P → Net) → (P → ℕ) → CoveringUnionItem P A B → Type 0
HasPlainPairs net raw (Left a l) = HasNoHostBits net raw l
HasPlainPairs net raw (Right l b) = HasNoHostBits net raw l
HasPlainPairs net raw (Both a b) = ⊤

-- A pair above the node is one of a network, without host bits.
abbrev pub IsPairAbove : {P T : Type 0} → ℕ → (P → Net) → (P → ℕ) → Option (P × T) → Type 0
IsPairAbove w net raw None = ⊤
IsPairAbove w net raw (Some p) = IsNet w (net p.0) × (raw p.0 ≡ (net p.0).bits)

-- The pairs of a covering union of two views. A pair of one view alone has the longest pair of the other that contains
-- its prefix, whose prefix has no host bits.
abbrev pub covering_pairs : {P X Y : Type 0} → ℕ → (P → Net) → (P → ℕ) → ViewValue X → ViewValue Y → Net
    → CoveringUnionItem P X Y → Type 0
covering_pairs w net raw s t n (Left x l) =
    s.at n x × (Has t n → ⊥) × LongestMatchOf w net (λ y. y) t n l × HasNoHostBits net raw l
covering_pairs w net raw s t n (Right l y) =
    t.at n y × (Has s n → ⊥) × LongestMatchOf w net (λ x. x) s n l × HasNoHostBits net raw l
covering_pairs w net raw s t n (Both x y) = s.at n x × t.at n y
