-- Pairs of a view by their prefix, and the longest pair that contains a prefix.
use Rattle.std.specs.Prelude.{◌≡◌, ◌↔◌, ℕ, ◌+◌, ◌≤◌, true, ⊤, IsTrue, Option, Some, None}
use Rattle.trie_model.specs.Nets.{Net, covers}
use Rattle.trie_model.specs.Views.{ViewValue, Has}

-- The network of these bits and this length.
abbrev pub net_of : ℕ → ℕ → Net
net_of bits len = record { bits = bits; len = len }

-- No pair of the view contains the prefix, or this is the longest pair that does.
abbrev pub LongestMatchOf : {P T X : Type 0} → ℕ → (P → Net) → (T → X) → ViewValue X → Net → Option (P × T) → Type 0
LongestMatchOf {P} {T} {X} w net item t n None = (m : Net) (x : X) → t.at m x → covers w m n ≡ true → ⊥
LongestMatchOf {P} {T} {X} w net item t n (Some p) =
    t.at (net p.0) (item p.1)
    × (covers w (net p.0) n ≡ true)
    × ((m : Net) (x : X) → t.at m x → covers w m n ≡ true → m.len ≤ (net p.0).len)

-- The view has no pair of this prefix, or this is its pair.
abbrev pub PairOf : {P T X : Type 0} → (P → Net) → (T → X) → ViewValue X → Net → Option (P × T) → Type 0
PairOf net item t n None = Has t n → ⊥
PairOf net item t n (Some p) = (net p.0 ≡ n) × t.at n (item p.1)

-- The view has no item for this prefix, or this is its item.
abbrev pub ItemOf : {T X : Type 0} → (T → X) → ViewValue X → Net → Option T → Type 0
ItemOf item t n None = Has t n → ⊥
ItemOf item t n (Some x) = t.at n (item x)

-- The prefix of a pair that may be there has no host bits.
abbrev pub HasNoHostBits : {P T : Type 0} → (P → Net) → (P → ℕ) → Option (P × T) → Type 0
HasNoHostBits net raw None = ⊤
HasNoHostBits net raw (Some p) = raw p.0 ≡ (net p.0).bits

-- The view keeps its place, its children and all pairs below the node at this depth.
pub record KeepsBelow {X : Type 0} (depth : ℕ) (t u : ViewValue X) : Type 0 where
  pub place : u.place ≡ t.place
  pub child_bits : u.child_bits ≡ t.child_bits
  pub at : (n : Net) (x : X) → depth + 5 ≤ n.len → u.at n x ↔ t.at n x
  pub frugal : IsTrue t.frugal → IsTrue u.frugal

-- Where a search for the longest match has come to: below the node, the view has the same pairs that contain the
-- prefix.
pub record Matching {X : Type 0} (w depth : ℕ) (net : Net) (t u : ViewValue X) : Type 0 where
  pub inside : covers w u.place net ≡ true
  pub rest : (m : Net) (x : X) → depth + 5 ≤ m.len → covers w m net ≡ true → u.at m x ↔ t.at m x
  pub frugal : IsTrue t.frugal → IsTrue u.frugal
