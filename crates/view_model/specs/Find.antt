-- What a view has inside a prefix.
use Rattle.std.specs.Prelude.{◌≡◌, ◌↔◌, ℕ, ◌⊎◌, ◌≤◌, Bool, true, cond, leb, IsTrue, Option, Some, None}
use Rattle.trie_model.specs.Nets.{Net, covers}
use Rattle.trie_model.specs.Views.{ViewValue, Has}
use Rattle.view_model.specs.Sides.{IsAlignedSide, side_frugal}
use Rattle.view_model.specs.CoveringDifference.{IsCovered}

-- The longer of two prefixes.
abbrev pub longer : Net → Net → Net
longer a b = cond (leb b.len a.len) a b

-- The pairs of a view inside a prefix.
pub record IsPartIn {X : Type 0} (w : ℕ) (net : Net) (t u : ViewValue X) : Type 0 where
  pub place : u.place ≡ longer t.place net
  pub one : (covers w t.place net ≡ true) ⊎ (covers w net t.place ≡ true)
  pub inside : covers w net u.place ≡ true
  pub at : (n : Net) (x : X) → u.at n x ↔ (t.at n x × (covers w net n ≡ true))
  pub frugal : IsTrue t.frugal → IsTrue u.frugal

-- No pair of a view lies in a prefix that isn't its place or above it.
pub record HasNoneIn {X : Type 0} (w : ℕ) (net : Net) (t : ViewValue X) : Type 0 where
  pub none : (n : Net) (x : X) → t.at n x → covers w net n ≡ true → ⊥
  pub not_all : covers w net t.place ≡ true → ⊥

-- What a search for a prefix gives.
abbrev pub FindsPart : {V X : Type 0} → (V → Type 0) → (V → ViewValue X) → ℕ → Net → ViewValue X → Option V → Type 0
FindsPart valid tell w net t None = HasNoneIn w net t
FindsPart valid tell w net t (Some v) = valid v × IsPartIn w net t (tell v)

-- Where a search has come to: a view whose place contains the prefix, with all pairs inside it.
pub record Finding {X : Type 0} (w : ℕ) (net : Net) (t u : ViewValue X) : Type 0 where
  pub inside : covers w u.place net ≡ true
  pub at : (n : Net) (x : X) → covers w net n ≡ true → u.at n x ↔ t.at n x
  pub start : covers w t.place net ≡ true
  pub frugal : IsTrue t.frugal → IsTrue u.frugal

-- Some prefix of a view contains this one.
abbrev pub HasCover : {X : Type 0} → ℕ → ViewValue X → Net → Type 0
HasCover {X} w t n = (m : Net) × ((covers w m n ≡ true) × Has t m)

-- Where a search has come to that has met no prefix containing its own.
pub record FindingCover {X : Type 0} (w : ℕ) (net : Net) (t u : ViewValue X) : Type 0 where
  pub inside : covers w u.place net ≡ true
  pub same : (n : Net) → n.len ≤ w → covers w net n ≡ true → HasCover w u n ↔ HasCover w t n
  pub frugal : IsTrue t.frugal → IsTrue u.frugal

-- What such a search gives: whether a prefix above contains all, and a side with the others.
pub record CoverFound {V Y : Type 0} (valid : V → Type 0) (tell : V → ViewValue Y) (w : ℕ) (net : Net) (t : ViewValue Y)
    (covered : Bool) (side : Option V) : Type 0 where
  pub ok : IsAlignedSide valid tell w net side
  pub same : (n : Net) → n.len ≤ w → covers w net n ≡ true → IsCovered w tell covered side n ↔ HasCover w t n
  pub frugal : IsTrue t.frugal → IsTrue (side_frugal tell side)

-- What a search for a prefix that has a pair gives. None exactly where it has none.
abbrev pub FindsEntry : {V X : Type 0} → (V → Type 0) → (V → ViewValue X) → ℕ → Net → ViewValue X → Option V → Type 0
FindsEntry valid tell w net t None = Has t net → ⊥
FindsEntry valid tell w net t (Some v) = valid v × IsPartIn w net t (tell v) × ((tell v).place ≡ net) × Has t net
