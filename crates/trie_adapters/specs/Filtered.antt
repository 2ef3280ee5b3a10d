-- A view whose items are tested by a function.
use Rattle.std.specs.Prelude.{◌≡◌, ◌↔◌, ◌⊎◌, ◌+◌, ◌<◌, ◌≤◌, ◌^◌, ℕ, Bool, true, false, List}
use Rattle.std.specs.Prelude.{length, Option, Some, None, slice_get}
use Rattle.std.specs.Int.{bit_at}
use Rattle.std.specs.Borrow.{Bor}
use Rattle.trie_model.specs.Nets.{Net, covers}
use Rattle.trie_model.specs.Views.{ViewValue, SamePairs, data_net, depth_at, level_of}

-- ---- functions of a prefix and an item

-- A function answers true of this prefix without host bits and of an item that contracts see as this.
abbrev pub AcceptsPair : {P T X : Type 0} → (P → Net) → (P → ℕ) → (T → X)
    → (P → Bor T → Bool → Type 0) → Net → X → Type 0
AcceptsPair {P} {T} net raw item post n x =
    (p : P) × ((r : Bor T) × (net p ≡ n) × (raw p ≡ n.bits) × (item r.now ≡ x) × post p r true)

-- For each prefix, of items that contracts see as one there is one answer.
abbrev pub AnswersByPair : {P T X : Type 0} → (T → X) → (P → Bor T → Bool → Type 0) → Type 0
AnswersByPair {P} {T} item post =
    (p : P) (r s : Bor T) (a b : Bool) → item r.now ≡ item s.now → post p r a → post p s b → a ≡ b

-- The pairs of a view that are accepted.
abbrev pub accepted : {X : Type 0} → (Net → X → Type 0) → ViewValue X → Net → X → Type 0
accepted accepts t n x = t.at n x × accepts n x

-- ---- kept items

-- The item is kept for a data bit.
abbrev pub IsKept : {T : Type 0} → List (Option T) → ℕ → T → Type 0
IsKept kept bit item = slice_get kept bit ≡ Some (Some item)

-- The pair of a set data bit and its kept item.
abbrev pub HasKept : {T X : Type 0} → (T → X) → ℕ → Net → ℕ → List (Option T) → Net → X → Type 0
HasKept {T} item w place bits kept n x =
    (bit : ℕ) × ((t : T) × (bit_at bits bit ≡ 1) × (data_net w place bit ≡ n) × IsKept kept bit t × (item t ≡ x))

-- The view of the items that are kept, and of the accepted ones of a view of which the node's own items were taken.
abbrev pub filtered : {T X : Type 0} → (T → X) → (Net → X → Type 0) → ℕ → ℕ → List (Option T)
    → ViewValue X → ViewValue X
filtered item accepts w bits kept t = record {
  place = t.place;
  data_bits = bits;
  child_bits = t.child_bits;
  at = λ n x. HasKept item w t.place bits kept n x ⊎ accepted accepts t n x;
  frugal = false;
}

-- For each set bit an item of the node is kept, inside the place, and the view has none of the node's own items any
-- more.
pub record KeepsItems {T X : Type 0} (w bits : ℕ) (kept : List (Option T)) (t : ViewValue X) : Type 0 where
  pub fit : bits < 2 ^ 31
  pub short : (bit : ℕ) → bit_at bits bit ≡ 1 → depth_at t.place.len + level_of bit ≤ w
  pub inside : (bit : ℕ) → bit_at bits bit ≡ 1 → covers w t.place (data_net w t.place bit) ≡ true
  pub some : (bit : ℕ) → bit_at bits bit ≡ 1 → (item : T) × IsKept kept bit item
  pub spent : t.data_bits ≡ 0

-- ---- taking the items of a node

-- The pair of a data bit, where an item was accepted.
abbrev pub IsTaken : {T X : Type 0} → (T → X) → Net → Option T → Net → X → Type 0
IsTaken item net None n x = ⊥
IsTaken item net (Some t) n x = (net ≡ n) × (item t ≡ x)

-- A data bit of a node was taken: its item was accepted, or it isn't in the view any more.
pub record TakesAccepted {T X : Type 0} (item : T → X) (accepts : Net → X → Type 0) (w bit : ℕ) (t u : ViewValue X)
    (answer : Option T) : Type 0 where
  pub place : u.place ≡ t.place
  pub gone : bit_at u.data_bits bit ≡ 0
  pub others : (b : ℕ) → bit_at t.data_bits b ≡ 0 → bit_at u.data_bits b ≡ 0
  pub at : (n : Net) (x : X) → accepted accepts t n x ↔
      (IsTaken item (data_net w t.place bit) answer n x ⊎ accepted accepts u n x)
  pub short : (x : T) → answer ≡ Some x → depth_at t.place.len + level_of bit ≤ w
  pub inside : (x : T) → answer ≡ Some x → covers w t.place (data_net w t.place bit) ≡ true

-- The data bits below one were taken, and the accepted items are kept.
pub record KeepsBelow {T X : Type 0} (item : T → X) (accepts : Net → X → Type 0) (w bit bits : ℕ)
    (kept : List (Option T)) (t u : ViewValue X) : Type 0 where
  pub place : u.place ≡ t.place
  pub low : bit ≤ 31
  pub count : length kept ≡ bit
  pub fit : bits < 2 ^ bit
  pub below : (b : ℕ) → b < bit → bit_at u.data_bits b ≡ 0
  pub short : (b : ℕ) → bit_at bits b ≡ 1 → depth_at t.place.len + level_of b ≤ w
  pub inside : (b : ℕ) → bit_at bits b ≡ 1 → covers w t.place (data_net w t.place b) ≡ true
  pub some : (b : ℕ) → bit_at bits b ≡ 1 → (x : T) × IsKept kept b x
  pub at : (n : Net) (x : X) → accepted accepts t n x ↔ (HasKept item w t.place bits kept n x ⊎ accepted accepts u n x)

-- The view at the same place, with the accepted pairs.
pub record Filters {X : Type 0} (accepts : Net → X → Type 0) (t u : ViewValue X) : Type 0 where
  pub place : u.place ≡ t.place
  pub at : SamePairs u.at (accepted accepts t)
