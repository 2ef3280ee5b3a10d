-- What a change of a node does.
use Rattle.std.specs.Prelude.{◌≡◌, ◌≢◌, ◌↔◌, ◌⊎◌, ℕ, ◌+◌, ◌-◌, ◌/◌, ◌^◌, ◌<◌, ◌≤◌, List, length, Option, Some, None, Result, Ok, Err, slice_get, count_ones}
use Rattle.std.specs.Int.{bit_at}
use Rattle.trie_model.specs.Nets.{Net, IsNet, masked}
use Rattle.trie_model.specs.Spots.{bits_toward}
use Rattle.trie_model.specs.Tries.{slot_of, NodeShape, HasItemBelow}

-- What stands at a set bit.
abbrev pub HoldsAt : {X : Type 0} → ℕ → List X → ℕ → X → Type 0
HoldsAt m xs b x = (bit_at m b ≡ 1) × (slice_get xs (slot_of m b) ≡ Some x)

-- One bit more.
pub record OneBit (bit m m' : ℕ) : Type 0 where
  pub off : bit_at m bit ≡ 0
  pub on : bit_at m' bit ≡ 1
  pub kept : (b : ℕ) → b ≢ bit → bit_at m' b ≡ bit_at m b
  pub fit : m < 2 ^ 32
  pub fit' : m' < 2 ^ 32

-- y stands at the bit, and the rest as before.
pub record PutAt {X : Type 0} (bit : ℕ) (y : X) (m : ℕ) (xs : List X) (m' : ℕ) (xs' : List X) : Type 0 where
  pub here : HoldsAt m' xs' bit y
  pub others : (b : ℕ) (x : X) → b ≢ bit → HoldsAt m' xs' b x ↔ HoldsAt m xs b x
  pub len : length xs' ≡ count_ones m'
  pub bits : (b : ℕ) → bit_at m' b ≡ 1 → (b ≡ bit) ⊎ (bit_at m b ≡ 1)
  pub items : (i : ℕ) (x : X) → slice_get xs' i ≡ Some x → (x ≡ y) ⊎ ((j : ℕ) × (slice_get xs j ≡ Some x))
  pub fit : m' < 2 ^ 32

-- What is left of a bit that is taken.
pub record TakenAt {X : Type 0} (bit : ℕ) (y : X) (m : ℕ) (xs : List X) (m' : ℕ) (xs' : List X) : Type 0 where
  pub put : PutAt bit y m' xs' m xs
  pub gone : bit_at m' bit ≡ 0
  pub len : length xs' ≡ count_ones m'
  pub fit : m' < 2 ^ 32
  pub bits : (b : ℕ) → bit_at m' b ≡ 1 → bit_at m b ≡ 1
  pub items : (i : ℕ) (x : X) → slice_get xs' i ≡ Some x → (j : ℕ) × (slice_get xs j ≡ Some x)

-- The pair in the node at this depth.
abbrev pub HasItem : {N X : Type 0} → NodeShape N X → ℕ → ℕ → N → Net → X → Type 0
HasItem f w d node n x = HasItemBelow f w (f.data_bits node) (f.child_bits node) ((n.len - d) / 5) d node n x

-- A network below the node on the way to another.
pub record Toward (w d : ℕ) (net n : Net) : Type 0 where
  pub is_net : IsNet w n
  pub low : d ≤ n.len
  pub way : masked w n.bits d ≡ masked w net.bits d

-- The new node has this value for the prefix, and else what the old one has.
abbrev pub Puts : {N X : Type 0} → NodeShape N X → ℕ → ℕ → Net → X → N → N → Type 0
Puts {N} {X} f w d net value old new = (n : Net) (x : X) → Toward w d net n → HasItem f w d new n x ↔ (((n ≡ net) × (x ≡ value)) ⊎ ((n ≢ net) × HasItem f w d old n x))

-- The new node has what the old one has.
abbrev pub Keeps : {N X : Type 0} → NodeShape N X → ℕ → ℕ → Net → N → N → Type 0
Keeps {N} {X} f w d net old new = (n : Net) (x : X) → Toward w d net n → HasItem f w d new n x ↔ HasItem f w d old n x

-- On the way to the child of this bit the new node has what the old one has.
abbrev pub KeepsBelow : {N X : Type 0} → NodeShape N X → ℕ → N → N → Type 0
KeepsBelow f bit old new =
    (w d : ℕ) (net : Net) → IsNet w net → d + 5 ≤ net.len → bit ≡ bits_toward w d 5 net.bits → Keeps f w d net old new

-- What was there.
abbrev pub Was : {N X : Type 0} → NodeShape N X → ℕ → ℕ → Net → N → Option X → Type 0
Was f w d net old None = (x : _) → HasItem f w d old net x → ⊥
Was f w d net old (Some x) = HasItem f w d old net x

-- What an insertion gives, by its result.
abbrev pub PutIn : {N X E : Type 0} → (E → X) → NodeShape N X → ℕ → ℕ → Net → X → N → N → Result (Option X) E → Type 0
PutIn back f w d net value old new (Ok was) = Puts f w d net value old new × Was f w d net old was
PutIn back f w d net value old new (Err e) = Keeps f w d net old new × (back e ≡ value)

-- What a look gives.
abbrev pub Gets : {N X R : Type 0} → (R → X) → NodeShape N X → ℕ → ℕ → Net → N → Option R → Type 0
Gets {N} {X} look f w d net node None = (x : X) → HasItem f w d node net x → ⊥
Gets look f w d net node (Some r) = HasItem f w d node net (look r)

-- What a removal gives: the old pairs are the new ones with this one.
abbrev pub TakeIn : {N X : Type 0} → NodeShape N X → ℕ → ℕ → Net → N → N → Option X → Type 0
TakeIn {N} {X} f w d net old new None = Keeps {N = N} {X = X} f w d net old new × ((x : X) → HasItem f w d old net x → ⊥)
TakeIn {N} {X} f w d net old new (Some x) = Puts f w d net x new old × ((y : X) → HasItem f w d new net y → ⊥)
