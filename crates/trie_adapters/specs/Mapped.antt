-- A view whose items are related to those of another view.
use Rattle.std.specs.Prelude.{◌≡◌, Bool}
use Rattle.trie_model.specs.Nets.{Net}
use Rattle.trie_model.specs.Views.{ViewValue}

-- Each item that is related to the prefix's item.
abbrev pub mapped_pairs : {X Y : Type 0} → (X → Y → Type 0) → (Net → X → Type 0) → Net → Y → Type 0
mapped_pairs {X} relates at n y = (x : X) × at n x × relates x y

-- The view at the same place, with each item that is related to the prefix's item.
abbrev pub mapped : {X Y : Type 0} → (X → Y → Type 0) → Bool → ViewValue X → ViewValue Y
mapped {X} relates frugal t = record {
  place = t.place;
  data_bits = t.data_bits;
  child_bits = t.child_bits;
  at = mapped_pairs relates t.at;
  frugal = frugal;
}

-- Each item is related to one.
abbrev pub IsFunction : {X Y : Type 0} → (X → Y → Type 0) → Type 0
IsFunction {X} {Y} relates = ((x : X) (a b : Y) → relates x a → relates x b → a ≡ b) × ((x : X) → (y : Y) × relates x y)

-- The function answers this of an item that contracts see as that.
abbrev pub AnswersOf : {T X U : Type 0} → (T → X) → (T → U → Type 0) → X → U → Type 0
AnswersOf {T} item post x u = (t : T) × (item t ≡ x) × post t u

-- The item is a reference to this.
abbrev pub PointsTo : {T X U : Type 0} → (T → X) → (T → U) → X → U → Type 0
PointsTo {T} item now x u = (t : T) × (item t ≡ x) × (now t ≡ u)
