-- A view through a relation of items.
use Rattle.std.specs.Prelude.{◌≡◌, false}
use Rattle.trie_model.specs.Views.{ViewValue}

-- The pairs of a view, each with the items that the relation gives to its item.
abbrev pub through_told : {X Y : Type 0} → (X → Y → Type 0) → ViewValue X → ViewValue Y
through_told {X} R t = record {
  place = t.place;
  data_bits = t.data_bits;
  child_bits = t.child_bits;
  at = λ n y. (x : X) × t.at n x × R x y;
  frugal = t.frugal;
}

-- The same, of a view that takes memory.
abbrev pub wasteful_told : {X : Type 0} → ViewValue X → ViewValue X
wasteful_told t = record {
  place = t.place;
  data_bits = t.data_bits;
  child_bits = t.child_bits;
  at = t.at;
  frugal = false;
}

-- A closure answers as a function of what contracts see of its argument.
pub record AnswersAsFunction {T X U : Type 0} (item : T → X) (post : T → U → Type 0) : Type 0 where
  pub one : (s t : T) (a b : U) → item s ≡ item t → post s a → post t b → a ≡ b
  pub total : (t : T) → (u : U) × post t u

-- What a closure answers to an item.
abbrev pub answer_of : {T X U : Type 0} → (T → X) → (T → U → Type 0) → X → U → Type 0
answer_of {T} item post x u = (t : T) × (item t ≡ x) × post t u

-- What contracts see of a value decides this of it.
abbrev pub Decides : {T X U : Type 0} → (T → X) → (T → U) → Type 0
Decides {T} item f = (s t : T) → item s ≡ item t → f s ≡ f t

-- The answer is this value of the argument.
abbrev pub AnswersBy : {T U : Type 0} → (T → U) → T → U → Type 0
AnswersBy f t u = f t ≡ u
