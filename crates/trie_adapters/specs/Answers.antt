-- Functions that answer by what contracts see of their arguments.
use Rattle.std.specs.Prelude.{◌≡◌}

-- Of items that contracts see as one there is one answer, and of each item there is one.
pub record AnswersByItem {T X U : Type 0} (item : T → X) (post : T → U → Type 0) : Type 0 where
  pub one : (s t : T) (a b : U) → item s ≡ item t → post s a → post t b → a ≡ b
  pub some : (t : T) → (u : U) × post t u

-- What contracts see as one points to one thing.
abbrev pub TellsTarget : {T X U : Type 0} → (T → X) → (T → U) → Type 0
TellsTarget {T} item now = (s t : T) → item s ≡ item t → now s ≡ now t
