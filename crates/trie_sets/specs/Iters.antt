-- What the walks over prefixes and over items give next.
use Rattle.std.specs.Prelude.{ℕ, Option, Some, None, Result, Ok, Err}
use Rattle.trie_model.specs.Nets.{Net}
use Rattle.trie_model.specs.Views.{ViewValue}
use Rattle.trie_map.specs.Walking.{NextOf}
use Rattle.trie_map.specs.declared.walk.ViewIter.{ViewIter}

-- The prefix of the pair that the walk over the pairs gives next.
abbrev pub NextKeyOf : {V P T X E : Type 0} → (V → ViewValue X) → (T → X) → (P → Net) → (P → ℕ) → ℕ → ViewIter V
    → ViewIter V → Option (Result P E) → Type 0
NextKeyOf {V} {P} {T} {X} {E} tell item net raw w old new None = NextOf {E = E} tell item net raw w old new None
NextKeyOf {V} {P} {T} {X} {E} tell item net raw w old new (Some (Ok p)) =
    (t : T) × NextOf {E = E} tell item net raw w old new (Some (Ok (p, t)))
NextKeyOf {V} {P} {T} {X} {E} tell item net raw w old new (Some (Err e)) =
    NextOf tell item net raw w old new (Some (Err e))

-- The item of the pair that the walk over the pairs gives next.
abbrev pub NextItemOf : {V P T X E : Type 0} → (V → ViewValue X) → (T → X) → (P → Net) → (P → ℕ) → ℕ → ViewIter V
    → ViewIter V → Option (Result T E) → Type 0
NextItemOf {V} {P} {T} {X} {E} tell item net raw w old new None = NextOf {E = E} tell item net raw w old new None
NextItemOf {V} {P} {T} {X} {E} tell item net raw w old new (Some (Ok t)) =
    (p : P) × NextOf {E = E} tell item net raw w old new (Some (Ok (p, t)))
NextItemOf {V} {P} {T} {X} {E} tell item net raw w old new (Some (Err e)) =
    NextOf tell item net raw w old new (Some (Err e))
