-- What a walk has still to give, and what it gives next.
use Rattle.std.specs.Prelude.{Bool, ◌≡◌, ◌<◌, ⊤, ℕ, List, [], Option, Some, None, Result, Ok, Err, vec_capacity}
use Rattle.trie_model.specs.Nets.{Net}
use Rattle.trie_model.specs.Views.{ViewValue}
use Rattle.trie_model.specs.Walks.{AllFrugal, Left, GainsFrom, Gives, IsListOf, IsPartFrom, ListGoesOn, Roomy, WalkOk, rest, work}
use Rattle.std.specs.declared.vec.Vec.{Vec}
use Rattle.std.specs.declared.alloc.Global.{Global}
use Rattle.trie_map.specs.declared.walk.Level.{Level}
use Rattle.trie_map.specs.declared.walk.ViewIter.{ViewIter}

-- ---- a stack of views, each with the spot that the walk has come to in it

-- The stack may be walked on.
abbrev pub StackOk : {V X : Type 0} → (V → Type 0) → (V → ViewValue X) → ℕ → Vec (Level V) Global → Type 0
StackOk valid tell w levels = WalkOk (λ l. valid l.view) (λ l. rest w (tell l.view) l.spot) (λ l. l.spot) w levels.items

-- The pairs that a stack has still to give.
abbrev pub StackLeft : {V X : Type 0} → (V → ViewValue X) → ℕ → Vec (Level V) Global → Net → X → Type 0
StackLeft tell w levels n x = Left (λ l. rest w (tell l.view) l.spot) levels.items n x

-- The stack has room for as many levels as there can be.
abbrev pub StackHasRoom : {V X : Type 0} → (V → ViewValue X) → ℕ → Vec (Level V) Global → Type 0
StackHasRoom tell w levels = Roomy w (λ l. tell l.view) levels.items (vec_capacity levels)

-- No view of the stack takes memory.
abbrev pub AreFrugal : {V X : Type 0} → (V → ViewValue X) → Vec (Level V) Global → Type 0
AreFrugal tell levels = AllFrugal (λ l. tell l.view) levels.items

-- How much walking a stack has still to do at most.
abbrev pub stack_work : {V X : Type 0} → (V → ViewValue X) → ℕ → Vec (Level V) Global → ℕ
stack_work tell w levels = work w (λ l. tell l.view) (λ l. l.spot) levels.items

-- What the view has from a prefix on, or after it, came to what the stack has to give.
abbrev pub StackGains : {V X : Type 0} → (V → ViewValue X) → ℕ → Bool → Net → V → Vec (Level V) Global → Vec (Level V) Global → Type 0
StackGains tell w inclusive net view old new =
    GainsFrom w inclusive net (tell view).at (StackLeft tell w old) (StackLeft tell w new)

-- The stack has to give what the view has from a prefix on, or after it.
abbrev pub StackIsFrom : {V X : Type 0} → (V → ViewValue X) → ℕ → Bool → Net → V → Vec (Level V) Global → Type 0
StackIsFrom tell w inclusive net view new = IsPartFrom w inclusive net (tell view).at (StackLeft tell w new)

-- ---- a walk

-- The walk may go on, and has the room for it.
pub record CanWalk {V X : Type 0} (valid : V → Type 0) (tell : V → ViewValue X) (w : ℕ) (walk : ViewIter V) : Type 0 where
  pub levels : WalkOk (λ l. valid l.view) (λ l. rest w (tell l.view) l.spot) (λ l. l.spot) w walk.levels.items
  pub room : Roomy w (λ l. tell l.view) walk.levels.items (vec_capacity walk.levels)

-- The walk takes no memory.
abbrev pub IsFrugalWalk : {V X : Type 0} → (V → ViewValue X) → ViewIter V → Type 0
IsFrugalWalk tell walk = AllFrugal (λ l. tell l.view) walk.levels.items

-- How much walking is left to do at most.
abbrev pub work_left : {V X : Type 0} → (V → ViewValue X) → ℕ → ViewIter V → ℕ
work_left tell w walk = work w (λ l. tell l.view) (λ l. l.spot) walk.levels.items

-- The walk is over: nothing comes any more.
abbrev pub IsOver : {V X : Type 0} → (V → ViewValue X) → ℕ → ViewIter V → Type 0
IsOver tell w walk = work_left tell w walk ≡ 0

-- The pairs that are still to come.
abbrev pub ToCome : {V X : Type 0} → (V → ViewValue X) → ℕ → ViewIter V → Net → X → Type 0
ToCome tell w walk n x = Left (λ l. rest w (tell l.view) l.spot) walk.levels.items n x

-- What the next call gives: nothing where nothing is to come, or the first pair of what is to come, or a refusal, after which nothing comes.
abbrev pub NextOf : {V P T X E : Type 0} → (V → ViewValue X) → (T → X) → (P → Net) → (P → ℕ) → ℕ → ViewIter V → ViewIter V → Option (Result (P × T) E) → Type 0
NextOf {V} {P} {T} {X} tell item net raw w old new None = (n : Net) (x : X) → ToCome tell w old n x → ⊥
NextOf {V} {P} {T} {X} tell item net raw w old new (Some (Ok p)) = Gives w (λ l. rest w (tell l.view) l.spot) old.levels.items new.levels.items (net p.0) (item p.1) × (raw p.0 ≡ (net p.0).bits)
NextOf {V} {P} {T} {X} tell item net raw w old new (Some (Err e)) = (n : Net) (x : X) → ToCome tell w new n x → ⊥

-- What the next call gives of the list of what is to come: the end where it is empty, or its first pair, and then the rest is to come.
abbrev pub TakesFirst : {V P T X E : Type 0} → (V → ViewValue X) → (T → X) → (P → Net) → ℕ → ViewIter V → List (Net × X) → Option (Result (P × T) E) → Type 0
TakesFirst tell item net w new ps None = ps ≡ []
TakesFirst {V} {P} {T} {X} tell item net w new ps (Some (Ok p)) = (qs : List (Net × X)) × ListGoesOn w (ToCome tell w new) (net p.0) (item p.1) ps qs
TakesFirst tell item net w new ps (Some (Err e)) = ⊤

-- Each step leaves less to do.
abbrev pub WalksOn : {V X : Type 0} → (V → ViewValue X) → ℕ → ViewIter V → ViewIter V → Type 0
WalksOn tell w old new = work_left tell w new < work_left tell w old

-- What the next call gives is the first of the list of what is to come.
abbrev pub TakesFirstOf : {V P T X E : Type 0} → (V → ViewValue X) → (T → X) → (P → Net) → ℕ → ViewIter V → ViewIter V → Option (Result (P × T) E) → Type 0
TakesFirstOf {V} {P} {T} {X} tell item net w old new result =
    (ps : List (Net × X)) → IsListOf w (ToCome tell w old) ps → TakesFirst tell item net w new ps result

-- What is to come is what the view has from a prefix on, or after it.
abbrev pub ComesFrom : {V X : Type 0} → (V → ViewValue X) → ℕ → Bool → Net → V → ViewIter V → Type 0
ComesFrom tell w inclusive net view walk = IsPartFrom w inclusive net (tell view).at (ToCome tell w walk)
