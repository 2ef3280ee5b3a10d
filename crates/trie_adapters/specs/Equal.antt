-- When two views are equal.
use Rattle.std.specs.Prelude.{◌≡◌, ◌↔◌, Bool, true}
use Rattle.trie_model.specs.Nets.{Net}

-- Both have pairs of the same prefixes.
abbrev pub HaveSameKeys : {X Y : Type 0} → (Net → X → Type 0) → (Net → Y → Type 0) → Type 0
HaveSameKeys {X} {Y} left right = (n : Net) → ((x : X) × left n x) ↔ ((y : Y) × right n y)

-- The items of each common prefix are accepted.
abbrev pub ItemsPass : {X Y : Type 0} → (X → Y → Type 0) → (Net → X → Type 0) → (Net → Y → Type 0) → Type 0
ItemsPass {X} {Y} accepts left right = (n : Net) (x : X) (y : Y) → left n x → right n y → accepts x y

-- Both have pairs of the same prefixes, whose items are accepted.
abbrev pub AreEqualBy : {X Y : Type 0} → (X → Y → Type 0) → (Net → X → Type 0) → (Net → Y → Type 0) → Type 0
AreEqualBy accepts left right = HaveSameKeys left right × ItemsPass accepts left right

-- A function of two items answers true of items that contracts see as these.
abbrev pub Accepts : {S T X Y : Type 0} → (S → X) → (T → Y) → (S → T → Bool → Type 0) → X → Y → Type 0
Accepts {S} {T} item other post x y = (s : S) × ((t : T) × (item s ≡ x) × (other t ≡ y) × post s t true)

-- Of items that contracts see as the same there is one answer.
abbrev pub AnswersByBoth : {S T X Y : Type 0} → (S → X) → (T → Y) → (S → T → Bool → Type 0) → Type 0
AnswersByBoth {S} {T} item other post =
    (r s : S) (t u : T) (a b : Bool) → item r ≡ item s → other t ≡ other u → post r t a → post s u b → a ≡ b
