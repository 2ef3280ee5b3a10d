-- Tables of attributes: which types are known, and what their values are read as.
use Rattle.std.specs.Prelude.{◌≢◌, ◌<◌, ◌^◌, ◌%◌, ◌==◌, ℕ, List, [], ◌∷◌, if◌then◌else◌, Result, Ok}
use Rattle.std.specs.List.{AllByRecursion}
use Rattle.nl_core.specs.declared.error.DecodeError.{DecodeError}
use Rattle.nl_core.specs.declared.default_nla.DefaultNla.{DefaultNla}
use Rattle.nl_core.specs.Reading.{◌>>=◌}
use Rattle.nl_core.specs.Attribute.{kind_of, value_of, default_at}

-- A row of a table: a type, and what a value of this type is read as.
pub record Row (X : Type 0) : Type 0 where
  pub kind : ℕ
  pub reads : List ℕ → Result X DecodeError

-- The row of a type whose values are read by one reader and become an attribute by one constructor.
abbrev pub row : {A X : Type 0} → ℕ → (List ℕ → Result A DecodeError) → (A → X) → Row X
row kind read make = record { kind = kind; reads = λ value. read value >>= λ a. Ok (make a) }

-- What a type and a value are read as by the row of the type; `other` where no row has it.
abbrev pub read_by : {X : Type 0} → List (Row X) → ℕ → List ℕ → X → Result X DecodeError
read_by [] kind value other = Ok other
read_by (r ∷ rows) kind value other = if kind == r.kind then r.reads value else read_by rows kind value other

-- What the attribute at the front of bytes is read as: by its row, or else as it stands.
abbrev pub attribute_by : {X : Type 0} → List (Row X) → (DefaultNla → X) → List ℕ → Result X DecodeError
attribute_by rows other bytes = read_by rows (kind_of bytes) (value_of bytes) (other (default_at bytes))

-- An attribute that is kept as it stands reads back so: its type is two bytes, and no row has it.
abbrev pub IsOfNoRow : {X : Type 0} → List (Row X) → DefaultNla → Type 0
IsOfNoRow rows n = (n.kind < 2 ^ 16) × AllByRecursion (λ r. n.kind % 16384 ≢ r.kind) rows
