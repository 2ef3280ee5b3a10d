-- Attributes that are the value of another one.
use Rattle.std.specs.Prelude.{◌≡◌, ◌≤◌, ℕ, List, length, Result, Ok}
use Rattle.std.specs.List.{AllByRecursion}
use Rattle.nl_core.specs.declared.error.DecodeError.{DecodeError}
use Rattle.nl_core.specs.Numbers.{AreBytes}
use Rattle.nl_core.specs.Attribute.{attributes, attributes_text}

-- Attributes that are short enough for the value of another one read back from their bytes, where each of them does.
abbrev pub NestedListsReadBack : {X : Type 0} → (X → ℕ) → (X → List ℕ) → (List ℕ → Result X DecodeError) → (X → Type 0) → Type 0
NestedListsReadBack {X} kind value read Back =
    (xs : List X) → AllByRecursion Back xs → length (attributes_text kind value xs) ≤ 65531
    → attributes read (attributes_text kind value xs) ≡ Ok xs

-- Attributes that were read from bytes and are short enough for the value of another one read back from their bytes.
abbrev pub ReadNestedListsReadBack : {X : Type 0} → (X → ℕ) → (X → List ℕ) → (List ℕ → Result X DecodeError) → Type 0
ReadNestedListsReadBack {X} kind value read =
    (bytes : List ℕ) (xs : List X) → AreBytes bytes → attributes read bytes ≡ Ok xs → length (attributes_text kind value xs) ≤ 65531
    → attributes read (attributes_text kind value xs) ≡ Ok xs
