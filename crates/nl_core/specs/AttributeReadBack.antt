-- What is asked of attributes that read back.
use Rattle.std.specs.Prelude.{◌≡◌, ℕ, ◌<◌, ◌≤◌, ◌%◌, true, List, length, Result, Ok}
use Rattle.std.specs.List.{AllByRecursion}
use Rattle.nl_core.specs.declared.error.DecodeError.{DecodeError}
use Rattle.nl_core.specs.Numbers.{AreBytes}
use Rattle.nl_core.specs.Attribute.{is_checked, raw_kind_of, kind_of, value_of, attributes_text, attributes_fit, attributes}

-- An attribute reads back: its type and its length fit their fields, and whatever bytes show its type and its value are
-- read as it.
pub record ReadsAgain {X : Type 0} (kind : X → ℕ) (value : X → List ℕ) (read : List ℕ → Result X DecodeError) (x : X) : Type 0 where
  pub kind_fits : kind x < 65536
  pub value_fits : length (value x) ≤ 65531
  pub again : (bytes : List ℕ) → raw_kind_of bytes ≡ kind x → kind_of bytes ≡ kind x % 16384 → value_of bytes ≡ value x → read bytes ≡ Ok x

-- The bytes of attributes that read back one by one read as the list of them.
abbrev pub AttributesReadBack : {X : Type 0} → (X → ℕ) → (X → List ℕ) → (List ℕ → Result X DecodeError) → Type 0
AttributesReadBack {X} kind value read =
    (xs : List X) → AllByRecursion (ReadsAgain kind value read) xs → attributes read (attributes_text kind value xs) ≡ Ok xs

-- Each attribute that was read from bytes and whose length fits its field reads back.
abbrev pub EachReadOneReadsBack : {X : Type 0} → (X → ℕ) → (X → List ℕ) → (List ℕ → Result X DecodeError) → Type 0
EachReadOneReadsBack {X} kind value read =
    (bytes : List ℕ) (x : X) → AreBytes bytes → is_checked bytes ≡ true → read bytes ≡ Ok x → length (value x) ≤ 65531
    → ReadsAgain kind value read x

-- Attributes that were read from bytes and fit read back as the list of them.
abbrev pub ReadListsReadBack : {X : Type 0} → (X → ℕ) → (X → List ℕ) → (List ℕ → Result X DecodeError) → Type 0
ReadListsReadBack {X} kind value read =
    (bytes : List ℕ) (xs : List X) → AreBytes bytes → attributes read bytes ≡ Ok xs → attributes_fit kind value xs ≡ true
    → attributes read (attributes_text kind value xs) ≡ Ok xs
