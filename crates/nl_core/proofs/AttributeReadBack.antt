-- Attributes that are written are read again.
use Rattle.std.proofs.Common.{◌≡◌, ℕ, ℤ, ◌+◌, ◌-◌, ◌%◌, ◌^◌, ◌≤◌, ◌<◌, true, List, [], ◌∷◌, ◌++◌, length, take, drop, Result, Ok, refl, ap, ◌∙◌, append_assoc, arith, length-append}
use Rattle.std.specs.List.{AllByRecursion, list_all}
use Rattle.std.specs.Cmp.Derive.{both_true}
use Rattle.std.proofs.lemmas.List.{take_at, drop_at}
use Rattle.std.proofs.lemmas.Bool.{le-leb, leb-true}
use Rattle.std.proofs.lemmas.Nat.{from_le_bytes-to_le_bytes_2}
use Rattle.nl_core.specs.declared.error.DecodeError.{DecodeError}
use Rattle.nl_core.specs.Numbers.{AreBytes, le16, u16_at}
use Rattle.nl_core.specs.Writing.{zeros}
use Rattle.nl_core.specs.AttributeReadBack.{ReadsAgain, EachReadOneReadsBack, ReadListsReadBack}
use Rattle.nl_core.specs.Attribute.{attribute_text, attributes_text, attribute_fits, padded, is_checked, raw_kind_of, kind_of, value_of, after, walk, attributes}
use Rattle.nl_core.proofs.Bytes.{take-bytes, drop-bytes}
use Rattle.nl_core.proofs.FlatLists.{and_true}
use Rattle.nl_core.proofs.Lengths.{length-attribute, fit-parts}
use Rattle.nl_core.proofs.Walk.{attributes-one, reads-cons}

-- ---- the attribute at the front

-- What stands at the front of an attribute's text.
pub record Front (k : ℕ) (v more bytes : List ℕ) : Type 0 where
  pub checked : is_checked bytes ≡ true
  pub raw_kind : raw_kind_of bytes ≡ k
  pub kind : kind_of bytes ≡ k % 16384
  pub value : value_of bytes ≡ v
  pub rest : after bytes ≡ more

length_at : (kind : ℕ) (value rest : List ℕ) → length value ≤ 65531 → u16_at (attribute_text kind value ++ rest) 0 ≡ 4 + length value
unfolding le16 u16_at
length_at kind value rest short = from_le_bytes-to_le_bytes_2 (4 + length value) (omega arith)

kind_at : (kind : ℕ) (value rest : List ℕ) → kind < 65536 → u16_at (attribute_text kind value ++ rest) 2 ≡ kind
unfolding le16 u16_at
kind_at kind value rest lt = from_le_bytes-to_le_bytes_2 kind lt

value_at : (kind : ℕ) (value rest : List ℕ) → take (length value) (drop 4 (attribute_text kind value ++ rest)) ≡ value
unfolding le16
value_at kind value rest =
    let pad = zeros (padded (length value) - length value) in
    rw (append_assoc value pad rest) (take_at value (pad ++ rest) (length value) refl)

-- An attribute's text shows its type and its value, and what follows it.
pub front : (kind : ℕ) (value rest : List ℕ) → kind < 65536 → length value ≤ 65531
    → Front kind value rest (attribute_text kind value ++ rest)
front kind value rest lt short =
    let bytes = attribute_text kind value ++ rest in
    let u0 = length_at kind value rest short in
    let u2 = kind_at kind value rest lt in
    let text = length-attribute kind value in
    let whole = length-append (attribute_text kind value) rest in
    let same : 4 + length value - 4 ≡ length value = omega arith in
    let header = le-leb 4 (length bytes) (omega (arith, text, whole)) in
    let least = le-leb 4 (4 + length value) (omega arith) in
    let most = le-leb (4 + length value) (length bytes) (omega (arith, text, whole)) in
    record {
      checked = rw u0 (both_true (both_true header least) most);
      raw_kind = u2;
      kind = ap (λ (k : ℕ). k % 16384) u2;
      value = rw (u0, same) (value_at kind value rest);
      rest = rw u0 (drop_at (attribute_text kind value) rest (padded (4 + length value)) (omega (arith, text)));
    }

-- ---- lists

-- Attributes that read back one by one read back as a list.
pub attributes-again : {X : Type 0} (kind : X → ℕ) (value : X → List ℕ) (read : List ℕ → Result X DecodeError) (xs : List X)
    → AllByRecursion (ReadsAgain kind value read) xs → attributes read (attributes_text kind value xs) ≡ Ok xs
unfolding attributes walk
attributes-again kind value read [] all = refl
attributes-again {X} kind value read (x ∷ xs) all =
    let first = attribute_text (kind x) (value x) in
    let others = attributes_text kind value xs in
    let f = front (kind x) (value x) others all.0.kind_fits all.0.value_fits in
    let some : 0 < length (first ++ others) = omega (arith, length-attribute (kind x) (value x), length-append first others) in
    attributes-one read (first ++ others) some f.checked
    ∙ rw (all.0.again (first ++ others) f.raw_kind f.kind f.value, f.rest, attributes-again kind value read xs all.1) refl

-- The value of an attribute that stands in bytes is bytes.
pub value-bytes : (bytes : List ℕ) → AreBytes bytes → AreBytes (value_of bytes)
value-bytes bytes are = take-bytes (u16_at bytes 0 - 4) (drop 4 bytes) (drop-bytes 4 bytes are)

-- What holds of each attribute that is read from bytes holds of each one of a list that was read.
pub each-read : {X : Type 0} (P : X → Type 0) (read : List ℕ → Result X DecodeError)
    → ((bytes : List ℕ) (x : X) → AreBytes bytes → is_checked bytes ≡ true → read bytes ≡ Ok x → P x)
    → (xs : List X) (bytes : List ℕ) → AreBytes bytes → attributes read bytes ≡ Ok xs → AllByRecursion P xs
each-read P read one [] bytes are is = tt
each-read P read one (x ∷ xs) bytes are is =
    let front = reads-cons read bytes x xs is in (
      one bytes x are front.checked front.first,
      each-read P read one xs (after bytes) (drop-bytes (padded (u16_at bytes 0)) bytes are) front.others,
    )

-- Attributes that read back where they fit do so, if they fit.
pub fitting-again : {X : Type 0} (kind : X → ℕ) (value : X → List ℕ) (read : List ℕ → Result X DecodeError) (P : X → Type 0)
    → ((x : X) → P x → length (value x) ≤ 65531 → ReadsAgain kind value read x)
    → (xs : List X) → list_all (λ x. attribute_fits (value x)) xs ≡ true → AllByRecursion P xs
    → AllByRecursion (ReadsAgain kind value read) xs
fitting-again kind value read P one [] fit each = tt
fitting-again {X} kind value read P one (x ∷ xs) fit each =
    let fits = and_true (attribute_fits (value x)) (list_all (λ (y : X). attribute_fits (value y)) xs) fit in
    (one x each.0 (leb-true _ _ fits.0), fitting-again kind value read P one xs fits.1 each.1)

-- Attributes that were read and fit read back, where each one does.
pub read-lists-again : {X : Type 0} (kind : X → ℕ) (value : X → List ℕ) (read : List ℕ → Result X DecodeError)
    → EachReadOneReadsBack kind value read → ReadListsReadBack kind value read
read-lists-again {X} kind value read each bytes xs are is fit =
    let Back : X → Type 0 = λ x. length (value x) ≤ 65531 → ReadsAgain kind value read x in
    let all = each-read Back read each xs bytes are is in
    attributes-again kind value read xs
    (fitting-again kind value read Back (λ x back short. back short) xs (fit-parts kind value xs fit).0 all)
