-- Attributes of a table read back, and those that were read do.
use Rattle.std.proofs.Common.{◌≡◌, ◌≢◌, ◌==◌, ◌≤◌, ◌<◌, ◌%◌, ℕ, Bool, true, false, List, [], ◌∷◌, length, Result, Ok, refl, subst, arith}
use Rattle.std.specs.Prelude.{if◌then◌else◌}
use Rattle.std.specs.List.{AllByRecursion}
use Rattle.std.proofs.lemmas.Bool.{ne_eqb, eqb-false}
use Rattle.nl_core.specs.declared.error.DecodeError.{DecodeError}
use Rattle.nl_core.specs.declared.default_nla.DefaultNla.{DefaultNla}
use Rattle.nl_core.specs.Numbers.{AreBytes}
use Rattle.nl_core.specs.Attribute.{raw_kind_of, kind_of, value_of, default_at}
use Rattle.nl_core.specs.AttributeReadBack.{ReadsAgain}
use Rattle.nl_core.proofs.Bytes.{u16-below}
use Rattle.nl_core.proofs.AttributeReadBack.{value-bytes}
use Rattle.rt_other.specs.RouteAttributeLaws.{made-ok}
use Rattle.rt_layout.specs.Rows.{Row, row, read_by, attribute_by, IsOfNoRow}

infixr 4 ◌&◌
-- Two facts, as one on the first row and one on those after it.
abbrev pub ◌&◌ : {A B : Type 0} → A → B → A × B
a & b = (a, b)

-- ---- written and read

-- A type that no row has is read as what stands for the others.
pub read-none : {X : Type 0} (rows : List (Row X)) (k : ℕ) (v : List ℕ) (x : X) → AllByRecursion (λ r. k ≢ r.kind) rows
    → read_by rows k v x ≡ Ok x
read-none [] k v x none = refl
read-none (r ∷ rows) k v x none = rw (ne_eqb k r.kind none.0) (read-none rows k v x none.1)

-- An attribute of a row reads back, where its value does by the row.
pub row-again : {X : Type 0} (rows : List (Row X)) (other : DefaultNla → X) (kind : X → ℕ) (value : X → List ℕ) (x : X)
    → kind x < 65536 → length (value x) ≤ 65531 → ((o : X) → read_by rows (kind x % 16384) (value x) o ≡ Ok x)
    → ReadsAgain kind value (attribute_by rows other) x
row-again rows other kind value x fits short is =
    record { kind_fits = fits; value_fits = short; again = λ bytes r k v. rw (k, v) (is (other (record { kind = raw_kind_of bytes; value = value x }))) }

-- An attribute of no row reads back, where it is written as it stands.
pub other-again : {X : Type 0} (rows : List (Row X)) (other : DefaultNla → X) (kind : X → ℕ) (value : X → List ℕ) (n : DefaultNla)
    → kind (other n) ≡ n.kind → value (other n) ≡ n.value → IsOfNoRow rows n → length (value (other n)) ≤ 65531
    → ReadsAgain kind value (attribute_by rows other) (other n)
other-again {X} rows other kind value n same_kind same_value alone short =
    let none : (o : X) → read_by rows (n.kind % 16384) n.value o ≡ Ok o = λ o. read-none rows (n.kind % 16384) n.value o alone.1 in
    record {
      kind_fits = omega (arith, same_kind, alone.0);
      value_fits = short;
      again = λ bytes r k v. rw (k, r, v, same_kind, same_value) (none (other n));
    }

-- ---- read

-- What a row reads has a property.
abbrev pub RowReads : {X : Type 0} → (X → Type 0) → Row X → Type 0
RowReads {X} P r = (v : List ℕ) (x : X) → AreBytes v → r.reads v ≡ Ok x → P x

-- What a row reads has a property, where what its reader gives has one that the constructor carries over.
pub row-reads : {A X : Type 0} (Fits : A → Type 0) (P : X → Type 0) (read : List ℕ → Result A DecodeError) (make : A → X) (kind : ℕ)
    → ((v : List ℕ) (a : A) → AreBytes v → read v ≡ Ok a → Fits a) → ((a : A) → Fits a → P (make a)) → RowReads P (row kind read make)
row-reads Fits P read make kind reads makes v x are is =
    let made = made-ok (read v) make x is in
    subst P made.2 (makes made.0 (reads v made.0 are made.1))

chosen : {X : Type 0} (P : X → Type 0) (b : Bool) (k l : ℕ) (first rest : Result X DecodeError) (x : X) → (k == l) ≡ b
    → (first ≡ Ok x → P x) → (k ≢ l → rest ≡ Ok x → P x) → (if b then first else rest) ≡ Ok x → P x
chosen P true k l first rest x e this others is = this is
chosen P false k l first rest x e this others is = others (eqb-false k l e) is

-- What a table reads has a property, where what each row reads has it, and what stands for the others.
pub table-reads : {X : Type 0} (P : X → Type 0) (rows : List (Row X)) (k : ℕ) (v : List ℕ) (other x : X) → AreBytes v
    → AllByRecursion (λ r. RowReads P r) rows → (AllByRecursion (λ r. k ≢ r.kind) rows → P other) → read_by rows k v other ≡ Ok x → P x
table-reads P [] k v other x are each none is = let same : other ≡ x = cc in subst P same (none tt)
table-reads P (r ∷ rows) k v other x are each none is =
    chosen P (k == r.kind) k r.kind (r.reads v) (read_by rows k v other) x refl (λ first. each.0 v x are first)
    (λ ne rest. table-reads P rows k v other x are each.1 (λ nes. none (ne, nes)) rest) is

-- An attribute that was read by a table has a property, where what each row reads has it, and each attribute of no row.
pub attribute-reads : {X : Type 0} (P : X → Type 0) (rows : List (Row X)) (other : DefaultNla → X) (bytes : List ℕ) (x : X) → AreBytes bytes
    → AllByRecursion (λ r. RowReads P r) rows → ((n : DefaultNla) → IsOfNoRow rows n → P (other n)) → attribute_by rows other bytes ≡ Ok x
    → P x
attribute-reads P rows other bytes x are each others is =
    table-reads P rows (kind_of bytes) (value_of bytes) (other (default_at bytes)) x (value-bytes bytes are) each
    (λ none. others (default_at bytes) (u16-below bytes 2 are, none)) is
