-- Numbers that are written are read again, and numbers that were read from bytes fit their widths.
use Rattle.std.proofs.Common.{◌≡◌, ◌==◌, ◌<◌, ◌^◌, ℕ, ℤ, Bool, true, false, List, [], ◌∷◌, length, Result, Ok, Err, refl, ap, subst}
use Rattle.std.specs.Prelude.{FitsSigned, if◌then◌else◌}
use Rattle.std.specs.Int.{w32}
use Rattle.std.proofs.lemmas.Bool.{eqb-true}
use Rattle.std.proofs.lemmas.Nat.{from_le_bytes-to_le_bytes_2, from_le_bytes-to_le_bytes_4, from_le_bytes-to_le_bytes_8, from_be_bytes-to_be_bytes_2}
use Rattle.nl_core.specs.declared.error.DecodeError.{DecodeError}
use Rattle.nl_core.specs.declared.error.DecodeError.TheVariants.{BadLength}
use Rattle.nl_core.specs.Numbers.{AreBytes, le16, be16, le32, le64, le_i32, u16_at, u16_be_at, u32_at, u64_at, i32_at}
use Rattle.nl_core.specs.Reading.{exactly, number16, number16_be, number32, number64, number_i32}
use Rattle.nl_core.proofs.Bytes.{u16-below, u16_be-below, u32-below, u64-below, i32-fits}
use Rattle.nl_core.proofs.Signed.{from_le_bytes-signed}

-- ---- written and read

-- A number of two bytes reads back.
pub number16-le16 : (n : ℕ) → n < 2 ^ 16 → number16 (le16 n) ≡ Ok n
unfolding le16 u16_at
number16-le16 n lt = ap (λ (k : ℕ). Ok k) (from_le_bytes-to_le_bytes_2 n lt)

-- A number of two bytes, the highest first, reads back.
pub number16_be-be16 : (n : ℕ) → n < 2 ^ 16 → number16_be (be16 n) ≡ Ok n
unfolding be16 u16_be_at
number16_be-be16 n lt = ap (λ (k : ℕ). Ok k) (from_be_bytes-to_be_bytes_2 n lt)

-- A number of four bytes reads back.
pub number32-le32 : (n : ℕ) → n < 2 ^ 32 → number32 (le32 n) ≡ Ok n
unfolding le32 u32_at
number32-le32 n lt = ap (λ (k : ℕ). Ok k) (from_le_bytes-to_le_bytes_4 n lt)

-- A number of eight bytes reads back.
pub number64-le64 : (n : ℕ) → n < 2 ^ 64 → number64 (le64 n) ≡ Ok n
unfolding le64 u64_at
number64-le64 n lt = ap (λ (k : ℕ). Ok k) (from_le_bytes-to_le_bytes_8 n lt)

-- A signed number of four bytes reads back.
pub number_i32-le_i32 : (z : ℤ) → FitsSigned w32 z → number_i32 (le_i32 z) ≡ Ok z
unfolding le_i32 i32_at u32_at
number_i32-le_i32 z fits = ap (λ (x : ℤ). Ok x) (from_le_bytes-signed z fits)

-- ---- read

abbrev tested : {X : Type 0} → Bool → X → Result X DecodeError
tested b x = if b then Ok x else Err BadLength

tested-ok : {X : Type 0} (b : Bool) (x y : X) → tested b x ≡ Ok y → (b ≡ true) × (x ≡ y)
tested-ok true x y is = (refl, cc)
tested-ok false x y is = absurd cc

-- What was read of bytes of one width: they have it, and the value is theirs.
pub exactly-ok : {X : Type 0} (width : ℕ) (bytes : List ℕ) (x y : X) → exactly width bytes x ≡ Ok y → (length bytes ≡ width) × (x ≡ y)
exactly-ok width bytes x y is =
    let both = tested-ok (length bytes == width) x y is in
    (eqb-true (length bytes) width both.0, both.1)

-- A number that was read of two bytes fits them.
pub number16-below : (bytes : List ℕ) (n : ℕ) → AreBytes bytes → number16 bytes ≡ Ok n → n < 2 ^ 16
number16-below bytes n are is =
    subst (λ (k : ℕ). k < 2 ^ 16) (exactly-ok 2 bytes (u16_at bytes 0) n is).1 (u16-below bytes 0 are)

-- A number that was read of two bytes, the highest first, fits them.
pub number16_be-below : (bytes : List ℕ) (n : ℕ) → AreBytes bytes → number16_be bytes ≡ Ok n → n < 2 ^ 16
number16_be-below bytes n are is =
    subst (λ (k : ℕ). k < 2 ^ 16) (exactly-ok 2 bytes (u16_be_at bytes 0) n is).1 (u16_be-below bytes 0 are)

-- A number that was read of four bytes fits them.
pub number32-below : (bytes : List ℕ) (n : ℕ) → AreBytes bytes → number32 bytes ≡ Ok n → n < 2 ^ 32
number32-below bytes n are is =
    subst (λ (k : ℕ). k < 2 ^ 32) (exactly-ok 4 bytes (u32_at bytes 0) n is).1 (u32-below bytes 0 are)

-- A number that was read of eight bytes fits them.
pub number64-below : (bytes : List ℕ) (n : ℕ) → AreBytes bytes → number64 bytes ≡ Ok n → n < 2 ^ 64
number64-below bytes n are is =
    subst (λ (k : ℕ). k < 2 ^ 64) (exactly-ok 8 bytes (u64_at bytes 0) n is).1 (u64-below bytes 0 are)

-- A signed number that was read of four bytes fits them.
pub number_i32-fits : (bytes : List ℕ) (z : ℤ) → AreBytes bytes → number_i32 bytes ≡ Ok z → FitsSigned w32 z
number_i32-fits bytes z are is =
    subst (λ (k : ℤ). FitsSigned w32 k) (exactly-ok 4 bytes (i32_at bytes 0) z is).1 (i32-fits bytes 0 are)
