-- What holds of lists of bytes: their parts are bytes, and the numbers in them fit their widths.
use Rattle.std.proofs.Common.{◌≡◌, ℕ, zero, suc, ◌+◌, ◌<◌, ◌^◌, ℤ, List, [], ◌∷◌, get_or, take, drop, arith, lit<}
use Rattle.std.specs.Prelude.{FitsSigned}
use Rattle.std.specs.Int.{w32}
use Rattle.std.proofs.lemmas.Int.{ints}
use Rattle.nl_core.specs.Numbers.{AreBytes, u16_at, u16_be_at, u32_at, u64_at, i32_at}

-- The first bytes are bytes.
pub take-bytes : (n : ℕ) (bytes : List ℕ) → AreBytes bytes → AreBytes (take n bytes)
take-bytes zero bytes all = tt
take-bytes (suc n) [] all = tt
take-bytes (suc n) (b ∷ bytes) all = (all.0, take-bytes n bytes all.1)

-- All but the first bytes are bytes.
pub drop-bytes : (n : ℕ) (bytes : List ℕ) → AreBytes bytes → AreBytes (drop n bytes)
drop-bytes zero bytes all = all
drop-bytes (suc n) [] all = tt
drop-bytes (suc n) (b ∷ bytes) all = drop-bytes n bytes all.1

-- A byte at a place, or the 0 past the end, is below 256.
pub byte-below : (bytes : List ℕ) (k : ℕ) → AreBytes bytes → get_or bytes k 0 < 256
byte-below [] k all = lit< tt
byte-below (b ∷ bytes) zero all = all.0
byte-below (b ∷ bytes) (suc k) all = byte-below bytes k all.1

-- A number of two bytes fits them.
pub u16-below : (bytes : List ℕ) (k : ℕ) → AreBytes bytes → u16_at bytes k < 2 ^ 16
unfolding u16_at
u16-below bytes k all = omega (arith, byte-below bytes k all, byte-below bytes (k + 1) all)

-- A number of two bytes, the highest first, fits them.
pub u16_be-below : (bytes : List ℕ) (k : ℕ) → AreBytes bytes → u16_be_at bytes k < 2 ^ 16
unfolding u16_be_at
u16_be-below bytes k all = omega (arith, byte-below bytes k all, byte-below bytes (k + 1) all)

-- A number of four bytes fits them.
pub u32-below : (bytes : List ℕ) (k : ℕ) → AreBytes bytes → u32_at bytes k < 2 ^ 32
unfolding u32_at
u32-below bytes k all =
    omega (arith, byte-below bytes k all, byte-below bytes (k + 1) all, byte-below bytes (k + 2) all, byte-below bytes (k + 3) all)

-- A number of eight bytes fits them.
pub u64-below : (bytes : List ℕ) (k : ℕ) → AreBytes bytes → u64_at bytes k < 2 ^ 64
unfolding u64_at
u64-below bytes k all =
    omega (
      arith,
      byte-below bytes k all,
      byte-below bytes (k + 1) all,
      byte-below bytes (k + 2) all,
      byte-below bytes (k + 3) all,
      byte-below bytes (k + 4) all,
      byte-below bytes (k + 5) all,
      byte-below bytes (k + 6) all,
      byte-below bytes (k + 7) all,
    )

-- A signed number of four bytes fits them.
pub i32-fits : (bytes : List ℕ) (k : ℕ) → AreBytes bytes → FitsSigned w32 (i32_at bytes k)
unfolding i32_at
i32-fits bytes k all = let lt = u32-below bytes k all in omega (arith, ints)
