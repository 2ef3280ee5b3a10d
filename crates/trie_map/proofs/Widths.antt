-- Numbers at each width of the primitive integers.
use Rattle.std.proofs.Common.{◌≡◌, ℕ, ◌-◌, ◌^◌, ◌<◌, ◌≤◌, lit<}
use Rattle.std.specs.Int.{Width, w8, w16, w32, w64, w128, bit_not, count_zeros}
use Rattle.std.proofs.lemmas.Nat.Bits.{ones_shl}
use Rattle.std.specs.Int.Count.{ones-ones}
use Rattle.num_traits.specs.Laws.{bit_len, shift_left}

-- `zero().count_zeros()` is the number of bits.
pub zeros-zero : (w : Width) → count_zeros w 0 ≡ bit_len w
zeros-zero w8 = ones-ones 8
zeros-zero w16 = ones-ones 16
zeros-zero w32 = ones-ones 32
zeros-zero w64 = ones-ones 64
zeros-zero w128 = ones-ones 128

-- `MAX << k`
pub ones-shift : (w : Width) (k : ℕ) → k ≤ bit_len w → shift_left w (bit_not w 0) k ≡ 2 ^ bit_len w - 2 ^ k
ones-shift w8 k h = ones_shl 8 k h
ones-shift w16 k h = ones_shl 16 k h
ones-shift w32 k h = ones_shl 32 k h
ones-shift w64 k h = ones_shl 64 k h
ones-shift w128 k h = ones_shl 128 k h

-- `!0` has a number of its width.
pub not-zero_fits : (w : Width) → bit_not w 0 < 2 ^ bit_len w
not-zero_fits w8 = lit< tt
not-zero_fits w16 = lit< tt
not-zero_fits w32 = lit< tt
not-zero_fits w64 = lit< tt
not-zero_fits w128 = lit< tt
