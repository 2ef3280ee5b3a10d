-- Numbers by their octets, the highest first.
use Rattle.std.proofs.Common.{◌≡◌, ℕ, ◌+◌, ◌*◌, ◌^◌, ◌<◌, ◌≤◌, List, [], ◌∷◌, ◌++◌, length, take, get_or, refl, sym, ap, ◌∙◌, add-one, lit<, arith}
use Rattle.std.specs.Slice.Scan.{big_endian}
use Rattle.std.proofs.Math.Seq.{take-suc}
use Rattle.std.proofs.Math.Nat.{pow-suc, pow-le-pow_right}

-- One octet more is the lowest one.
big_endian_more : (n : ℕ) (xs : List ℕ) (b : ℕ) → big_endian n (xs ++ b ∷ []) ≡ big_endian n xs * 256 + b
big_endian_more n [] b = refl
big_endian_more n (x ∷ xs) b = big_endian_more (n * 256 + x) xs b

-- The number of one octet more.
pub next_number : (xs : List ℕ) (i n : ℕ) → i < length xs → n ≡ big_endian 0 (take i xs) → n * 256 + get_or xs i 0 ≡ big_endian 0 (take (i + 1) xs)
next_number xs i n lt is =
    let more : take (i + 1) xs ≡ take i xs ++ get_or xs i 0 ∷ [] = rw add-one (take-suc xs i 0 lt) in
    ap (λ m. m * 256 + get_or xs i 0) is ∙ sym (big_endian_more 0 (take i xs) (get_or xs i 0)) ∙ ap (big_endian 0) (sym more)

-- It stays below the next power of 256.
pub below_power : (i n b : ℕ) → n < 256 ^ i → b < 256 → n * 256 + b < 256 ^ (i + 1)
below_power i n b lt small = rw (add-one, pow-suc) (omega arith)

-- Up to 16 octets fit 128 bits.
pub power_fits : (i k : ℕ) → i < k → k ≤ 16 → 256 ^ (i + 1) ≤ 340282366920938463463374607431768211456
power_fits i k h fits = pow-le-pow_right {n = 256} (lit< tt) {i = i + 1} {j = 16} (omega arith)
