-- The octets of numbers, the highest first, and those of addresses.
use Rattle.std.proofs.Common.{◌≡◌, ◌+◌, ◌*◌, ◌/◌, ◌%◌, ◌<◌, ◌≤◌, ◌^◌, ℕ, zero, suc, List, [], ◌∷◌, ◌++◌, length, refl, sym, ◌∙◌, ap, arith, add-one, lit<}
use Rattle.std.specs.Int.{byte_at, bytes_high_first}
use Rattle.std.specs.Slice.Scan.{big_endian}
use Rattle.std.proofs.Math.Nat.{div-div-eq-div-mul, pow-le-pow_right, pow-suc, pow-succ'}
use Rattle.std.proofs.lemmas.Nat.{div-add-mod', div_below}
use Rattle.session_model.specs.declared.network.Address.{Address}
use Rattle.session_model.specs.declared.network.Address.TheVariants.{V4, V6}
use Rattle.session_model.specs.Networks.{IsHost, octets_of}
use Rattle.session_model.specs.Transcript.{AreBytes}

-- An octet but the lowest is one of what is above the lowest.
byte_next : (i n : ℕ) → byte_at (suc i) n ≡ byte_at i (n / 256)
byte_next zero n = refl
byte_next (suc i) n = ap (λ z. z % 256) (ap (λ m. n / m) (pow-succ' 256 (suc i)) ∙ sym (div-div-eq-div-mul n 256 (256 ^ suc i)))

-- The lowest octet stands last, after those of what is above it.
pub last_octet : (k n : ℕ) → bytes_high_first (suc k) n ≡ bytes_high_first k (n / 256) ++ n % 256 ∷ []
last_octet zero n = refl
last_octet (suc k) n =
    ap (λ b. b ∷ bytes_high_first (suc k) n) (byte_next k n) ∙ ap (λ t. byte_at k (n / 256) ∷ t) (last_octet k n)

-- One octet more after the octets of a number.
pub octet_more : (xs : List ℕ) (k n b : ℕ) → b < 256 → bytes_high_first k n ≡ xs → bytes_high_first (k + 1) (n * 256 + b) ≡ xs ++ b ∷ []
octet_more xs k n b small are =
    let front : (n * 256 + b) / 256 ≡ n = omega (arith, small) in
    let last : (n * 256 + b) % 256 ≡ b = omega (arith, small) in
    rw add-one
    (last_octet k (n * 256 + b) ∙ ap (λ m. bytes_high_first k m ++ (n * 256 + b) % 256 ∷ []) front
    ∙ ap (λ m. bytes_high_first k n ++ m ∷ []) last ∙ ap (λ ys. ys ++ b ∷ []) are)

-- A number with one octet more is below the next power.
pub number_more : (k n b : ℕ) → b < 256 → n < 256 ^ k → n * 256 + b < 256 ^ (k + 1)
number_more k n b small low = rw (add-one, pow-suc) (omega (arith, small, low))

-- Up to 16 octets fit 128 bits.
pub power_fits : (i k : ℕ) → i < k → k ≤ 16 → 256 ^ (i + 1) ≤ 2 ^ 128
power_fits i k low fits = pow-le-pow_right {n = 256} (lit< tt) {i = i + 1} {j = 16} (omega (arith, low, fits))

-- Each octet is a byte.
pub are_octets : (k n : ℕ) → AreBytes (bytes_high_first k n)
are_octets zero n = tt
are_octets (suc zero) n = (omega arith, tt)
are_octets (suc (suc k)) n = (omega arith, are_octets (suc k) n)

-- There are as many octets as were asked for.
pub octets_counted : (k n : ℕ) → length (bytes_high_first k n) ≡ k
octets_counted zero n = refl
octets_counted (suc k) n = let rest = octets_counted k n in omega (arith, rest)

big_endian_more : (n : ℕ) (xs : List ℕ) (b : ℕ) → big_endian n (xs ++ b ∷ []) ≡ big_endian n xs * 256 + b
big_endian_more n [] b = refl
big_endian_more n (x ∷ xs) b = big_endian_more (n * 256 + x) xs b

-- A number that has no more octets is that of its octets.
pub number_back : (k n : ℕ) → n < 256 ^ k → big_endian 0 (bytes_high_first k n) ≡ n
number_back zero n low = omega (arith, low)
number_back (suc k) n low =
    let most : n < 256 ^ k * 256 = rw (← pow-suc) low in
    ap (big_endian 0) (last_octet k n) ∙ big_endian_more 0 (bytes_high_first k (n / 256)) (n % 256)
    ∙ ap (λ m. m * 256 + n % 256) (number_back k (n / 256) (div_below n 256 (256 ^ k) (lit< tt) most)) ∙ div-add-mod' n 256

-- ---- addresses

-- How many octets an address has.
abbrev pub octets_in : Address → ℕ
octets_in (V4 n) = 4
octets_in (V6 n) = 16

-- The number of an address.
abbrev pub number_in : Address → ℕ
number_in (V4 n) = n
number_in (V6 n) = n

-- An address has as many octets as its family.
pub octets_length : (a : Address) → length (octets_of a) ≡ octets_in a
unfolding octets_of
octets_length (V4 n) = octets_counted 4 n
octets_length (V6 n) = octets_counted 16 n

-- The octets of an address are bytes.
pub octets_bytes : (a : Address) → AreBytes (octets_of a)
unfolding octets_of
octets_bytes (V4 n) = are_octets 4 n
octets_bytes (V6 n) = are_octets 16 n

-- The number of an address is that of its octets.
pub octets_number : (a : Address) → IsHost a → big_endian 0 (octets_of a) ≡ number_in a
unfolding octets_of
octets_number (V4 n) low = number_back 4 n low
octets_number (V6 n) low = number_back 16 n low

-- Octets of a number are those of its IPv4 address.
pub octets_of_v4 : (octets : List ℕ) (n : ℕ) → length octets ≡ 4 → bytes_high_first (length octets) n ≡ octets → octets ≡ octets_of (V4 n)
unfolding octets_of
octets_of_v4 octets n count are = sym are ∙ ap (λ k. bytes_high_first k n) count

-- Octets of a number are those of its IPv6 address.
pub octets_of_v6 : (octets : List ℕ) (n : ℕ) → length octets ≡ 16 → bytes_high_first (length octets) n ≡ octets → octets ≡ octets_of (V6 n)
unfolding octets_of
octets_of_v6 octets n count are = sym are ∙ ap (λ k. bytes_high_first k n) count

-- Addresses of one list of octets are one.
pub octets_injective : (a b : Address) → IsHost a → IsHost b → octets_of a ≡ octets_of b → a ≡ b
octets_injective a b h k e =
    by a b (sym (octets_length a) ∙ ap length e ∙ octets_length b) (sym (octets_number a h) ∙ ap (big_endian 0) e ∙ octets_number b k)
  where
    by : (a b : Address) → octets_in a ≡ octets_in b → number_in a ≡ number_in b → a ≡ b
    by (V4 m) (V4 n) l e = ap V4 e
    by (V4 m) (V6 n) l e = absurd (omega (arith, l))
    by (V6 m) (V4 n) l e = absurd (omega (arith, l))
    by (V6 m) (V6 n) l e = ap V6 e
