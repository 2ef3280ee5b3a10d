-- Numbers in hex digits: each digit, digit by digit, and one number for a text.
use Rattle.std.proofs.Common.{◌≡◌, ℕ, zero, suc, ◌+◌, ◌-◌, ◌*◌, ◌/◌, ◌%◌, ◌^◌, ◌<◌, ◌≤◌, ◌∙◌, sym, ap, subst, refl, arith, cond}
use Rattle.std.proofs.Common.{nat_lt, Bool, true, false, List, [], ◌∷◌, ◌++◌, length, length-append, bit_and}
use Rattle.std.specs.List.{All}
use Rattle.std.proofs.lemmas.List.Elements.{All-push, All-nil}
use Rattle.std.proofs.lemmas.Nat.{div_below, pow-add, and_mask, and_le_r}
use Rattle.std.proofs.Math.Nat.{div-div-eq-div-mul, pow-suc, pow-le-pow_right}
use Rattle.std.proofs.Math.Numerals.{suc-eq-add-one}
use Rattle.trie_json.specs.Hex.{hex_digit, hex_text}

-- ---- digits

by_case : (v u : ℕ) (s t : Bool) → v < 16 → u < 16 → cond s (48 + v) (87 + v) ≡ cond t (48 + u) (87 + u) → v ≡ u
by_case v u true true hv hu e = omega (arith, e)
by_case v u true false hv hu e = omega (arith, e, hv)
by_case v u false true hv hu e = omega (arith, e, hu)
by_case v u false false hv hu e = omega (arith, e)

-- Digits that are one have one value.
pub digit_one : (v u : ℕ) → v < 16 → u < 16 → hex_digit v ≡ hex_digit u → v ≡ u
digit_one v u hv hu e = by_case v u (nat_lt v 10) (nat_lt u 10) hv hu e

-- This is a digit.
abbrev pub IsDigit : ℕ → Type 0
IsDigit b = (v : ℕ) × (v < 16) × (b ≡ hex_digit v)

-- A text of digits has digits alone.
pub all_digits : (count n : ℕ) → All IsDigit (hex_text count n)
unfolding hex_text
all_digits zero n = All-nil IsDigit
all_digits (suc count) n = All-push IsDigit (hex_text count (n / 16)) (hex_digit (n % 16)) (all_digits count (n / 16)) (n % 16, omega arith, refl)

-- A text has as many digits as were counted.
pub text_length : (count n : ℕ) → length (hex_text count n) ≡ count
unfolding hex_text
text_length zero n = refl
text_length (suc count) n = let l = length-append (hex_text count (n / 16)) (hex_digit (n % 16) ∷ []) in
    let k = text_length count (n / 16) in omega (arith, l, k)

-- ---- one digit more

-- No digits are nothing.
pub text_none : (n : ℕ) → hex_text 0 n ≡ []
unfolding hex_text
text_none n = refl

-- The digits of a number and one digit more.
pub text_more : (count n v : ℕ) → v < 16 → hex_text (count + 1) (n * 16 + v) ≡ hex_text count n ++ hex_digit v ∷ []
unfolding hex_text
text_more count n v h =
    let high : (n * 16 + v) / 16 ≡ n = omega arith in
    let low : (n * 16 + v) % 16 ≡ v = omega arith in
    ap (λ k. hex_text k (n * 16 + v)) (sym (suc-eq-add-one count))
    ∙ ap (λ x. hex_text count x ++ hex_digit ((n * 16 + v) % 16) ∷ []) high
    ∙ ap (λ x. hex_text count n ++ hex_digit x ∷ []) low

-- The digits of a number's front and its next digit.
pub text_next : (count n : ℕ) → hex_text (count + 1) n ≡ hex_text count (n / 16) ++ hex_digit (n % 16) ∷ []
unfolding hex_text
text_next count n = ap (λ k. hex_text k n) (sym (suc-eq-add-one count))

-- The front of a number without a digit.
pub front_less : (n k : ℕ) → n / 2 ^ k / 16 ≡ n / 2 ^ (k + 4)
front_less n k = div-div-eq-div-mul n (2 ^ k) 16 ∙ ap (λ x. n / x) (sym (pow-add 2 k 4))

-- A digit is a letter of one byte.
pub digit_small : (b n : ℕ) → b ≡ hex_digit (bit_and n 15) → b < 128
digit_small b n e = by (nat_lt (bit_and n 15) 10) e
  where
    by : (t : Bool) → b ≡ cond t (48 + bit_and n 15) (87 + bit_and n 15) → b < 128
    by true is = let small = and_le_r n 15 in omega (arith, is, small)
    by false is = let small = and_le_r n 15 in omega (arith, is, small)

-- The text of the digits so far and the next one.
pub text_place : (n place : ℕ) (old new : List ℕ) (b : ℕ) → place < 32 → old ≡ hex_text place (n / 2 ^ (4 * (32 - place))) → new ≡ old ++ b ∷ []
    → b ≡ hex_digit (bit_and (n / 2 ^ (4 * (31 - place))) 15) → new ≡ hex_text (place + 1) (n / 2 ^ (4 * (32 - (place + 1))))
text_place n place old new b lt was put is =
    let k : ℕ = 4 * (31 - place) in
    let next : 4 * (32 - (place + 1)) ≡ k = omega arith in
    let whole : 4 * (32 - place) ≡ k + 4 = omega (arith, lt) in
    let low : bit_and (n / 2 ^ k) 15 ≡ n / 2 ^ k % 16 = and_mask (n / 2 ^ k) 4 in
    put
    ∙ ap (λ zs. zs ++ b ∷ []) (was ∙ ap (λ e. hex_text place (n / 2 ^ e)) whole ∙ ap (hex_text place) (sym (front_less n k)))
    ∙ ap (λ z. hex_text place (n / 2 ^ k / 16) ++ z ∷ []) (is ∙ ap hex_digit low)
    ∙ sym (text_next place (n / 2 ^ k))
    ∙ ap (λ e. hex_text (place + 1) (n / 2 ^ e)) (sym next)

-- A number of fewer than 32 digits has room for one more.
pub read_small : (place n len : ℕ) → len ≡ 32 → place < len → n < 16 ^ place → n * 16 + 15 < 2 ^ 128
read_small place n len e lt h =
    let below : place ≤ 31 = omega (arith, e, lt) in
    let room : 16 ^ place ≤ 16 ^ 31 = pow-le-pow_right (omega arith) below in
    omega (arith, h, room)

-- The bound of a number with one digit more.
pub more_small : (place n v : ℕ) → v < 16 → n < 16 ^ place → n * 16 + v < 16 ^ (place + 1)
more_small place n v hv h =
    subst (λ k. n * 16 + v < 16 ^ k) (suc-eq-add-one place) (subst (λ k. n * 16 + v < k) (sym (pow-suc 16 place)) (omega (arith, hv, h)))

-- ---- one number for a text

last_apart : (xs ys : List ℕ) (a b : ℕ) → xs ++ a ∷ [] ≡ ys ++ b ∷ [] → (xs ≡ ys) × (a ≡ b)
last_apart [] [] a b e = (refl, cc)
last_apart [] (y ∷ []) a b e = absurd (let no : ⊥ = cc in no)
last_apart [] (y ∷ z ∷ ys) a b e = absurd (let no : ⊥ = cc in no)
last_apart (x ∷ []) [] a b e = absurd (let no : ⊥ = cc in no)
last_apart (x ∷ z ∷ xs) [] a b e = absurd (let no : ⊥ = cc in no)
last_apart (x ∷ xs) (y ∷ ys) a b e =
    let head : x ≡ y = cc in
    let rest : xs ++ a ∷ [] ≡ ys ++ b ∷ [] = cc in
    let parts = last_apart xs ys a b rest in
    (ap (λ z. z ∷ xs) head ∙ ap (λ zs. y ∷ zs) parts.0, parts.1)

-- Numbers with one text are one.
pub text_one : (count n m : ℕ) → n < 16 ^ count → m < 16 ^ count → hex_text count n ≡ hex_text count m → n ≡ m
unfolding hex_text
text_one zero n m hn hm e = omega (arith, hn, hm)
text_one (suc count) n m hn hm e =
    let parts = last_apart (hex_text count (n / 16)) (hex_text count (m / 16)) _ _ e in
    let high = text_one count (n / 16) (m / 16) (div_below n 16 (16 ^ count) (omega arith) (subst (λ k. n < k) (pow-suc 16 count) hn))
    (div_below m 16 (16 ^ count) (omega arith) (subst (λ k. m < k) (pow-suc 16 count) hm)) parts.0 in
    let low = digit_one (n % 16) (m % 16) (omega arith) (omega arith) parts.1 in
    omega (arith, high, low)
