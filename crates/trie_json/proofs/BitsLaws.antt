-- Bits of prefixes as numbers, some bits at a time; and one number for what is written.
use Rattle.std.proofs.Common.{◌≡◌, ℕ, ◌+◌, ◌-◌, ◌*◌, ◌/◌, ◌%◌, ◌^◌, ◌<◌, ◌≤◌, ◌∙◌, sym, ap, arith, cond, leb, Bool, true, false}
use Rattle.std.proofs.lemmas.Nat.{div-add-mod'}
use Rattle.std.proofs.Math.Nat.{div-div-eq-div-mul, div-one, div-eq_of_lt, pow-le-pow_right, mod-eq_of_lt, div-le_self}
use Rattle.serde_json.specs.Data.{unsigned, number, string}
use Rattle.trie_model.specs.Nets.{masked}
use Rattle.trie_model.specs.Spots.{five_bits}
use Rattle.trie_model.proofs.Places.{masked_less}
use Rattle.trie_model.proofs.SpotLaws.{power_split, masked_level}
use Rattle.trie_model.proofs.SpotOrder.{five_level}
use Rattle.trie_json.specs.Hex.{hex_text}
use Rattle.trie_json.specs.Writing.{bits_data}
use Rattle.trie_json.proofs.HexLaws.{text_one}

-- A small power is its own rest.
pub power_fits : (c : ℕ) → c ≤ 16 → 1 * 2 ^ c % 340282366920938463463374607431768211456 ≡ 2 ^ c
power_fits c h =
    let room : 2 ^ c ≤ 2 ^ 16 = pow-le-pow_right (omega arith) h in
    let one : 1 * 2 ^ c ≡ 2 ^ c = omega arith in
    ap (λ x. x % 340282366920938463463374607431768211456) one ∙ mod-eq_of_lt (omega (arith, room))

-- The first bits of a number and the next ones.
pub fives_more : (w d c n : ℕ) → c ≤ 5 → d + c ≤ w → n / 2 ^ (w - d) * 2 ^ c + five_bits w d n / 2 ^ (5 - c) ≡ n / 2 ^ (w - (d + c))
fives_more w d c n h fits =
    let m : ℕ = n / 2 ^ (w - (d + c)) in
    let front : n / 2 ^ (w - d) ≡ m / 2 ^ c = ap (λ x. n / x) (power_split w d c fits) ∙ sym (div-div-eq-div-mul n (2 ^ (w - (d + c))) (2 ^ c)) in
    ap (λ x. x * 2 ^ c + five_bits w d n / 2 ^ (5 - c)) front
    ∙ ap (λ x. m / 2 ^ c * 2 ^ c + x) (five_level w d c n h fits)
    ∙ div-add-mod' m (2 ^ c)

-- The same as code computes it.
pub fives_next : (w d c n k five : ℕ) → c ≤ 5 → d + c ≤ w → five ≡ five_bits w d n → k ≡ n / 2 ^ (w - d)
    → k * (1 * 2 ^ c % 340282366920938463463374607431768211456) + five / 2 ^ (5 - c) ≡ n / 2 ^ (w - (d + c))
fives_next w d c n k five h fits is so =
    ap (λ x. k * x + five / 2 ^ (5 - c)) (power_fits c (omega (arith, h)))
    ∙ ap (λ x. x * 2 ^ c + five / 2 ^ (5 - c)) so
    ∙ ap (λ x. n / 2 ^ (w - d) * 2 ^ c + x / 2 ^ (5 - c)) is
    ∙ fives_more w d c n h fits

-- The sum fits.
pub fives_fit : (w d c n k five : ℕ) → c ≤ 5 → d + c ≤ w → five ≡ five_bits w d n → k ≡ n / 2 ^ (w - d) → w ≤ 128 → n < 2 ^ w
    → k * (1 * 2 ^ c % 340282366920938463463374607431768211456) + five / 2 ^ (5 - c) < 2 ^ 128
fives_fit w d c n k five h fits is so wide small =
    let room : 2 ^ w ≤ 2 ^ 128 = pow-le-pow_right (omega arith) wide in
    let e = fives_next w d c n k five h fits is so in
    let less = div-le_self n (2 ^ (w - (d + c))) in
    omega (arith, small, room, e, less)

-- All bits of a number.
pub all_bits : (w n : ℕ) → n / 2 ^ (w - w) ≡ n
all_bits w n = ap (λ x. n / 2 ^ x) (let z : w - w ≡ 0 = omega arith in z) ∙ div-one n

-- No bits of a number.
pub no_bits : (w n : ℕ) → n < 2 ^ w → n / 2 ^ (w - 0) ≡ 0
no_bits w n h = ap (λ x. n / 2 ^ x) (let z : w - 0 ≡ w = omega arith in z) ∙ div-eq_of_lt h

-- A number with its next bits put in.
pub words_more : (w d c n k : ℕ) → d + c ≤ w → k ≡ masked w n d → masked w k d + n / 2 ^ (w - (d + c)) % 2 ^ c * 2 ^ (w - (d + c)) ≡ masked w n (d + c)
words_more w d c n k fits e =
    ap (λ x. masked w x d + n / 2 ^ (w - (d + c)) % 2 ^ c * 2 ^ (w - (d + c))) e
    ∙ ap (λ x. x + n / 2 ^ (w - (d + c)) % 2 ^ c * 2 ^ (w - (d + c))) (masked_less w d d n (omega arith) (omega arith))
    ∙ sym (masked_level w d c n fits)

-- The same as code computes it.
pub words_next : (w d c n k : ℕ) → c ≤ 16 → d + c ≤ w → k ≡ masked w n d
    → masked w k d + n / 2 ^ (w - (d + c)) % (1 * 2 ^ c % 340282366920938463463374607431768211456) * 2 ^ (w - (d + c)) ≡ masked w n (d + c)
words_next w d c n k h fits e =
    ap (λ x. masked w k d + n / 2 ^ (w - (d + c)) % x * 2 ^ (w - (d + c))) (power_fits c h) ∙ words_more w d c n k fits e

-- A number with all its bits.
pub masked_all : (w n : ℕ) → masked w n w ≡ n
masked_all w n = ap (λ x. n / 2 ^ x * 2 ^ x) (let z : w - w ≡ 0 = omega arith in z) ∙ let one = div-one n in omega (arith, one)

-- ---- what is written

by_width : (b : Bool) (n m : ℕ) → n < 2 ^ 128 → m < 2 ^ 128 → cond b (number (unsigned n)) (string (hex_text 32 n))
    ≡ cond b (number (unsigned m)) (string (hex_text 32 m)) → n ≡ m
by_width true n m hn hm e = cc
by_width false n m hn hm e = let same : hex_text 32 n ≡ hex_text 32 m = cc in text_one 32 n m hn hm same

-- Numbers that are written as one are one.
pub bits_one : (w n m : ℕ) → n < 2 ^ 128 → m < 2 ^ 128 → bits_data w n ≡ bits_data w m → n ≡ m
bits_one w n m hn hm e = by_width (leb w 64) n m hn hm e

-- A number of this width is one of 128 bits.
pub fits_128 : (w n : ℕ) → w ≤ 128 → n < 2 ^ w → n < 2 ^ 128
fits_128 w n wide small = let room : 2 ^ w ≤ 2 ^ 128 = pow-le-pow_right (omega arith) wide in omega (arith, small, room)
