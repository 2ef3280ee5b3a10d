-- A number after a name, and what parsing the digits there gives.
use Rattle.std.proofs.Common.{◌≡◌, ◌≢◌, ◌<◌, ◌≤◌, ◌^◌, ℕ, zero, suc, true, false, nat_lt, List, ◌++◌, length, get_or, Result, Ok, Err, sym, subst, ◌∙◌, ap, arith}
use Rattle.std.specs.Fmt.{decimal}
use Rattle.std.specs.Result.{result_ok}
use Rattle.std.specs.Str.Parse.{AllDigits, digits_value, ParsesUnsigned}
use Rattle.std.proofs.lemmas.Fmt.{decimal_nonempty, decimal_digit, first_decimal, decimal_is_IsNumeral, decimal-digits_value, parse-decimal}
use Rattle.std.proofs.lemmas.Str.Parse.{IsNumeralModel, numerals_by_value, tells_digits, parse_plain, digit_at}
use Rattle.std.proofs.lemmas.Bool.{lt-ltb}
use Rattle.std.proofs.lemmas.Grind.{get_or_default_zero}
use Rattle.std.proofs.lemmas.List.{append_cancel_left}
use Rattle.mirror.specs.Options.{MayBeNumber, IsNumberAfter}

own : IsNumeralModel (AllDigits 10) (digits_value 10)
own = numerals_by_value (AllDigits 10) tells_digits

may_be : (n : ℕ) → n < 2 ^ 64 → MayBeNumber (decimal n)
may_be n h =
    let some = decimal_nonempty n h in
    let numeral = decimal_is_IsNumeral n h in
    record { some = some; begins = digit_at (decimal n) 0 numeral.0.1 some; leading = alone n h }
  where
    alone : (n : ℕ) → n < 2 ^ 64 → get_or (decimal n) 0 0 ≡ 48 → length (decimal n) ≡ 1
    alone zero h e = ap length (decimal_digit 0 (omega arith))
    alone (suc n) h e = absurd (let f = first_decimal (suc n) (omega arith) h in omega (arith, e, f))

after_same : (name digits word more : List ℕ) → word ≡ name ++ digits → word ≡ name ++ more → digits ≡ more
after_same name digits word more is e = append_cancel_left name digits more (sym is ∙ e)

-- No number is after a name where the text there is not like one.
pub not_after : (name digits word : List ℕ) → word ≡ name ++ digits → (MayBeNumber digits → ⊥) → (n : ℕ) → n < 2 ^ 64 → word ≢ name ++ decimal n
not_after name digits word is bad n h e = bad (subst MayBeNumber (sym (after_same name digits word (decimal n) is e)) (may_be n h))

-- The first digit.
pub first_of : (digits bytes : List ℕ) (first : ℕ) → bytes ≡ digits → 0 < length digits → first ≡ get_or bytes 0 first → first ≡ get_or digits 0 0
first_of digits bytes first is some at = at
    ∙ get_or_default_zero bytes 0 first (let n = ap length is in omega (arith, n, some))
    ∙ ap (λ (b : List ℕ). get_or b 0 0) is

-- Bytes that are not found to be some are none.
pub nothing_there : (bytes : List ℕ) → false ≡ nat_lt 0 (length bytes) → 0 < length bytes → ⊥
nothing_there bytes none some = let there = lt-ltb 0 (length bytes) some in let clash : false ≡ true = none ∙ there in cc

-- What parsing gives is the number after the name.
pub number_after : {E : Type 0} (k : ℕ) (name digits word : List ℕ) (r : Result ℕ E) → k ≤ 64 → 2 ^ k ≤ 2 ^ 64
    → word ≡ name ++ digits → MayBeNumber digits → ParsesUnsigned k 10 digits r
    → IsNumberAfter (2 ^ k) name word (result_ok r)
number_after {E} k name digits word (Ok v) small low is may parsed =
    let plain = parse_plain own {E = E} k digits (Ok v) parsed (let b = may.begins in omega (arith, b.0)) in
    let most : digits_value 10 digits < 2 ^ 64 = let x = plain.0.2 in omega (arith, x, low) in
    let back = decimal-digits_value own digits plain.0.0 may.some may.leading most in
    (subst (λ (n : ℕ). n < 2 ^ k) (sym plain.1) plain.0.2, is ∙ ap (λ ds. name ++ ds) (sym back) ∙ ap (λ n. name ++ decimal n) (sym plain.1))
number_after {E} k name digits word (Err e) small low is may parsed = λ n h same.
    let here = after_same name digits word (decimal n) is same in
    let gives = parse-decimal {E = E} k n digits (Err e) h (omega (arith, h, low)) here parsed in cc
