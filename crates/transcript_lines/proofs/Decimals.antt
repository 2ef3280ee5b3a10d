-- How a number's spelling goes on.
use Rattle.std.proofs.Common.{◌≡◌, ◌≢◌, ◌+◌, ◌-◌, ◌*◌, ◌/◌, ◌%◌, ◌<◌, ◌≤◌, ◌^◌, ℕ, zero, suc, List, [], ◌∷◌, ◌++◌, length, get_or, refl, sym, ◌∙◌, ap, subst, arith, append_assoc, append-nil}
use Rattle.std.specs.Fmt.{decimal}
use Rattle.std.specs.Str.Parse.{AllDigits}
use Rattle.std.specs.Int.{IsInRange}
use Rattle.std.proofs.lemmas.Fmt.{digits_decimal, digits_value-decimal, decimal_step, decimal_digit, decimal_nonempty, first_decimal}
use Rattle.std.proofs.lemmas.Str.Parse.{digit_from_value, IsNumeralModel, FoldsDigits, numerals_by_fold, tells_digits}
use Rattle.transcript_lines.specs.Number.{BeginsNoNumber}

-- The number of digits after a number.
abbrev pub number_after : ℕ → List ℕ → ℕ
number_after n [] = n
number_after n (b ∷ bs) = number_after (n * 10 + (b - 48)) bs

grows : (n : ℕ) (bs : List ℕ) → n ≤ number_after n bs
grows n [] = omega arith
grows n (b ∷ bs) = let h = grows (n * 10 + (b - 48)) bs in omega (arith, h)

folds : FoldsDigits number_after
folds = record { empty = λ n. refl; more = λ n c cs k. refl }

own : IsNumeralModel (AllDigits 10) (number_after 0)
own = numerals_by_fold (AllDigits 10) tells_digits number_after folds

-- A decimal is of digits.
pub decimal_digits : (n : ℕ) → n < 2 ^ 32 → AllDigits 10 (decimal n)
decimal_digits n h = digits_decimal own n (omega (arith, h))

digit_inside : (w : List ℕ) (b : ℕ) (more : List ℕ) → AllDigits 10 ((w ++ b ∷ []) ++ more) → IsInRange 48 57 b
digit_inside [] b more h = digit_from_value b h.0
digit_inside (x ∷ w) b more h = digit_inside w b more h.1

-- A byte that is no digit stands in no number.
pub no_digit : (w : List ℕ) (b : ℕ) → (IsInRange 48 57 b → ⊥) → BeginsNoNumber (w ++ b ∷ [])
no_digit w b not more n h e = not (digit_inside w b more (subst (AllDigits 10) (sym e) (decimal_digits n h)))

after_more : (k : ℕ) (a b : List ℕ) → number_after k (a ++ b) ≡ number_after (number_after k a) b
after_more k [] b = refl
after_more k (x ∷ a) b = after_more (k * 10 + (x - 48)) a b

-- A decimal below 2 ^ 32 is that of its number.
pub value_of : (v : ℕ) → v < 2 ^ 32 → number_after 0 (decimal v) ≡ v
value_of v h = digits_value-decimal own v (omega (arith, h))

-- A digit too many makes a number too large.
pub too_large : (w : List ℕ) (v b : ℕ) → v < 2 ^ 32 → w ≡ decimal v → 2 ^ 32 ≤ v * 10 + (b - 48) → BeginsNoNumber (w ++ b ∷ [])
too_large w v b h is large more n k e =
    let whole : number_after 0 ((w ++ b ∷ []) ++ more) ≡ n = ap (number_after 0) e ∙ value_of n k in
    let first : number_after 0 (w ++ b ∷ []) ≡ v * 10 + (b - 48) =
    after_more 0 w (b ∷ []) ∙ ap (λ m. m * 10 + (b - 48)) (ap (number_after 0) is ∙ value_of v h) in
    let all : number_after (v * 10 + (b - 48)) more ≡ n = ap (λ m. number_after m more) (sym first) ∙ sym (after_more 0 (w ++ b ∷ []) more) ∙ whole in
    let up = grows (v * 10 + (b - 48)) more in
    omega (arith, up, all, large, k)

-- Nothing follows a leading zero.
pub leading : (w : List ℕ) (b : ℕ) → w ≡ decimal 0 → BeginsNoNumber (w ++ b ∷ [])
leading w b is more n h e =
    let zero_is : decimal 0 ≡ 48 ∷ [] = decimal_digit 0 (omega arith) in
    let whole : 48 ∷ b ∷ more ≡ decimal n = ap (λ d. (d ++ b ∷ []) ++ more) (sym zero_is ∙ sym is) ∙ e in
    by n h whole
  where
    by : (n : ℕ) → n < 2 ^ 32 → 48 ∷ b ∷ more ≡ decimal n → ⊥
    by zero h e = let one : 48 ∷ b ∷ more ≡ 48 ∷ [] = e ∙ decimal_digit 0 (omega arith) in cc
    by (suc n) h e =
        let f = first_decimal (suc n) (omega arith) (omega (arith, h)) in
        let g : get_or (decimal (suc n)) 0 0 ≡ 48 = ap (λ d. get_or d 0 0) (sym e) in
        omega (arith, f, g)

-- One digit is a number.
pub one_digit : (w : List ℕ) (b d : ℕ) → w ≡ [] → IsInRange 48 57 b → d ≡ b - 48 → w ++ b ∷ [] ≡ decimal d
one_digit w b d is h k =
    let low : d < 10 = omega (arith, k, h.0, h.1) in
    let same : b ≡ 48 + d = omega (arith, k, h.0, h.1) in
    ap (λ z. z ++ b ∷ []) is ∙ ap (λ z. z ∷ []) same ∙ sym (decimal_digit d low)

-- A digit after a number is ten times the number and the digit.
pub more_digits : (w : List ℕ) (v b n : ℕ) → 0 < v → v < 2 ^ 32 → w ≡ decimal v → IsInRange 48 57 b → n ≡ v * 10 + (b - 48) → n < 2 ^ 32
    → w ++ b ∷ [] ≡ decimal n
more_digits w v b n some h is digit now low =
    let step = decimal_step n (omega (arith, some, now)) (omega (arith, low)) in
    let front : n / 10 ≡ v = omega (arith, now, digit.0, digit.1) in
    let back : 48 + n % 10 ≡ b = omega (arith, now, digit.0, digit.1) in
    ap (λ z. z ++ b ∷ []) (is ∙ ap decimal (sym front)) ∙ ap (λ z. decimal (n / 10) ++ z ∷ []) (sym back) ∙ sym step

-- What begins no number begins none with more bytes.
pub stays : (w : List ℕ) (b : ℕ) → BeginsNoNumber w → BeginsNoNumber (w ++ b ∷ [])
stays w b bad more n h e = bad (b ∷ more) n h (sym (append_assoc w (b ∷ []) more) ∙ e)

-- No number is spelled by no digits.
pub empty : (w : List ℕ) → w ≡ [] → (n : ℕ) → n < 2 ^ 32 → w ≢ decimal n
empty w is n h e =
    let some = decimal_nonempty n (omega (arith, h)) in
    let none : length (decimal n) ≡ 0 = ap length (sym e ∙ is) in
    omega (arith, some, none)

-- What begins no number is none.
pub none : (w : List ℕ) → BeginsNoNumber w → (n : ℕ) → n < 2 ^ 32 → w ≢ decimal n
none w bad n h e = bad [] n h (append-nil w ∙ e)
