-- The lines of records that are made of the numbers below one, a number more.
use Rattle.std.proofs.Common.{◌≡◌, ◌+◌, ℕ, Bool, true, false, cond, zero, suc, List, [], ◌∷◌, ◌++◌, map, sym, ◌∙◌, ap, append_assoc, arith}
use Rattle.std.specs.List.{filter, range_with_len}
use Rattle.std.proofs.lemmas.List.{append-nil, map-append}
use Rattle.std.proofs.lemmas.List.Elements.{filter-append}
use Rattle.std.proofs.lemmas.Grind.{flat_map-append}
use Rattle.session_model.specs.declared.transcript.Record.{Record}
use Rattle.session_model.specs.Transcript.{lines_of, record_line}
use Rattle.transcript_generator.specs.Generated.{numbers}

range-more : (a n : ℕ) → range_with_len a (suc n) ≡ range_with_len a n ++ (a + n) ∷ []
range-more a zero = let same : a ≡ a + 0 = omega arith in ap (λ b. b ∷ []) same
range-more a (suc n) =
    let same : (a + 1) + n ≡ a + suc n = omega arith in
    ap (λ ns. a ∷ ns) (range-more (a + 1) n ∙ ap (λ b. range_with_len (a + 1) n ++ b ∷ []) same)

-- The numbers below the next one.
pub numbers-more : (n : ℕ) → numbers (n + 1) ≡ numbers n ++ n ∷ []
numbers-more n =
    let next : n + 1 ≡ suc n = omega arith in
    let last : 0 + n ≡ n = omega arith in
    ap numbers next ∙ range-more 0 n ∙ ap (λ k. numbers n ++ k ∷ []) last

-- The lines of a record more.
pub lines-more : (rs : List Record) (r : Record) → lines_of (rs ++ r ∷ []) ≡ lines_of rs ++ record_line r
lines-more rs r = flat_map-append record_line rs (r ∷ []) ∙ ap (λ t. lines_of rs ++ t) (append-nil (record_line r))

-- A text with the line of a number more.
pub line_more : (f : ℕ → Record) (text : List ℕ) (n : ℕ)
    → (text ++ lines_of (map f (numbers n))) ++ record_line (f n) ≡ text ++ lines_of (map f (numbers (n + 1)))
line_more f text n =
    append_assoc text (lines_of (map f (numbers n))) (record_line (f n))
    ∙ ap (λ t. text ++ t)
    (sym (lines-more (map f (numbers n)) (f n)) ∙ ap lines_of (sym (map-append f (numbers n) (n ∷ [])))
    ∙ ap (λ ns. lines_of (map f ns)) (sym (numbers-more n)))

filter-more : (p : ℕ → Bool) (n : ℕ) (b : Bool) → p n ≡ b → filter p (numbers (n + 1)) ≡ filter p (numbers n) ++ cond b (n ∷ []) []
filter-more p n b is =
    ap (filter p) (numbers-more n) ∙ filter-append p (numbers n) (n ∷ []) ∙ ap (λ b. filter p (numbers n) ++ cond b (n ∷ []) []) is

-- A text with the line of a number more that passes a test.
pub line_passed : (f : ℕ → Record) (p : ℕ → Bool) (text : List ℕ) (n : ℕ) → p n ≡ true
    → (text ++ lines_of (map f (filter p (numbers n)))) ++ record_line (f n) ≡ text ++ lines_of (map f (filter p (numbers (n + 1))))
line_passed f p text n is =
    append_assoc text (lines_of (map f (filter p (numbers n)))) (record_line (f n))
    ∙ ap (λ t. text ++ t)
    (sym (lines-more (map f (filter p (numbers n))) (f n)) ∙ ap lines_of (sym (map-append f (filter p (numbers n)) (n ∷ [])))
    ∙ ap (λ ns. lines_of (map f ns)) (sym (filter-more p n true is)))

-- A number more that doesn't pass the test adds nothing.
pub line_skipped : (f : ℕ → Record) (p : ℕ → Bool) (text : List ℕ) (n : ℕ) → p n ≡ false
    → text ++ lines_of (map f (filter p (numbers n))) ≡ text ++ lines_of (map f (filter p (numbers (n + 1))))
line_skipped f p text n is =
    ap (λ ns. text ++ lines_of (map f ns)) (sym (append-nil (filter p (numbers n))) ∙ sym (filter-more p n false is))
