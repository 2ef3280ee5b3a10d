-- Where the first line of an input ends, and which record's line it is.
use Rattle.std.proofs.Common.{◌≡◌, ◌≢◌, ◌==◌, ◌≤◌, ℕ, false, List, [], ◌∷◌, ◌++◌, length, refl, sym, ◌∙◌, ap, arith, append_assoc}
use Rattle.std.specs.List.{join_with_byte}
use Rattle.std.proofs.lemmas.Bool.{or_parts}
use Rattle.std.proofs.lemmas.Bool.Decides.{nat_tests}
use Rattle.session_model.specs.declared.transcript.Record.{Record}
use Rattle.session_model.specs.Transcript.{IsSpelled, record_words, record_line, has_newline}
use Rattle.transcript_lines.proofs.Injective.{record_of_line}
use Rattle.transcript_lines.proofs.Lines.{record_newline}

no_newline : (b : ℕ) (bytes : List ℕ) → has_newline (b ∷ bytes) ≡ false → (10 ≢ b) × (has_newline bytes ≡ false)
no_newline b bytes h = let parts = or_parts (b == 10) (has_newline bytes) h in (other b parts.0, parts.1)
  where
    other : (b : ℕ) → (b == 10) ≡ false → 10 ≢ b
    other b h e = grind (arith, nat_tests)

-- A line that ends has a newline.
pub no_end : (line rest : List ℕ) → has_newline (line ++ 10 ∷ rest) ≢ false
no_end [] rest h = (cc)
no_end (b ∷ line) rest h = no_end line rest (no_newline b (line ++ 10 ∷ rest) h).1

-- Lines are cut in one way.
pub one_line : (line other rest left : List ℕ) → has_newline line ≡ false → has_newline other ≡ false → line ++ 10 ∷ rest ≡ other ++ 10 ∷ left
    → (line ≡ other) × (rest ≡ left)
one_line [] [] rest left h k e = (refl, (cc))
one_line [] (b ∷ other) rest left h k e = let same : 10 ≡ b = cc in absurd ((no_newline b other k).0 same)
one_line (b ∷ line) [] rest left h k e = let same : 10 ≡ b = cc in absurd ((no_newline b line h).0 same)
one_line (b ∷ line) (c ∷ other) rest left h k e =
    let first : b ≡ c = cc in
    let tails : line ++ 10 ∷ rest ≡ other ++ 10 ∷ left = cc in
    let later = one_line line other rest left (no_newline b line h).1 (no_newline c other k).1 tails in
    (ap (λ z. z ∷ line) first ∙ ap (λ z. c ∷ z) later.0, later.1)

-- A piece of an input without a newline reaches no further than the first line.
pub within_line : (line rest piece more : List ℕ) → has_newline piece ≡ false → line ++ 10 ∷ rest ≡ piece ++ more → length piece ≤ length line
within_line line rest [] more h e = omega arith
within_line [] rest (b ∷ piece) more h e = let same : 10 ≡ b = cc in absurd ((no_newline b piece h).0 same)
within_line (c ∷ line) rest (b ∷ piece) more h e =
    let tails : line ++ 10 ∷ rest ≡ piece ++ more = cc in
    let le = within_line line rest piece more (no_newline b piece h).1 tails in
    omega (arith, le)

-- A record's line in front of bytes: its words, a newline and the bytes.
pub line_parts : (r : Record) (more : List ℕ) → record_line r ++ more ≡ join_with_byte 32 (record_words r) ++ 10 ∷ more
line_parts r more = append_assoc (join_with_byte 32 (record_words r)) (10 ∷ []) more

-- A line in front of bytes is a record's line where a record's line stands there.
pub same_line : (r : Record) (line rest more : List ℕ) → IsSpelled r → has_newline line ≡ false → line ++ 10 ∷ rest ≡ record_line r ++ more
    → (line ++ 10 ∷ [] ≡ record_line r) × (rest ≡ more)
same_line r line rest more h none e =
    let one = one_line line (join_with_byte 32 (record_words r)) rest more none (record_newline r h) (e ∙ line_parts r more) in
    (ap (λ z. z ++ 10 ∷ []) one.0, one.1)

-- Records that stand first in one input are one.
pub one_front : (r other : Record) (more left : List ℕ) → IsSpelled r → IsSpelled other → record_line r ++ more ≡ record_line other ++ left
    → (r ≡ other) × (more ≡ left)
one_front r other more left h k e =
    let same = same_line other (join_with_byte 32 (record_words r)) more left k (record_newline r h) (sym (line_parts r more) ∙ e) in
    (record_of_line r other h k same.0, same.1)
