-- How a line comes apart into its words.
use Rattle.std.proofs.Common.{◌≡◌, ◌==◌, ◌<◌, ◌+◌, ℕ, false, List, [], ◌∷◌, ◌++◌, length, take, drop, get_or, refl, sym, ◌∙◌, ap, All, take-append-drop}
use Rattle.std.specs.List.{AllByRecursion, join_with_byte}
use Rattle.std.proofs.lemmas.List.{drop_more}
use Rattle.std.proofs.lemmas.List.Splits.{slice_split_none, slice_split_at, join_with_byte-slice_split}
use Rattle.std.proofs.lemmas.List.Elements.{All-from_recursion}
use Rattle.transcript_lines.specs.Words.{words_of}

-- No space.
abbrev pub IsWord : List ℕ → Type 0
IsWord word = AllByRecursion (λ b. (b == 32) ≡ false) word

-- Words that are joined by spaces come apart into these words.
pub words_joined : (word : List ℕ) (words : List (List ℕ)) → AllByRecursion IsWord (word ∷ words)
    → words_of (join_with_byte 32 (word ∷ words)) ≡ word ∷ words
words_joined word [] h = slice_split_none (λ b. b == 32) word (All-from_recursion (λ b. (b == 32) ≡ false) word h.0)
words_joined word (next ∷ words) h =
    slice_split_at (λ b. b == 32) word 32 (join_with_byte 32 (next ∷ words)) (All-from_recursion (λ b. (b == 32) ≡ false) word h.0) refl
    ∙ ap (λ z. word ∷ z) (words_joined next words h.1)

-- The words of a line, joined by spaces, are the line.
pub joined_words : (line : List ℕ) → join_with_byte 32 (words_of line) ≡ line
joined_words line = join_with_byte-slice_split 32 line

-- A space that was read ends the first word.
pub first_word : (line : List ℕ) (i d : ℕ) → i < length line → get_or line i d ≡ 32 → All (λ x. (x == 32) ≡ false) (take i line)
    → words_of line ≡ take i line ∷ words_of (drop (i + 1) line)
first_word line i d low blank before =
    let parts : line ≡ take i line ++ 32 ∷ drop (i + 1) line =
    sym (take-append-drop i line) ∙ ap (λ z. take i line ++ z) (drop_more line i d low ∙ ap (λ z. z ∷ drop (i + 1) line) blank) in
    ap words_of parts ∙ slice_split_at (λ x. x == 32) (take i line) 32 (drop (i + 1) line) before refl
