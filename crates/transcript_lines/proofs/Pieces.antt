-- What holds after each piece of a word, as a loop goes over it.
use Rattle.std.proofs.Common.{◌≡◌, ◌+◌, ◌<◌, ◌≤◌, ℕ, List, [], ◌∷◌, ◌++◌, length, take, drop, get_or, sym, ◌∙◌, ap, subst, append_assoc, append-nil, take_all, take-append-drop}
use Rattle.std.proofs.lemmas.List.{take_more}

-- Before a piece, what was fed is what was fed.
pub begins : (P : List ℕ → Type 0) (fed piece : List ℕ) → P fed → P (fed ++ take 0 piece)
begins P fed piece h = subst P (sym (append-nil fed)) h

-- One more byte of a piece.
pub goes_on : (P : List ℕ → Type 0) (fed piece : List ℕ) (i : ℕ) → i < length piece → P ((fed ++ take i piece) ++ get_or piece i 0 ∷ [])
    → P (fed ++ take (i + 1) piece)
goes_on P fed piece i low h = subst P (append_assoc fed (take i piece) (get_or piece i 0 ∷ []) ∙ ap (λ z. fed ++ z) (sym (take_more piece i 0 low))) h

-- At the end of a piece all of it was fed.
pub ends : (P : List ℕ → Type 0) (fed piece : List ℕ) (i : ℕ) → length piece ≤ i → P (fed ++ take i piece) → P (fed ++ piece)
ends P fed piece i high h = subst P (ap (λ z. fed ++ z) (take_all i piece high)) h

-- Three parts of a piece are the piece.
pub three_parts : (fed piece second others pairs first : List ℕ) (k m : ℕ) → second ≡ take k piece → others ≡ drop k piece → pairs ≡ take m others
    → first ≡ drop m others → ((fed ++ second) ++ pairs) ++ first ≡ fed ++ piece
three_parts fed piece second others pairs first k m a b c d =
    append_assoc (fed ++ second) pairs first
    ∙ ap (λ z. (fed ++ second) ++ z) (ap (λ z. z ++ first) c ∙ ap (λ z. take m others ++ z) d ∙ take-append-drop m others)
    ∙ append_assoc fed second others
    ∙ ap (λ z. fed ++ z) (ap (λ z. z ++ others) a ∙ ap (λ z. take k piece ++ z) b ∙ take-append-drop k piece)
