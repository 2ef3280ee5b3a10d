-- A piece of bytes and what comes after it.
use Rattle.std.proofs.Common.{◌≡◌, ◌+◌, ℕ, List, ◌++◌, take, drop, sym, ◌∙◌, ap, arith}
use Rattle.std.proofs.lemmas.List.{take-append-drop}
use Rattle.std.proofs.lemmas.Grind.{common_steps}

drop-drop : (a n : ℕ) (bs : List ℕ) → drop n (drop a bs) ≡ drop (a + n) bs
drop-drop a n bs = grind (arith, common_steps)

-- The bytes from a place on are the piece that was taken there, and then those after it.
pub piece_taken : (a n : ℕ) (bs front : List ℕ) → front ≡ take n (drop a bs) → drop a bs ≡ front ++ drop (a + n) bs
piece_taken a n bs front e =
    sym (take-append-drop n (drop a bs)) ∙ ap (λ xs. take n (drop a bs) ++ xs) (drop-drop a n bs)
    ∙ ap (λ xs. xs ++ drop (a + n) bs) (sym e)
