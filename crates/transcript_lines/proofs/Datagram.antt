-- One more message of a datagram.
use Rattle.std.proofs.Common.{◌≡◌, ◌+◌, ◌<◌, ◌≤◌, ◌++◌, ◌∷◌, ◌&&◌, ℕ, Bool, true, false, List, length, drop, get_or, map, sym, ◌∙◌, ap, append_assoc, append-nil, refl}
use Rattle.std.specs.List.{list_all}
use Rattle.std.proofs.lemmas.List.{drop_all, drop_more}
use Rattle.session_model.specs.SessionText.{joined}

both : (b c : Bool) → (b && c) ≡ true → (b ≡ true) × (c ≡ true)
both true c h = (refl, h)
both false c h = cc

-- Once the frame of a message was added, those of the messages after it are left to add.
pub one_message : {X : Type 0} (fits : X → Bool) (text : X → List ℕ) (xs : List X) (i : ℕ) (d x : X) (before now whole : List ℕ)
    → i < length xs → get_or xs i d ≡ x → list_all fits (drop i xs) ≡ true → before ++ joined (map text (drop i xs)) ≡ whole
    → (fits x ≡ true → now ≡ before ++ text x)
    → (list_all fits (drop (i + 1) xs) ≡ true) × (now ++ joined (map text (drop (i + 1) xs)) ≡ whole)
one_message fits text xs i d x before now whole h is all so_far step =
    let rest = drop (i + 1) xs in
    let cut : drop i xs ≡ x ∷ rest = drop_more xs i d h ∙ ap (λ y. y ∷ rest) is in
    let two = both (fits x) (list_all fits rest) (sym (ap (list_all fits) cut) ∙ all) in (
      two.1,
      ap (λ t. t ++ joined (map text rest)) (step two.0) ∙ append_assoc before (text x) (joined (map text rest))
          ∙ sym (ap (λ ys. before ++ joined (map text ys)) cut) ∙ so_far,
    )

-- After the last message nothing is left to add.
pub no_more : {X : Type 0} (text : X → List ℕ) (xs : List X) (i : ℕ) (bytes whole : List ℕ) → length xs ≤ i
    → bytes ++ joined (map text (drop i xs)) ≡ whole → bytes ≡ whole
no_more text xs i bytes whole h so_far =
    sym (append-nil bytes) ∙ sym (ap (λ ys. bytes ++ joined (map text ys)) (drop_all i xs h)) ∙ so_far
