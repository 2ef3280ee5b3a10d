-- Words after spaces.
use Rattle.std.proofs.Common.{◌≡◌, ℕ, List, [], ◌∷◌, ◌++◌, map, flat_map, refl, sym, ◌∙◌, ap, append_assoc}
use Rattle.std.specs.List.{join_with_byte}
use Rattle.session_model.specs.Lines.{line}
use Rattle.session_model.proofs.Places.{append-nil}

joined : (w : List ℕ) (ws : List (List ℕ)) → join_with_byte 32 (w ∷ ws) ≡ w ++ flat_map (λ v. 32 ∷ v) ws
joined w [] = sym (append-nil w)
joined w (v ∷ ws) = ap (λ t. w ++ (32 ∷ t)) (joined v ws)

flat_map-map : {X : Type 0} (f : X → List ℕ) (xs : List X) → flat_map (λ v. 32 ∷ v) (map f xs) ≡ flat_map (λ x. 32 ∷ f x) xs
flat_map-map f [] = refl
flat_map-map f (x ∷ xs) = ap (λ t. (32 ∷ f x) ++ t) (flat_map-map f xs)

-- A text with words more, by the first and those after spaces.
pub words_joined : {X : Type 0} (f : X → List ℕ) (text w : List ℕ) (xs : List X)
    → text ++ join_with_byte 32 (w ∷ map f xs) ≡ (text ++ w) ++ flat_map (λ x. 32 ∷ f x) xs
words_joined f text w xs =
    ap (λ t. text ++ t) (joined w (map f xs) ∙ ap (λ t. w ++ t) (flat_map-map f xs)) ∙ sym (append_assoc text w (flat_map (λ x. 32 ∷ f x) xs))

one_more : (w v : List ℕ) (ws : List (List ℕ)) → join_with_byte 32 (w ∷ (ws ++ v ∷ [])) ≡ join_with_byte 32 (w ∷ ws) ++ 32 ∷ v
one_more w v [] = refl
one_more w v (u ∷ ws) = ap (λ t. w ++ 32 ∷ t) (one_more u v ws) ∙ sym (append_assoc w (32 ∷ join_with_byte 32 (u ∷ ws)) (32 ∷ v))

-- A text with a line more, by its last word and those before it.
pub line_by_last : (text w v : List ℕ) (ws : List (List ℕ))
    → (((text ++ join_with_byte 32 (w ∷ ws)) ++ 32 ∷ []) ++ v) ++ 10 ∷ [] ≡ text ++ line (w ∷ (ws ++ v ∷ []))
line_by_last text w v ws =
    let words = join_with_byte 32 (w ∷ ws) in
    ap (λ t. t ++ 10 ∷ []) (append_assoc (text ++ words) (32 ∷ []) v ∙ append_assoc text words (32 ∷ v))
    ∙ append_assoc text (words ++ 32 ∷ v) (10 ∷ []) ∙ ap (λ t. text ++ (t ++ 10 ∷ [])) (sym (one_more w v ws))
