-- What was written of a list so far.
use Rattle.std.proofs.Common.{◌≡◌, ℕ, ◌∙◌, sym, ap, subst, refl, List, [], ◌∷◌, ◌++◌, map, inl, inr}
use Rattle.std.proofs.Common.{append_assoc, append-nil}
use Rattle.std.proofs.lemmas.List.{map-append}
use Rattle.serde_json.specs.Data.{Data}
use Rattle.trie_model.specs.Nets.{Net}
use Rattle.trie_model.specs.Walks.{IsListOf, ListGoesOn, Within}

-- The first pairs of a list were written, and the others are still to come.
pub record WrittenSoFar {X : Type 0} (w : ℕ) (form : Net × X → Data) (to_come : Net → X → Type 0) (all : List (Net × X)) (ds : List Data) : Type 0 where
  pub done : List (Net × X)
  pub left : List (Net × X)
  pub whole : all ≡ done ++ left
  pub list : IsListOf w to_come left
  pub written : ds ≡ map form done

-- At the start all are still to come.
pub none_written : {X : Type 0} (w : ℕ) (form : Net × X → Data) (to_come : Net → X → Type 0) (all : List (Net × X)) (ds : List Data)
    → IsListOf w to_come all → ds ≡ [] → WrittenSoFar w form to_come all ds
none_written w form to_come all ds list e = record { done = []; left = all; whole = refl; list = list; written = e }

-- The next pair was written.
pub more_written : {X : Type 0} (w : ℕ) (form : Net × X → Data) (old new : Net → X → Type 0) (all qs : List (Net × X)) (ds es : List Data)
    (d : Data) (n : Net) (x : X)
    → (so : WrittenSoFar w form old all ds) → ListGoesOn w new n x so.left qs → es ≡ ds ++ d ∷ [] → d ≡ form (n, x) → WrittenSoFar w form new all es
more_written w form old new all qs ds es d n x so on e is = record {
  done = so.done ++ (n, x) ∷ [];
  left = qs;
  whole = so.whole ∙ ap (λ zs. so.done ++ zs) on.begins ∙ sym (append_assoc so.done ((n, x) ∷ []) qs);
  list = on.list;
  written = e ∙ ap (λ zs. zs ++ d ∷ []) so.written ∙ ap (λ z. map form so.done ++ z ∷ []) is ∙ sym (map-append form so.done ((n, x) ∷ []));
}

-- The next pair is one of the list.
pub next_within : {X : Type 0} (w : ℕ) (form : Net × X → Data) (old new : Net → X → Type 0) (all qs : List (Net × X)) (ds : List Data) (n : Net) (x : X)
    → (so : WrittenSoFar w form old all ds) → ListGoesOn w new n x so.left qs → Within all n x
unfolding Within
next_within {X} w form old new all qs ds n x so on = subst (λ zs. Within zs n x) (sym (so.whole ∙ ap (λ zs. so.done ++ zs) on.begins)) (behind so.done)
  where
    behind : (zs : List (Net × X)) → Within (zs ++ (n, x) ∷ qs) n x
    behind [] = inl (refl, refl)
    behind (z ∷ zs) = inr (behind zs)

-- At the end all were written.
pub all_written : {X : Type 0} (w : ℕ) (form : Net × X → Data) (to_come : Net → X → Type 0) (all : List (Net × X)) (ds : List Data)
    → (so : WrittenSoFar w form to_come all ds) → so.left ≡ [] → ds ≡ map form all
all_written w form to_come all ds so e = so.written ∙ ap (map form) (sym (so.whole ∙ ap (λ zs. so.done ++ zs) e ∙ append-nil so.done))
