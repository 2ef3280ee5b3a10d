-- A walk gives the list of what is left, pair by pair.
use Rattle.std.proofs.Common.{◌≡◌, ◌∙◌, Bool, sym, ap, subst, refl, arith, List, [], ◌∷◌, inl, inr}
use Rattle.std.specs.Prelude.{◌⊎◌, ◌↔◌, ℕ, Result, Ok, Err, IfOk}
use Rattle.trie_model.specs.Nets.{Net}
use Rattle.trie_model.specs.Spots.{order_key}
use Rattle.trie_model.specs.Views.{ViewValue, same_net}
use Rattle.trie_model.specs.Walks.{Left, Gives, From, Within, Ascends, IsListOf, ListGoesOn, pairs_from}
use Rattle.trie_model.proofs.Places.{elim-false, not_true}
use Rattle.trie_model.proofs.TrieLaws.{same_net_is, same_back}
use Rattle.trie_model.proofs.WalkLaws.{either}
use Rattle.trie_model.proofs.WalkSteps.{by_covers}
use Rattle.trie_model.proofs.MapLists.{pair_of, list_of_map}
use Rattle.trie_model.specs.Tries.{NodeShape}
use Rattle.trie_model.specs.Maps.{map_of}
use Rattle.trie_model.proofs.TrieMaps.{list_of, of_width}
use Rattle.trie_model.proofs.GatherLaws.{listed_from}

-- Nothing is left, so the list is empty.
pub list_ends : {X : Type 0} (w : ℕ) (at : Net → X → Type 0) (ps : List (Net × X)) → ((n : Net) (x : X) → at n x → ⊥) → IsListOf w at ps → ps ≡ []
unfolding Within
list_ends w at [] none is = refl
list_ends w at (p ∷ ps) none is = absurd (none p.0 p.1 ((is.same p.0 p.1).0 (inl (refl, refl))))

-- The list begins with what is given first.
pub list_begins : {L X : Type 0} (w : ℕ) (tell : L → ViewValue X) (old new : List L) (n : Net) (x : X) (ps : List (Net × X)) → Gives w tell old new n
    x → IsListOf w (Left tell old) ps → (qs : List (Net × X)) × ListGoesOn w (Left tell new) n x ps qs
unfolding Within Ascends
list_begins w tell old new n x [] gives is = absurd ((is.same n x).1 gives.had)
list_begins {L} {X} w tell old new n x (p ∷ ps) gives is = (
  ps,
  record {
    begins = ap (λ z. z ∷ ps) head;
    list = record {
      ascends = is.ascends.1;
      same = λ m y. (
        (λ h. (gives.others m y).1 ((is.same m y).0 (inr h), not_true (same_net n m) (λ t. let lt = is.ascends.0 m y h in let e = ap (order_key w) (same_back n m t) in let g = ap (λ z. order_key w z.0) head in omega (arith, lt, e, g)))),
        (λ h. let was = (gives.others m y).0 h in either (λ z. absurd (elim-false (sym was.1 ∙ same_net_is n m (sym (ap (λ q. q.0) head) ∙ z.0)))) (λ z. z) ((is.same m y).1 was.0)),
      );
    };
  },
)
  where
    first : ((p.0 ≡ n) × (p.1 ≡ x)) ⊎ Within ps n x → p ≡ (n, x)
    first (inl e) = pair_of p (n, x) e.0 e.1
    first (inr h) =
        let lt = is.ascends.0 n x h in
        by_covers (same_net n p.0)
        (λ t. absurd (let e = ap (order_key w) (same_back n p.0 t) in let no : ⊥ = omega (arith, lt, e) in no))
        (λ f. absurd (let less = gives.least p.0 p.1 ((gives.others p.0 p.1).1 ((is.same p.0 p.1).0 (inl (refl, refl)), f)) in let no : ⊥ = omega (arith, lt, less) in no))

    head : p ≡ (n, x)
    head = first ((is.same n x).1 gives.had)

-- ---- in the form of the code

-- What follows from a fact of an Ok value holds of that value.
pub if_ok_map : {T E : Type 0} {P Q : T → Type 0} (r : Result T E) → ((x : T) → P x → Q x) → IfOk r P → IfOk r Q
if_ok_map (Ok x) f h = f x h
if_ok_map (Err e) f h = h

-- What a walk over a whole map has to give is the map's list.
pub listed : {N X : Type 0} (f : NodeShape N X) (w : ℕ) (root : N) (at view : Net → X → Type 0) (ps : List (Net × X)) → list_of f w root ≡ ps
    → ((n : Net) (x : X) → at n x ↔ view n x) → ((n : Net) (x : X) → view n x ↔ Within ps n x) → IsListOf w at ps
listed f w root at view ps e a b = record {
  ascends = subst (Ascends w) e (list_of_map w (map_of f w root) (of_width f w root)).ascends;
  same = λ n x. ((λ h. (a n x).1 ((b n x).1 h)), (λ h. (b n x).0 ((a n x).0 h)));
}

-- The same of a walk from a prefix on.
pub listed_on : {N X : Type 0} (f : NodeShape N X) (w : ℕ) (root : N) (inclusive : Bool) (net : Net) (at view : Net → X → Type 0)
    (ps : List (Net × X)) → list_of f w root ≡ ps → ((n : Net) (x : X) → at n x ↔ (view n x × From w inclusive net n))
    → ((n : Net) (x : X) → view n x ↔ Within ps n x) → IsListOf w at (pairs_from w inclusive net ps)
listed_on f w root inclusive net at view ps e a b =
    listed_from w inclusive net at ps (subst (Ascends w) e (list_of_map w (map_of f w root) (of_width f w root)).ascends) (λ n x. (
      (λ h. let r = (a n x).0 h in ((b n x).0 r.0, r.1)),
      (λ h. (a n x).1 ((b n x).1 h.0, h.1)),
    ))
