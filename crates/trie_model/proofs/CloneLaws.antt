-- A map is built again by putting the pairs of its list one after the other.
use Rattle.std.proofs.Common.{◌≡◌, ℕ, ◌-◌, ◌<◌, ◌∙◌, sym, ap, subst, refl, arith, cond, List, [], ◌∷◌, ◌++◌, length, inl, inr}
use Rattle.std.proofs.Common.{append_assoc, length-append}
use Rattle.trie_model.specs.Nets.{Net, IsNet}
use Rattle.trie_model.specs.Spots.{order_key, ltb}
use Rattle.trie_model.specs.Tries.{NodeShape}
use Rattle.trie_model.specs.Walks.{Within, Ascends, IsListOf, ListGoesOn}
use Rattle.trie_model.specs.Maps.{map_of, put_pair, inserted}
use Rattle.trie_model.proofs.Places.{not_true}
use Rattle.trie_model.proofs.SpotLaws.{ltb-lt}
use Rattle.trie_model.proofs.CountLaws.{nothing_removed}
use Rattle.trie_model.proofs.MapLists.{list_of_map}
use Rattle.trie_model.proofs.MapLaws.{at_map}
use Rattle.trie_model.proofs.TrieMaps.{list_of, of_width}

put_last : {X : Type 0} (w : ℕ) (n : Net) (x : X) (ps : List (Net × X)) → ((k : Net) (y : X) → Within ps k y → order_key w k < order_key w n) → put_pair w n x ps ≡ ps ++ (n, x) ∷ []
unfolding Within put_pair
put_last w n x [] first = refl
put_last w n x (p ∷ ps) first =
    ap (λ t. cond t ((n, x) ∷ (p ∷ ps)) (p ∷ put_pair w n x ps)) (not_true (ltb (order_key w n) (order_key w p.0)) (λ t. let lt = ltb-lt _ _ t in let le = first p.0 p.1 (inl (refl, refl)) in omega (arith, lt, le)))
    ∙ ap (λ zs. p ∷ zs) (put_last w n x ps (λ k y h. first k y (inr h)))

-- Each pair of a front comes before the pair after it.
front_first : {X : Type 0} (w : ℕ) (ps qs : List (Net × X)) (n : Net) (x : X) → Ascends w (ps ++ (n, x) ∷ qs) → (k : Net) (y : X) → Within ps k y → order_key w k < order_key w n
unfolding Within Ascends
front_first w [] qs n x up k y h = absurd h
front_first {X} w (p ∷ ps) qs n x up k y (inl e) = subst (λ z. order_key w z < order_key w n) e.0 (up.0 n x (behind ps))
  where
    behind : (zs : List (Net × X)) → Within (zs ++ (n, x) ∷ qs) n x
    behind [] = inl (refl, refl)
    behind (z ∷ zs) = inr (behind zs)
front_first w (p ∷ ps) qs n x up k y (inr h) = front_first w ps qs n x up.1 k y h

-- Inserting a pair that comes after all pairs of a list puts it at the end.
pub inserted_last : {X : Type 0} (w : ℕ) (ps qs : List (Net × X)) (n : Net) (x : X) → Ascends w (ps ++ (n, x) ∷ qs) → inserted w ps n x ≡ ps ++ (n, x) ∷ []
inserted_last w ps qs n x up =
    let first = front_first w ps qs n x up in
    ap (put_pair w n x) (nothing_removed ps n (λ y h. let lt = first n y h in omega (arith, lt))) ∙ put_last w n x ps first

-- What was copied so far, and what the walk has still to give.
pub record Copied {X : Type 0} (w : ℕ) (at : Net → X → Type 0) (all done : List (Net × X)) : Type 0 where
  pub left : List (Net × X)
  pub is : all ≡ done ++ left
  pub list : IsListOf w at left

-- A copy of the first pairs, with the next pair inserted, is a copy of the first pairs with that one.
pub copied_more : {X : Type 0} (w : ℕ) (at' : Net → X → Type 0) (all done new left rest : List (Net × X)) (n : Net) (x y : X) → Ascends w all → all
    ≡ done ++ left → ListGoesOn w at' n x left rest → y ≡ x → new ≡ inserted w done n y → Copied w at' all new
copied_more w at' all done new left rest n x y up is on same put =
    let whole = is ∙ ap (λ zs. done ++ zs) on.begins in
    let last = put ∙ ap (inserted w done n) same ∙ inserted_last w done rest n x (subst (Ascends w) whole up) in
    record {
      left = rest;
      is = whole ∙ sym (append_assoc done ((n, x) ∷ []) rest) ∙ ap (λ zs. zs ++ rest) (sym last);
      list = on.list;
    }

-- With one pair more copied, fewer are left to copy.
pub more_copied : {X : Type 0} (w : ℕ) (at' : Net → X → Type 0) (all done new left rest : List (Net × X)) (n : Net) (x y : X) → Ascends w all → all
    ≡ done ++ left → ListGoesOn w at' n x left rest → y ≡ x → new ≡ inserted w done n y → length all - length new < length all - length done
more_copied w at' all done new left rest n x y up is on same put =
    let whole = is ∙ ap (λ zs. done ++ zs) on.begins in
    let last = put ∙ ap (inserted w done n) same ∙ inserted_last w done rest n x (subst (Ascends w) whole up) in
    let a = ap length whole ∙ length-append done ((n, x) ∷ rest) in
    let b = ap length last ∙ length-append done ((n, x) ∷ []) in
    omega (arith, a, b)

-- Each prefix of a map's list is one of its width.
pub list_net : {N X : Type 0} (f : NodeShape N X) (w : ℕ) (root : N) (all done left rest : List (Net × X)) (at' : Net → X → Type 0) (n : Net) (x : X) → list_of f w root ≡ all → all ≡ done ++ left → ListGoesOn w at' n x left rest → IsNet w n
unfolding Within
list_net {N} {X} f w root all done left rest at' n x e is on =
    (at_map f w root n x (((list_of_map w (map_of f w root) (of_width f w root)).same n x).0 (subst (λ zs. Within zs n x) (sym (e ∙ is ∙ ap (λ zs. done ++ zs) on.begins)) (behind done)))).0
  where
    behind : (zs : List (Net × X)) → Within (zs ++ (n, x) ∷ rest) n x
    behind [] = inl (refl, refl)
    behind (z ∷ zs) = inr (behind zs)
