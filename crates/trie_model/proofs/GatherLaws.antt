-- A walk gathers its pairs in order, and the list that it gathers is that of all that it had to give.
use Rattle.std.proofs.Common.{◌≡◌, ℕ, ◌+◌, ◌<◌, ◌∙◌, sym, ap, subst, refl, arith, cond, Bool, true, false, List, [], ◌∷◌, ◌++◌, map, inl, inr}
use Rattle.std.specs.Prelude.{◌⊎◌, ◌↔◌}
use Rattle.std.proofs.lemmas.List.{map-append}
use Rattle.trie_model.specs.Nets.{Net}
use Rattle.trie_model.specs.Spots.{order_key, ltb}
use Rattle.trie_model.specs.Views.{ViewValue, same_net}
use Rattle.trie_model.specs.Walks.{Left, Sorted, EachOk, WalkOk, Gives, From, Within, Ascends, IsListOf, pairs_from}
use Rattle.trie_model.proofs.SpotLaws.{lt-ltb, ltb-lt}
use Rattle.trie_model.proofs.Places.{elim-false}
use Rattle.trie_model.proofs.TrieLaws.{same_back}
use Rattle.trie_model.proofs.WalkLaws.{either}
use Rattle.trie_model.proofs.WalkSteps.{by_covers}

-- ---- the lists

in_front : {X : Type 0} (ps qs : List (Net × X)) (n : Net) (x : X) → Within ps n x → Within (ps ++ qs) n x
unfolding Within
in_front [] qs n x h = absurd h
in_front (p ∷ ps) qs n x (inl e) = inl e
in_front (p ∷ ps) qs n x (inr h) = inr (in_front ps qs n x h)

in_last : {X : Type 0} (ps : List (Net × X)) (n : Net) (x : X) → Within (ps ++ (n, x) ∷ []) n x
unfolding Within
in_last [] n x = inl (refl, refl)
in_last (p ∷ ps) n x = inr (in_last ps n x)

front_or_last : {X : Type 0} (ps : List (Net × X)) (n m : Net) (x y : X) → Within (ps ++ (n, x) ∷ []) m y → Within ps m y ⊎ ((n ≡ m) × (x ≡ y))
unfolding Within
front_or_last [] n m x y (inl e) = inr e
front_or_last [] n m x y (inr h) = absurd h
front_or_last (p ∷ ps) n m x y (inl e) = inl (inl e)
front_or_last (p ∷ ps) n m x y (inr h) = either (λ a. inl (inr a)) (λ e. inr e) (front_or_last ps n m x y h)

ascends_last : {X : Type 0} (w : ℕ) (ps : List (Net × X)) (n : Net) (x : X) → Ascends w ps → ((k : Net) (y : X) → Within ps k y → order_key w k < order_key w n) → Ascends w (ps ++ (n, x) ∷ [])
unfolding Within Ascends
ascends_last w [] n x up less = ((λ m y h. absurd h), tt)
ascends_last w (p ∷ ps) n x up less = (
  λ m y h. either (λ a. up.0 m y a) (λ e. subst (λ z. order_key w p.0 < order_key w z) e.0 (less p.0 p.1 (inl (refl, refl)))) (front_or_last ps n m x y h),
  ascends_last w ps n x up.1 (λ k y h. less k y (inr h)),
)

-- ---- what is left

-- A prefix has one item in what is left.
one_left : {L X : Type 0} (good : L → Type 0) (tell : L → ViewValue X) (spot : L → ℕ) (w : ℕ) (ls : List L) (n : Net) (x y : X) → EachOk good tell spot w ls → Sorted w tell ls → Left tell ls n x → Left tell ls n y → x ≡ y
unfolding Left Sorted EachOk
one_left good tell spot w [] n x y each sorted h k = absurd h
one_left good tell spot w (l ∷ ls) n x y each sorted (inl h) (inl k) = each.0.view.one n x y h k
one_left good tell spot w (l ∷ ls) n x y each sorted (inl h) (inr k) = absurd (let lt = sorted.0 n n y x k h in let no : ⊥ = omega (arith, lt) in no)
one_left good tell spot w (l ∷ ls) n x y each sorted (inr h) (inl k) = absurd (let lt = sorted.0 n n x y h k in let no : ⊥ = omega (arith, lt) in no)
one_left good tell spot w (l ∷ ls) n x y each sorted (inr h) (inr k) = one_left good tell spot w ls n x y each.1 sorted.1 h k

-- ---- what a walk gathered so far, of all that it had to give, and what it has still to give
-- The pairs that were given and those that are still to come make up the whole, and the former come first.
pub record Gathered {X : Type 0} (w : ℕ) (all now : Net → X → Type 0) (done : List (Net × X)) : Type 0 where
  pub ascends : Ascends w done
  pub split : (n : Net) (x : X) → all n x ↔ (Within done n x ⊎ now n x)
  pub first : (n m : Net) (x y : X) → Within done n x → now m y → order_key w n < order_key w m

-- At the start of a walk nothing was given and all is to come.
pub gathered_none : {X : Type 0} (w : ℕ) (all now : Net → X → Type 0) → ((n : Net) (x : X) → now n x ↔ all n x) → Gathered w all now []
unfolding Within Ascends
gathered_none w all now is = record {
  ascends = tt;
  split = λ n x. ((λ h. inr ((is n x).1 h)), (λ h. either (λ no. absurd no) (λ k. (is n x).0 k) h));
  first = λ n m x y h. absurd h;
}

-- With the next pair of a walk given, the given pairs are one more.
pub gathered_more : {L X : Type 0} (good : L → Type 0) (tell : L → ViewValue X) (spot : L → ℕ) (w : ℕ) (all : Net → X → Type 0) (old new : List L)
    (done : List (Net × X)) (n : Net) (x : X) → WalkOk good tell spot w old → Gathered w all (Left tell old) done → Gives w tell old new n x
    → Gathered w all (Left tell new) (done ++ (n, x) ∷ [])
gathered_more {L} {X} good tell spot w all old new done n x ok so gives = record {
  ascends = ascends_last w done n x so.ascends (λ k y h. so.first k n y x h gives.had);
  split = λ m y. ((λ h. either (λ a. inl (in_front done _ m y a)) (λ k. next m y k) ((so.split m y).0 h)), (λ h. either (λ a. back m y a) (λ k. (so.split m y).1 (inr ((gives.others m y).0 k).0)) h));
  first = λ k m z y h l. either (λ a. so.first k m z y a ((gives.others m y).0 l).0) (λ e. subst (λ q. order_key w q < order_key w m) e.0 (gives.least m y l)) (front_or_last done n k x z h);
}
  where
    next : (m : Net) (y : X) → Left tell old m y → Within (done ++ (n, x) ∷ []) m y ⊎ Left tell new m y
    next m y k = by_covers (same_net n m)
        (λ t.
        let e = same_back n m t in
        let same : x ≡ y = one_left good tell spot w old m x y ok.each ok.sorted (subst (λ q. Left tell old q x) e gives.had) k in
        inl (subst (λ q. Within (done ++ (n, x) ∷ []) q y) e (subst (λ z. Within (done ++ (n, x) ∷ []) n z) same (in_last done n x))))
        (λ f. inr ((gives.others m y).1 (k, f)))

    back : (m : Net) (y : X) → Within (done ++ (n, x) ∷ []) m y → all m y
    back m y h = either (λ a. (so.split m y).1 (inl a)) (λ e. (so.split m y).1 (inr (subst (λ q. Left tell old q y) e.0 (subst (λ z. Left tell old n z) e.1 gives.had)))) (front_or_last done n m x y h)

-- Where nothing is to come any more, the pairs that were given are the list of all.
pub gathered_all : {X : Type 0} (w : ℕ) (all now : Net → X → Type 0) (done : List (Net × X)) → Gathered w all now done → ((n : Net) (x : X) → now n x → ⊥) → IsListOf w all done
gathered_all w all now done so none = record {
  ascends = so.ascends;
  same = λ n x. ((λ h. (so.split n x).1 (inl h)), (λ h. either (λ a. a) (λ k. absurd (none n x k)) ((so.split n x).0 h)));
}

-- The same of what the pairs of a list stand for.
pub gathered_push : {A L X : Type 0} (good : L → Type 0) (tell : L → ViewValue X) (spot : L → ℕ) (w : ℕ) (all : Net → X → Type 0)
    (stands : A → Net × X) (old new : List L) (done more : List A) (p : A) → WalkOk good tell spot w old → Gathered w all (Left tell old)
    (map stands done) → Gives w tell old new (stands p).0 (stands p).1 → more ≡ done ++ p ∷ [] → Gathered w all (Left tell new) (map stands more)
gathered_push good tell spot w all stands old new done more p ok so gives e =
    subst (Gathered w all (Left tell new)) (sym (ap (map stands) e ∙ map-append stands done (p ∷ []))) (gathered_more good tell spot w all old new (map stands done) (stands p).0 (stands p).1 ok so gives)

-- ---- the list from a prefix on

from_by : {X : Type 0} (w : ℕ) (inclusive : Bool) (net : Net) (p : Net × X) (ps qs : List (Net × X)) (n : Net) (x : X) (b : Bool) → ltb
    (order_key w net) (order_key w p.0 + cond inclusive 1 0) ≡ b → Within qs n x ↔ (Within ps n x × From w inclusive net n) → Within
    (cond b (p ∷ qs) qs) n x ↔ (Within (p ∷ ps) n x × From w inclusive net n)
unfolding Within
from_by w inclusive net p ps qs n x true t rest = (
  λ h. either (λ e. (inl e, subst (λ q. From w inclusive net q) e.0 (ltb-lt _ _ t))) (λ k. let r = rest.0 k in (inr r.0, r.1)) h,
  λ h. either (λ e. inl e) (λ k. inr (rest.1 (k, h.1))) h.0,
)
from_by w inclusive net p ps qs n x false f rest = (
  λ h. let r = rest.0 h in (inr r.0, r.1),
  λ h. either (λ e. absurd (elim-false (sym f ∙ lt-ltb _ _ (subst (λ q. From w inclusive net q) (sym e.0) h.1)))) (λ k. rest.1 (k, h.1)) h.0,
)

from_same : {X : Type 0} (w : ℕ) (inclusive : Bool) (net : Net) (ps : List (Net × X)) (n : Net) (x : X) → Within (pairs_from w inclusive net ps) n x ↔ (Within ps n x × From w inclusive net n)
unfolding Within pairs_from
from_same w inclusive net [] n x = ((λ h. absurd h), (λ h. absurd h.0))
from_same w inclusive net (p ∷ ps) n x = from_by w inclusive net p ps (pairs_from w inclusive net ps) n x _ refl (from_same w inclusive net ps n x)

up_by : {X : Type 0} (w : ℕ) (p : Net × X) (qs : List (Net × X)) (b : Bool) → ((n : Net) (x : X) → Within qs n x → order_key w p.0 < order_key w n) → Ascends w qs → Ascends w (cond b (p ∷ qs) qs)
unfolding Ascends
up_by w p qs true first up = (first, up)
up_by w p qs false first up = up

from_ascends : {X : Type 0} (w : ℕ) (inclusive : Bool) (net : Net) (ps : List (Net × X)) → Ascends w ps → Ascends w (pairs_from w inclusive net ps)
unfolding Ascends pairs_from
from_ascends w inclusive net [] up = tt
from_ascends w inclusive net (p ∷ ps) up = up_by w p (pairs_from w inclusive net ps) _ (λ n x h. up.0 n x ((from_same w inclusive net ps n x).0 h).0) (from_ascends w inclusive net ps up.1)

-- What a walk from a prefix on has to give is the list from there.
pub listed_from : {X : Type 0} (w : ℕ) (inclusive : Bool) (net : Net) (at : Net → X → Type 0) (ps : List (Net × X)) → Ascends w ps
    → ((n : Net) (x : X) → at n x ↔ (Within ps n x × From w inclusive net n)) → IsListOf w at (pairs_from w inclusive net ps)
listed_from w inclusive net at ps up is = record {
  ascends = from_ascends w inclusive net ps up;
  same = λ n x. ((λ h. (is n x).1 ((from_same w inclusive net ps n x).0 h)), (λ h. (from_same w inclusive net ps n x).1 ((is n x).0 h)));
}
