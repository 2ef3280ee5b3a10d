-- Lists that are changed place by place.
use Rattle.std.proofs.Common.{◌≡◌, ℕ, zero, suc, ◌<◌, ◌≤◌, Bool, true, false, cond, List, [], ◌∷◌, ◌++◌, length, map, take, drop, set, get_or, nat_lt, Some, None, refl, sym, ◌∙◌, ap, subst, arith}
use Rattle.std.specs.List.{filter, find, position, position_or_len, items_where_true}
use Rattle.std.specs.List.Retain.{IsFiltered, ReturnsInTurn}
use Rattle.std.specs.Prelude.{slice_get}
use Rattle.std.specs.Option.{option_map}
use Rattle.std.proofs.lemmas.Bool.Decides.{nat_tests}
use Rattle.std.proofs.lemmas.List.Folds.{find_at}
use Rattle.std.proofs.lemmas.Option.{slice_get-get_or, slice_get_past}

-- ---- one place after another

-- One place more of a list that is changed from the front on.
pub map_next : {D M : Type 0} (f : D → M) (u : M → M) (i : ℕ) (ms : List M) (cur : List D) (new d : D) → map f cur ≡ map u (take i ms) ++ drop i ms
    → i < length cur → f new ≡ u (f (get_or cur i d)) → map f (set cur i new) ≡ map u (take (suc i) ms) ++ drop (suc i) ms
map_next f u i ms [] new d same lt is = absurd (omega arith)
map_next f u zero [] (c ∷ cur) new d same lt is = cc
map_next f u zero (m ∷ ms) (c ∷ cur) new d same lt is = cc
map_next f u (suc i) [] (c ∷ cur) new d same lt is = cc
map_next f u (suc i) (m ∷ ms) (c ∷ cur) new d same lt is =
    let rest : map f cur ≡ map u (take i ms) ++ drop i ms = cc in
    let head : f c ≡ u m = cc in
    let more = map_next f u i ms cur new d rest (omega arith) is in
    cc

-- A list that is changed at all places.
pub map_all : {M : Type 0} (u : M → M) (n : ℕ) (ms : List M) → n ≡ length ms → map u (take n ms) ++ drop n ms ≡ map u ms
map_all u n [] h = rw h refl
map_all u n (m ∷ ms) h = rw h (ap (λ xs. u m ∷ xs) (map_all u (length ms) ms refl))

-- A list without one of its elements has the same others.
pub filter_removed : {X : Type 0} (q : X → Bool) (xs : List X) (i : ℕ) (d : X) → i < length xs → q (get_or xs i d) ≡ false
    → filter q (take i xs ++ drop (suc i) xs) ≡ filter q xs
filter_removed q [] i d lt h = absurd (omega arith)
filter_removed q (x ∷ xs) zero d lt h = sym (ap (λ b. cond b (x ∷ filter q xs) (filter q xs)) h)
filter_removed q (x ∷ xs) (suc i) d lt h = ap (λ ys. cond (q x) (x ∷ ys) ys) (filter_removed q xs i d (omega arith) h)

-- ---- the first that passes

module _ {X : Type 0} (p : X → Bool) (xs : List X) where
  place_of : (n i : ℕ) → cond (nat_lt n (length xs)) (Some n) None ≡ Some i → (n ≡ i) × (n < length xs)
  place_of n i h = by (nat_lt n (length xs)) refl h
    where
      by : (b : Bool) → nat_lt n (length xs) ≡ b → cond b (Some n) None ≡ Some i → (n ≡ i) × (n < length xs)
      by true is e = (cc, grind (arith, nat_tests))
      by false is e = cc

  no_place : (n : ℕ) → cond (nat_lt n (length xs)) (Some n) None ≡ None → length xs ≤ n
  no_place n h = by (nat_lt n (length xs)) refl h
    where
      by : (b : Bool) → nat_lt n (length xs) ≡ b → cond b (Some n) None ≡ None → length xs ≤ n
      by true is e = cc
      by false is e = grind (arith, nat_tests)

  -- The element at the first place that passes is the first that does.
  pub find_there : (i : ℕ) (d : X) → position p xs ≡ Some i → find p xs ≡ Some (get_or xs i d)
  find_there i d h =
      let at = place_of (position_or_len p xs) i h in
      let lt : i < length xs = rw at.0 at at.1 in
      find_at p xs ∙ ap (slice_get xs) at.0 ∙ slice_get-get_or xs i d lt

  -- Where no place passes, no element does.
  pub find_nowhere : position p xs ≡ None → find p xs ≡ None
  find_nowhere h = find_at p xs ∙ slice_get_past xs (position_or_len p xs) (no_place (position_or_len p xs) h)

-- The first image that passes.
pub find_map : {X Y : Type 0} (f : X → Y) (p : Y → Bool) (xs : List X) → find p (map f xs) ≡ option_map f (find (λ x. p (f x)) xs)
find_map f p [] = refl
find_map f p (x ∷ xs) = elim (p (f x)) as (λ b. cond b (Some (f x)) (find p (map f xs)) ≡ option_map f (cond b (Some x) (find (λ y. p (f y)) xs))) [
  | true ↦ refl
  | false ↦ find_map f p xs
]

-- ---- retained elements

module _ {X P : Type 0} (R : P → X → Bool → P → Type 0) (test : X → Bool) (f : P) (says : (x : X) (b : Bool) (g : P) → R f x b g → (b ≡ test x) × (g ≡ f)) where
  told : (bs : List Bool) (xs : List X) (q : P) → length bs ≡ length xs → ReturnsInTurn R f bs xs q → items_where_true bs xs ≡ filter test xs
  told [] [] q l t = refl
  told [] (x ∷ xs) q l t = absurd (omega arith)
  told (b ∷ bs) [] q l t = absurd t
  told (true ∷ bs) (x ∷ xs) q l t =
      let one = says x true t.0 t.1 in
      let rest = told bs xs q (omega arith) (subst (λ (g : P). ReturnsInTurn R g bs xs q) one.1 t.2) in
      ap (λ ys. x ∷ ys) rest ∙ ap (λ b. cond b (x ∷ filter test xs) (filter test xs)) one.0
  told (false ∷ bs) (x ∷ xs) q l t =
      let one = says x false t.0 t.1 in
      let rest = told bs xs q (omega arith) (subst (λ (g : P). ReturnsInTurn R g bs xs q) one.1 t.2) in
      rest ∙ ap (λ b. cond b (x ∷ filter test xs) (filter test xs)) one.0

  -- What a closure that stays the same retains.
  pub retained : (xs ys : List X) → IsFiltered R f xs ys → ys ≡ filter test xs
  retained xs ys h = h.4 ∙ told h.0 xs h.1 h.2 h.3
