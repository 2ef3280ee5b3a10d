-- Where a split of a list falls, and what a filter keeps of one.
use Rattle.std.proofs.Common.{◌≡◌, ◌⊎◌, ◌==◌, ◌||◌, arith, inl, inr, ℕ, Bool, true, false, cond, List, [], ◌∷◌, ◌++◌, refl, sym, ap, ◌∙◌}
use Rattle.std.specs.List.{filter, list_any}
use Rattle.std.proofs.lemmas.Bool.Decides.{nat_tests}

-- ---- numbers that are the same, or apart

pub same_is : (k : ℕ) → (k == k) ≡ true
same_is k = grind (arith, nat_tests)

pub apart_is : (j k : ℕ) → (j ≡ k → ⊥) → (j == k) ≡ false
apart_is j k h = grind (arith, nat_tests)

pub same_number : (j k : ℕ) → (j == k) ≡ true → j ≡ k
same_number j k h = grind (arith, nat_tests)

pub swapped : (j k : ℕ) → (j == k) ≡ false → (k == j) ≡ false
swapped j k h = grind (arith, nat_tests)

-- Where neither of two tests passes.
pub any_left : (b c : Bool) → (b || c) ≡ false → b ≡ false
any_left false c h = refl
any_left true c h = h

pub any_right : (b c : Bool) → (b || c) ≡ false → c ≡ false
any_right false c h = h
any_right true c h = cc

module _ {A : Type 0} where
  -- ---- where a split falls

  -- A split of two lists, one after the other, falls in the first or in the second.
  pub split-append : (a b c d : List A) (e : A) → a ++ b ≡ c ++ e ∷ d
      → ((m : List A) × (a ≡ c ++ e ∷ m) × (d ≡ m ++ b)) ⊎ ((m : List A) × (c ≡ a ++ m) × (b ≡ m ++ e ∷ d))
  split-append [] b c d e h = inr (c, refl, h)
  split-append (x ∷ a) b [] d e h =
      let first : x ≡ e = cc in
      let rest : a ++ b ≡ d = cc in
      inl (a, ap (λ y. y ∷ a) first, sym rest)
  split-append (x ∷ a) b (y ∷ c) d e h =
      let first : x ≡ y = cc in
      let rest : a ++ b ≡ c ++ e ∷ d = cc in
      elim (split-append a b c d e rest) [
        | inl p ↦ inl (p.0, ap (λ t. x ∷ t) p.1 ∙ ap (λ z. z ∷ (c ++ e ∷ p.0)) first, p.2)
        | inr p ↦ inr (p.0, ap (λ t. y ∷ t) p.1 ∙ ap (λ z. z ∷ (a ++ p.0)) (sym first), p.2)
      ]

  -- ---- what a test says of a list

  -- Where none of a list passes a test, one of it doesn't.
  pub none_at : (p : A → Bool) (a b : List A) (e : A) → list_any p (a ++ e ∷ b) ≡ false → p e ≡ false
  none_at p [] b e h = any_left (p e) (list_any p b) h
  none_at p (x ∷ a) b e h = none_at p a b e (any_right (p x) (list_any p (a ++ e ∷ b)) h)

  -- A filter drops what doesn't pass, and keeps what does.
  pub filter_dropped : (p : A → Bool) (a b : List A) (e : A) → p e ≡ false → filter p (a ++ e ∷ b) ≡ filter p (a ++ b)
  filter_dropped p [] b e h = ap (λ c. cond c (e ∷ filter p b) (filter p b)) h
  filter_dropped p (x ∷ a) b e h = ap (λ t. cond (p x) (x ∷ t) t) (filter_dropped p a b e h)

  pub filter_kept : (p : A → Bool) (b : List A) (e : A) → p e ≡ true → filter p (e ∷ b) ≡ e ∷ filter p b
  filter_kept p b e h = ap (λ c. cond c (e ∷ filter p b) (filter p b)) h

  -- A filter of what has none that passes is empty.
  pub filter_none : (p : A → Bool) (a : List A) → list_any p a ≡ false → filter p a ≡ []
  filter_none p [] h = refl
  filter_none p (x ∷ a) h =
      ap (λ c. cond c (x ∷ filter p a) (filter p a)) (any_left (p x) (list_any p a) h) ∙ filter_none p a (any_right (p x) (list_any p a) h)

  -- Where a filter is empty, none passes.
  pub none_filtered : (p : A → Bool) (a : List A) → filter p a ≡ [] → list_any p a ≡ false
  none_filtered p [] h = refl
  none_filtered p (x ∷ a) h = elim (p x) as (λ c. cond c (x ∷ filter p a) (filter p a) ≡ [] → (c || list_any p a) ≡ false) [
    | true ↦ λ k. cc
    | false ↦ λ k. none_filtered p a k
  ] h

  -- The first that passes splits a list where none before it does.
  pub record IsFirst (p : A → Bool) (a : List A) (e : A) (rest : List A) : Type 0 where
    pub earlier : List A
    pub later : List A
    pub split : a ≡ earlier ++ e ∷ later
    pub none : list_any p earlier ≡ false
    pub passes : p e ≡ true

  pub first_filtered : (p : A → Bool) (a : List A) (e : A) (rest : List A) → filter p a ≡ e ∷ rest → IsFirst p a e rest
  first_filtered p [] e rest h = absurd (cc)
  first_filtered p (x ∷ a) e rest h =
      elim (p x) as (λ c. p x ≡ c → cond c (x ∷ filter p a) (filter p a) ≡ e ∷ rest → IsFirst p (x ∷ a) e rest) [
        | true ↦ λ is k.
            let same : x ≡ e = cc in
            record { earlier = []; later = a; split = ap (λ y. y ∷ a) same; none = refl; passes = ap p (sym same) ∙ is }
        | false ↦ λ is k.
            let found = first_filtered p a e rest k in
            record {
              earlier = x ∷ found.earlier;
              later = found.later;
              split = ap (λ t. x ∷ t) found.split;
              none = ap (λ c. c || list_any p found.earlier) is ∙ found.none;
              passes = found.passes;
            }
      ] refl h
