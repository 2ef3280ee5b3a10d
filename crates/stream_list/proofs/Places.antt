-- Places of items in order: those that are free, and the ends of a list that gained or lost an item.
use Rattle.std.proofs.Common.{◌≡◌, ◌≢◌, ℕ, zero, suc, get_or, Bool, true, false, cond, List, [], ◌∷◌, ◌++◌, Option, Some, None, refl, sym, ap, ◌∙◌}
use Rattle.std.specs.List.{filter}
use Rattle.stream_list.specs.declared.ends.Ends.{Ends}
use Rattle.stream_list.specs.Places.{AreApart, IsFree, chosen, ends_of, ends_with, ends_without, first_from, last_from, no_ends}

-- Ends of no items more change what no stream's ends are.
pub get_or-no_ends : (xs : List Ends) (s : ℕ) → get_or (xs ++ no_ends ∷ []) s no_ends ≡ get_or xs s no_ends
get_or-no_ends [] zero = refl
get_or-no_ends [] (suc s) = refl
get_or-no_ends (x ∷ xs) zero = refl
get_or-no_ends (x ∷ xs) (suc s) = get_or-no_ends xs s

module _ {X : Type 0} where
  -- ---- the first and the last of two lists, one after the other

  pub last-append : (p : Option ℕ) (a b : List (ℕ × X)) → last_from p (a ++ b) ≡ last_from (last_from p a) b
  last-append p [] b = refl
  last-append p (e ∷ a) b = last-append (Some e.0) a b

  last_some : (p : ℕ) (a : List (ℕ × X)) (u v : Option ℕ) → chosen (last_from (Some p) a) u v ≡ u
  last_some p [] u v = refl
  last_some p (e ∷ a) u v = last_some e.0 a u v

  -- The ends of a list with one item more.
  pub ends-push : (es : List (ℕ × X)) (e : ℕ × X) → ends_of (es ++ e ∷ []) ≡ ends_with e.0 (ends_of es)
  ends-push [] e = refl
  ends-push (x ∷ es) e = ap (λ p. record { oldest = Some x.0; newest = p }) (last-append None (x ∷ es) (e ∷ []))

  oldest-without : (a : List (ℕ × X)) (e : ℕ × X) (b : List (ℕ × X))
      → first_from (a ++ b) None ≡ chosen (last_from None a) (first_from (a ++ e ∷ b) None) (first_from b None)
  oldest-without [] e b = refl
  oldest-without (x ∷ a) e b = sym (last_some x.0 a (Some x.0) (first_from b None))

  newest-without : (a : List (ℕ × X)) (e : ℕ × X) (b : List (ℕ × X))
      → last_from None (a ++ b) ≡ chosen (first_from b None) (last_from None (a ++ e ∷ b)) (last_from None a)
  newest-without a e [] = last-append None a []
  newest-without a e (y ∷ b) = last-append None a (y ∷ b) ∙ sym (last-append None a (e ∷ y ∷ b))

  -- The ends of a list with one item less.
  pub ends-without : (a : List (ℕ × X)) (e : ℕ × X) (b : List (ℕ × X))
      → ends_of (a ++ b) ≡ ends_without (last_from None a) (first_from b None) (ends_of (a ++ e ∷ b))
  ends-without a e b =
      let ends : Option ℕ → Option ℕ → Ends = λ p q. record { oldest = p; newest = q } in
      ap (λ p. ends p (last_from None (a ++ b))) (oldest-without a e b)
      ∙ ap (ends (chosen (last_from None a) (first_from (a ++ e ∷ b) None) (first_from b None))) (newest-without a e b)

  -- ---- free places

  free-append : (k : ℕ) (a b : List (ℕ × X)) → IsFree k a → IsFree k b → IsFree k (a ++ b)
  free-append k [] b f g = g
  free-append k (x ∷ a) b f g = (f.0, free-append k a b f.1 g)

  pub free-left : (k : ℕ) (a b : List (ℕ × X)) → IsFree k (a ++ b) → IsFree k a
  free-left k [] b f = tt
  free-left k (x ∷ a) b f = (f.0, free-left k a b f.1)

  pub free-right : (k : ℕ) (a b : List (ℕ × X)) → IsFree k (a ++ b) → IsFree k b
  free-right k [] b f = f
  free-right k (x ∷ a) b f = free-right k a b f.1

  pub free-filter : (k : ℕ) (p : ℕ × X → Bool) (a : List (ℕ × X)) → IsFree k a → IsFree k (filter p a)
  free-filter k p [] f = tt
  free-filter k p (x ∷ a) f = elim (p x) as (λ c. IsFree k (cond c (x ∷ filter p a) (filter p a))) [
    | true ↦ (f.0, free-filter k p a f.1)
    | false ↦ free-filter k p a f.1
  ]

  -- Neither end of a list is at a free place.
  pub first_free : (k : ℕ) (a : List (ℕ × X)) → IsFree k a → first_from a None ≢ Some k
  first_free k [] f h = cc
  first_free k (x ∷ a) f h = let same : x.0 ≡ k = cc in f.0 same

  pub last_free : (k : ℕ) (p : Option ℕ) (a : List (ℕ × X)) → p ≢ Some k → IsFree k a → last_from p a ≢ Some k
  last_free k p [] n f = n
  last_free k p (x ∷ a) n f = last_free k (Some x.0) a (λ h. let same : x.0 ≡ k = cc in f.0 same) f.1

  pub none_last : (k : ℕ) (a : List (ℕ × X)) → IsFree k a → last_from None a ≢ Some k
  none_last k a f = last_free k None a (λ h. cc) f

  -- ---- places apart

  pub apart-without : (a : List (ℕ × X)) (e : ℕ × X) (b : List (ℕ × X)) → AreApart (a ++ e ∷ b) → AreApart (a ++ b)
  apart-without [] e b h = h.1
  apart-without (x ∷ a) e b h =
      (free-append x.0 a b (free-left x.0 a (e ∷ b) h.0) (free-right x.0 a (e ∷ b) h.0).1, apart-without a e b h.1)

  pub apart_before : (a : List (ℕ × X)) (e : ℕ × X) (b : List (ℕ × X)) → AreApart (a ++ e ∷ b) → IsFree e.0 a
  apart_before [] e b h = tt
  apart_before (x ∷ a) e b h = (λ is. (free-right x.0 a (e ∷ b) h.0).0 (sym is), apart_before a e b h.1)

  pub apart_after : (a : List (ℕ × X)) (e : ℕ × X) (b : List (ℕ × X)) → AreApart (a ++ e ∷ b) → IsFree e.0 b
  apart_after [] e b h = h.0
  apart_after (x ∷ a) e b h = apart_after a e b h.1

  pub apart_push : (es : List (ℕ × X)) (e : ℕ × X) → AreApart es → IsFree e.0 es → AreApart (es ++ e ∷ [])
  apart_push [] e h f = (tt, tt)
  apart_push (x ∷ es) e h f = (free-append x.0 es (e ∷ []) h.0 (λ is. f.0 (sym is), tt), apart_push es e h.1 f.1)
