-- The order of keys, and that a search finds the best route.
use Rattle.std.proofs.Common.{◌≡◌, ◌==◌, ◌&&◌, ◌||◌, ℕ, Bool, true, false, cond, List, [], ◌∷◌, nat_lt, Option, Some, None, refl, sym, ◌∙◌, ap, arith}
use Rattle.std.specs.List.{filter}
use Rattle.std.specs.FinMap.{IsAntisymmetric, nat_cmp-IsAntisymmetric}
use Rattle.std.specs.Cmp.{IsTotalOrder}
use Rattle.std.specs.Ordering.{ordering_then}
use Rattle.std.specs.declared.cmp.Ordering.{Ordering}
use Rattle.std.specs.declared.cmp.Ordering.TheVariants.{Less, Equal, Greater}
use Rattle.std.proofs.lemmas.Cmp.{nat_cmp_total, on_total, then_total}
use Rattle.std.proofs.lemmas.Bool.Decides.{nat_tests}
use Rattle.session_model.specs.declared.network.Network.{Network}
use Rattle.session_model.specs.declared.network.Network.TheVariants as network
use Rattle.mirror_model.specs.Routes.{RouteKey, NextHop, width_of, number_of, key_cmp, is_better, better, best_of, IsBest}
use Rattle.session_model.specs.Networks.{length_of}
use Rattle.mirror_model.proofs.Lists.{all_same}

-- Keys are totally ordered.
pub key_total : IsTotalOrder key_cmp
key_total =
    then_total (on_total (λ (k : RouteKey). width_of k.network) nat_cmp_total)
    (then_total (on_total (λ (k : RouteKey). number_of k.network) nat_cmp_total)
    (then_total (on_total (λ (k : RouteKey). length_of k.network) nat_cmp_total) (on_total (λ (k : RouteKey). k.priority) nat_cmp_total)))

both_equal : (a b : Ordering) → ordering_then a b ≡ Equal → (a ≡ Equal) × (b ≡ Equal)
both_equal Less b h = cc
both_equal Equal b h = (refl, h)
both_equal Greater b h = cc

-- Networks of a family with the same number and length are equal.
pub same_network : (m n : Network) → width_of m ≡ width_of n → number_of m ≡ number_of n → length_of m ≡ length_of n → m ≡ n
same_network (network.V4 m) (network.V4 n) w k l = λ i. network.V4 (k i, l i)
same_network (network.V6 m) (network.V6 n) w k l = λ i. network.V6 (k i, l i)
same_network (network.V4 m) (network.V6 n) w k l = absurd (omega (arith, w))
same_network (network.V6 m) (network.V4 n) w k l = absurd (omega (arith, w))

-- Keys that the order doesn't tell apart are equal.
pub key_antisymmetric : IsAntisymmetric key_cmp
key_antisymmetric x y h =
    let a = both_equal _ _ h in
    let b = both_equal _ _ a.1 in
    let c = both_equal _ _ b.1 in
    let same
    = same_network x.network y.network (nat_cmp-IsAntisymmetric _ _ a.0) (nat_cmp-IsAntisymmetric _ _ b.0) (nat_cmp-IsAntisymmetric _ _ c.0) in
    let priority = nat_cmp-IsAntisymmetric _ _ c.1 in
    λ i. record { network = same i; priority = priority i }

-- None is better than itself.
not_itself : (l p : ℕ) → (nat_lt l l || ((l == l) && nat_lt p p)) ≡ false
not_itself l p = grind (arith, nat_tests)

-- What isn't better than a isn't better than one that is better than a.
not_beyond : (l p m q n s : ℕ) → (nat_lt m l || ((l == m) && nat_lt p q)) ≡ true → (nat_lt m n || ((n == m) && nat_lt s q)) ≡ false
    → (nat_lt l n || ((n == l) && nat_lt s p)) ≡ false
not_beyond l p m q n s h f = grind (arith, nat_tests)

-- What isn't better than b isn't better than a, where b isn't better than a.
not_beyond_tied : (l p m q n s : ℕ) → (nat_lt m l || ((l == m) && nat_lt p q)) ≡ false → (nat_lt l n || ((n == l) && nat_lt s p)) ≡ false
    → (nat_lt m n || ((n == m) && nat_lt s q)) ≡ false
not_beyond_tied l p m q n s h f = grind (arith, nat_tests)

module _ (passes : RouteKey × NextHop → Bool) where
  -- A search gives the best of the routes that pass.
  pub is_best : (routes : List (RouteKey × NextHop)) → IsBest passes routes (best_of (filter passes routes))
  is_best [] = tt
  is_best (a ∷ routes) =
      let rest = filter passes routes in
      elim (passes a) as (λ b. passes a ≡ b → IsBest passes (a ∷ routes) (best_of (cond b (a ∷ rest) rest))) [
        | true ↦ λ is. among is (best_of rest) (is_best routes)
        | false ↦ λ is. later is (best_of rest) (is_best routes)
      ] refl
    where
      later : passes a ≡ false → (o : Option (RouteKey × NextHop)) → IsBest passes routes o → IsBest passes (a ∷ routes) o
      later is None h = (is, h)
      later is (Some b) h = ((a ∷ h.0.0, h.0.1, ap (λ xs. a ∷ xs) h.0.2), h.1, ((λ e. let never : false ≡ true = sym is ∙ e in cc), h.2))

      among : passes a ≡ true → (o : Option (RouteKey × NextHop)) → IsBest passes routes o → IsBest passes (a ∷ routes) (Some (better a o))
      among is None h = (
        ([], routes, refl),
        is,
        ((λ e. not_itself (length_of a.0.network) a.0.priority), all_same _ _ (λ e no yes. let never : false ≡ true = sym no ∙ yes in cc) routes h),
      )
      among is (Some b) h = elim (is_better b.0 a.0) as (λ t. is_better b.0 a.0 ≡ t → IsBest passes (a ∷ routes) (Some (cond t b a))) [
        | true ↦ λ first. (
          (a ∷ h.0.0, h.0.1, ap (λ xs. a ∷ xs) h.0.2),
          h.1,
          ((λ e. not_beyond _ _ (length_of a.0.network) a.0.priority _ _ first (not_itself (length_of a.0.network) a.0.priority)), h.2),
        )
        | false ↦ λ tied. (
          ([], routes, refl),
          is,
          (
            (λ e. not_itself (length_of a.0.network) a.0.priority),
            all_same _ _ (λ e no yes. not_beyond_tied (length_of b.0.network) b.0.priority _ _ _ _ tied (no yes)) routes h.2,
          ),
        )
      ] refl
