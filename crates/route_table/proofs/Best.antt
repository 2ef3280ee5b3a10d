-- A route that may answer, with none better that may, is the one that a search gives.
use Rattle.std.proofs.Common.{◌≡◌, ◌==◌, ◌&&◌, ◌||◌, ℕ, Bool, true, false, cond, List, [], ◌∷◌, ◌++◌, nat_lt, Option, Some, None, refl, sym, ◌∙◌, ap, subst, arith}
use Rattle.std.specs.Prelude.{T}
use Rattle.std.specs.List.{AllByRecursion}
use Rattle.std.specs.FinMap.{FinMap, entries, get, get-entries, entries_sorted, IsAntisymmetric, find, is_sorted}
use Rattle.std.specs.FinMap.Entries.{below_all}
use Rattle.std.specs.Cmp.{IsTotalOrder, tied_itself, eq_by_cmp_equiv}
use Rattle.std.specs.Ordering.{is_eq, is_lt, eq_by_cmp}
use Rattle.std.specs.declared.cmp.Ordering.{Ordering}
use Rattle.std.specs.declared.cmp.Ordering.TheVariants.{Less, Equal, Greater}
use Rattle.std.proofs.lemmas.Bool.Decides.{nat_tests}
use Rattle.mirror_model.specs.Routes.{RouteKey, NextHop, RouteTable, is_better, best_route, IsBest}
use Rattle.session_model.specs.Networks.{length_of}
use Rattle.mirror_model.proofs.BestRoutes.{key_total, key_antisymmetric, is_best}
use Rattle.mirror_model.proofs.Tests.{and_left, and_right, some_inside}

-- ---- the entries of a finite map

true_of : (b : Bool) → T b → b ≡ true
true_of true h = refl
true_of false h = absurd h

tied : (o : Ordering) → is_eq o ≡ true → o ≡ Equal
tied Less h = cc
tied Equal h = refl
tied Greater h = cc

not_tied : (o : Ordering) → is_lt o ≡ true → is_eq o ≡ false
not_tied Less h = refl
not_tied Equal h = cc
not_tied Greater h = cc

module _ {K X : Type 0} {R : K → K → Ordering} (total : IsTotalOrder R) (same : IsAntisymmetric R) where
  -- What holds of all entries holds of what stands under a key.
  holds_found : (P : K × X → Type 0) (es : List (K × X)) → AllByRecursion P es → (k : K) (v : X) → find R k es ≡ Some v → P (k, v)
  holds_found P [] all k v h = absurd (let never : None ≡ Some v = h in cc)
  holds_found P (e ∷ es) all k v h = by (eq_by_cmp R k e.0) refl h (holds_found P es all.1 k v)
    where
      by : (b : Bool) → eq_by_cmp R k e.0 ≡ b → cond b (Some e.1) (find R k es) ≡ Some v → (find R k es ≡ Some v → P (k, v)) → P (k, v)
      by true is found later =
          let key : e.0 ≡ k = sym (same k e.0 (tied (R k e.0) is)) in
          let value : e.1 ≡ v = some_inside e.1 v found in
          subst P (λ i. (key i, value i)) all.0
      by false is found later = later found

  below : (x : K) (front : List (K × X)) (e : K × X) (back : List (K × X)) → below_all R x (front ++ e ∷ back) ≡ true → is_lt (R x e.0) ≡ true
  below x [] e back h = and_left _ _ h
  below x (f ∷ front) e back h = below x front e back (and_right _ _ h)

  -- An entry of a sorted list stands under its key.
  found_at : (front : List (K × X)) (e : K × X) (back : List (K × X)) → is_sorted R (front ++ e ∷ back) ≡ true → find R e.0 (front ++ e ∷ back) ≡ Some e.1
  found_at [] e back h = ap (λ b. cond b (Some e.1) (find R e.0 back)) (ap is_eq (tied_itself total e.0))
  found_at (f ∷ front) e back h =
      let apart : eq_by_cmp R e.0 f.0 ≡ false = (eq_by_cmp_equiv total).symm e.0 f.0 ∙ not_tied (R f.0 e.0) (below f.0 front e back (and_left _ _ h)) in
      ap (λ b. cond b (Some f.1) (find R e.0 (front ++ e ∷ back))) apart ∙ found_at front e back (and_right _ _ h)

  -- What holds of all entries of a map holds of what stands under a key.
  pub holds_under : (P : K × X → Type 0) (m : FinMap R X) → AllByRecursion P (entries m) → (k : K) (v : X) → get m k ≡ Some v → P (k, v)
  holds_under P m all k v h = holds_found P (entries m) all k v (sym (get-entries m k) ∙ h)

  -- An entry of a map stands under its key.
  pub entry_under : (m : FinMap R X) (front : List (K × X)) (e : K × X) (back : List (K × X)) → entries m ≡ front ++ e ∷ back → get m e.0 ≡ Some e.1
  entry_under m front e back is =
      get-entries m e.0 ∙ ap (find R e.0) is
      ∙ found_at front e back (true_of _ (subst (λ es. T (is_sorted R es)) is (entries_sorted m)))

-- ---- the best of a table

-- A route of a table that passes a test, with none better that passes; or none passes.
abbrev pub IsBestUnder : (RouteKey × NextHop → Bool) → RouteTable → Option (RouteKey × NextHop) → Type 0
IsBestUnder passes table None = (k : RouteKey) (v : NextHop) → get table k ≡ Some v → passes (k, v) ≡ false
IsBestUnder passes table (Some best) = (get table best.0 ≡ Some best.1) × (passes best ≡ true)
    × ((k : RouteKey) (v : NextHop) → get table k ≡ Some v → passes (k, v) ≡ true → is_better k best.0 ≡ false)

-- Routes of a table that pass a test and are as long are of one network.
abbrev pub IsOneWherePassing : (RouteKey × NextHop → Bool) → RouteTable → Type 0
IsOneWherePassing passes table = (k : RouteKey) (v : NextHop) (q : RouteKey) (u : NextHop) → get table k ≡ Some v → passes (k, v) ≡ true
    → get table q ≡ Some u → passes (q, u) ≡ true → length_of k.network ≡ length_of q.network → k.network ≡ q.network

as_long : (l p m q : ℕ) → (nat_lt m l || ((l == m) && nat_lt p q)) ≡ false → (nat_lt l m || ((m == l) && nat_lt q p)) ≡ false → (l ≡ m) × (p ≡ q)
as_long l p m q h g = (grind (arith, nat_tests), grind (arith, nat_tests))

module _ (passes : RouteKey × NextHop → Bool) (table : RouteTable) (one : IsOneWherePassing passes table) where
  -- A search gives the best route.
  pub search_gives : (found : Option (RouteKey × NextHop)) → IsBestUnder passes table found → best_route passes table ≡ found
  search_gives found best = by (best_route passes table) found (is_best passes (entries table)) best
    where
      clash : {A : Type 0} (b : Bool) → b ≡ true → b ≡ false → A
      clash b is isnt = absurd (let never : true ≡ false = sym is ∙ isnt in cc)

      by : (a b : Option (RouteKey × NextHop)) → IsBest passes (entries table) a → IsBestUnder passes table b → a ≡ b
      by None None h g = refl
      by None (Some e) h g = clash (passes e) g.1 (holds_under key_total key_antisymmetric (λ x. passes x ≡ false) table h e.0 e.1 g.0)
      by (Some s) None h g = clash (passes s) h.1 (g s.0 s.1 (entry_under key_total key_antisymmetric table h.0.0 s h.0.1 h.0.2))
      by (Some s) (Some e) h g =
          let there = entry_under key_total key_antisymmetric table h.0.0 s h.0.1 h.0.2 in
          let first = holds_under key_total key_antisymmetric (λ x. passes x ≡ true → is_better x.0 s.0 ≡ false) table h.2 e.0 e.1 g.0 g.1 in
          let second = g.2 s.0 s.1 there h.1 in
          let both = as_long (length_of e.0.network) e.0.priority (length_of s.0.network) s.0.priority first second in
          let network : s.0.network ≡ e.0.network = one s.0 s.1 e.0 e.1 there h.1 g.0 g.1 (sym both.0) in
          let priority : s.0.priority ≡ e.0.priority = sym both.1 in
          let key : s.0 ≡ e.0 = λ i. record { network = network i; priority = priority i } in
          let value : s.1 ≡ e.1 = some_inside s.1 e.1 (sym there ∙ ap (get table) key ∙ g.0) in
          λ i. Some (key i, value i)
