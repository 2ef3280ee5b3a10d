-- An answer depends on which networks are blocked, not on how they are listed.
use Rattle.std.proofs.Common.{◌≡◌, ◌&&◌, ◌||◌, Bool, true, false, not, List, [], ◌∷◌, Option, Some, None, refl, sym, ◌∙◌, ap}
use Rattle.std.specs.List.{list_any}
use Rattle.std.specs.FinMap.{entries}
use Rattle.session_model.proofs.Places.{filter-same}
use Rattle.session_model.specs.declared.network.Address.{Address}
use Rattle.session_model.specs.declared.network.Network.{Network}
use Rattle.mirror_model.specs.Routes.{RouteKey, NextHop, RouteTable, LinkTable, width_of, number_of, contains, contains_network, leaves_by_down, may_answer, best_of, answer_of, lookup}
use Rattle.session_model.specs.Networks.{length_of}
use Rattle.mirror_model.specs.Blocked.{is_same}
use Rattle.mirror_model.proofs.Tests.{and_left, and_right, same_number, number_same, and_both, or_true_second}
use Rattle.mirror_model.proofs.BestRoutes.{same_network}

-- Networks that are the same are equal.
pub same_equal : (m n : Network) → is_same m n ≡ true → m ≡ n
same_equal m n h =
    let two = and_left _ _ h in
    same_network m n (same_number _ _ (and_left _ _ two)) (same_number _ _ (and_right _ _ two)) (same_number _ _ (and_right _ _ h))

-- A network is the same as itself.
pub same_itself : (n : Network) → is_same n n ≡ true
same_itself n =
    and_both _ _ (and_both _ _ (number_same (width_of n) (width_of n) refl) (number_same (number_of n) (number_of n) refl))
    (number_same (length_of n) (length_of n) refl)

-- What passes a test among networks passes it among others that have the same ones.
module _ (p : Network → Bool) where
  passes_there : (n : Network) (ns : List Network) → p n ≡ true → list_any (is_same n) ns ≡ true → list_any p ns ≡ true
  passes_there n [] here h = cc
  passes_there n (m ∷ ns) here h =
      elim (is_same n m) as (λ b. is_same n m ≡ b → (b || list_any (is_same n) ns) ≡ true → (p m || list_any p ns) ≡ true) [
        | true ↦ λ same h. ap (λ b. b || list_any p ns) (ap p (sym (same_equal n m same)) ∙ here)
        | false ↦ λ other h. or_true_second (p m) (list_any p ns) (passes_there n ns here h)
      ] refl h

  some_there : (ms ns : List Network) → ((n : Network) → list_any (is_same n) ms ≡ true → list_any (is_same n) ns ≡ true)
      → list_any p ms ≡ true → list_any p ns ≡ true
  some_there [] ns into h = cc
  some_there (m ∷ ms) ns into h =
      elim (p m) as (λ b. p m ≡ b → (b || list_any p ms) ≡ true → list_any p ns ≡ true) [
        | true ↦ λ is h. passes_there m ns is (into m (ap (λ b. b || list_any (is_same m) ms) (same_itself m)))
        | false ↦ λ is h. some_there ms ns (λ n there. into n (or_true_second (is_same n m) (list_any (is_same n) ms) there)) h
      ] refl h

both_ways : (a b : Bool) → (a ≡ true → b ≡ true) → (b ≡ true → a ≡ true) → a ≡ b
both_ways true b f g = sym (f refl)
both_ways false true f g = g refl
both_ways false false f g = refl

-- The answer is the same where the same networks are blocked.
pub same_answer : (ms ns : List Network) → ((n : Network) → list_any (is_same n) ms ≡ list_any (is_same n) ns)
    → (a : Address) (routes : Option RouteTable) (links : Option LinkTable) → lookup a ms routes links ≡ lookup a ns routes links
same_answer ms ns same a None links = refl
same_answer ms ns same a (Some routes) None = refl
same_answer ms ns same a (Some routes) (Some links) =
    ap (λ es. answer_of (best_of es)) (filter-same (may_answer links ms a) (may_answer links ns a) each (entries routes))
  where
    each : (e : RouteKey × NextHop) → may_answer links ms a e ≡ may_answer links ns a e
    each e =
        let p = λ (b : Network). contains_network b e.0.network in
        let one : list_any p ms ≡ list_any p ns
        = both_ways _ _ (some_there p ms ns (λ n h. sym (same n) ∙ h)) (some_there p ns ms (λ n h. same n ∙ h)) in
        ap (λ b. (contains e.0.network a && not b) && not (leaves_by_down links e.1.oif)) one
