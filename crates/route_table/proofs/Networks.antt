-- Networks of both families as two lists of prefixes.
use Rattle.std.proofs.Common.{◌≡◌, ◌&&◌, ◌||◌, ℕ, Bool, true, false, not, cond, List, [], ◌∷◌, map, is_some, Option, Some, None, refl, sym, ◌∙◌, ap, arith, eqb}
use Rattle.std.specs.List.{list_any}
use Rattle.std.proofs.lemmas.Bool.Decides.{nat_tests}
use Rattle.trie_model.specs.Nets.{Net, IsNet}
use Rattle.trie_model.specs.Views.{same_net}
use Rattle.trie_model.specs.Maps.{value_at, inserted, removed}
use Rattle.session_model.specs.declared.network.Network.{Network}
use Rattle.session_model.specs.declared.network.Network.TheVariants as network
use Rattle.mirror_model.specs.Blocked.{is_same}
use Rattle.mirror_model.proofs.Tests.{any_append, or_false}
use Rattle.route_table.specs.Entries.{AreNets, AddsNet, DropsNet}
use Rattle.route_table.specs.Networks.{given_net, v4_network, v6_network, networks_of, is_listed, Adds, Drops}
use Rattle.route_table.proofs.Entries.{value_put, value_removed}

number_turned : (a b : ℕ) → eqb a b ≡ eqb b a
number_turned a b = grind (arith, nat_tests)

-- Prefixes are the same either way.
pub same_net_turned : (a b : Net) → same_net a b ≡ same_net b a
same_net_turned a b = ap (λ t. t && eqb a.len b.len) (number_turned a.bits b.bits) ∙ ap (λ t. eqb b.bits a.bits && t) (number_turned a.len b.len)

-- ---- sets of prefixes

some_or : {A : Type 0} (b : Bool) (x : A) (o : Option A) → is_some (cond b (Some x) o) ≡ (b || is_some o)
some_or true x o = refl
some_or false x o = refl

some_and : {A : Type 0} (b : Bool) (o : Option A) → is_some (cond b None o) ≡ (not b && is_some o)
some_and true o = refl
some_and false o = refl

module _ (w : ℕ) (ps : List (Net × Unit {0})) (ok : AreNets w ps) (net : Net) where
  -- A set with a prefix more.
  pub adds_net : IsNet w net → AddsNet net ps (inserted w ps net tt)
  adds_net is n = ap is_some (value_put w ps ok net tt is n) ∙ some_or (same_net net n) tt (value_at ps n)
      ∙ ap (λ b. b || is_some (value_at ps n)) (same_net_turned net n)

  -- A set without a prefix.
  pub drops_net : DropsNet net ps (removed ps net)
  drops_net n = ap is_some (value_removed w ps ok net n) ∙ some_and (same_net net n) (value_at ps n)
      ∙ ap (λ b. not b && is_some (value_at ps n)) (same_net_turned net n)

-- ---- both families

listed_there : (to : Net → Network) (m : Net) → ((n : Net) → is_same (to m) (to n) ≡ same_net m n) → (ps : List (Net × Unit {0}))
    → list_any (is_same (to m)) (map (λ e. to e.0) ps) ≡ is_some (value_at ps m)
unfolding value_at
listed_there to m same [] = refl
listed_there to m same (p ∷ ps) =
    ap (λ b. b || list_any (is_same (to m)) (map (λ e. to e.0) ps)) (same p.0)
    ∙ ap (λ b. same_net m p.0 || b) (listed_there to m same ps) ∙ sym (some_or (same_net m p.0) p.1 (value_at ps m))

listed_never : (to : Net → Network) (k : Network) → ((n : Net) → is_same k (to n) ≡ false) → (ps : List (Net × Unit {0}))
    → list_any (is_same k) (map (λ e. to e.0) ps) ≡ false
listed_never to k apart [] = refl
listed_never to k apart (p ∷ ps) = ap (λ b. b || list_any (is_same k) (map (λ e. to e.0) ps)) (apart p.0) ∙ listed_never to k apart ps

-- Whether a network is among those of two sets, by its family.
abbrev pub is_in : List (Net × Unit {0}) → List (Net × Unit {0}) → Network → Bool
is_in v4 v6 (network.V4 n) = is_some (value_at v4 (given_net (network.V4 n)))
is_in v4 v6 (network.V6 n) = is_some (value_at v6 (given_net (network.V6 n)))

module _ (v4 v6 : List (Net × Unit {0})) where
  -- A network is one of two sets where it is one of its family's.
  pub listed_in : (k : Network) → is_listed k (networks_of v4 v6) ≡ is_in v4 v6 k
  listed_in (network.V4 n) =
      any_append (is_same (network.V4 n)) (map (λ e. v4_network e.0) v4) (map (λ e. v6_network e.0) v6)
      ∙ ap (λ b. list_any (is_same (network.V4 n)) (map (λ e. v4_network e.0) v4) || b) (listed_never v6_network (network.V4 n) (λ m. refl) v6)
      ∙ or_false (list_any (is_same (network.V4 n)) (map (λ e. v4_network e.0) v4)) ∙ listed_there v4_network (given_net (network.V4 n)) (λ m. refl) v4
  listed_in (network.V6 n) =
      any_append (is_same (network.V6 n)) (map (λ e. v4_network e.0) v4) (map (λ e. v6_network e.0) v6)
      ∙ ap (λ b. b || list_any (is_same (network.V6 n)) (map (λ e. v6_network e.0) v6)) (listed_never v4_network (network.V6 n) (λ m. refl) v4)
      ∙ listed_there v6_network (given_net (network.V6 n)) (λ m. refl) v6

module _ (old new other : List (Net × Unit {0})) (n : ℕ × ℕ) where
  -- A prefix of IPv4 more is a network more.
  pub adds_v4 : AddsNet (given_net (network.V4 n)) old new → Adds (network.V4 n) (networks_of old other) (networks_of new other)
  adds_v4 adds (network.V4 k) = listed_in new other (network.V4 k) ∙ adds (given_net (network.V4 k))
      ∙ ap (λ b. is_same (network.V4 k) (network.V4 n) || b) (sym (listed_in old other (network.V4 k)))
  adds_v4 adds (network.V6 k) = listed_in new other (network.V6 k) ∙ sym (listed_in old other (network.V6 k))

  -- The same of IPv6.
  pub adds_v6 : AddsNet (given_net (network.V6 n)) old new → Adds (network.V6 n) (networks_of other old) (networks_of other new)
  adds_v6 adds (network.V6 k) = listed_in other new (network.V6 k) ∙ adds (given_net (network.V6 k))
      ∙ ap (λ b. is_same (network.V6 k) (network.V6 n) || b) (sym (listed_in other old (network.V6 k)))
  adds_v6 adds (network.V4 k) = listed_in other new (network.V4 k) ∙ sym (listed_in other old (network.V4 k))

  -- A prefix of IPv4 less is a network less.
  pub drops_v4 : DropsNet (given_net (network.V4 n)) old new → Drops (network.V4 n) (networks_of old other) (networks_of new other)
  drops_v4 drops (network.V4 k) = listed_in new other (network.V4 k) ∙ drops (given_net (network.V4 k))
      ∙ ap (λ b. not (is_same (network.V4 k) (network.V4 n)) && b) (sym (listed_in old other (network.V4 k)))
  drops_v4 drops (network.V6 k) = listed_in new other (network.V6 k) ∙ sym (listed_in old other (network.V6 k))

  -- The same of IPv6.
  pub drops_v6 : DropsNet (given_net (network.V6 n)) old new → Drops (network.V6 n) (networks_of other old) (networks_of other new)
  drops_v6 drops (network.V6 k) = listed_in other new (network.V6 k) ∙ drops (given_net (network.V6 k))
      ∙ ap (λ b. not (is_same (network.V6 k) (network.V6 n)) && b) (sym (listed_in other old (network.V6 k)))
  drops_v6 drops (network.V4 k) = listed_in other new (network.V4 k) ∙ sym (listed_in other old (network.V4 k))
