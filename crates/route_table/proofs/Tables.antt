-- What stands under a key of a table, and what a change of one family does to it.
use Rattle.std.proofs.Common.{◌≡◌, ◌==◌, ◌&&◌, ℕ, Bool, true, false, not, cond, List, [], ◌∷◌, Option, Some, None, refl, sym, ◌∙◌, ap, arith}
use Rattle.std.specs.Option.{option_map, option_or, option_and_then}
use Rattle.std.specs.FinMap.{get, empty, get-empty, get-insert, get-retain_keys, same_map}
use Rattle.std.specs.Ordering.{nat_cmp, is_eq, eq_by_cmp, ordering_then}
use Rattle.std.specs.declared.cmp.Ordering.{Ordering}
use Rattle.std.specs.declared.cmp.Ordering.TheVariants.{Less, Equal, Greater}
use Rattle.std.proofs.lemmas.Bool.Decides.{nat_tests}
use Rattle.trie_model.specs.Nets.{Net}
use Rattle.trie_model.specs.Spots.{prefix_net}
use Rattle.trie_model.specs.Views.{same_net}
use Rattle.trie_model.specs.Maps.{value_at}
use Rattle.session_model.specs.declared.network.Network.{Network}
use Rattle.session_model.specs.declared.network.Network.TheVariants as network
use Rattle.mirror_model.specs.Tables.{Change}
use Rattle.mirror_model.specs.FiniteTables.{finite}
use Rattle.mirror_model.specs.Routes.{RouteKey, NextHop, RouteTable, key_cmp, width_of, number_of}
use Rattle.session_model.specs.Networks.{length_of}
use Rattle.mirror_model.specs.Blocked.{is_same}
use Rattle.mirror_model.proofs.BestRoutes.{key_total, key_antisymmetric}
use Rattle.mirror_model.proofs.FiniteTables.{finite_maps}
use Rattle.route_table.specs.declared.change.Hop.{Hop}
use Rattle.route_table.specs.Changes.{hop_value}
use Rattle.route_table.specs.Networks.{IsPlain, given_net, v4_network, v6_network}
use Rattle.route_table.specs.Lists.{hop_under, hop_at, PutsAt}
use Rattle.route_table.proofs.Networks.{same_net_turned}
use Rattle.route_table.specs.RouteTables.{key_of, with_routes, without_network, with_lists, table_of}

-- ---- keys

-- Numbers are the same where their order doesn't tell them apart.
pub is_eq_number : (a b : ℕ) → is_eq (nat_cmp a b) ≡ (a == b)
is_eq_number a b = grind (arith, nat_tests)

is_eq_then : (a b : Ordering) → is_eq (ordering_then a b) ≡ (is_eq a && is_eq b)
is_eq_then Less b = refl
is_eq_then Equal b = refl
is_eq_then Greater b = refl

regroup : (w n l p : Bool) → (w && (n && (l && p))) ≡ (((w && n) && l) && p)
regroup true n l p = elim n as (λ m. (m && (l && p)) ≡ ((m && l) && p)) [ true ↦ refl | false ↦ refl ]
regroup false n l p = refl

-- Keys are the same where their networks and their priorities are.
pub same_key : (q k : RouteKey) → eq_by_cmp key_cmp q k ≡ (is_same q.network k.network && (q.priority == k.priority))
same_key q k = simp (is_eq_then, is_eq_number)
    (regroup (width_of q.network == width_of k.network) (number_of q.network == number_of k.network) (length_of q.network == length_of k.network) (q.priority == k.priority))

-- ---- what stands under a key

step : (s t : Bool) (v : Hop) (o : Option Hop) (g : Option NextHop) → cond (s && t) (Some (hop_value v)) (cond s (option_or (option_map hop_value o) g) g)
    ≡ cond s (option_or (option_map hop_value (cond t (Some v) o)) g) g
step true true v o g = refl
step true false v o g = refl
step false t v o g = refl

-- The routes of one network stand under its keys.
get_routes : (n : Network) (es : List (ℕ × Hop)) (t : RouteTable) (q : RouteKey) → get (with_routes n es t) q
    ≡ cond (is_same q.network n) (option_or (option_map hop_value (hop_under es q.priority)) (get t q)) (get t q)
get_routes n [] t q = elim (is_same q.network n) as (λ b. get t q ≡ cond b (get t q) (get t q)) [ true ↦ refl | false ↦ refl ]
get_routes n (e ∷ es) t q =
    let g = get t q in
    let s = is_same q.network n in
    get-insert key_total (with_routes n es t) (key_of n e.0) (hop_value e.1) q
    ∙ ap (λ b. cond b (Some (hop_value e.1)) (get (with_routes n es t) q)) (same_key q (key_of n e.0))
    ∙ ap (cond (s && (q.priority == e.0)) (Some (hop_value e.1))) (get_routes n es t q)
    ∙ step s (q.priority == e.0) e.1 (hop_under es q.priority) g
    ∙ ap (λ b. cond s (option_or (option_map hop_value (cond b (Some e.1) (hop_under es q.priority))) g) g) (sym (is_eq_number q.priority e.0))

get_without : (n : Network) (t : RouteTable) (q : RouteKey) → get (without_network n t) q ≡ cond (not (is_same q.network n)) (get t q) None
get_without n t q = get-retain_keys t (λ k. not (is_same k.network n)) q (λ x tied. ap (λ k. not (is_same k.network n)) (sym (key_antisymmetric q x tied)))

-- What a list of values has by one of its options, or else something else.
abbrev here : Option (List (ℕ × Hop)) → ℕ → Option NextHop → Option NextHop
here None p g = g
here (Some es) p g = option_map hop_value (hop_under es p)

or_none : {A : Type 0} (o : Option A) → option_or o None ≡ o
or_none None = refl
or_none (Some x) = refl

module _ (to : Net → Network) where
  -- A network of another family has what it had.
  get_others : (q : RouteKey) → ((m : Net) → is_same q.network (to m) ≡ false) → (ps : List (Net × List (ℕ × Hop))) (t : RouteTable)
      → get (with_lists to ps t) q ≡ get t q
  get_others q others [] t = refl
  get_others q others (p ∷ ps) t =
      let rest = with_lists to ps t in
      get_routes (to p.0) p.1 (without_network (to p.0) rest) q
      ∙ ap (λ b. cond b (option_or (option_map hop_value (hop_under p.1 q.priority)) (get (without_network (to p.0) rest) q)) (get (without_network (to p.0) rest) q)) (others p.0)
      ∙ get_without (to p.0) rest q ∙ ap (λ b. cond (not b) (get rest q) None) (others p.0) ∙ get_others q others ps t

  -- A network of the family has what the list has.
  get_lists : ((m n : Net) → is_same (to m) (to n) ≡ same_net m n) → (n : Net) (p : ℕ) (ps : List (Net × List (ℕ × Hop))) (t : RouteTable)
      → get (with_lists to ps t) (key_of (to n) p) ≡ here (value_at ps n) p (get t (key_of (to n) p))
  unfolding value_at
  get_lists same n p [] t = refl
  get_lists same n p (x ∷ ps) t =
      let rest = with_lists to ps t in
      let q = key_of (to n) p in
      get_routes (to x.0) x.1 (without_network (to x.0) rest) q
      ∙ ap (λ g. cond (is_same (to n) (to x.0)) (option_or (option_map hop_value (hop_under x.1 p)) g) g) (get_without (to x.0) rest q)
      ∙ ap (λ b. cond b (option_or (option_map hop_value (hop_under x.1 p)) (cond (not b) (get rest q) None)) (cond (not b) (get rest q) None)) (same n x.0)
      ∙ by (same_net n x.0) (get_lists same n p ps t)
    where
      by : (b : Bool) → get (with_lists to ps t) (key_of (to n) p) ≡ here (value_at ps n) p (get t (key_of (to n) p))
          → cond b
          (option_or (option_map hop_value (hop_under x.1 p)) (cond (not b) (get (with_lists to ps t) (key_of (to n) p)) None))
          (cond (not b) (get (with_lists to ps t) (key_of (to n) p)) None)
          ≡ here (cond b (Some x.1) (value_at ps n)) p (get t (key_of (to n) p))
      by true rest = or_none (option_map hop_value (hop_under x.1 p))
      by false rest = rest

-- What both families have under a network and a priority.
abbrev pub hops : List (Net × List (ℕ × Hop)) → List (Net × List (ℕ × Hop)) → Network → ℕ → Option Hop
hops v4 v6 (network.V4 n) p = hop_at v4 (given_net (network.V4 n)) p
hops v4 v6 (network.V6 n) p = hop_at v6 (given_net (network.V6 n)) p

here_none : (o : Option (List (ℕ × Hop))) (p : ℕ) (g : Option NextHop) → g ≡ None → here o p g ≡ option_map hop_value (option_and_then (λ es. hop_under es p) o)
here_none None p g e = e
here_none (Some es) p g e = refl

module _ (v4 v6 : List (Net × List (ℕ × Hop))) where
  -- A table has under a key what the lists of its family have.
  pub get_table : (n : Network) (p : ℕ) → get (table_of v4 v6) (key_of n p) ≡ option_map hop_value (hops v4 v6 n p)
  unfolding table_of
  get_table (network.V4 n) p =
      let net = given_net (network.V4 n) in
      let q = key_of (network.V4 n) p in
      get_lists v4_network (λ m k. refl) net p v4 (with_lists v6_network v6 empty)
      ∙ here_none (value_at v4 net) p (get (with_lists v6_network v6 empty) q) (get_others v6_network q (λ m. refl) v6 empty ∙ get-empty key_cmp q)
  get_table (network.V6 n) p =
      let net = given_net (network.V6 n) in
      let q = key_of (network.V6 n) p in
      get_others v4_network q (λ m. refl) v4 (with_lists v6_network v6 empty)
      ∙ get_lists v6_network (λ m k. refl) net p v6 empty ∙ here_none (value_at v6 net) p (get empty q) (get-empty key_cmp q)

-- ---- changes

chosen : (b : Bool) (x y : Option Hop) → option_map hop_value (cond b x y) ≡ cond b (option_map hop_value x) (option_map hop_value y)
chosen true x y = refl
chosen false x y = refl

-- The change that puts this, or deletes, under a network and a priority.
abbrev change_to : Network → ℕ → Option Hop → Change RouteKey NextHop
change_to n priority hop = record { key = key_of n priority; value = option_map hop_value hop }

module _ (v4 v6 w4 w6 : List (Net × List (ℕ × Hop))) (n : Network) (priority : ℕ) (hop : Option Hop) where
  -- Tables differ by a change where the lists of both families do.
  changed_by : ((k : Network) (p : ℕ) → hops w4 w6 k p ≡ cond (is_same k n && (p == priority)) hop (hops v4 v6 k p))
      → table_of w4 w6 ≡ (finite key_cmp).changed (change_to n priority hop) (table_of v4 v6)
  changed_by differ = same_map key_total key_antisymmetric _ _ (λ q.
      get_table w4 w6 q.network q.priority ∙ ap (option_map hop_value) (differ q.network q.priority)
      ∙ chosen (is_same q.network n && (q.priority == priority)) hop (hops v4 v6 q.network q.priority)
      ∙ ap (λ g. cond (is_same q.network n && (q.priority == priority)) (option_map hop_value hop) g) (sym (get_table v4 v6 q.network q.priority))
      ∙ ap (λ b. cond b (option_map hop_value hop) (get (table_of v4 v6) q)) (sym (same_key q (key_of n priority)))
      ∙ sym ((finite_maps key_cmp key_total).of_change (change_to n priority hop) (table_of v4 v6) q))

module _ (old new other : List (Net × List (ℕ × Hop))) (n : ℕ × ℕ) (priority : ℕ) (hop : Option Hop) where
  turned : (net k : Net) (p : ℕ) → PutsAt net priority hop old new → hop_at new k p ≡ cond (same_net k net && (p == priority)) hop (hop_at old k p)
  turned net k p puts = puts k p ∙ ap (λ b. cond (b && (p == priority)) hop (hop_at old k p)) (same_net_turned net k)

  -- A change of the routes of IPv4 is that of the table.
  pub changed_v4 : PutsAt (given_net (network.V4 n)) priority hop old new
      → table_of new other ≡ (finite key_cmp).changed (change_to (network.V4 n) priority hop) (table_of old other)
  changed_v4 puts = changed_by old other new other (network.V4 n) priority hop each
    where
      each : (k : Network) (p : ℕ) → hops new other k p ≡ cond (is_same k (network.V4 n) && (p == priority)) hop (hops old other k p)
      each (network.V4 k) p = turned (given_net (network.V4 n)) (given_net (network.V4 k)) p puts
      each (network.V6 k) p = refl

  -- A change of the routes of IPv6 is that of the table.
  pub changed_v6 : PutsAt (given_net (network.V6 n)) priority hop old new
      → table_of other new ≡ (finite key_cmp).changed (change_to (network.V6 n) priority hop) (table_of other old)
  changed_v6 puts = changed_by other old other new (network.V6 n) priority hop each
    where
      each : (k : Network) (p : ℕ) → hops other new k p ≡ cond (is_same k (network.V6 n) && (p == priority)) hop (hops other old k p)
      each (network.V4 k) p = refl
      each (network.V6 k) p = turned (given_net (network.V6 n)) (given_net (network.V6 k)) p puts

-- A plain network of IPv4 is given as its prefix.
pub plain_v4 : (n : ℕ × ℕ) → IsPlain (network.V4 n) → prefix_net 32 n.0 n.1 ≡ given_net (network.V4 n)
plain_v4 n plain = λ i. record { bits = number_of (plain.no_rest i); len = n.1 }

-- The same of IPv6.
pub plain_v6 : (n : ℕ × ℕ) → IsPlain (network.V6 n) → prefix_net 128 n.0 n.1 ≡ given_net (network.V6 n)
plain_v6 n plain = λ i. record { bits = number_of (plain.no_rest i); len = n.1 }
