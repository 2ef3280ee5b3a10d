-- The best route of a family is the answer in the table of both.
use Rattle.std.proofs.Common.{◌≡◌, ◌==◌, ◌&&◌, ◌||◌, ℕ, ◌<◌, ◌≤◌, Bool, true, false, not, List, [], ◌∷◌, map, nat_lt, Option, Some, None, inl, inr, refl, sym, ◌∙◌, ap, subst, arith}
use Rattle.std.specs.Prelude.{◌⊎◌}
use Rattle.std.specs.List.{list_any}
use Rattle.std.specs.Option.{option_map}
use Rattle.std.specs.FinMap.{empty, get, get-empty}
use Rattle.std.specs.Ordering.{nat_cmp}
use Rattle.std.proofs.lemmas.Bool.Decides.{nat_tests}
use Rattle.trie_model.specs.Nets.{Net, IsNet, covers, masked}
use Rattle.trie_model.specs.Maps.{value_at}
use Rattle.trie_model.specs.Spots.{prefix_net}
use Rattle.trie_model.specs.Walks.{Within}
use Rattle.trie_model.proofs.MapLists.{value_within}
use Rattle.trie_model.proofs.Places.{covers_bits}
use Rattle.session_model.specs.declared.network.Address.{Address}
use Rattle.session_model.specs.declared.network.Address.TheVariants as address
use Rattle.session_model.specs.declared.network.Network.{Network}
use Rattle.session_model.specs.declared.network.Network.TheVariants as network
use Rattle.mirror_model.specs.Routes.{RouteKey, NextHop, RouteTable, address_net, contains, contains_network, is_down, leaves_by_down, may_answer, is_better, answer_of, lookup}
use Rattle.session_model.specs.Networks.{length_of}
use Rattle.mirror_model.proofs.Tests.{and_left, and_right, any_append, some_inside, or_false}
use Rattle.route_table.specs.declared.change.Hop.{Hop}
use Rattle.route_table.specs.Answers.{FamilyRoute, MayAnswer, IsBestIn, is_hidden}
use Rattle.route_table.specs.Changes.{hop_value}
use Rattle.route_table.specs.Entries.{AreNets}
use Rattle.route_table.specs.Lists.{hop_under, hop_at}
use Rattle.route_table.specs.Networks.{v4_network, v6_network, networks_of}
use Rattle.route_table.specs.RouteTables.{key_of, table_of}
use Rattle.route_table.proofs.Best.{IsBestUnder, IsOneWherePassing, search_gives}
use Rattle.route_table.proofs.BestIn.{from_some}
use Rattle.route_table.proofs.Tables.{get_table}

-- No link is known to be down.
none_down : (oif : Option ℕ) → leaves_by_down empty oif ≡ false
none_down None = refl
none_down (Some i) = ap is_down (get-empty nat_cmp i)

not_both : (a b : Bool) → ((a && b) ≡ true → ⊥) → (a && b) ≡ false
not_both a b h = by (a && b) refl
  where
    by : (t : Bool) → (a && b) ≡ t → t ≡ false
    by true is = absurd (h is)
    by false is = refl

not_back : (b : Bool) → not b ≡ true → b ≡ false
not_back true h = cc
not_back false h = refl

both_and : (a b : Bool) → a ≡ true → b ≡ false → (a && not b) ≡ true
both_and true true h g = cc
both_and true false h g = refl
both_and false b h g = cc

no_better : (l p m q : ℕ) → (l < m) ⊎ ((l ≡ m) × (q ≤ p)) → (nat_lt m l || ((l == m) && nat_lt p q)) ≡ false
no_better l p m q (inl lt) = grind (arith, nat_tests)
no_better l p m q (inr same) = let e = same.0 in let le = same.1 in grind (arith, nat_tests)

-- A prefix by its number and its length.
abbrev net : ℕ × ℕ → Net
net x = record { bits = x.0; len = x.1 }

-- A route of a family as an entry of the table.
abbrev pub entry_of : (ℕ × ℕ → Network) → FamilyRoute → RouteKey × NextHop
entry_of to r = (key_of (to (r.net.bits, r.net.len)) r.priority, hop_value r.hop)

-- ---- one family, in a table of both

module _ (w : ℕ) (to : ℕ × ℕ → Network) (a : Address) (lists : List (Net × List (ℕ × Hop))) (bs : List (Net × Unit {0})) (networks : List Network) (table : RouteTable)
    (ok : AreNets w lists)
    (has : (x : ℕ × ℕ) (p : ℕ) → get table (key_of (to x) p) ≡ option_map hop_value (hop_at lists (net x) p))
    (family : (n : Network) → ((x : ℕ × ℕ) × (n ≡ to x)) ⊎ (contains n a ≡ false))
    (contains_is : (x : ℕ × ℕ) → contains (to x) a ≡ covers w (record { bits = masked w x.0 x.1; len = x.1 }) (address_net a))
    (hidden_is : (x : ℕ × ℕ) → masked w x.0 x.1 ≡ x.0 → list_any (λ b. contains_network b (to x)) networks ≡ is_hidden w bs (net x))
    (length_is : (x : ℕ × ℕ) → length_of (to x) ≡ x.1) where
  abbrev passes : RouteKey × NextHop → Bool
  passes = may_answer empty networks a

  -- A route of the table comes from one of the family.
  stands : (x : ℕ × ℕ) (p : ℕ) (v : NextHop) → get table (key_of (to x) p) ≡ Some v → (h : Hop) × (hop_at lists (net x) p ≡ Some h) × (hop_value h ≡ v)
  stands x p v h = by (hop_at lists (net x) p) refl (sym (has x p) ∙ h)
    where
      by : (o : Option Hop) → hop_at lists (net x) p ≡ o → option_map hop_value o ≡ Some v → (h : Hop) × (hop_at lists (net x) p ≡ Some h) × (hop_value h ≡ v)
      by None is e = absurd (let never : None ≡ Some v = e in cc)
      by (Some h) is e = (h, is, some_inside (hop_value h) v e)

  -- Its network has no host bits.
  plain : (x : ℕ × ℕ) (p : ℕ) (h : Hop) → hop_at lists (net x) p ≡ Some h → masked w x.0 x.1 ≡ x.0
  plain x p h there =
      let had = from_some (λ es. hop_under es p) (value_at lists (net x)) h there in
      (ok.nets (net x) had.0 (value_within lists (net x) had.0 had.1)).no_rest

  -- Whether it passes.
  passes_is : (x : ℕ × ℕ) (p : ℕ) (v : NextHop) → masked w x.0 x.1 ≡ x.0
      → passes (key_of (to x) p, v) ≡ (covers w (net x) (address_net a) && not (is_hidden w bs (net x)))
  passes_is x p v is =
      ap (λ t. (contains (to x) a && not (list_any (λ b. contains_network b (to x)) networks)) && not t) (none_down v.oif)
      ∙ last (contains (to x) a && not (list_any (λ b. contains_network b (to x)) networks))
      ∙ ap (λ t. t && not (list_any (λ b. contains_network b (to x)) networks)) (contains_is x ∙ ap (λ b. covers w (record { bits = b; len = x.1 }) (address_net a)) is)
      ∙ ap (λ t. covers w (net x) (address_net a) && not t) (hidden_is x is)
    where
      last : (t : Bool) → (t && true) ≡ t
      last true = refl
      last false = refl

  -- A route of the table that passes may answer in the family.
  may : (x : ℕ × ℕ) (p : ℕ) (v : NextHop) → get table (key_of (to x) p) ≡ Some v → passes (key_of (to x) p, v) ≡ true
      → (h : Hop) × MayAnswer w lists bs (address_net a) (record { net = net x; priority = p; hop = h })
  may x p v here pass =
      let s = stands x p v here in
      let both = sym (passes_is x p v (plain x p s.0 s.1)) ∙ pass in
      (s.0, record { there = s.1; contains = and_left _ _ both; visible = not_back _ (and_right _ _ both) })

  -- What passes is of the family.
  of_family : (k : RouteKey) (v : NextHop) → passes (k, v) ≡ true → (x : ℕ × ℕ) × (k ≡ key_of (to x) k.priority)
  of_family k v pass = by (family k.network)
    where
      by : ((x : ℕ × ℕ) × (k.network ≡ to x)) ⊎ (contains k.network a ≡ false) → (x : ℕ × ℕ) × (k ≡ key_of (to x) k.priority)
      by (inl e) = (e.0, (λ i. record { network = e.1 i; priority = k.priority }))
      by (inr never) = absurd (let yes = and_left _ _ (and_left _ _ pass) in let clash : true ≡ false = sym yes ∙ never in cc)

  -- What passes, as a route of the family.
  routed : (k : RouteKey) (v : NextHop) → get table k ≡ Some v → passes (k, v) ≡ true
      → (x : ℕ × ℕ) × (k ≡ key_of (to x) k.priority) × ((h : Hop) × MayAnswer w lists bs (address_net a) (record { net = net x; priority = k.priority; hop = h }))
  routed k v here pass =
      let f = of_family k v pass in
      (f.0, f.1, may f.0 k.priority v (sym (ap (get table) f.1) ∙ here) (sym (ap (λ q. passes (q, v)) f.1) ∙ pass))

  same_place : (x y : ℕ × ℕ) → covers w (net x) (address_net a) ≡ true → covers w (net y) (address_net a) ≡ true → x.1 ≡ y.1 → x ≡ y
  same_place x y c d same =
      let bits : x.0 ≡ y.0 = sym (covers_bits w (net x) (address_net a) c) ∙ ap (masked w (address_net a).bits) same ∙ covers_bits w (net y) (address_net a) d in
      λ i. (bits i, same i)

  one : IsOneWherePassing passes table
  one k v q u here pass there also same =
      let f = routed k v here pass in
      let g = routed q u there also in
      let kn : k.network ≡ to f.0 = ap (λ (r : RouteKey). r.network) f.1 in
      let qn : q.network ≡ to g.0 = ap (λ (r : RouteKey). r.network) g.1 in
      let len : f.0.1 ≡ g.0.1 = sym (length_is f.0) ∙ sym (ap length_of kn) ∙ same ∙ ap length_of qn ∙ length_is g.0 in
      kn ∙ ap to (same_place f.0 g.0 f.2.1.contains g.2.1.contains len) ∙ sym qn

  best_under : (found : Option FamilyRoute) → IsBestIn w lists bs (address_net a) found → IsBestUnder passes table (option_map (entry_of to) found)
  best_under None none = λ k v here. by k v here (passes (k, v)) refl
    where
      by : (k : RouteKey) (v : NextHop) → get table k ≡ Some v → (t : Bool) → passes (k, v) ≡ t → passes (k, v) ≡ false
      by k v here true is = absurd (let f = routed k v here is in none (record { net = net f.0; priority = k.priority; hop = f.2.0 }) f.2.1)
      by k v here false is = is
  best_under (Some r) best =
      let x : ℕ × ℕ = (r.net.bits, r.net.len) in
      let is = plain x r.priority r.hop best.0.there in (
        has x r.priority ∙ ap (option_map hop_value) best.0.there,
        passes_is x r.priority (hop_value r.hop) is ∙ both_and _ _ best.0.contains best.0.visible,
        λ k v here pass. let f = routed k v here pass in
            ap (λ q. is_better q (key_of (to x) r.priority)) f.1
            ∙ ap (λ l. nat_lt (length_of (to x)) l || ((l == length_of (to x)) && nat_lt k.priority r.priority)) (length_is f.0)
            ∙ ap (λ l. nat_lt l f.0.1 || ((f.0.1 == l) && nat_lt k.priority r.priority)) (length_is x)
            ∙ no_better f.0.1 k.priority r.net.len r.priority (best.1 (record { net = net f.0; priority = k.priority; hop = f.2.0 }) f.2.1),
      )

  -- The best of the family is the answer.
  pub answered : (found : Option FamilyRoute) → IsBestIn w lists bs (address_net a) found
      → answer_of (option_map (entry_of to) found) ≡ lookup a networks (Some table) (Some empty)
  answered found best = ap answer_of (sym (search_gives passes table one (option_map (entry_of to) found) (best_under found best)))

-- ---- both families

-- All of them are without host bits.
abbrev AllNets : ℕ → List (Net × Unit {0}) → Type 0
AllNets w [] = Unit {0}
AllNets w (b ∷ bs) = (masked w b.0.bits b.0.len ≡ b.0.bits) × AllNets w bs

all_nets : (w : ℕ) (bs : List (Net × Unit {0})) → ((n : Net) (x : Unit {0}) → Within bs n x → IsNet w n) → AllNets w bs
unfolding Within
all_nets w [] nets = tt
all_nets w (b ∷ bs) nets = ((nets b.0 b.1 (inl (refl, refl))).no_rest, all_nets w bs (λ n x h. nets n x (inr h)))

hidden_there : (w : ℕ) (to : Net → Network) (k : Network) (n : Net) → ((m : Net) → contains_network (to m) k ≡ covers w (record { bits = masked w m.bits m.len; len = m.len }) n)
    → (bs : List (Net × Unit {0})) → AllNets w bs → list_any (λ b. contains_network b k) (map (λ e. to e.0) bs) ≡ is_hidden w bs n
hidden_there w to k n is [] all = refl
hidden_there w to k n is (b ∷ bs) all =
    ap (λ t. t || list_any (λ c. contains_network c k) (map (λ e. to e.0) bs)) (is b.0 ∙ ap (λ m. covers w (record { bits = m; len = b.0.len }) n) all.0)
    ∙ ap (λ t. covers w b.0 n || t) (hidden_there w to k n is bs all.1)

hidden_never : (to : Net → Network) (k : Network) → ((m : Net) → contains_network (to m) k ≡ false) → (bs : List (Net × Unit {0}))
    → list_any (λ b. contains_network b k) (map (λ e. to e.0) bs) ≡ false
hidden_never to k apart [] = refl
hidden_never to k apart (b ∷ bs) = ap (λ t. t || list_any (λ c. contains_network c k) (map (λ e. to e.0) bs)) (apart b.0) ∙ hidden_never to k apart bs

-- An address of IPv4 as a prefix.
pub whole_v4 : (n : ℕ) → prefix_net 32 n 32 ≡ address_net (address.V4 n)
whole_v4 n = let whole : masked 32 n 32 ≡ n = omega arith in λ i. record { bits = whole i; len = 32 }

-- The same of IPv6.
pub whole_v6 : (n : ℕ) → prefix_net 128 n 128 ≡ address_net (address.V6 n)
whole_v6 n = let whole : masked 128 n 128 ≡ n = omega arith in λ i. record { bits = whole i; len = 128 }

module _ (v4 v6 : List (Net × List (ℕ × Hop))) (b4 b6 : List (Net × Unit {0})) where
  hidden_v4 : AreNets 32 b4 → (x : ℕ × ℕ) → masked 32 x.0 x.1 ≡ x.0
      → list_any (λ b. contains_network b (network.V4 x)) (networks_of b4 b6) ≡ is_hidden 32 b4 (net x)
  hidden_v4 nets x plain =
      any_append (λ b. contains_network b (network.V4 x)) (map (λ e. v4_network e.0) b4) (map (λ e. v6_network e.0) b6)
      ∙ ap (λ t. list_any (λ b. contains_network b (network.V4 x)) (map (λ e. v4_network e.0) b4) || t) (hidden_never v6_network (network.V4 x) (λ m. refl) b6)
      ∙ or_false (list_any (λ b. contains_network b (network.V4 x)) (map (λ e. v4_network e.0) b4))
      ∙ hidden_there 32 v4_network (network.V4 x) (net x)
      (λ m. ap (λ k. covers 32 (record { bits = masked 32 m.bits m.len; len = m.len }) (record { bits = k; len = x.1 })) plain) b4 (all_nets 32 b4 nets.nets)

  hidden_v6 : AreNets 128 b6 → (x : ℕ × ℕ) → masked 128 x.0 x.1 ≡ x.0
      → list_any (λ b. contains_network b (network.V6 x)) (networks_of b4 b6) ≡ is_hidden 128 b6 (net x)
  hidden_v6 nets x plain =
      any_append (λ b. contains_network b (network.V6 x)) (map (λ e. v4_network e.0) b4) (map (λ e. v6_network e.0) b6)
      ∙ ap (λ t. t || list_any (λ b. contains_network b (network.V6 x)) (map (λ e. v6_network e.0) b6)) (hidden_never v4_network (network.V6 x) (λ m. refl) b4)
      ∙ hidden_there 128 v6_network (network.V6 x) (net x)
      (λ m. ap (λ k. covers 128 (record { bits = masked 128 m.bits m.len; len = m.len }) (record { bits = k; len = x.1 })) plain) b6 (all_nets 128 b6 nets.nets)

  family_v4 : (n : ℕ) (k : Network) → ((x : ℕ × ℕ) × (k ≡ network.V4 x)) ⊎ (contains k (address.V4 n) ≡ false)
  family_v4 n (network.V4 x) = inl (x, refl)
  family_v4 n (network.V6 x) = inr refl

  family_v6 : (n : ℕ) (k : Network) → ((x : ℕ × ℕ) × (k ≡ network.V6 x)) ⊎ (contains k (address.V6 n) ≡ false)
  family_v6 n (network.V4 x) = inr refl
  family_v6 n (network.V6 x) = inl (x, refl)

  -- The best route of IPv4 is the answer for an address of IPv4.
  pub answered_v4 : AreNets 32 v4 → AreNets 32 b4 → (n : ℕ) (found : Option FamilyRoute) → IsBestIn 32 v4 b4 (prefix_net 32 n 32) found
      → answer_of (option_map (entry_of network.V4) found) ≡ lookup (address.V4 n) (networks_of b4 b6) (Some (table_of v4 v6)) (Some empty)
  answered_v4 ok nets n found best =
      answered 32 network.V4 (address.V4 n) v4 b4 (networks_of b4 b6) (table_of v4 v6) ok (λ x p. get_table v4 v6 (network.V4 x) p) (family_v4 n)
      (λ x. refl) (hidden_v4 nets) (λ x. refl) found (subst (λ a. IsBestIn 32 v4 b4 a found) (whole_v4 n) best)

  -- The best route of IPv6 is the answer for an address of IPv6.
  pub answered_v6 : AreNets 128 v6 → AreNets 128 b6 → (n : ℕ) (found : Option FamilyRoute) → IsBestIn 128 v6 b6 (prefix_net 128 n 128) found
      → answer_of (option_map (entry_of network.V6) found) ≡ lookup (address.V6 n) (networks_of b4 b6) (Some (table_of v4 v6)) (Some empty)
  answered_v6 ok nets n found best =
      answered 128 network.V6 (address.V6 n) v6 b6 (networks_of b4 b6) (table_of v4 v6) ok (λ x p. get_table v4 v6 (network.V6 x) p) (family_v6 n)
      (λ x. refl) (hidden_v6 nets) (λ x. refl) found (subst (λ a. IsBestIn 128 v6 b6 a found) (whole_v6 n) best)

-- A prefix of IPv4 that was found is given as it stands in the answer.
pub found_v4 : (p : ℕ × ℕ) (priority : ℕ) (hop : Hop) → p.0 ≡ masked 32 p.0 p.1 → answer_of (Some (key_of (network.V4 p) priority, hop_value hop))
    ≡ answer_of (option_map (entry_of network.V4) (Some (record { net = prefix_net 32 p.0 p.1; priority = priority; hop = hop })))
found_v4 p priority hop is = ap (λ n. answer_of (Some (key_of (network.V4 (n, p.1)) priority, hop_value hop))) is

-- The same of IPv6.
pub found_v6 : (p : ℕ × ℕ) (priority : ℕ) (hop : Hop) → p.0 ≡ masked 128 p.0 p.1 → answer_of (Some (key_of (network.V6 p) priority, hop_value hop))
    ≡ answer_of (option_map (entry_of network.V6) (Some (record { net = prefix_net 128 p.0 p.1; priority = priority; hop = hop })))
found_v6 p priority hop is = ap (λ n. answer_of (Some (key_of (network.V6 (n, p.1)) priority, hop_value hop))) is
