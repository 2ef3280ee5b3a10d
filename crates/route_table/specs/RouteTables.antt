-- The routes of both families as one finite map.
use Rattle.std.specs.Prelude.{◌≡◌, ◌⊎◌, ℕ, ◌+◌, ◌*◌, ◌/◌, not, List, [], ◌∷◌, Option}
use Rattle.std.proofs.Common.{refl, inl, inr}
use Rattle.std.specs.Coded.{Coded, code_by, coded_ℕ, coded×, coded⊎, coded_option}
use Rattle.std.specs.FinMap.{code, empty, insert, retain_keys}
use Rattle.trie_model.specs.Nets.{Net}
use Rattle.session_model.specs.declared.network.Address.{Address}
use Rattle.session_model.specs.declared.network.Address.TheVariants as address
use Rattle.session_model.specs.declared.network.Network.{Network}
use Rattle.session_model.specs.declared.network.Network.TheVariants as network
use Rattle.mirror_model.specs.FiniteTables.{finite}
use Rattle.mirror_model.specs.Routes.{RouteKey, NextHop, RouteTable, key_cmp, address_width}
use Rattle.mirror_model.specs.Blocked.{is_same}
use Rattle.route_table.specs.declared.change.Hop.{Hop}
use Rattle.route_table.specs.declared.change.RouteChange.{RouteChange}
use Rattle.route_table.specs.Changes.{hop_value, change_value}
use Rattle.route_table.specs.Networks.{v4_network, v6_network}

-- The key of a network and a priority.
abbrev pub key_of : Network → ℕ → RouteKey
key_of n priority = record { network = n; priority = priority }

-- A table with the routes of one network.
abbrev pub with_routes : Network → List (ℕ × Hop) → RouteTable → RouteTable
with_routes n [] table = table
with_routes n (e ∷ es) table = insert (with_routes n es table) (key_of n e.0) (hop_value e.1)

-- A table without the routes of a network.
abbrev pub without_network : Network → RouteTable → RouteTable
without_network n table = retain_keys table (λ k. not (is_same k.network n))

-- A table with the routes of several networks, the first of equal ones.
abbrev pub with_lists : (Net → Network) → List (Net × List (ℕ × Hop)) → RouteTable → RouteTable
with_lists to [] table = table
with_lists to (p ∷ ps) table = with_routes (to p.0) p.1 (without_network (to p.0) (with_lists to ps table))

-- The table of the routes of both families.
unfoldable pub table_of : List (Net × List (ℕ × Hop)) → List (Net × List (ℕ × Hop)) → RouteTable
table_of v4 v6 = with_lists v4_network v4 (with_lists v6_network v6 empty)

-- A table after a change.
abbrev pub changed : RouteChange → RouteTable → RouteTable
changed c table = (finite key_cmp).changed (change_value c) table

-- How many nodes a look-up reads at most: one of each of two tries for every five bits of the address, and their roots.
abbrev pub most_steps : Address → ℕ
most_steps a = 2 * (address_width a / 5 + 1)

-- ---- codes, by which proofs tell tables apart

abbrev pub network_parts : Network → (ℕ × ℕ) ⊎ (ℕ × ℕ)
network_parts (network.V4 n) = inl n
network_parts (network.V6 n) = inr n

abbrev pub network_again : (ℕ × ℕ) ⊎ (ℕ × ℕ) → Network
network_again (inl n) = network.V4 n
network_again (inr n) = network.V6 n

pub network_is_again : (n : Network) → network_again (network_parts n) ≡ n
network_is_again (network.V4 n) = refl
network_is_again (network.V6 n) = refl

abbrev pub network_code : Coded Network
network_code = code_by ((ℕ × ℕ) ⊎ (ℕ × ℕ)) (coded⊎ (coded× coded_ℕ coded_ℕ) (coded× coded_ℕ coded_ℕ)) network_parts network_again network_is_again

abbrev pub address_parts : Address → ℕ ⊎ ℕ
address_parts (address.V4 n) = inl n
address_parts (address.V6 n) = inr n

abbrev pub address_again : ℕ ⊎ ℕ → Address
address_again (inl n) = address.V4 n
address_again (inr n) = address.V6 n

pub address_is_again : (a : Address) → address_again (address_parts a) ≡ a
address_is_again (address.V4 n) = refl
address_is_again (address.V6 n) = refl

abbrev pub address_code : Coded Address
address_code = code_by (ℕ ⊎ ℕ) (coded⊎ coded_ℕ coded_ℕ) address_parts address_again address_is_again

-- The code of keys.
abbrev pub key_code : Coded RouteKey
key_code = code_by (Network × ℕ) (coded× network_code coded_ℕ) (λ k. (k.network, k.priority)) (λ p. record { network = p.0; priority = p.1 }) (λ _. refl)

-- The code of what routes do.
abbrev pub hop_code : Coded NextHop
hop_code =
    code_by (ℕ × (Option ℕ × Option Address)) (coded× coded_ℕ (coded× (coded_option coded_ℕ) (coded_option address_code)))
    (λ h. (h.kind, (h.oif, h.gateway))) (λ p. record { kind = p.0; oif = p.1.0; gateway = p.1.1 }) (λ _. refl)

-- The code of tables.
abbrev pub table_code : Coded RouteTable
table_code = code key_code hop_code
