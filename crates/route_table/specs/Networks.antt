-- Networks of both families as prefixes, and the other way.
use Rattle.std.specs.Prelude.{◌≡◌, ℕ, ◌≤◌, ◌++◌, ◌&&◌, ◌||◌, Bool, not, List, map}
use Rattle.std.specs.List.{list_any}
use Rattle.trie_model.specs.Nets.{Net}
use Rattle.session_model.specs.declared.network.Network.{Network}
use Rattle.session_model.specs.declared.network.Network.TheVariants as network
use Rattle.mirror_model.specs.Routes.{width_of, number_of, without_host_bits}
use Rattle.session_model.specs.Networks.{length_of}
use Rattle.mirror_model.specs.Blocked.{is_same}

-- A length is one of the network's family.
abbrev pub HasFit : Network → Type 0
HasFit n = length_of n ≤ width_of n

-- A network without host bits, whose length is one of its family.
pub record IsPlain (n : Network) : Type 0 where
  pub fits : HasFit n
  pub no_rest : without_host_bits n ≡ n

-- A prefix without host bits.
pub record IsPlainPrefix {P : Type 0} (w : ℕ) (net : P → Net) (raw : P → ℕ) (p : P) : Type 0 where
  pub fits : (net p).len ≤ w
  pub no_rest : raw p ≡ (net p).bits

-- The number and the length of a prefix.
abbrev pub pair_of : {P : Type 0} → (P → Net) → P → ℕ × ℕ
pair_of net p = ((net p).bits, (net p).len)

-- A network by the number and the length that it is given by.
abbrev pub given_net : Network → Net
given_net n = record { bits = number_of n; len = length_of n }

-- A prefix as a network of IPv4.
abbrev pub v4_network : Net → Network
v4_network n = network.V4 (n.bits, n.len)

-- A prefix as a network of IPv6.
abbrev pub v6_network : Net → Network
v6_network n = network.V6 (n.bits, n.len)

-- The networks of two lists of prefixes: those of IPv4, then those of IPv6.
abbrev pub networks_of : List (Net × Unit {0}) → List (Net × Unit {0}) → List Network
networks_of v4 v6 = map (λ e. v4_network e.0) v4 ++ map (λ e. v6_network e.0) v6

-- Whether a network is one of a list.
abbrev pub is_listed : Network → List Network → Bool
is_listed n networks = list_any (is_same n) networks

-- The second networks are the first ones and this one.
abbrev pub Adds : Network → List Network → List Network → Type 0
Adds network old new = (n : Network) → is_listed n new ≡ (is_same n network || is_listed n old)

-- The second networks are the first ones without this one.
abbrev pub Drops : Network → List Network → List Network → Type 0
Drops network old new = (n : Network) → is_listed n new ≡ (not (is_same n network) && is_listed n old)
