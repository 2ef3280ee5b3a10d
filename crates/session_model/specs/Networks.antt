-- How addresses and networks are spelled, and which there are.
use Rattle.std.specs.Prelude.{◌<◌, ◌≤◌, ◌^◌, ℕ, List, [], ◌∷◌, ◌++◌, codes}
use Rattle.std.specs.Fmt.{decimal}
use Rattle.std.specs.Int.{w32, w128, to_be_bytes}
use Rattle.session_model.specs.declared.network.Address.{Address}
use Rattle.session_model.specs.declared.network.Address.TheVariants as address
use Rattle.session_model.specs.declared.network.Network.{Network}
use Rattle.session_model.specs.declared.network.Network.TheVariants as network
use Rattle.session_model.specs.Lines.{hex_word}

-- The byte `/`, which stands between a network's digits and its length.
abbrev pub slash : ℕ
slash = 47

-- The octets of an address, highest first.
unfoldable pub octets_of : Address → List ℕ
octets_of (address.V4 n) = to_be_bytes w32 n
octets_of (address.V6 n) = to_be_bytes w128 n

-- The digits of an address: two for each of its octets.
abbrev pub digits_of : Address → List ℕ
digits_of a = hex_word (octets_of a)

-- The word of an address's family.
abbrev pub family_word : Address → List ℕ
family_word (address.V4 n) = codes "4"
family_word (address.V6 n) = codes "6"

-- The address whose number a network has.
abbrev pub base_of : Network → Address
base_of (network.V4 n) = address.V4 n.0
base_of (network.V6 n) = address.V6 n.0

-- How many leading bits of a network's number count.
abbrev pub length_of : Network → ℕ
length_of (network.V4 n) = n.1
length_of (network.V6 n) = n.1

-- The word of a network: its digits and its length.
abbrev pub prefix_word : Network → List ℕ
prefix_word n = digits_of (base_of n) ++ slash ∷ decimal (length_of n)

-- The words of an address: its family, and its digits.
abbrev pub address_words : Address → List (List ℕ)
address_words a = family_word a ∷ digits_of a ∷ []

-- The words of a network: its family, and its digits with its length.
abbrev pub network_words : Network → List (List ℕ)
network_words n = family_word (base_of n) ∷ prefix_word n ∷ []

-- The number of an address is one of its family.
abbrev pub IsHost : Address → Type 0
IsHost (address.V4 n) = n < 2 ^ 32
IsHost (address.V6 n) = n < 2 ^ 128

-- The number of a network is one of its family, which has as many bits as count.
abbrev pub IsNetwork : Network → Type 0
IsNetwork (network.V4 n) = (n.0 < 2 ^ 32) × (n.1 ≤ 32)
IsNetwork (network.V6 n) = (n.0 < 2 ^ 128) × (n.1 ≤ 128)
