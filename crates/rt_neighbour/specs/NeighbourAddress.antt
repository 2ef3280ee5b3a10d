-- Addresses of neighbours: what is read and what is written.
use Rattle.std.specs.Prelude.{◌≡◌, ℕ, List, length, Result, Ok}
use Rattle.nl_core.specs.declared.error.DecodeError.{DecodeError}
use Rattle.nl_core.specs.Reading.{exactly}
use Rattle.rt_other.specs.declared.address_family.AddressFamily.{AddressFamily}
use Rattle.rt_other.specs.declared.address_family.AddressFamily.TheVariants as family
use Rattle.rt_other.specs.declared.ip.IpAddr.{IpAddr}
use Rattle.rt_other.specs.declared.ip.IpAddr.TheVariants.{V4, V6}
use Rattle.rt_neighbour.specs.declared.address.NeighbourAddress.{NeighbourAddress}
use Rattle.rt_neighbour.specs.declared.address.NeighbourAddress.TheVariants.{Inet, Inet6, Other}

-- The bytes of an address.
abbrev pub address_text : NeighbourAddress → List ℕ
address_text (Inet a) = a.0
address_text (Inet6 a) = a.0
address_text (Other bytes) = bytes

-- The address of a family that bytes are.
abbrev pub address_at : AddressFamily → List ℕ → Result NeighbourAddress DecodeError
address_at family.Inet bytes = exactly 4 bytes (Inet (record { 0 = bytes }))
address_at family.Inet6 bytes = exactly 16 bytes (Inet6 (record { 0 = bytes }))
address_at _ bytes = Ok (Other bytes)

-- An address of the internet as a neighbour's.
abbrev pub address_of : IpAddr → NeighbourAddress
address_of (V4 a) = Inet a
address_of (V6 a) = Inet6 a

-- An address is one of the family.
abbrev pub IsOfFamily : AddressFamily → NeighbourAddress → Type 0
IsOfFamily family.Inet (Inet a) = length a.0 ≡ 4
IsOfFamily family.Inet6 (Inet6 a) = length a.0 ≡ 16
IsOfFamily family.Inet _ = ⊥
IsOfFamily family.Inet6 _ = ⊥
IsOfFamily _ (Other bytes) = Unit {0}
IsOfFamily _ _ = ⊥
