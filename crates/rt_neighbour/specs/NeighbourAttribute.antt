-- Attributes of neighbours: what is read and what is written.
use Rattle.std.specs.Prelude.{◌<◌, ◌^◌, ℕ, List, [], ◌∷◌, Result, Ok}
use Rattle.nl_core.specs.declared.error.DecodeError.{DecodeError}
use Rattle.nl_core.specs.Numbers.{le16, be16, le32}
use Rattle.nl_core.specs.Reading.{sized, number16, number16_be, number32}
use Rattle.rt_other.specs.declared.address_family.AddressFamily.{AddressFamily}
use Rattle.rt_other.specs.Route.{protocol_at}
use Rattle.rt_layout.specs.Rows.{Row, row, attribute_by, IsOfNoRow}
use Rattle.rt_neighbour.specs.NeighbourAddress.{address_text, address_at, IsOfFamily}
use Rattle.rt_neighbour.specs.CacheInfo as cache_info
use Rattle.rt_neighbour.specs.declared.cache_info.NeighbourCacheInfo.{NeighbourCacheInfo}
use Rattle.rt_neighbour.specs.declared.attribute.NeighbourAttribute.{NeighbourAttribute}
use Rattle.rt_neighbour.specs.declared.attribute.NeighbourAttribute.TheVariants.{Destination, LinkLayerAddress, CacheInfo as Times, Probes, Vlan, Port, Vni, IfIndex, Controller, LinkNetNsId, SourceVni, Protocol, ExtFlags, Other}

-- The times at the front of 16 or more bytes.
abbrev pub times_at : List ℕ → Result NeighbourCacheInfo DecodeError
times_at bytes = sized 16 bytes (cache_info.cache_info_at bytes)

-- The type and the value as they are written.
abbrev pub written : NeighbourAttribute → ℕ × List ℕ
written (Destination a) = (1, address_text a)
written (LinkLayerAddress bytes) = (2, bytes)
written (Times times) = (3, cache_info.cache_info_text times)
written (Probes n) = (4, le32 n)
written (Vlan n) = (5, le16 n)
written (Port n) = (6, be16 n)
written (Vni n) = (7, le32 n)
written (IfIndex n) = (8, le32 n)
written (Controller n) = (9, le32 n)
written (LinkNetNsId n) = (10, le32 n)
written (SourceVni n) = (11, le32 n)
written (Protocol p) = (12, p.0 ∷ [])
written (ExtFlags flags) = (15, le32 flags.0)
written (Other n) = (n.kind, n.value)

-- What values are read as under a family, by their types.
abbrev pub rows : AddressFamily → List (Row NeighbourAttribute)
rows family =
    row 1 (address_at family) (λ a. Destination a) ∷ row 2 (λ v. Ok v) (λ bytes. LinkLayerAddress bytes)
    ∷ row 3 times_at (λ times. Times times) ∷ row 4 number32 (λ n. Probes n) ∷ row 5 number16 (λ n. Vlan n)
    ∷ row 6 number16_be (λ n. Port n) ∷ row 7 number32 (λ n. Vni n) ∷ row 8 number32 (λ n. IfIndex n)
    ∷ row 9 number32 (λ n. Controller n) ∷ row 10 number32 (λ n. LinkNetNsId n) ∷ row 11 number32 (λ n. SourceVni n)
    ∷ row 12 protocol_at (λ p. Protocol p) ∷ row 15 number32 (λ n. ExtFlags (record { 0 = n })) ∷ []

-- The type as it is written.
abbrev pub kind : NeighbourAttribute → ℕ
kind x = (written x).0

-- The bytes of the value.
abbrev pub value : NeighbourAttribute → List ℕ
value x = (written x).1

-- What the attribute at the front of bytes is read as under a family.
abbrev pub attribute_at : AddressFamily → List ℕ → Result NeighbourAttribute DecodeError
attribute_at family bytes = attribute_by (rows family) (λ n. Other n) bytes

-- An attribute reads back under a family: its address is one of it, its numbers fit their fields, and another one has a
-- type that no row has.
abbrev pub ReadsBack : AddressFamily → NeighbourAttribute → Type 0
ReadsBack family (Destination a) = IsOfFamily family a
ReadsBack family (LinkLayerAddress bytes) = Unit {0}
ReadsBack family (Times times) = cache_info.ReadsBack times
ReadsBack family (Probes n) = n < 2 ^ 32
ReadsBack family (Vlan n) = n < 2 ^ 16
ReadsBack family (Port n) = n < 2 ^ 16
ReadsBack family (Vni n) = n < 2 ^ 32
ReadsBack family (IfIndex n) = n < 2 ^ 32
ReadsBack family (Controller n) = n < 2 ^ 32
ReadsBack family (LinkNetNsId n) = n < 2 ^ 32
ReadsBack family (SourceVni n) = n < 2 ^ 32
ReadsBack family (Protocol p) = Unit {0}
ReadsBack family (ExtFlags flags) = flags.0 < 2 ^ 32
ReadsBack family (Other n) = IsOfNoRow (rows family) n
