-- Attributes of address labels: what is read and what is written.
use Rattle.std.specs.Prelude.{◌≡◌, ◌<◌, ◌^◌, ◌==◌, ℕ, List, [], ◌∷◌, length, if◌then◌else◌, Result, Ok}
use Rattle.nl_core.specs.declared.error.DecodeError.{DecodeError}
use Rattle.nl_core.specs.Numbers.{le32}
use Rattle.nl_core.specs.Reading.{exactly, number32}
use Rattle.rt_other.specs.declared.ip.IpAddr.{IpAddr}
use Rattle.rt_other.specs.declared.ip.IpAddr.TheVariants.{V4, V6}
use Rattle.rt_layout.specs.Rows.{Row, row, attribute_by, IsOfNoRow}
use Rattle.rt_wire.specs.declared.addrlabel.attribute.AddrLabelAttribute.{AddrLabelAttribute}
use Rattle.rt_wire.specs.declared.addrlabel.attribute.AddrLabelAttribute.TheVariants.{Address, Label, Other}

-- ---- addresses

-- The bytes of an address.
abbrev pub address_text : IpAddr → List ℕ
address_text (V4 a) = a.0
address_text (V6 a) = a.0

-- The address that 4 or 16 bytes are.
abbrev pub address_at : List ℕ → Result IpAddr DecodeError
address_at bytes = if length bytes == 4 then Ok (V4 (record { 0 = bytes })) else exactly 16 bytes (V6 (record { 0 = bytes }))

-- ---- attributes

-- The type and the value as they are written.
abbrev pub written : AddrLabelAttribute → ℕ × List ℕ
written (Address a) = (1, address_text a)
written (Label n) = (2, le32 n)
written (Other n) = (n.kind, n.value)

-- What values are read as, by their types.
abbrev pub rows : List (Row AddrLabelAttribute)
rows = row 1 address_at (λ a. Address a) ∷ row 2 number32 (λ n. Label n) ∷ []

-- The type as it is written.
abbrev pub kind : AddrLabelAttribute → ℕ
kind x = (written x).0

-- The bytes of the value.
abbrev pub value : AddrLabelAttribute → List ℕ
value x = (written x).1

-- What the attribute at the front of bytes is read as.
abbrev pub attribute_at : List ℕ → Result AddrLabelAttribute DecodeError
attribute_at bytes = attribute_by rows (λ n. Other n) bytes

-- ---- what reads back

-- An address has as many bytes as its version.
abbrev pub IsWhole : IpAddr → Type 0
IsWhole (V4 a) = length a.0 ≡ 4
IsWhole (V6 a) = length a.0 ≡ 16

-- An attribute reads back: its address is whole, its number four bytes, and another one has a type that no row has.
abbrev pub ReadsBack : AddrLabelAttribute → Type 0
ReadsBack (Address a) = IsWhole a
ReadsBack (Label n) = n < 2 ^ 32
ReadsBack (Other n) = IsOfNoRow rows n
