-- Attributes of prefixes: what is read and what is written.
use Rattle.std.specs.Prelude.{◌≡◌, ℕ, List, [], ◌∷◌, length, Result}
use Rattle.nl_core.specs.declared.error.DecodeError.{DecodeError}
use Rattle.nl_core.specs.Reading.{exactly, sized}
use Rattle.rt_other.specs.declared.ip.Ipv6Addr.{Ipv6Addr}
use Rattle.rt_layout.specs.Rows.{Row, row, attribute_by, IsOfNoRow}
use Rattle.rt_wire.specs.declared.prefix.cache_info.CacheInfo.{CacheInfo}
use Rattle.rt_wire.specs.CacheInfo as cache_info
use Rattle.rt_wire.specs.declared.prefix.attribute.PrefixAttribute.{PrefixAttribute}
use Rattle.rt_wire.specs.declared.prefix.attribute.PrefixAttribute.TheVariants.{Address, CacheInfo as Lifetimes, Other}

-- The address that 16 bytes are.
abbrev pub address_at : List ℕ → Result Ipv6Addr DecodeError
address_at bytes = exactly 16 bytes (record { 0 = bytes })

-- The lifetimes at the front of 8 or more bytes.
abbrev pub lifetimes_at : List ℕ → Result CacheInfo DecodeError
lifetimes_at bytes = sized 8 bytes (cache_info.cache_info_at bytes)

-- The type and the value as they are written.
abbrev pub written : PrefixAttribute → ℕ × List ℕ
written (Address a) = (1, a.0)
written (Lifetimes info) = (2, cache_info.cache_info_text info)
written (Other n) = (n.kind, n.value)

-- What values are read as, by their types.
abbrev pub rows : List (Row PrefixAttribute)
rows = row 1 address_at (λ a. Address a) ∷ row 2 lifetimes_at (λ info. Lifetimes info) ∷ []

-- The type as it is written.
abbrev pub kind : PrefixAttribute → ℕ
kind x = (written x).0

-- The bytes of the value.
abbrev pub value : PrefixAttribute → List ℕ
value x = (written x).1

-- What the attribute at the front of bytes is read as.
abbrev pub attribute_at : List ℕ → Result PrefixAttribute DecodeError
attribute_at bytes = attribute_by rows (λ n. Other n) bytes

-- An attribute reads back: its address has 16 bytes, its lifetimes fit their fields, and another one has a type that no row
-- has.
abbrev pub ReadsBack : PrefixAttribute → Type 0
ReadsBack (Address a) = length a.0 ≡ 16
ReadsBack (Lifetimes info) = cache_info.ReadsBack info
ReadsBack (Other n) = IsOfNoRow rows n
