-- Extended statistics of links by what kind of link keeps them: what is read and what is written.
use Rattle.std.specs.Prelude.{ℕ, List, [], ◌∷◌, Result}
use Rattle.std.specs.List.{AllByRecursion}
use Rattle.nl_core.specs.declared.error.DecodeError.{DecodeError}
use Rattle.nl_core.specs.Attribute.{attributes, attributes_text}
use Rattle.rt_layout.specs.Rows.{Row, row, attribute_by, IsOfNoRow}
use Rattle.rt_link_xstats.specs.Bridge as bridge
use Rattle.rt_link_xstats.specs.Bond as bond
use Rattle.rt_link_xstats.specs.declared.bridge.attribute.BridgeXstat.{BridgeXstat}
use Rattle.rt_link_xstats.specs.declared.bond.attribute.BondXstat.{BondXstat}
use Rattle.rt_link_xstats.specs.declared.group.GroupValue.{GroupValue}
use Rattle.rt_link_xstats.specs.declared.group.GroupValue.TheVariants as written_as
use Rattle.rt_link_xstats.specs.declared.group.LinkXstatGroup.{LinkXstatGroup}
use Rattle.rt_link_xstats.specs.declared.group.LinkXstatGroup.TheVariants.{Bridge, Bond, Other}

-- ---- values

-- The bytes of statistics of a bridge.
abbrev pub bridge_text : List BridgeXstat → List ℕ
bridge_text xs = attributes_text bridge.kind bridge.value xs

-- The statistics of a bridge that bytes are.
abbrev pub bridge_at : List ℕ → Result (List BridgeXstat) DecodeError
bridge_at bytes = attributes bridge.attribute_at bytes

-- The bytes of statistics of a bond.
abbrev pub bond_text : List BondXstat → List ℕ
bond_text xs = attributes_text bond.kind bond.value xs

-- The statistics of a bond that bytes are.
abbrev pub bond_at : List ℕ → Result (List BondXstat) DecodeError
bond_at bytes = attributes bond.attribute_at bytes

-- The bytes of a value that is a list.
abbrev pub group_value_text : GroupValue → List ℕ
group_value_text (written_as.Bridge xs) = bridge_text xs.now
group_value_text (written_as.Bond xs) = bond_text xs.now

-- ---- attributes

-- The type and the value as they are written.
abbrev pub written : LinkXstatGroup → ℕ × List ℕ
written (Bridge xs) = (1, bridge_text xs)
written (Bond xs) = (2, bond_text xs)
written (Other n) = (n.kind, n.value)

-- What values are read as, by their types.
abbrev pub rows : List (Row LinkXstatGroup)
rows = row 1 bridge_at (λ xs. Bridge xs) ∷ row 2 bond_at (λ xs. Bond xs) ∷ []

-- The type as it is written.
abbrev pub kind : LinkXstatGroup → ℕ
kind x = (written x).0

-- The bytes of the value.
abbrev pub value : LinkXstatGroup → List ℕ
value x = (written x).1

-- What the attribute at the front of bytes is read as.
abbrev pub attribute_at : List ℕ → Result LinkXstatGroup DecodeError
attribute_at bytes = attribute_by rows (λ n. Other n) bytes

-- An attribute reads back: each of its statistics does, and another one has a type that no row has.
abbrev pub ReadsBack : LinkXstatGroup → Type 0
ReadsBack (Bridge xs) = AllByRecursion bridge.ReadsBack xs
ReadsBack (Bond xs) = AllByRecursion bond.ReadsBack xs
ReadsBack (Other n) = IsOfNoRow rows n
