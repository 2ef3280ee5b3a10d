-- Statistics of bonds: what is read and what is written.
use Rattle.std.specs.Prelude.{ℕ, List, [], ◌∷◌, Result}
use Rattle.std.specs.List.{AllByRecursion}
use Rattle.nl_core.specs.declared.error.DecodeError.{DecodeError}
use Rattle.nl_core.specs.Attribute.{attributes, attributes_text}
use Rattle.rt_layout.specs.Rows.{Row, row, attribute_by, IsOfNoRow}
use Rattle.rt_link_xstats.specs.Bond3ad as counter
use Rattle.rt_link_xstats.specs.declared.bond.three_ad.Bond3adStats.{Bond3adStats}
use Rattle.rt_link_xstats.specs.declared.bond.attribute.BondXstat.{BondXstat}
use Rattle.rt_link_xstats.specs.declared.bond.attribute.BondXstat.TheVariants.{ThreeAd, Other}

-- The bytes of counters of link aggregation.
abbrev pub counters_text : List Bond3adStats → List ℕ
counters_text xs = attributes_text counter.kind counter.value xs

-- The counters of link aggregation that bytes are.
abbrev pub counters_at : List ℕ → Result (List Bond3adStats) DecodeError
counters_at bytes = attributes counter.attribute_at bytes

-- The type and the value as they are written; 32,768 is the flag of a nested list.
abbrev pub written : BondXstat → ℕ × List ℕ
written (ThreeAd xs) = (32769, counters_text xs)
written (Other n) = (n.kind, n.value)

-- What values are read as, by their types.
abbrev pub rows : List (Row BondXstat)
rows = row 1 counters_at (λ xs. ThreeAd xs) ∷ []

-- The type as it is written.
abbrev pub kind : BondXstat → ℕ
kind x = (written x).0

-- The bytes of the value.
abbrev pub value : BondXstat → List ℕ
value x = (written x).1

-- What the attribute at the front of bytes is read as.
abbrev pub attribute_at : List ℕ → Result BondXstat DecodeError
attribute_at bytes = attribute_by rows (λ n. Other n) bytes

-- An attribute reads back: each of its counters does, and another one has a type that no row has.
abbrev pub ReadsBack : BondXstat → Type 0
ReadsBack (ThreeAd xs) = AllByRecursion counter.ReadsBack xs
ReadsBack (Other n) = IsOfNoRow rows n
