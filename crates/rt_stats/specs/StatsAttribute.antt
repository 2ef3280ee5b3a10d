-- Statistics of links: what is read and what is written.
use Rattle.std.specs.Prelude.{ℕ, List, [], ◌∷◌, Result}
use Rattle.std.specs.List.{AllByRecursion}
use Rattle.nl_core.specs.declared.error.DecodeError.{DecodeError}
use Rattle.nl_core.specs.Numbers.{words64}
use Rattle.nl_core.specs.Attribute.{attributes, attributes_text}
use Rattle.rt_other.specs.Stats as counters
use Rattle.rt_layout.specs.Rows.{Row, row, attribute_by, IsOfNoRow}
use Rattle.rt_link_xstats.specs.Group as group
use Rattle.rt_link_xstats.specs.declared.group.LinkXstatGroup.{LinkXstatGroup}
use Rattle.rt_stats.specs.Offload as offload
use Rattle.rt_stats.specs.AfSpec as family
use Rattle.rt_stats.specs.declared.stats.offload.OffloadXstat.{OffloadXstat}
use Rattle.rt_stats.specs.declared.stats.af_spec.AfSpecStat.{AfSpecStat}
use Rattle.rt_stats.specs.declared.stats.attribute.StatsValue.{StatsValue}
use Rattle.rt_stats.specs.declared.stats.attribute.StatsValue.TheVariants as written_as
use Rattle.rt_stats.specs.declared.stats.attribute.StatsAttribute.{StatsAttribute}
use Rattle.rt_stats.specs.declared.stats.attribute.StatsAttribute.TheVariants.{Link64, LinkXstats, LinkXstatsPort, LinkOffloadXstats, AfSpec, Other}

-- ---- values

-- The bytes of extended statistics.
abbrev pub groups_text : List LinkXstatGroup → List ℕ
groups_text xs = attributes_text group.kind group.value xs

-- The extended statistics that bytes are.
abbrev pub groups_at : List ℕ → Result (List LinkXstatGroup) DecodeError
groups_at bytes = attributes group.attribute_at bytes

-- The bytes of what hardware counts.
abbrev pub offload_text : List OffloadXstat → List ℕ
offload_text xs = attributes_text offload.kind offload.value xs

-- What hardware counts, of bytes.
abbrev pub offload_at : List ℕ → Result (List OffloadXstat) DecodeError
offload_at bytes = attributes offload.attribute_at bytes

-- The bytes of statistics by address family.
abbrev pub families_text : List AfSpecStat → List ℕ
families_text xs = attributes_text family.kind family.value xs

-- The bytes of a value that is a list.
abbrev pub stats_value_text : StatsValue → List ℕ
stats_value_text (written_as.Link64 c) = words64 c.0.now.0
stats_value_text (written_as.Groups xs) = groups_text xs.now
stats_value_text (written_as.Offload xs) = offload_text xs.now
stats_value_text (written_as.AfSpec xs) = families_text xs.now

-- ---- attributes

-- The type and the value as they are written.
abbrev pub written : StatsAttribute → ℕ × List ℕ
written (Link64 s) = (1, words64 s.0)
written (LinkXstats xs) = (2, groups_text xs)
written (LinkXstatsPort xs) = (3, groups_text xs)
written (LinkOffloadXstats xs) = (4, offload_text xs)
written (AfSpec s) = (5, families_text s.0)
written (Other n) = (n.kind, n.value)

-- What values are read as, by their types.
abbrev pub rows : List (Row StatsAttribute)
rows =
    row 1 counters.stats_at (λ s. Link64 s) ∷ row 2 groups_at (λ xs. LinkXstats xs) ∷ row 3 groups_at (λ xs. LinkXstatsPort xs)
    ∷ row 4 offload_at (λ xs. LinkOffloadXstats xs) ∷ row 5 family.stats_at (λ s. AfSpec s) ∷ []

-- The type as it is written.
abbrev pub kind : StatsAttribute → ℕ
kind x = (written x).0

-- The bytes of the value.
abbrev pub value : StatsAttribute → List ℕ
value x = (written x).1

-- What the attribute at the front of bytes is read as.
abbrev pub attribute_at : List ℕ → Result StatsAttribute DecodeError
attribute_at bytes = attribute_by rows (λ n. Other n) bytes

-- An attribute reads back: its counters fit their fields, each attribute in it reads back, and another one has a type that
-- no row has.
abbrev pub ReadsBack : StatsAttribute → Type 0
ReadsBack (Link64 s) = offload.CountersFit s
ReadsBack (LinkXstats xs) = AllByRecursion group.ReadsBack xs
ReadsBack (LinkXstatsPort xs) = AllByRecursion group.ReadsBack xs
ReadsBack (LinkOffloadXstats xs) = AllByRecursion offload.ReadsBack xs
ReadsBack (AfSpec s) = family.AllReadBack s
ReadsBack (Other n) = IsOfNoRow rows n
