-- What hardware counts: what is read and what is written.
use Rattle.std.specs.Prelude.{◌<◌, ◌^◌, ℕ, List, [], ◌∷◌, Result}
use Rattle.std.specs.List.{AllByRecursion}
use Rattle.nl_core.specs.declared.error.DecodeError.{DecodeError}
use Rattle.nl_core.specs.Numbers.{words64}
use Rattle.nl_core.specs.Reading.{sized}
use Rattle.rt_other.specs.Stats as counters
use Rattle.rt_other.specs.declared.stats64.Stats64.{Stats64}
use Rattle.rt_layout.specs.Rows.{Row, row, attribute_by, IsOfNoRow}
use Rattle.rt_stats.specs.HwInfo.{info_text, info_at}
use Rattle.rt_stats.specs.HwStats as hw_stats
use Rattle.rt_stats.specs.declared.stats.hw_stats.HwStats64.{HwStats64}
use Rattle.rt_stats.specs.declared.stats.offload.OffloadValue.{OffloadValue}
use Rattle.rt_stats.specs.declared.stats.offload.OffloadValue.TheVariants as written_as
use Rattle.rt_stats.specs.declared.stats.offload.OffloadXstat.{OffloadXstat}
use Rattle.rt_stats.specs.declared.stats.offload.OffloadXstat.TheVariants.{CpuHit, HwStatsInfo, L3Stats, Other}

-- ---- values

-- The counters of hardware at the front of 72 or more bytes.
abbrev pub hw_stats_at : List ℕ → Result HwStats64 DecodeError
hw_stats_at bytes = sized 72 bytes (hw_stats.hw_stats_at bytes)

-- The bytes of a value that is a struct or a list.
abbrev pub offload_value_text : OffloadValue → List ℕ
offload_value_text (written_as.CpuHit c) = words64 c.0.now.0
offload_value_text (written_as.HwStatsInfo i) = info_text i.now
offload_value_text (written_as.L3Stats s) = hw_stats.hw_stats_text s.now

-- ---- attributes

-- The type and the value as they are written; 32,768 is the flag of a nested list.
abbrev pub written : OffloadXstat → ℕ × List ℕ
written (CpuHit s) = (1, words64 s.0)
written (HwStatsInfo i) = (32770, info_text i)
written (L3Stats s) = (3, hw_stats.hw_stats_text s)
written (Other n) = (n.kind, n.value)

-- What values are read as, by their types.
abbrev pub rows : List (Row OffloadXstat)
rows = row 1 counters.stats_at (λ s. CpuHit s) ∷ row 2 info_at (λ i. HwStatsInfo i) ∷ row 3 hw_stats_at (λ s. L3Stats s) ∷ []

-- The type as it is written.
abbrev pub kind : OffloadXstat → ℕ
kind x = (written x).0

-- The bytes of the value.
abbrev pub value : OffloadXstat → List ℕ
value x = (written x).1

-- What the attribute at the front of bytes is read as.
abbrev pub attribute_at : List ℕ → Result OffloadXstat DecodeError
attribute_at bytes = attribute_by rows (λ n. Other n) bytes

-- ---- what reads back

-- Counters of eight bytes fit their fields.
abbrev pub CountersFit : Stats64 → Type 0
CountersFit s = AllByRecursion (λ n. n < 2 ^ 64) s.0

-- An attribute reads back: its counters fit their fields, and another one has a type that no row has.
abbrev pub ReadsBack : OffloadXstat → Type 0
ReadsBack (CpuHit s) = CountersFit s
ReadsBack (HwStatsInfo i) = Unit {0}
ReadsBack (L3Stats s) = hw_stats.ReadsBack s
ReadsBack (Other n) = IsOfNoRow rows n
