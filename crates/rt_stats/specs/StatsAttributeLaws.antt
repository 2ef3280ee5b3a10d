-- Statistics of links read back.
use Rattle.std.proofs.Common.{◌≡◌, ◌≤◌, ◌<◌, ◌%◌, ℕ, true, List, length, Ok, refl, arith}
use Rattle.std.specs.List.{AllByRecursion}
use Rattle.nl_core.specs.Numbers.{AreBytes}
use Rattle.nl_core.specs.Attribute.{is_checked}
use Rattle.nl_core.specs.AttributeReadBack.{ReadsAgain}
use Rattle.nl_core.proofs.AttributeReadBack.{each-read}
use Rattle.rt_other.specs.Stats as counters
use Rattle.rt_other.proofs.Counters.{counters-again}
use Rattle.rt_layout.specs.Rows.{read_by}
use Rattle.rt_layout.specs.RowLaws.{◌&◌, row-again, other-again, row-reads, attribute-reads}
use Rattle.rt_link_xstats.specs.NestedLaws.{nested-again}
use Rattle.rt_link_xstats.specs.Group as group
use Rattle.rt_link_xstats.specs.GroupLaws as group_laws
use Rattle.rt_link_xstats.specs.declared.group.LinkXstatGroup.{LinkXstatGroup}
use Rattle.rt_stats.specs.Offload as offload
use Rattle.rt_stats.specs.OffloadLaws as offload_laws
use Rattle.rt_stats.specs.AfSpec as family
use Rattle.rt_stats.specs.AfSpecLaws as family_laws
use Rattle.rt_stats.specs.declared.stats.offload.OffloadXstat.{OffloadXstat}
use Rattle.rt_stats.specs.declared.stats.attribute.StatsAttribute.{StatsAttribute}
use Rattle.rt_stats.specs.declared.stats.attribute.StatsAttribute.TheVariants.{Link64, LinkXstats, LinkXstatsPort, LinkOffloadXstats, AfSpec, Other}
use Rattle.rt_stats.specs.StatsAttribute.{groups_text, groups_at, offload_text, offload_at, rows, kind, value, attribute_at, ReadsBack}

-- ---- lists

groups-again : (xs : List LinkXstatGroup) → AllByRecursion group.ReadsBack xs → length (groups_text xs) ≤ 65531
    → groups_at (groups_text xs) ≡ Ok xs
groups-again xs back short =
    nested-again group.kind group.value group.attribute_at group.ReadsBack (group_laws.attribute-again tt) xs back short

groups-read : (bytes : List ℕ) (xs : List LinkXstatGroup) → AreBytes bytes → groups_at bytes ≡ Ok xs → AllByRecursion group.ReadsBack xs
groups-read bytes xs are is = each-read group.ReadsBack group.attribute_at (group_laws.attribute-read tt) xs bytes are is

offload-again : (xs : List OffloadXstat) → AllByRecursion offload.ReadsBack xs → length (offload_text xs) ≤ 65531
    → offload_at (offload_text xs) ≡ Ok xs
offload-again xs back short =
    nested-again offload.kind offload.value offload.attribute_at offload.ReadsBack (offload_laws.attribute-again tt) xs back short

offload-read : (bytes : List ℕ) (xs : List OffloadXstat) → AreBytes bytes → offload_at bytes ≡ Ok xs → AllByRecursion offload.ReadsBack xs
offload-read bytes xs are is = each-read offload.ReadsBack offload.attribute_at (offload_laws.attribute-read tt) xs bytes are is

-- ---- attributes

again : (x : StatsAttribute) → kind x < 65536 → length (value x) ≤ 65531
    → ((o : StatsAttribute) → read_by rows (kind x % 16384) (value x) o ≡ Ok x) → ReadsAgain kind value attribute_at x
again x fits short is = row-again rows (λ n. Other n) kind value x fits short is

-- An attribute that reads back does so, where its length fits its field.
pub attribute-again : (p : Unit {0}) (x : StatsAttribute) → ReadsBack x → length (value x) ≤ 65531
    → ReadsAgain kind value attribute_at x
attribute-again p (Link64 s) h short = again (Link64 s) (omega arith) short (λ o. rw (counters-again s h) refl)
attribute-again p (LinkXstats xs) h short = again (LinkXstats xs) (omega arith) short (λ o. rw (groups-again xs h short) refl)
attribute-again p (LinkXstatsPort xs) h short = again (LinkXstatsPort xs) (omega arith) short (λ o. rw (groups-again xs h short) refl)
attribute-again p (LinkOffloadXstats xs) h short = again (LinkOffloadXstats xs) (omega arith) short (λ o. rw (offload-again xs h short) refl)
attribute-again p (AfSpec s) h short = again (AfSpec s) (omega arith) short (λ o. rw (family_laws.stats-again s h short) refl)
attribute-again p (Other n) h short = other-again rows (λ n. Other n) kind value n refl refl h short

-- An attribute that was read from bytes reads back.
pub attribute-read : (p : Unit {0}) (bytes : List ℕ) (x : StatsAttribute) → AreBytes bytes → is_checked bytes ≡ true
    → attribute_at bytes ≡ Ok x → ReadsBack x
attribute-read p bytes x are checked is =
    attribute-reads ReadsBack rows (λ n. Other n) bytes x are (
    row-reads (λ s. offload.CountersFit s) ReadsBack counters.stats_at (λ s. Link64 s) 1 offload_laws.counters-read (λ s fits. fits)
    & row-reads (λ xs. AllByRecursion group.ReadsBack xs) ReadsBack groups_at (λ xs. LinkXstats xs) 2 groups-read (λ xs back. back)
    & row-reads (λ xs. AllByRecursion group.ReadsBack xs) ReadsBack groups_at (λ xs. LinkXstatsPort xs) 3 groups-read (λ xs back. back)
    & row-reads (λ xs. AllByRecursion offload.ReadsBack xs) ReadsBack offload_at (λ xs. LinkOffloadXstats xs) 4 offload-read (λ xs back. back)
    & row-reads (λ s. family.AllReadBack s) ReadsBack family.stats_at (λ s. AfSpec s) 5 family_laws.stats-read (λ s back. back)
    & tt
    ) (λ n none. none) is
