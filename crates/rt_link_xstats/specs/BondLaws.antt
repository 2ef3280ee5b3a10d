-- Statistics of bonds read back.
use Rattle.std.proofs.Common.{◌≡◌, ◌≤◌, ℕ, true, List, length, Ok, refl, arith}
use Rattle.std.specs.List.{AllByRecursion}
use Rattle.nl_core.specs.Numbers.{AreBytes}
use Rattle.nl_core.specs.Attribute.{is_checked}
use Rattle.nl_core.specs.AttributeReadBack.{ReadsAgain}
use Rattle.nl_core.proofs.AttributeReadBack.{each-read}
use Rattle.rt_layout.specs.RowLaws.{◌&◌, row-again, other-again, row-reads, attribute-reads}
use Rattle.rt_link_xstats.specs.NestedLaws.{nested-again}
use Rattle.rt_link_xstats.specs.Bond3ad as counter
use Rattle.rt_link_xstats.specs.Bond3adLaws as counter_laws
use Rattle.rt_link_xstats.specs.declared.bond.three_ad.Bond3adStats.{Bond3adStats}
use Rattle.rt_link_xstats.specs.declared.bond.attribute.BondXstat.{BondXstat}
use Rattle.rt_link_xstats.specs.declared.bond.attribute.BondXstat.TheVariants.{ThreeAd, Other}
use Rattle.rt_link_xstats.specs.Bond.{counters_text, counters_at, rows, kind, value, attribute_at, ReadsBack}

counters-again : (xs : List Bond3adStats) → AllByRecursion counter.ReadsBack xs → length (counters_text xs) ≤ 65531 → counters_at (counters_text xs) ≡ Ok xs
counters-again xs back short =
    nested-again counter.kind counter.value counter.attribute_at counter.ReadsBack (counter_laws.attribute-again tt) xs back short

counters-read : (bytes : List ℕ) (xs : List Bond3adStats) → AreBytes bytes → counters_at bytes ≡ Ok xs → AllByRecursion counter.ReadsBack xs
counters-read bytes xs are is = each-read counter.ReadsBack counter.attribute_at (counter_laws.attribute-read tt) xs bytes are is

-- An attribute that reads back does so, where its length fits its field.
pub attribute-again : (p : Unit {0}) (x : BondXstat) → ReadsBack x → length (value x) ≤ 65531
    → ReadsAgain kind value attribute_at x
attribute-again p (ThreeAd xs) h short =
    row-again rows (λ n. Other n) kind value (ThreeAd xs) (omega arith) short (λ o. rw (counters-again xs h short) refl)
attribute-again p (Other n) h short = other-again rows (λ n. Other n) kind value n refl refl h short

-- An attribute that was read from bytes reads back.
pub attribute-read : (p : Unit {0}) (bytes : List ℕ) (x : BondXstat) → AreBytes bytes → is_checked bytes ≡ true
    → attribute_at bytes ≡ Ok x → ReadsBack x
attribute-read p bytes x are checked is =
    attribute-reads ReadsBack rows (λ n. Other n) bytes x are (
    row-reads (λ xs. AllByRecursion counter.ReadsBack xs) ReadsBack counters_at (λ xs. ThreeAd xs) 1 counters-read (λ xs back. back)
    & tt
    ) (λ n none. none) is
