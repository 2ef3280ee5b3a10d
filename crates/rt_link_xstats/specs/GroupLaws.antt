-- Extended statistics of links by what kind of link keeps them read back.
use Rattle.std.proofs.Common.{◌≡◌, ◌≤◌, ℕ, true, List, length, Ok, refl, arith}
use Rattle.std.specs.List.{AllByRecursion}
use Rattle.nl_core.specs.Numbers.{AreBytes}
use Rattle.nl_core.specs.Attribute.{is_checked}
use Rattle.nl_core.specs.AttributeReadBack.{ReadsAgain}
use Rattle.nl_core.proofs.AttributeReadBack.{each-read}
use Rattle.rt_layout.specs.RowLaws.{◌&◌, row-again, other-again, row-reads, attribute-reads}
use Rattle.rt_link_xstats.specs.NestedLaws.{nested-again}
use Rattle.rt_link_xstats.specs.Bridge as bridge
use Rattle.rt_link_xstats.specs.BridgeLaws as bridge_laws
use Rattle.rt_link_xstats.specs.Bond as bond
use Rattle.rt_link_xstats.specs.BondLaws as bond_laws
use Rattle.rt_link_xstats.specs.declared.bridge.attribute.BridgeXstat.{BridgeXstat}
use Rattle.rt_link_xstats.specs.declared.bond.attribute.BondXstat.{BondXstat}
use Rattle.rt_link_xstats.specs.declared.group.LinkXstatGroup.{LinkXstatGroup}
use Rattle.rt_link_xstats.specs.declared.group.LinkXstatGroup.TheVariants.{Bridge, Bond, Other}
use Rattle.rt_link_xstats.specs.Group.{bridge_text, bridge_at, bond_text, bond_at, rows, kind, value, attribute_at, ReadsBack}

-- ---- lists

bridge-again : (xs : List BridgeXstat) → AllByRecursion bridge.ReadsBack xs → length (bridge_text xs) ≤ 65531 → bridge_at (bridge_text xs) ≡ Ok xs
bridge-again xs back short =
    nested-again bridge.kind bridge.value bridge.attribute_at bridge.ReadsBack (bridge_laws.attribute-again tt) xs back short

bridge-read : (bytes : List ℕ) (xs : List BridgeXstat) → AreBytes bytes → bridge_at bytes ≡ Ok xs → AllByRecursion bridge.ReadsBack xs
bridge-read bytes xs are is = each-read bridge.ReadsBack bridge.attribute_at (bridge_laws.attribute-read tt) xs bytes are is

bond-again : (xs : List BondXstat) → AllByRecursion bond.ReadsBack xs → length (bond_text xs) ≤ 65531 → bond_at (bond_text xs) ≡ Ok xs
bond-again xs back short =
    nested-again bond.kind bond.value bond.attribute_at bond.ReadsBack (bond_laws.attribute-again tt) xs back short

bond-read : (bytes : List ℕ) (xs : List BondXstat) → AreBytes bytes → bond_at bytes ≡ Ok xs → AllByRecursion bond.ReadsBack xs
bond-read bytes xs are is = each-read bond.ReadsBack bond.attribute_at (bond_laws.attribute-read tt) xs bytes are is

-- ---- attributes

-- An attribute that reads back does so, where its length fits its field.
pub attribute-again : (p : Unit {0}) (x : LinkXstatGroup) → ReadsBack x → length (value x) ≤ 65531
    → ReadsAgain kind value attribute_at x
attribute-again p (Bridge xs) h short =
    row-again rows (λ n. Other n) kind value (Bridge xs) (omega arith) short (λ o. rw (bridge-again xs h short) refl)
attribute-again p (Bond xs) h short =
    row-again rows (λ n. Other n) kind value (Bond xs) (omega arith) short (λ o. rw (bond-again xs h short) refl)
attribute-again p (Other n) h short = other-again rows (λ n. Other n) kind value n refl refl h short

-- An attribute that was read from bytes reads back.
pub attribute-read : (p : Unit {0}) (bytes : List ℕ) (x : LinkXstatGroup) → AreBytes bytes → is_checked bytes ≡ true
    → attribute_at bytes ≡ Ok x → ReadsBack x
attribute-read p bytes x are checked is =
    attribute-reads ReadsBack rows (λ n. Other n) bytes x are (
    row-reads (λ xs. AllByRecursion bridge.ReadsBack xs) ReadsBack bridge_at (λ xs. Bridge xs) 1 bridge-read (λ xs back. back)
    & row-reads (λ xs. AllByRecursion bond.ReadsBack xs) ReadsBack bond_at (λ xs. Bond xs) 2 bond-read (λ xs back. back)
    & tt
    ) (λ n none. none) is
