-- Statistics of bridges read back.
use Rattle.std.proofs.Common.{◌≡◌, ◌≤◌, ◌<◌, ◌%◌, ℕ, true, List, length, Ok, refl, subst, arith}
use Rattle.nl_core.specs.Numbers.{AreBytes}
use Rattle.nl_core.specs.Attribute.{is_checked}
use Rattle.nl_core.specs.AttributeReadBack.{ReadsAgain}
use Rattle.rt_layout.specs.Rows.{read_by}
use Rattle.rt_layout.specs.FixedLaws.{sized-again, sized-read}
use Rattle.rt_layout.specs.RowLaws.{◌&◌, row-again, other-again, row-reads, attribute-reads}
use Rattle.rt_link_xstats.specs.BridgeVlan as vlan
use Rattle.rt_link_xstats.specs.BridgeVlanLaws.{length-vlan, vlan-again, vlan-read}
use Rattle.rt_link_xstats.specs.BridgeMcast as mcast
use Rattle.rt_link_xstats.specs.BridgeMcastLaws.{length-mcast, mcast-again, mcast-read}
use Rattle.rt_link_xstats.specs.BridgeStp as stp
use Rattle.rt_link_xstats.specs.BridgeStpLaws.{length-stp, stp-again, stp-read}
use Rattle.rt_link_xstats.specs.declared.bridge.vlan.BridgeVlanXstats.{BridgeVlanXstats}
use Rattle.rt_link_xstats.specs.declared.bridge.mcast.BridgeMcastStats.{BridgeMcastStats}
use Rattle.rt_link_xstats.specs.declared.bridge.stp.BridgeStpXstats.{BridgeStpXstats}
use Rattle.rt_link_xstats.specs.declared.bridge.attribute.BridgeXstat.{BridgeXstat}
use Rattle.rt_link_xstats.specs.declared.bridge.attribute.BridgeXstat.TheVariants.{Vlan, Mcast, Stp, Other}
use Rattle.rt_link_xstats.specs.Bridge.{vlan_at, mcast_at, stp_at, rows, kind, value, attribute_at, ReadsBack}

-- ---- structs

vlan-value-again : (s : BridgeVlanXstats) → vlan.ReadsBack s → vlan_at (vlan.vlan_text s) ≡ Ok s
vlan-value-again s back = sized-again 40 vlan.vlan_text vlan.vlan_at s (length-vlan s) (λ more. vlan-again s more back)

vlan-value-read : (bytes : List ℕ) (s : BridgeVlanXstats) → AreBytes bytes → vlan_at bytes ≡ Ok s → vlan.ReadsBack s
vlan-value-read bytes s are is =
    subst (λ (t : BridgeVlanXstats). vlan.ReadsBack t) (sized-read 40 bytes (vlan.vlan_at bytes) s is) (vlan-read bytes are)

mcast-value-again : (s : BridgeMcastStats) → mcast.ReadsBack s → mcast_at (mcast.mcast_text s) ≡ Ok s
mcast-value-again s back = sized-again 240 mcast.mcast_text mcast.mcast_at s (length-mcast s) (λ more. mcast-again s more back)

mcast-value-read : (bytes : List ℕ) (s : BridgeMcastStats) → AreBytes bytes → mcast_at bytes ≡ Ok s → mcast.ReadsBack s
mcast-value-read bytes s are is =
    subst (λ (t : BridgeMcastStats). mcast.ReadsBack t) (sized-read 240 bytes (mcast.mcast_at bytes) s is) (mcast-read bytes are)

stp-value-again : (s : BridgeStpXstats) → stp.ReadsBack s → stp_at (stp.stp_text s) ≡ Ok s
stp-value-again s back = sized-again 48 stp.stp_text stp.stp_at s (length-stp s) (λ more. stp-again s more back)

stp-value-read : (bytes : List ℕ) (s : BridgeStpXstats) → AreBytes bytes → stp_at bytes ≡ Ok s → stp.ReadsBack s
stp-value-read bytes s are is =
    subst (λ (t : BridgeStpXstats). stp.ReadsBack t) (sized-read 48 bytes (stp.stp_at bytes) s is) (stp-read bytes are)

-- ---- attributes

again : (x : BridgeXstat) → kind x < 65536 → length (value x) ≤ 65531
    → ((o : BridgeXstat) → read_by rows (kind x % 16384) (value x) o ≡ Ok x) → ReadsAgain kind value attribute_at x
again x fits short is = row-again rows (λ n. Other n) kind value x fits short is

-- An attribute that reads back does so, where its length fits its field.
pub attribute-again : (p : Unit {0}) (x : BridgeXstat) → ReadsBack x → length (value x) ≤ 65531
    → ReadsAgain kind value attribute_at x
attribute-again p (Vlan s) h short = again (Vlan s) (omega arith) short (λ o. rw (vlan-value-again s h) refl)
attribute-again p (Mcast s) h short = again (Mcast s) (omega arith) short (λ o. rw (mcast-value-again s h) refl)
attribute-again p (Stp s) h short = again (Stp s) (omega arith) short (λ o. rw (stp-value-again s h) refl)
attribute-again p (Other n) h short = other-again rows (λ n. Other n) kind value n refl refl h short

-- An attribute that was read from bytes reads back.
pub attribute-read : (p : Unit {0}) (bytes : List ℕ) (x : BridgeXstat) → AreBytes bytes → is_checked bytes ≡ true
    → attribute_at bytes ≡ Ok x → ReadsBack x
attribute-read p bytes x are checked is =
    attribute-reads ReadsBack rows (λ n. Other n) bytes x are (
    row-reads (λ s. vlan.ReadsBack s) ReadsBack vlan_at (λ s. Vlan s) 1 vlan-value-read (λ s fits. fits)
    & row-reads (λ s. mcast.ReadsBack s) ReadsBack mcast_at (λ s. Mcast s) 2 mcast-value-read (λ s fits. fits)
    & row-reads (λ s. stp.ReadsBack s) ReadsBack stp_at (λ s. Stp s) 4 stp-value-read (λ s fits. fits)
    & tt
    ) (λ n none. none) is
