-- Statistics of bridges: what is read and what is written.
use Rattle.std.specs.Prelude.{ℕ, List, [], ◌∷◌, Result}
use Rattle.nl_core.specs.declared.error.DecodeError.{DecodeError}
use Rattle.nl_core.specs.Reading.{sized}
use Rattle.rt_layout.specs.Rows.{Row, row, attribute_by, IsOfNoRow}
use Rattle.rt_link_xstats.specs.BridgeVlan as vlan
use Rattle.rt_link_xstats.specs.BridgeMcast as mcast
use Rattle.rt_link_xstats.specs.BridgeStp as stp
use Rattle.rt_link_xstats.specs.declared.bridge.vlan.BridgeVlanXstats.{BridgeVlanXstats}
use Rattle.rt_link_xstats.specs.declared.bridge.mcast.BridgeMcastStats.{BridgeMcastStats}
use Rattle.rt_link_xstats.specs.declared.bridge.stp.BridgeStpXstats.{BridgeStpXstats}
use Rattle.rt_link_xstats.specs.declared.bridge.attribute.BridgeValue.{BridgeValue}
use Rattle.rt_link_xstats.specs.declared.bridge.attribute.BridgeValue.TheVariants as written_as
use Rattle.rt_link_xstats.specs.declared.bridge.attribute.BridgeXstat.{BridgeXstat}
use Rattle.rt_link_xstats.specs.declared.bridge.attribute.BridgeXstat.TheVariants.{Vlan, Mcast, Stp, Other}

-- ---- values

-- The counters of a VLAN at the front of 40 or more bytes.
abbrev pub vlan_at : List ℕ → Result BridgeVlanXstats DecodeError
vlan_at bytes = sized 40 bytes (vlan.vlan_at bytes)

-- The counters of multicast at the front of 240 or more bytes.
abbrev pub mcast_at : List ℕ → Result BridgeMcastStats DecodeError
mcast_at bytes = sized 240 bytes (mcast.mcast_at bytes)

-- The counters of the spanning tree at the front of 48 or more bytes.
abbrev pub stp_at : List ℕ → Result BridgeStpXstats DecodeError
stp_at bytes = sized 48 bytes (stp.stp_at bytes)

-- The bytes of a value that is a struct.
abbrev pub bridge_value_text : BridgeValue → List ℕ
bridge_value_text (written_as.Vlan s) = vlan.vlan_text s.now
bridge_value_text (written_as.Mcast s) = mcast.mcast_text s.now
bridge_value_text (written_as.Stp s) = stp.stp_text s.now

-- ---- attributes

-- The type and the value as they are written.
abbrev pub written : BridgeXstat → ℕ × List ℕ
written (Vlan s) = (1, vlan.vlan_text s)
written (Mcast s) = (2, mcast.mcast_text s)
written (Stp s) = (4, stp.stp_text s)
written (Other n) = (n.kind, n.value)

-- What values are read as, by their types.
abbrev pub rows : List (Row BridgeXstat)
rows = row 1 vlan_at (λ s. Vlan s) ∷ row 2 mcast_at (λ s. Mcast s) ∷ row 4 stp_at (λ s. Stp s) ∷ []

-- The type as it is written.
abbrev pub kind : BridgeXstat → ℕ
kind x = (written x).0

-- The bytes of the value.
abbrev pub value : BridgeXstat → List ℕ
value x = (written x).1

-- What the attribute at the front of bytes is read as.
abbrev pub attribute_at : List ℕ → Result BridgeXstat DecodeError
attribute_at bytes = attribute_by rows (λ n. Other n) bytes

-- An attribute reads back: its counters fit their fields, and another one has a type that no row has.
abbrev pub ReadsBack : BridgeXstat → Type 0
ReadsBack (Vlan s) = vlan.ReadsBack s
ReadsBack (Mcast s) = mcast.ReadsBack s
ReadsBack (Stp s) = stp.ReadsBack s
ReadsBack (Other n) = IsOfNoRow rows n
