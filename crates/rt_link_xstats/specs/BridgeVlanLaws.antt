-- The counters of a VLAN read back, and those that were read from bytes do.
use Rattle.std.proofs.Common.{◌≡◌, ℕ, List, ◌++◌, length, refl}
use Rattle.std.proofs.lemmas.Nat.{from_le_bytes-to_le_bytes_2, from_le_bytes-to_le_bytes_8}
use Rattle.nl_core.specs.Numbers.{AreBytes, le16, le64, u16_at, u64_at}
use Rattle.nl_core.proofs.Bytes.{u16-below, u64-below}
use Rattle.rt_link_xstats.specs.declared.bridge.vlan.BridgeVlanXstats.{BridgeVlanXstats}
use Rattle.rt_link_xstats.specs.BridgeVlan.{vlan_text, vlan_at, ReadsBack}

-- The counters have 40 bytes.
pub length-vlan : (s : BridgeVlanXstats) → length (vlan_text s) ≡ 40
unfolding vlan_text le16 le64
length-vlan s = refl

-- The numbers of the counters.
numbers : (s : BridgeVlanXstats) (more : List ℕ) → ReadsBack s
    → (u64_at (vlan_text s ++ more) 0 ≡ s.rx_bytes)
    × (u64_at (vlan_text s ++ more) 8 ≡ s.rx_packets)
    × (u64_at (vlan_text s ++ more) 16 ≡ s.tx_bytes)
    × (u64_at (vlan_text s ++ more) 24 ≡ s.tx_packets)
    × (u16_at (vlan_text s ++ more) 32 ≡ s.vid)
    × (u16_at (vlan_text s ++ more) 34 ≡ s.flags)
unfolding vlan_text le16 le64 u16_at u64_at
numbers s more back = (
  from_le_bytes-to_le_bytes_8 s.rx_bytes back.of_rx_bytes,
  from_le_bytes-to_le_bytes_8 s.rx_packets back.of_rx_packets,
  from_le_bytes-to_le_bytes_8 s.tx_bytes back.of_tx_bytes,
  from_le_bytes-to_le_bytes_8 s.tx_packets back.of_tx_packets,
  from_le_bytes-to_le_bytes_2 s.vid back.of_vid,
  from_le_bytes-to_le_bytes_2 s.flags back.of_flags,
)

-- The counters read back, whatever follows them.
pub vlan-again : (s : BridgeVlanXstats) (more : List ℕ) → ReadsBack s → vlan_at (vlan_text s ++ more) ≡ s
vlan-again s more back =
    let n = numbers s more back in
    rw (n.0, n.1, n.2, n.3, n.4, n.5) refl

-- Counters that were read from bytes read back.
pub vlan-read : (bytes : List ℕ) → AreBytes bytes → ReadsBack (vlan_at bytes)
vlan-read bytes are = record {
  of_rx_bytes = u64-below bytes 0 are;
  of_rx_packets = u64-below bytes 8 are;
  of_tx_bytes = u64-below bytes 16 are;
  of_tx_packets = u64-below bytes 24 are;
  of_vid = u16-below bytes 32 are;
  of_flags = u16-below bytes 34 are;
}
