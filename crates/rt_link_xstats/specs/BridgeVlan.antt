-- Counters of a VLAN of a bridge: what is read and what is written.
use Rattle.std.specs.Prelude.{◌<◌, ◌^◌, ℕ, List, [], ◌∷◌, ◌++◌}
use Rattle.nl_core.specs.Numbers.{le16, u16_at, le64, u64_at}
use Rattle.rt_link_xstats.specs.declared.bridge.vlan.BridgeVlanXstats.{BridgeVlanXstats}

-- The 40 bytes of the counters.
unfoldable pub vlan_text : BridgeVlanXstats → List ℕ
vlan_text s =
    le64 s.rx_bytes ++ le64 s.rx_packets ++ le64 s.tx_bytes ++ le64 s.tx_packets ++ le16 s.vid ++ le16 s.flags
    ++ (0 ∷ 0 ∷ 0 ∷ 0 ∷ [])

-- The counters at the front of bytes.
abbrev pub vlan_at : List ℕ → BridgeVlanXstats
vlan_at bytes = record {
  rx_bytes = u64_at bytes 0;
  rx_packets = u64_at bytes 8;
  tx_bytes = u64_at bytes 16;
  tx_packets = u64_at bytes 24;
  vid = u16_at bytes 32;
  flags = u16_at bytes 34;
}

-- The counters fit their fields.
pub record ReadsBack (s : BridgeVlanXstats) : Type 0 where
  pub of_rx_bytes : s.rx_bytes < 2 ^ 64
  pub of_rx_packets : s.rx_packets < 2 ^ 64
  pub of_tx_bytes : s.tx_bytes < 2 ^ 64
  pub of_tx_packets : s.tx_packets < 2 ^ 64
  pub of_vid : s.vid < 2 ^ 16
  pub of_flags : s.flags < 2 ^ 16
