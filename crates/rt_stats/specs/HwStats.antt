-- Counters that hardware keeps of a link: what is read and what is written.
use Rattle.std.specs.Prelude.{◌<◌, ◌^◌, ℕ, List, [], ◌∷◌}
use Rattle.nl_core.specs.Numbers.{words64, u64_at}
use Rattle.rt_stats.specs.declared.stats.hw_stats.HwStats64.{HwStats64}

-- The 72 bytes of the counters.
unfoldable pub hw_stats_text : HwStats64 → List ℕ
hw_stats_text s =
    words64 (s.rx_packets ∷ s.tx_packets ∷ s.rx_bytes ∷ s.tx_bytes ∷ s.rx_errors ∷ s.tx_errors ∷ s.rx_dropped
    ∷ s.tx_dropped ∷ s.multicast ∷ [])

-- The counters at the front of bytes.
abbrev pub hw_stats_at : List ℕ → HwStats64
hw_stats_at bytes = record {
  rx_packets = u64_at bytes 0;
  tx_packets = u64_at bytes 8;
  rx_bytes = u64_at bytes 16;
  tx_bytes = u64_at bytes 24;
  rx_errors = u64_at bytes 32;
  tx_errors = u64_at bytes 40;
  rx_dropped = u64_at bytes 48;
  tx_dropped = u64_at bytes 56;
  multicast = u64_at bytes 64;
}

-- The counters fit their fields.
pub record ReadsBack (s : HwStats64) : Type 0 where
  pub of_rx_packets : s.rx_packets < 2 ^ 64
  pub of_tx_packets : s.tx_packets < 2 ^ 64
  pub of_rx_bytes : s.rx_bytes < 2 ^ 64
  pub of_tx_bytes : s.tx_bytes < 2 ^ 64
  pub of_rx_errors : s.rx_errors < 2 ^ 64
  pub of_tx_errors : s.tx_errors < 2 ^ 64
  pub of_rx_dropped : s.rx_dropped < 2 ^ 64
  pub of_tx_dropped : s.tx_dropped < 2 ^ 64
  pub of_multicast : s.multicast < 2 ^ 64
