-- Counters of MPLS on a link: what is read and what is written.
use Rattle.std.specs.Prelude.{◌<◌, ◌^◌, ℕ, List, [], ◌∷◌}
use Rattle.nl_core.specs.Numbers.{words64, u64_at}
use Rattle.rt_stats.specs.declared.stats.mpls.MplsLinkStats.{MplsLinkStats}

-- The 72 bytes of the counters.
unfoldable pub mpls_text : MplsLinkStats → List ℕ
mpls_text s =
    words64 (s.rx_packets ∷ s.tx_packets ∷ s.rx_bytes ∷ s.tx_bytes ∷ s.rx_errors ∷ s.tx_errors ∷ s.rx_dropped
    ∷ s.tx_dropped ∷ s.rx_noroute ∷ [])

-- The counters at the front of bytes.
abbrev pub mpls_at : List ℕ → MplsLinkStats
mpls_at bytes = record {
  rx_packets = u64_at bytes 0;
  tx_packets = u64_at bytes 8;
  rx_bytes = u64_at bytes 16;
  tx_bytes = u64_at bytes 24;
  rx_errors = u64_at bytes 32;
  tx_errors = u64_at bytes 40;
  rx_dropped = u64_at bytes 48;
  tx_dropped = u64_at bytes 56;
  rx_noroute = u64_at bytes 64;
}

-- The counters fit their fields.
pub record ReadsBack (s : MplsLinkStats) : Type 0 where
  pub of_rx_packets : s.rx_packets < 2 ^ 64
  pub of_tx_packets : s.tx_packets < 2 ^ 64
  pub of_rx_bytes : s.rx_bytes < 2 ^ 64
  pub of_tx_bytes : s.tx_bytes < 2 ^ 64
  pub of_rx_errors : s.rx_errors < 2 ^ 64
  pub of_tx_errors : s.tx_errors < 2 ^ 64
  pub of_rx_dropped : s.rx_dropped < 2 ^ 64
  pub of_tx_dropped : s.tx_dropped < 2 ^ 64
  pub of_rx_noroute : s.rx_noroute < 2 ^ 64
