-- Counters of the spanning tree on a port of a bridge: what is read and what is written.
use Rattle.std.specs.Prelude.{◌<◌, ◌^◌, ℕ, List, [], ◌∷◌}
use Rattle.nl_core.specs.Numbers.{words64, u64_at}
use Rattle.rt_link_xstats.specs.declared.bridge.stp.BridgeStpXstats.{BridgeStpXstats}

-- The 48 bytes of the counters.
unfoldable pub stp_text : BridgeStpXstats → List ℕ
stp_text s =
    words64 (s.transition_blk ∷ s.transition_fwd ∷ s.rx_bpdu ∷ s.tx_bpdu ∷ s.rx_tcn ∷ s.tx_tcn ∷ [])

-- The counters at the front of bytes.
abbrev pub stp_at : List ℕ → BridgeStpXstats
stp_at bytes = record {
  transition_blk = u64_at bytes 0;
  transition_fwd = u64_at bytes 8;
  rx_bpdu = u64_at bytes 16;
  tx_bpdu = u64_at bytes 24;
  rx_tcn = u64_at bytes 32;
  tx_tcn = u64_at bytes 40;
}

-- The counters fit their fields.
pub record ReadsBack (s : BridgeStpXstats) : Type 0 where
  pub of_transition_blk : s.transition_blk < 2 ^ 64
  pub of_transition_fwd : s.transition_fwd < 2 ^ 64
  pub of_rx_bpdu : s.rx_bpdu < 2 ^ 64
  pub of_tx_bpdu : s.tx_bpdu < 2 ^ 64
  pub of_rx_tcn : s.rx_tcn < 2 ^ 64
  pub of_tx_tcn : s.tx_tcn < 2 ^ 64
