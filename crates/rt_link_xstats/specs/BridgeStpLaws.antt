-- The counters of the spanning tree on a port read back, and those that were read from bytes do.
use Rattle.std.proofs.Common.{◌≡◌, ℕ, List, ◌++◌, length, refl}
use Rattle.std.proofs.lemmas.Nat.{from_le_bytes-to_le_bytes_8}
use Rattle.nl_core.specs.Numbers.{AreBytes, le64, u64_at, words64}
use Rattle.nl_core.proofs.Bytes.{u64-below}
use Rattle.rt_link_xstats.specs.declared.bridge.stp.BridgeStpXstats.{BridgeStpXstats}
use Rattle.rt_link_xstats.specs.BridgeStp.{stp_text, stp_at, ReadsBack}

-- The counters have 48 bytes.
pub length-stp : (s : BridgeStpXstats) → length (stp_text s) ≡ 48
unfolding stp_text words64 le64
length-stp s = refl

-- The numbers of the counters.
numbers : (s : BridgeStpXstats) (more : List ℕ) → ReadsBack s
    → (u64_at (stp_text s ++ more) 0 ≡ s.transition_blk)
    × (u64_at (stp_text s ++ more) 8 ≡ s.transition_fwd)
    × (u64_at (stp_text s ++ more) 16 ≡ s.rx_bpdu)
    × (u64_at (stp_text s ++ more) 24 ≡ s.tx_bpdu)
    × (u64_at (stp_text s ++ more) 32 ≡ s.rx_tcn)
    × (u64_at (stp_text s ++ more) 40 ≡ s.tx_tcn)
unfolding stp_text words64 le64 u64_at
numbers s more back = (
  from_le_bytes-to_le_bytes_8 s.transition_blk back.of_transition_blk,
  from_le_bytes-to_le_bytes_8 s.transition_fwd back.of_transition_fwd,
  from_le_bytes-to_le_bytes_8 s.rx_bpdu back.of_rx_bpdu,
  from_le_bytes-to_le_bytes_8 s.tx_bpdu back.of_tx_bpdu,
  from_le_bytes-to_le_bytes_8 s.rx_tcn back.of_rx_tcn,
  from_le_bytes-to_le_bytes_8 s.tx_tcn back.of_tx_tcn,
)

-- The counters read back, whatever follows them.
pub stp-again : (s : BridgeStpXstats) (more : List ℕ) → ReadsBack s → stp_at (stp_text s ++ more) ≡ s
stp-again s more back =
    let n = numbers s more back in
    rw (n.0, n.1, n.2, n.3, n.4, n.5) refl

-- Counters that were read from bytes read back.
pub stp-read : (bytes : List ℕ) → AreBytes bytes → ReadsBack (stp_at bytes)
stp-read bytes are = record {
  of_transition_blk = u64-below bytes 0 are;
  of_transition_fwd = u64-below bytes 8 are;
  of_rx_bpdu = u64-below bytes 16 are;
  of_tx_bpdu = u64-below bytes 24 are;
  of_rx_tcn = u64-below bytes 32 are;
  of_tx_tcn = u64-below bytes 40 are;
}
