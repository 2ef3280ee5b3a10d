-- The counters of MPLS on a link read back, and those that were read from bytes do.
use Rattle.std.proofs.Common.{◌≡◌, ℕ, List, ◌++◌, length, refl}
use Rattle.std.proofs.lemmas.Nat.{from_le_bytes-to_le_bytes_8}
use Rattle.nl_core.specs.Numbers.{AreBytes, le64, u64_at, words64}
use Rattle.nl_core.proofs.Bytes.{u64-below}
use Rattle.rt_stats.specs.declared.stats.mpls.MplsLinkStats.{MplsLinkStats}
use Rattle.rt_stats.specs.MplsLink.{mpls_text, mpls_at, ReadsBack}

-- The counters have 72 bytes.
pub length-mpls : (s : MplsLinkStats) → length (mpls_text s) ≡ 72
unfolding mpls_text words64 le64
length-mpls s = refl

-- The numbers of the counters.
numbers : (s : MplsLinkStats) (more : List ℕ) → ReadsBack s
    → (u64_at (mpls_text s ++ more) 0 ≡ s.rx_packets)
    × (u64_at (mpls_text s ++ more) 8 ≡ s.tx_packets)
    × (u64_at (mpls_text s ++ more) 16 ≡ s.rx_bytes)
    × (u64_at (mpls_text s ++ more) 24 ≡ s.tx_bytes)
    × (u64_at (mpls_text s ++ more) 32 ≡ s.rx_errors)
    × (u64_at (mpls_text s ++ more) 40 ≡ s.tx_errors)
    × (u64_at (mpls_text s ++ more) 48 ≡ s.rx_dropped)
    × (u64_at (mpls_text s ++ more) 56 ≡ s.tx_dropped)
    × (u64_at (mpls_text s ++ more) 64 ≡ s.rx_noroute)
unfolding mpls_text words64 le64 u64_at
numbers s more back = (
  from_le_bytes-to_le_bytes_8 s.rx_packets back.of_rx_packets,
  from_le_bytes-to_le_bytes_8 s.tx_packets back.of_tx_packets,
  from_le_bytes-to_le_bytes_8 s.rx_bytes back.of_rx_bytes,
  from_le_bytes-to_le_bytes_8 s.tx_bytes back.of_tx_bytes,
  from_le_bytes-to_le_bytes_8 s.rx_errors back.of_rx_errors,
  from_le_bytes-to_le_bytes_8 s.tx_errors back.of_tx_errors,
  from_le_bytes-to_le_bytes_8 s.rx_dropped back.of_rx_dropped,
  from_le_bytes-to_le_bytes_8 s.tx_dropped back.of_tx_dropped,
  from_le_bytes-to_le_bytes_8 s.rx_noroute back.of_rx_noroute,
)

-- The counters read back, whatever follows them.
pub mpls-again : (s : MplsLinkStats) (more : List ℕ) → ReadsBack s → mpls_at (mpls_text s ++ more) ≡ s
mpls-again s more back =
    let n = numbers s more back in
    rw (n.0, n.1, n.2, n.3, n.4, n.5, n.6, n.7, n.8) refl

-- Counters that were read from bytes read back.
pub mpls-read : (bytes : List ℕ) → AreBytes bytes → ReadsBack (mpls_at bytes)
mpls-read bytes are = record {
  of_rx_packets = u64-below bytes 0 are;
  of_tx_packets = u64-below bytes 8 are;
  of_rx_bytes = u64-below bytes 16 are;
  of_tx_bytes = u64-below bytes 24 are;
  of_rx_errors = u64-below bytes 32 are;
  of_tx_errors = u64-below bytes 40 are;
  of_rx_dropped = u64-below bytes 48 are;
  of_tx_dropped = u64-below bytes 56 are;
  of_rx_noroute = u64-below bytes 64 are;
}
