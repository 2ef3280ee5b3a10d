-- The counters of multicast read back, and those that were read from bytes do.
use Rattle.std.proofs.Common.{◌≡◌, ℕ, List, ◌++◌, length, refl}
use Rattle.std.proofs.lemmas.Nat.{from_le_bytes-to_le_bytes_8}
use Rattle.nl_core.specs.Numbers.{AreBytes, le64, u64_at, words64}
use Rattle.nl_core.proofs.Bytes.{u64-below}
use Rattle.rt_link_xstats.specs.declared.bridge.mcast.BridgeMcastStats.{BridgeMcastStats}
use Rattle.rt_link_xstats.specs.BridgeMcast.{mcast_text, mcast_at, ReadsBack}

-- The counters have 240 bytes.
pub length-mcast : (s : BridgeMcastStats) → length (mcast_text s) ≡ 240
unfolding mcast_text words64 le64
length-mcast s = refl

-- The numbers of the counters.
numbers : (s : BridgeMcastStats) (more : List ℕ) → ReadsBack s
    → (u64_at (mcast_text s ++ more) 0 ≡ s.igmp_v1queries_rx)
    × (u64_at (mcast_text s ++ more) 8 ≡ s.igmp_v1queries_tx)
    × (u64_at (mcast_text s ++ more) 16 ≡ s.igmp_v2queries_rx)
    × (u64_at (mcast_text s ++ more) 24 ≡ s.igmp_v2queries_tx)
    × (u64_at (mcast_text s ++ more) 32 ≡ s.igmp_v3queries_rx)
    × (u64_at (mcast_text s ++ more) 40 ≡ s.igmp_v3queries_tx)
    × (u64_at (mcast_text s ++ more) 48 ≡ s.igmp_leaves_rx)
    × (u64_at (mcast_text s ++ more) 56 ≡ s.igmp_leaves_tx)
    × (u64_at (mcast_text s ++ more) 64 ≡ s.igmp_v1reports_rx)
    × (u64_at (mcast_text s ++ more) 72 ≡ s.igmp_v1reports_tx)
    × (u64_at (mcast_text s ++ more) 80 ≡ s.igmp_v2reports_rx)
    × (u64_at (mcast_text s ++ more) 88 ≡ s.igmp_v2reports_tx)
    × (u64_at (mcast_text s ++ more) 96 ≡ s.igmp_v3reports_rx)
    × (u64_at (mcast_text s ++ more) 104 ≡ s.igmp_v3reports_tx)
    × (u64_at (mcast_text s ++ more) 112 ≡ s.igmp_parse_errors)
    × (u64_at (mcast_text s ++ more) 120 ≡ s.mld_v1queries_rx)
    × (u64_at (mcast_text s ++ more) 128 ≡ s.mld_v1queries_tx)
    × (u64_at (mcast_text s ++ more) 136 ≡ s.mld_v2queries_rx)
    × (u64_at (mcast_text s ++ more) 144 ≡ s.mld_v2queries_tx)
    × (u64_at (mcast_text s ++ more) 152 ≡ s.mld_leaves_rx)
    × (u64_at (mcast_text s ++ more) 160 ≡ s.mld_leaves_tx)
    × (u64_at (mcast_text s ++ more) 168 ≡ s.mld_v1reports_rx)
    × (u64_at (mcast_text s ++ more) 176 ≡ s.mld_v1reports_tx)
    × (u64_at (mcast_text s ++ more) 184 ≡ s.mld_v2reports_rx)
    × (u64_at (mcast_text s ++ more) 192 ≡ s.mld_v2reports_tx)
    × (u64_at (mcast_text s ++ more) 200 ≡ s.mld_parse_errors)
    × (u64_at (mcast_text s ++ more) 208 ≡ s.mcast_bytes_rx)
    × (u64_at (mcast_text s ++ more) 216 ≡ s.mcast_bytes_tx)
    × (u64_at (mcast_text s ++ more) 224 ≡ s.mcast_packets_rx)
    × (u64_at (mcast_text s ++ more) 232 ≡ s.mcast_packets_tx)
unfolding mcast_text words64 le64 u64_at
numbers s more back = (
  from_le_bytes-to_le_bytes_8 s.igmp_v1queries_rx back.of_igmp_v1queries_rx,
  from_le_bytes-to_le_bytes_8 s.igmp_v1queries_tx back.of_igmp_v1queries_tx,
  from_le_bytes-to_le_bytes_8 s.igmp_v2queries_rx back.of_igmp_v2queries_rx,
  from_le_bytes-to_le_bytes_8 s.igmp_v2queries_tx back.of_igmp_v2queries_tx,
  from_le_bytes-to_le_bytes_8 s.igmp_v3queries_rx back.of_igmp_v3queries_rx,
  from_le_bytes-to_le_bytes_8 s.igmp_v3queries_tx back.of_igmp_v3queries_tx,
  from_le_bytes-to_le_bytes_8 s.igmp_leaves_rx back.of_igmp_leaves_rx,
  from_le_bytes-to_le_bytes_8 s.igmp_leaves_tx back.of_igmp_leaves_tx,
  from_le_bytes-to_le_bytes_8 s.igmp_v1reports_rx back.of_igmp_v1reports_rx,
  from_le_bytes-to_le_bytes_8 s.igmp_v1reports_tx back.of_igmp_v1reports_tx,
  from_le_bytes-to_le_bytes_8 s.igmp_v2reports_rx back.of_igmp_v2reports_rx,
  from_le_bytes-to_le_bytes_8 s.igmp_v2reports_tx back.of_igmp_v2reports_tx,
  from_le_bytes-to_le_bytes_8 s.igmp_v3reports_rx back.of_igmp_v3reports_rx,
  from_le_bytes-to_le_bytes_8 s.igmp_v3reports_tx back.of_igmp_v3reports_tx,
  from_le_bytes-to_le_bytes_8 s.igmp_parse_errors back.of_igmp_parse_errors,
  from_le_bytes-to_le_bytes_8 s.mld_v1queries_rx back.of_mld_v1queries_rx,
  from_le_bytes-to_le_bytes_8 s.mld_v1queries_tx back.of_mld_v1queries_tx,
  from_le_bytes-to_le_bytes_8 s.mld_v2queries_rx back.of_mld_v2queries_rx,
  from_le_bytes-to_le_bytes_8 s.mld_v2queries_tx back.of_mld_v2queries_tx,
  from_le_bytes-to_le_bytes_8 s.mld_leaves_rx back.of_mld_leaves_rx,
  from_le_bytes-to_le_bytes_8 s.mld_leaves_tx back.of_mld_leaves_tx,
  from_le_bytes-to_le_bytes_8 s.mld_v1reports_rx back.of_mld_v1reports_rx,
  from_le_bytes-to_le_bytes_8 s.mld_v1reports_tx back.of_mld_v1reports_tx,
  from_le_bytes-to_le_bytes_8 s.mld_v2reports_rx back.of_mld_v2reports_rx,
  from_le_bytes-to_le_bytes_8 s.mld_v2reports_tx back.of_mld_v2reports_tx,
  from_le_bytes-to_le_bytes_8 s.mld_parse_errors back.of_mld_parse_errors,
  from_le_bytes-to_le_bytes_8 s.mcast_bytes_rx back.of_mcast_bytes_rx,
  from_le_bytes-to_le_bytes_8 s.mcast_bytes_tx back.of_mcast_bytes_tx,
  from_le_bytes-to_le_bytes_8 s.mcast_packets_rx back.of_mcast_packets_rx,
  from_le_bytes-to_le_bytes_8 s.mcast_packets_tx back.of_mcast_packets_tx,
)

-- The counters read back, whatever follows them.
pub mcast-again : (s : BridgeMcastStats) (more : List ℕ) → ReadsBack s → mcast_at (mcast_text s ++ more) ≡ s
mcast-again s more back =
    let n = numbers s more back in
    rw (
      n.0,
      n.1,
      n.2,
      n.3,
      n.4,
      n.5,
      n.6,
      n.7,
      n.8,
      n.9,
      n.10,
      n.11,
      n.12,
      n.13,
      n.14,
      n.15,
      n.16,
      n.17,
      n.18,
      n.19,
      n.20,
      n.21,
      n.22,
      n.23,
      n.24,
      n.25,
      n.26,
      n.27,
      n.28,
      n.29,
    ) refl

-- Counters that were read from bytes read back.
pub mcast-read : (bytes : List ℕ) → AreBytes bytes → ReadsBack (mcast_at bytes)
mcast-read bytes are = record {
  of_igmp_v1queries_rx = u64-below bytes 0 are;
  of_igmp_v1queries_tx = u64-below bytes 8 are;
  of_igmp_v2queries_rx = u64-below bytes 16 are;
  of_igmp_v2queries_tx = u64-below bytes 24 are;
  of_igmp_v3queries_rx = u64-below bytes 32 are;
  of_igmp_v3queries_tx = u64-below bytes 40 are;
  of_igmp_leaves_rx = u64-below bytes 48 are;
  of_igmp_leaves_tx = u64-below bytes 56 are;
  of_igmp_v1reports_rx = u64-below bytes 64 are;
  of_igmp_v1reports_tx = u64-below bytes 72 are;
  of_igmp_v2reports_rx = u64-below bytes 80 are;
  of_igmp_v2reports_tx = u64-below bytes 88 are;
  of_igmp_v3reports_rx = u64-below bytes 96 are;
  of_igmp_v3reports_tx = u64-below bytes 104 are;
  of_igmp_parse_errors = u64-below bytes 112 are;
  of_mld_v1queries_rx = u64-below bytes 120 are;
  of_mld_v1queries_tx = u64-below bytes 128 are;
  of_mld_v2queries_rx = u64-below bytes 136 are;
  of_mld_v2queries_tx = u64-below bytes 144 are;
  of_mld_leaves_rx = u64-below bytes 152 are;
  of_mld_leaves_tx = u64-below bytes 160 are;
  of_mld_v1reports_rx = u64-below bytes 168 are;
  of_mld_v1reports_tx = u64-below bytes 176 are;
  of_mld_v2reports_rx = u64-below bytes 184 are;
  of_mld_v2reports_tx = u64-below bytes 192 are;
  of_mld_parse_errors = u64-below bytes 200 are;
  of_mcast_bytes_rx = u64-below bytes 208 are;
  of_mcast_bytes_tx = u64-below bytes 216 are;
  of_mcast_packets_rx = u64-below bytes 224 are;
  of_mcast_packets_tx = u64-below bytes 232 are;
}
