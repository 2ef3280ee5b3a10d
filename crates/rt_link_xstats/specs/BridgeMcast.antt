-- Counters of multicast of a bridge or of one of its ports: what is read and what is written.
use Rattle.std.specs.Prelude.{◌<◌, ◌^◌, ℕ, List, [], ◌∷◌}
use Rattle.nl_core.specs.Numbers.{words64, u64_at}
use Rattle.rt_link_xstats.specs.declared.bridge.mcast.BridgeMcastStats.{BridgeMcastStats}

-- The 240 bytes of the counters.
unfoldable pub mcast_text : BridgeMcastStats → List ℕ
mcast_text s =
    words64 (s.igmp_v1queries_rx ∷ s.igmp_v1queries_tx ∷ s.igmp_v2queries_rx ∷ s.igmp_v2queries_tx
    ∷ s.igmp_v3queries_rx ∷ s.igmp_v3queries_tx ∷ s.igmp_leaves_rx ∷ s.igmp_leaves_tx ∷ s.igmp_v1reports_rx
    ∷ s.igmp_v1reports_tx ∷ s.igmp_v2reports_rx ∷ s.igmp_v2reports_tx ∷ s.igmp_v3reports_rx ∷ s.igmp_v3reports_tx
    ∷ s.igmp_parse_errors ∷ s.mld_v1queries_rx ∷ s.mld_v1queries_tx ∷ s.mld_v2queries_rx ∷ s.mld_v2queries_tx
    ∷ s.mld_leaves_rx ∷ s.mld_leaves_tx ∷ s.mld_v1reports_rx ∷ s.mld_v1reports_tx ∷ s.mld_v2reports_rx
    ∷ s.mld_v2reports_tx ∷ s.mld_parse_errors ∷ s.mcast_bytes_rx ∷ s.mcast_bytes_tx ∷ s.mcast_packets_rx
    ∷ s.mcast_packets_tx ∷ [])

-- The counters at the front of bytes.
abbrev pub mcast_at : List ℕ → BridgeMcastStats
mcast_at bytes = record {
  igmp_v1queries_rx = u64_at bytes 0;
  igmp_v1queries_tx = u64_at bytes 8;
  igmp_v2queries_rx = u64_at bytes 16;
  igmp_v2queries_tx = u64_at bytes 24;
  igmp_v3queries_rx = u64_at bytes 32;
  igmp_v3queries_tx = u64_at bytes 40;
  igmp_leaves_rx = u64_at bytes 48;
  igmp_leaves_tx = u64_at bytes 56;
  igmp_v1reports_rx = u64_at bytes 64;
  igmp_v1reports_tx = u64_at bytes 72;
  igmp_v2reports_rx = u64_at bytes 80;
  igmp_v2reports_tx = u64_at bytes 88;
  igmp_v3reports_rx = u64_at bytes 96;
  igmp_v3reports_tx = u64_at bytes 104;
  igmp_parse_errors = u64_at bytes 112;
  mld_v1queries_rx = u64_at bytes 120;
  mld_v1queries_tx = u64_at bytes 128;
  mld_v2queries_rx = u64_at bytes 136;
  mld_v2queries_tx = u64_at bytes 144;
  mld_leaves_rx = u64_at bytes 152;
  mld_leaves_tx = u64_at bytes 160;
  mld_v1reports_rx = u64_at bytes 168;
  mld_v1reports_tx = u64_at bytes 176;
  mld_v2reports_rx = u64_at bytes 184;
  mld_v2reports_tx = u64_at bytes 192;
  mld_parse_errors = u64_at bytes 200;
  mcast_bytes_rx = u64_at bytes 208;
  mcast_bytes_tx = u64_at bytes 216;
  mcast_packets_rx = u64_at bytes 224;
  mcast_packets_tx = u64_at bytes 232;
}

-- The counters fit their fields.
pub record ReadsBack (s : BridgeMcastStats) : Type 0 where
  pub of_igmp_v1queries_rx : s.igmp_v1queries_rx < 2 ^ 64
  pub of_igmp_v1queries_tx : s.igmp_v1queries_tx < 2 ^ 64
  pub of_igmp_v2queries_rx : s.igmp_v2queries_rx < 2 ^ 64
  pub of_igmp_v2queries_tx : s.igmp_v2queries_tx < 2 ^ 64
  pub of_igmp_v3queries_rx : s.igmp_v3queries_rx < 2 ^ 64
  pub of_igmp_v3queries_tx : s.igmp_v3queries_tx < 2 ^ 64
  pub of_igmp_leaves_rx : s.igmp_leaves_rx < 2 ^ 64
  pub of_igmp_leaves_tx : s.igmp_leaves_tx < 2 ^ 64
  pub of_igmp_v1reports_rx : s.igmp_v1reports_rx < 2 ^ 64
  pub of_igmp_v1reports_tx : s.igmp_v1reports_tx < 2 ^ 64
  pub of_igmp_v2reports_rx : s.igmp_v2reports_rx < 2 ^ 64
  pub of_igmp_v2reports_tx : s.igmp_v2reports_tx < 2 ^ 64
  pub of_igmp_v3reports_rx : s.igmp_v3reports_rx < 2 ^ 64
  pub of_igmp_v3reports_tx : s.igmp_v3reports_tx < 2 ^ 64
  pub of_igmp_parse_errors : s.igmp_parse_errors < 2 ^ 64
  pub of_mld_v1queries_rx : s.mld_v1queries_rx < 2 ^ 64
  pub of_mld_v1queries_tx : s.mld_v1queries_tx < 2 ^ 64
  pub of_mld_v2queries_rx : s.mld_v2queries_rx < 2 ^ 64
  pub of_mld_v2queries_tx : s.mld_v2queries_tx < 2 ^ 64
  pub of_mld_leaves_rx : s.mld_leaves_rx < 2 ^ 64
  pub of_mld_leaves_tx : s.mld_leaves_tx < 2 ^ 64
  pub of_mld_v1reports_rx : s.mld_v1reports_rx < 2 ^ 64
  pub of_mld_v1reports_tx : s.mld_v1reports_tx < 2 ^ 64
  pub of_mld_v2reports_rx : s.mld_v2reports_rx < 2 ^ 64
  pub of_mld_v2reports_tx : s.mld_v2reports_tx < 2 ^ 64
  pub of_mld_parse_errors : s.mld_parse_errors < 2 ^ 64
  pub of_mcast_bytes_rx : s.mcast_bytes_rx < 2 ^ 64
  pub of_mcast_bytes_tx : s.mcast_bytes_tx < 2 ^ 64
  pub of_mcast_packets_rx : s.mcast_packets_rx < 2 ^ 64
  pub of_mcast_packets_tx : s.mcast_packets_tx < 2 ^ 64
