-- The counters of a neighbour table read back, and those that were read from bytes do.
use Rattle.std.proofs.Common.{◌≡◌, ℕ, List, ◌++◌, length, refl}
use Rattle.std.proofs.lemmas.Nat.{from_le_bytes-to_le_bytes_8}
use Rattle.nl_core.specs.Numbers.{AreBytes, le64, u64_at, words64}
use Rattle.nl_core.proofs.Bytes.{u64-below}
use Rattle.rt_neighbour_table.specs.declared.stats.NeighbourTableStats.{NeighbourTableStats}
use Rattle.rt_neighbour_table.specs.Stats.{stats_text, stats_at, ReadsBack}

-- The counters have 88 bytes.
pub length-stats : (h : NeighbourTableStats) → length (stats_text h) ≡ 88
unfolding stats_text words64 le64
length-stats h = refl

-- The numbers of the counters.
numbers : (h : NeighbourTableStats) (more : List ℕ) → ReadsBack h
    → (u64_at (stats_text h ++ more) 0 ≡ h.allocs)
    × (u64_at (stats_text h ++ more) 8 ≡ h.destroys)
    × (u64_at (stats_text h ++ more) 16 ≡ h.hash_grows)
    × (u64_at (stats_text h ++ more) 24 ≡ h.res_failed)
    × (u64_at (stats_text h ++ more) 32 ≡ h.lookups)
    × (u64_at (stats_text h ++ more) 40 ≡ h.hits)
    × (u64_at (stats_text h ++ more) 48 ≡ h.multicast_probes_received)
    × (u64_at (stats_text h ++ more) 56 ≡ h.unicast_probes_received)
    × (u64_at (stats_text h ++ more) 64 ≡ h.periodic_gc_runs)
    × (u64_at (stats_text h ++ more) 72 ≡ h.forced_gc_runs)
    × (u64_at (stats_text h ++ more) 80 ≡ h.table_fulls)
unfolding stats_text words64 le64 u64_at
numbers h more back = (
  from_le_bytes-to_le_bytes_8 h.allocs back.of_allocs,
  from_le_bytes-to_le_bytes_8 h.destroys back.of_destroys,
  from_le_bytes-to_le_bytes_8 h.hash_grows back.of_hash_grows,
  from_le_bytes-to_le_bytes_8 h.res_failed back.of_res_failed,
  from_le_bytes-to_le_bytes_8 h.lookups back.of_lookups,
  from_le_bytes-to_le_bytes_8 h.hits back.of_hits,
  from_le_bytes-to_le_bytes_8 h.multicast_probes_received back.of_multicast_probes_received,
  from_le_bytes-to_le_bytes_8 h.unicast_probes_received back.of_unicast_probes_received,
  from_le_bytes-to_le_bytes_8 h.periodic_gc_runs back.of_periodic_gc_runs,
  from_le_bytes-to_le_bytes_8 h.forced_gc_runs back.of_forced_gc_runs,
  from_le_bytes-to_le_bytes_8 h.table_fulls back.of_table_fulls,
)

-- The counters read back, whatever follows it.
pub stats-again : (h : NeighbourTableStats) (more : List ℕ) → ReadsBack h → stats_at (stats_text h ++ more) ≡ h
stats-again h more back =
    let n = numbers h more back in
    rw (n.0, n.1, n.2, n.3, n.4, n.5, n.6, n.7, n.8, n.9, n.10) refl

-- The counters that were read from bytes read back.
pub stats-read : (bytes : List ℕ) → AreBytes bytes → ReadsBack (stats_at bytes)
stats-read bytes are = record {
  of_allocs = u64-below bytes 0 are;
  of_destroys = u64-below bytes 8 are;
  of_hash_grows = u64-below bytes 16 are;
  of_res_failed = u64-below bytes 24 are;
  of_lookups = u64-below bytes 32 are;
  of_hits = u64-below bytes 40 are;
  of_multicast_probes_received = u64-below bytes 48 are;
  of_unicast_probes_received = u64-below bytes 56 are;
  of_periodic_gc_runs = u64-below bytes 64 are;
  of_forced_gc_runs = u64-below bytes 72 are;
  of_table_fulls = u64-below bytes 80 are;
}
