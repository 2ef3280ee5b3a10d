-- Counters of neighbour tables: what is read and what is written.
use Rattle.std.specs.Prelude.{◌<◌, ◌^◌, ℕ, List, [], ◌∷◌}
use Rattle.nl_core.specs.Numbers.{words64, u64_at}
use Rattle.rt_neighbour_table.specs.declared.stats.NeighbourTableStats.{NeighbourTableStats}

-- The 88 bytes of the counters.
unfoldable pub stats_text : NeighbourTableStats → List ℕ
stats_text s =
    words64 (s.allocs ∷ s.destroys ∷ s.hash_grows ∷ s.res_failed ∷ s.lookups ∷ s.hits ∷ s.multicast_probes_received
    ∷ s.unicast_probes_received ∷ s.periodic_gc_runs ∷ s.forced_gc_runs ∷ s.table_fulls ∷ [])

-- The counters at the front of bytes.
abbrev pub stats_at : List ℕ → NeighbourTableStats
stats_at bytes = record {
  allocs = u64_at bytes 0;
  destroys = u64_at bytes 8;
  hash_grows = u64_at bytes 16;
  res_failed = u64_at bytes 24;
  lookups = u64_at bytes 32;
  hits = u64_at bytes 40;
  multicast_probes_received = u64_at bytes 48;
  unicast_probes_received = u64_at bytes 56;
  periodic_gc_runs = u64_at bytes 64;
  forced_gc_runs = u64_at bytes 72;
  table_fulls = u64_at bytes 80;
}

-- The counters fit their fields.
pub record ReadsBack (h : NeighbourTableStats) : Type 0 where
  pub of_allocs : h.allocs < 2 ^ 64
  pub of_destroys : h.destroys < 2 ^ 64
  pub of_hash_grows : h.hash_grows < 2 ^ 64
  pub of_res_failed : h.res_failed < 2 ^ 64
  pub of_lookups : h.lookups < 2 ^ 64
  pub of_hits : h.hits < 2 ^ 64
  pub of_multicast_probes_received : h.multicast_probes_received < 2 ^ 64
  pub of_unicast_probes_received : h.unicast_probes_received < 2 ^ 64
  pub of_periodic_gc_runs : h.periodic_gc_runs < 2 ^ 64
  pub of_forced_gc_runs : h.forced_gc_runs < 2 ^ 64
  pub of_table_fulls : h.table_fulls < 2 ^ 64
