-- The times of neighbours: what is read and what is written.
use Rattle.std.specs.Prelude.{◌<◌, ◌^◌, ℕ, List, ◌++◌}
use Rattle.nl_core.specs.Numbers.{le32, u32_at}
use Rattle.rt_neighbour.specs.declared.cache_info.NeighbourCacheInfo.{NeighbourCacheInfo}

-- The 16 bytes of the times.
unfoldable pub cache_info_text : NeighbourCacheInfo → List ℕ
cache_info_text h = le32 h.confirmed ++ le32 h.used ++ le32 h.updated ++ le32 h.refcnt

-- The times at the front of bytes.
abbrev pub cache_info_at : List ℕ → NeighbourCacheInfo
cache_info_at bytes = record {
  confirmed = u32_at bytes 0;
  used = u32_at bytes 4;
  updated = u32_at bytes 8;
  refcnt = u32_at bytes 12;
}

-- The times and the count fit their fields.
pub record ReadsBack (h : NeighbourCacheInfo) : Type 0 where
  pub of_confirmed : h.confirmed < 2 ^ 32
  pub of_used : h.used < 2 ^ 32
  pub of_updated : h.updated < 2 ^ 32
  pub of_refcnt : h.refcnt < 2 ^ 32
