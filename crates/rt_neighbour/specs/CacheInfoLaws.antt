-- The times of a neighbour read back, and those that were read from bytes do.
use Rattle.std.proofs.Common.{◌≡◌, ℕ, List, ◌++◌, length, refl}
use Rattle.std.proofs.lemmas.Nat.{from_le_bytes-to_le_bytes_4}
use Rattle.nl_core.specs.Numbers.{AreBytes, le32, u32_at}
use Rattle.nl_core.proofs.Bytes.{u32-below}
use Rattle.rt_neighbour.specs.declared.cache_info.NeighbourCacheInfo.{NeighbourCacheInfo}
use Rattle.rt_neighbour.specs.CacheInfo.{cache_info_text, cache_info_at, ReadsBack}

-- The times have 16 bytes.
pub length-cache_info : (h : NeighbourCacheInfo) → length (cache_info_text h) ≡ 16
unfolding cache_info_text le32
length-cache_info h = refl

-- The numbers of the times.
numbers : (h : NeighbourCacheInfo) (more : List ℕ) → ReadsBack h
    → (u32_at (cache_info_text h ++ more) 0 ≡ h.confirmed)
    × (u32_at (cache_info_text h ++ more) 4 ≡ h.used)
    × (u32_at (cache_info_text h ++ more) 8 ≡ h.updated)
    × (u32_at (cache_info_text h ++ more) 12 ≡ h.refcnt)
unfolding cache_info_text le32 u32_at
numbers h more back = (
  from_le_bytes-to_le_bytes_4 h.confirmed back.of_confirmed,
  from_le_bytes-to_le_bytes_4 h.used back.of_used,
  from_le_bytes-to_le_bytes_4 h.updated back.of_updated,
  from_le_bytes-to_le_bytes_4 h.refcnt back.of_refcnt,
)

-- The times read back, whatever follows it.
pub cache_info-again : (h : NeighbourCacheInfo) (more : List ℕ) → ReadsBack h → cache_info_at (cache_info_text h ++ more) ≡ h
cache_info-again h more back =
    let n = numbers h more back in
    rw (n.0, n.1, n.2, n.3) refl

-- The times that were read from bytes read back.
pub cache_info-read : (bytes : List ℕ) → AreBytes bytes → ReadsBack (cache_info_at bytes)
cache_info-read bytes are = record {
  of_confirmed = u32-below bytes 0 are;
  of_used = u32-below bytes 4 are;
  of_updated = u32-below bytes 8 are;
  of_refcnt = u32-below bytes 12 are;
}
