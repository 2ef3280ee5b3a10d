-- The lifetimes of a prefix read back, and those that were read from bytes do.
use Rattle.std.proofs.Common.{◌≡◌, ℕ, List, ◌++◌, length, refl}
use Rattle.std.proofs.lemmas.Nat.{from_le_bytes-to_le_bytes_4}
use Rattle.nl_core.specs.Numbers.{AreBytes, le32, u32_at}
use Rattle.nl_core.proofs.Bytes.{u32-below}
use Rattle.rt_wire.specs.declared.prefix.cache_info.CacheInfo.{CacheInfo}
use Rattle.rt_wire.specs.CacheInfo.{cache_info_text, cache_info_at, ReadsBack}

-- The lifetimes have 8 bytes.
pub length-cache_info : (h : CacheInfo) → length (cache_info_text h) ≡ 8
unfolding cache_info_text le32
length-cache_info h = refl

-- The numbers of the lifetimes.
numbers : (h : CacheInfo) (more : List ℕ) → ReadsBack h
    → (u32_at (cache_info_text h ++ more) 0 ≡ h.preferred_time)
    × (u32_at (cache_info_text h ++ more) 4 ≡ h.valid_time)
unfolding cache_info_text le32 u32_at
numbers h more back = (
  from_le_bytes-to_le_bytes_4 h.preferred_time back.of_preferred_time,
  from_le_bytes-to_le_bytes_4 h.valid_time back.of_valid_time,
)

-- The lifetimes read back, whatever follows it.
pub cache_info-again : (h : CacheInfo) (more : List ℕ) → ReadsBack h → cache_info_at (cache_info_text h ++ more) ≡ h
cache_info-again h more back =
    let n = numbers h more back in
    rw (n.0, n.1) refl

-- The lifetimes that were read from bytes read back.
pub cache_info-read : (bytes : List ℕ) → AreBytes bytes → ReadsBack (cache_info_at bytes)
cache_info-read bytes are = record {
  of_preferred_time = u32-below bytes 0 are;
  of_valid_time = u32-below bytes 4 are;
}
