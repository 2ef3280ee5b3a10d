-- The lifetimes of prefixes: what is read and what is written.
use Rattle.std.specs.Prelude.{◌<◌, ◌^◌, ℕ, List, ◌++◌}
use Rattle.nl_core.specs.Numbers.{le32, u32_at}
use Rattle.rt_wire.specs.declared.prefix.cache_info.CacheInfo.{CacheInfo}

-- The 8 bytes of the lifetimes.
unfoldable pub cache_info_text : CacheInfo → List ℕ
cache_info_text h = le32 h.preferred_time ++ le32 h.valid_time

-- The lifetimes at the front of bytes.
abbrev pub cache_info_at : List ℕ → CacheInfo
cache_info_at bytes = record {
  preferred_time = u32_at bytes 0;
  valid_time = u32_at bytes 4;
}

-- The lifetimes fit their fields.
pub record ReadsBack (h : CacheInfo) : Type 0 where
  pub of_preferred_time : h.preferred_time < 2 ^ 32
  pub of_valid_time : h.valid_time < 2 ^ 32
