-- A configuration of a neighbour table reads back, and one that was read from bytes does.
use Rattle.std.proofs.Common.{◌≡◌, ℕ, List, ◌++◌, length, refl}
use Rattle.std.proofs.lemmas.Nat.{from_le_bytes-to_le_bytes_2, from_le_bytes-to_le_bytes_4}
use Rattle.nl_core.specs.Numbers.{AreBytes, le16, le32, u16_at, u32_at}
use Rattle.nl_core.proofs.Bytes.{u16-below, u32-below}
use Rattle.rt_neighbour_table.specs.declared.config.NeighbourTableConfig.{NeighbourTableConfig}
use Rattle.rt_neighbour_table.specs.Config.{config_text, config_at, ReadsBack}

-- A configuration has 32 bytes.
pub length-config : (h : NeighbourTableConfig) → length (config_text h) ≡ 32
unfolding config_text le16 le32
length-config h = refl

-- The numbers of a configuration.
numbers : (h : NeighbourTableConfig) (more : List ℕ) → ReadsBack h
    → (u16_at (config_text h ++ more) 0 ≡ h.key_len)
    × (u16_at (config_text h ++ more) 2 ≡ h.entry_size)
    × (u32_at (config_text h ++ more) 4 ≡ h.entries)
    × (u32_at (config_text h ++ more) 8 ≡ h.last_flush)
    × (u32_at (config_text h ++ more) 12 ≡ h.last_rand)
    × (u32_at (config_text h ++ more) 16 ≡ h.hash_rand)
    × (u32_at (config_text h ++ more) 20 ≡ h.hash_mask)
    × (u32_at (config_text h ++ more) 24 ≡ h.hash_chain_gc)
    × (u32_at (config_text h ++ more) 28 ≡ h.proxy_qlen)
unfolding config_text le16 le32 u16_at u32_at
numbers h more back = (
  from_le_bytes-to_le_bytes_2 h.key_len back.of_key_len,
  from_le_bytes-to_le_bytes_2 h.entry_size back.of_entry_size,
  from_le_bytes-to_le_bytes_4 h.entries back.of_entries,
  from_le_bytes-to_le_bytes_4 h.last_flush back.of_last_flush,
  from_le_bytes-to_le_bytes_4 h.last_rand back.of_last_rand,
  from_le_bytes-to_le_bytes_4 h.hash_rand back.of_hash_rand,
  from_le_bytes-to_le_bytes_4 h.hash_mask back.of_hash_mask,
  from_le_bytes-to_le_bytes_4 h.hash_chain_gc back.of_hash_chain_gc,
  from_le_bytes-to_le_bytes_4 h.proxy_qlen back.of_proxy_qlen,
)

-- A configuration reads back, whatever follows it.
pub config-again : (h : NeighbourTableConfig) (more : List ℕ) → ReadsBack h → config_at (config_text h ++ more) ≡ h
config-again h more back =
    let n = numbers h more back in
    rw (n.0, n.1, n.2, n.3, n.4, n.5, n.6, n.7, n.8) refl

-- A configuration that was read from bytes reads back.
pub config-read : (bytes : List ℕ) → AreBytes bytes → ReadsBack (config_at bytes)
config-read bytes are = record {
  of_key_len = u16-below bytes 0 are;
  of_entry_size = u16-below bytes 2 are;
  of_entries = u32-below bytes 4 are;
  of_last_flush = u32-below bytes 8 are;
  of_last_rand = u32-below bytes 12 are;
  of_hash_rand = u32-below bytes 16 are;
  of_hash_mask = u32-below bytes 20 are;
  of_hash_chain_gc = u32-below bytes 24 are;
  of_proxy_qlen = u32-below bytes 28 are;
}
