-- Configurations of neighbour tables: what is read and what is written.
use Rattle.std.specs.Prelude.{◌<◌, ◌^◌, ℕ, List, ◌++◌}
use Rattle.nl_core.specs.Numbers.{le16, u16_at, le32, u32_at}
use Rattle.rt_neighbour_table.specs.declared.config.NeighbourTableConfig.{NeighbourTableConfig}

-- The 32 bytes of a configuration.
unfoldable pub config_text : NeighbourTableConfig → List ℕ
config_text h =
    le16 h.key_len ++ le16 h.entry_size ++ le32 h.entries ++ le32 h.last_flush ++ le32 h.last_rand ++ le32 h.hash_rand
    ++ le32 h.hash_mask ++ le32 h.hash_chain_gc ++ le32 h.proxy_qlen

-- The configuration at the front of bytes.
abbrev pub config_at : List ℕ → NeighbourTableConfig
config_at bytes = record {
  key_len = u16_at bytes 0;
  entry_size = u16_at bytes 2;
  entries = u32_at bytes 4;
  last_flush = u32_at bytes 8;
  last_rand = u32_at bytes 12;
  hash_rand = u32_at bytes 16;
  hash_mask = u32_at bytes 20;
  hash_chain_gc = u32_at bytes 24;
  proxy_qlen = u32_at bytes 28;
}

-- The numbers fit their fields.
pub record ReadsBack (h : NeighbourTableConfig) : Type 0 where
  pub of_key_len : h.key_len < 2 ^ 16
  pub of_entry_size : h.entry_size < 2 ^ 16
  pub of_entries : h.entries < 2 ^ 32
  pub of_last_flush : h.last_flush < 2 ^ 32
  pub of_last_rand : h.last_rand < 2 ^ 32
  pub of_hash_rand : h.hash_rand < 2 ^ 32
  pub of_hash_mask : h.hash_mask < 2 ^ 32
  pub of_hash_chain_gc : h.hash_chain_gc < 2 ^ 32
  pub of_proxy_qlen : h.proxy_qlen < 2 ^ 32
