-- What maps and sets of prefixes are in JSON.
use Rattle.std.specs.Prelude.{ℕ, cond, leb, List, [], ◌∷◌, map}
use Rattle.serde_json.specs.Data.{Data, unsigned, number, string, array}
use Rattle.serde_json.specs.View.{items_of}
use Rattle.trie_model.specs.Nets.{Net}
use Rattle.trie_json.specs.Hex.{hex_text}

-- A list.
abbrev pub list_data : List Data → Data
list_data ds = array (items_of ds)

-- A list of two.
abbrev pub pair_data : Data → Data → Data
pair_data a b = list_data (a ∷ b ∷ [])

-- Bits of this width: a number of up to 64 bits, and else 32 hex digits.
abbrev pub bits_data : ℕ → ℕ → Data
bits_data w bits = cond (leb w 64) (number (unsigned bits)) (string (hex_text 32 bits))

-- A prefix: its bits and its length.
abbrev pub prefix_data : ℕ → ℕ → ℕ → Data
prefix_data w bits len = pair_data (bits_data w bits) (number (unsigned len))

-- A prefix without host bits.
abbrev pub net_data : ℕ → Net → Data
net_data w n = prefix_data w n.bits n.len

-- An entry: its prefix and its item.
abbrev pub entry_data : {X : Type 0} → ℕ → (X → Data) → Net × X → Data
entry_data w written p = pair_data (net_data w p.0) (written p.1)

-- A map: its entries in order.
abbrev pub map_data : {X : Type 0} → ℕ → (X → Data) → List (Net × X) → Data
map_data w written ps = list_data (map (entry_data w written) ps)

-- A set: its prefixes in order.
abbrev pub set_data : {X : Type 0} → ℕ → List (Net × X) → Data
set_data w ps = list_data (map (λ p. net_data w p.0) ps)
