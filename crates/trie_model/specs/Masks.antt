-- What the masks over the bits of a node mark.
use Rattle.std.specs.Prelude.{◌≡◌, ℕ, ◌+◌, ◌<◌, ◌≤◌, Bool, cond}
use Rattle.std.specs.Int.{bit_at}
use Rattle.trie_model.specs.Nets.{covers, net_of}
use Rattle.trie_model.specs.Spots.{child_at, prefix_net}
use Rattle.trie_model.specs.Views.{level_of, net_of_bit}

-- Exactly the data bits whose test holds are set, of those that a node at this depth can have.
abbrev pub IsDataMask : ℕ → ℕ → ℕ → (ℕ → Bool) → Type 0
IsDataMask w depth mask test = (bit : ℕ) → bit < 31 → depth + level_of bit ≤ w → bit_at mask bit ≡ cond (test bit) 1 0

-- Exactly the child bits whose test holds are set, where a node at this depth can have children.
abbrev pub IsChildMask : ℕ → ℕ → ℕ → (ℕ → Bool) → Type 0
IsChildMask w depth mask test = (child : ℕ) → child < 32 → depth + 5 ≤ w → bit_at mask child ≡ cond (test child) 1 0

-- Of the 31 data bits exactly those whose test holds are set.
abbrev pub IsWholeMask : ℕ → (ℕ → Bool) → Type 0
IsWholeMask mask test = (bit : ℕ) → bit < 31 → bit_at mask bit ≡ cond (test bit) 1 0

-- Whether the prefix of these bits contains that of a data bit.
abbrev pub covers_bit : ℕ → ℕ → ℕ → ℕ → ℕ → Bool
covers_bit w depth bits len bit = covers w (prefix_net w bits len) (net_of_bit w depth bits bit)

-- Whether the prefix of these bits contains the place of a child.
abbrev pub covers_child : ℕ → ℕ → ℕ → ℕ → ℕ → Bool
covers_child w depth bits len child = covers w (prefix_net w bits len) (child_at w depth bits child)

-- Whether the prefix of a data bit contains that of these bits.
abbrev pub bit_covers : ℕ → ℕ → ℕ → ℕ → ℕ → Bool
bit_covers w depth bits len bit = covers w (net_of_bit w depth bits bit) (net_of bits len)
