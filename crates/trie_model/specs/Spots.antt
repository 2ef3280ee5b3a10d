-- A node's 31 data bits and 32 children as one tree of 63 spots: the root is 1, below h lie 2 h and 2 h + 1.
-- The data bit of the spot h below 32 is h - 1, and the child of the spot h from 32 on is h - 32.
use Rattle.std.specs.Prelude.{zero, ◌≡◌, ◌↔◌, ◌⊎◌, ◌<◌, ℕ, ◌+◌, ◌-◌, ◌*◌, ◌/◌, ◌%◌, ◌^◌, Bool, true, cond, suc, ◌&&◌, eqb, leb}
use Rattle.trie_model.specs.Nets.{Net, masked}

-- How many bits of the key a spot has used.
abbrev pub level_at : ℕ → ℕ
level_at h = cond (leb 32 h) 5 (cond (leb 16 h) 4 (cond (leb 8 h) 3 (cond (leb 4 h) 2 (cond (leb 2 h) 1 0))))

-- The 5 bits of the key with which the spot begins.
abbrev pub key_bits_at : ℕ → ℕ
key_bits_at h = h * 2 ^ (5 - level_at h) - 32

-- The order of the walk.
abbrev pub rank_at : ℕ → ℕ
rank_at h = key_bits_at h * 6 + level_at h

-- The next l bits of the key below depth.
abbrev pub bits_toward : ℕ → ℕ → ℕ → ℕ → ℕ
bits_toward w depth l bits = bits / 2 ^ (w - (depth + l)) % 2 ^ l

-- The spot of a network in the node of this depth.
abbrev pub spot_of : ℕ → ℕ → Net → ℕ
spot_of w depth n = cond (leb (depth + 5) n.len) (32 + bits_toward w depth 5 n.bits) (2 ^ (n.len - depth) + bits_toward w depth (n.len - depth) n.bits)

-- The data bit of a network of the node.
abbrev pub data_bit_of : ℕ → ℕ → ℕ → ℕ → ℕ
data_bit_of w depth bits len = 2 ^ (len - depth) - 1 + bits_toward w depth (len - depth) bits

-- The 5 bits of the key below depth, those past the end being 0.
abbrev pub five_bits : ℕ → ℕ → ℕ → ℕ
five_bits w depth bits = bits * 32 / 2 ^ (w - depth) % 32

-- ---- tests of each number below another

-- Whether a test holds of each number below this.
unfoldable pub all_under : ℕ → (ℕ → Bool) → Bool
all_under zero f = true
all_under (suc n) f = f n && all_under n f

-- Whether one number is below another.
abbrev pub ltb : ℕ → ℕ → Bool
ltb a b = leb (a + 1) b

-- ---- the order of networks and the walk over the spots

-- The order: the bits first, then the length.
abbrev pub order_key : ℕ → Net → ℕ
order_key w n = n.bits * (w + 1) + n.len

-- The bits are fewer, or they are the same and the length is less.
abbrev pub ComesBefore : Net → Net → Type 0
ComesBefore a b = (a.bits < b.bits) ⊎ ((a.bits ≡ b.bits) × (a.len < b.len))

-- The keys are in the order of bits and then of lengths.
abbrev pub KeysAreInOrder : ℕ → Net → Net → Type 0
KeysAreInOrder w a b = (order_key w a < order_key w b) ↔ ComesBefore a b

-- Prefixes with one key are one.
abbrev pub AreOneWhereKeysAre : ℕ → Net → Net → Type 0
AreOneWhereKeysAre w a b = order_key w a ≡ order_key w b → a ≡ b

-- The next spot of the walk; after the last one 64.
abbrev pub next_spot : ℕ → ℕ
next_spot h = cond (ltb h 32) (2 * h) (
    cond (eqb ((h + 1) % 2) 1) (h + 1) (
    cond (eqb ((h + 1) % 4) 2) ((h + 1) / 2) (
    cond (eqb ((h + 1) % 8) 4) ((h + 1) / 4) (
    cond (eqb ((h + 1) % 16) 8) ((h + 1) / 8) (
    cond (eqb ((h + 1) % 32) 16) ((h + 1) / 16) 64)))))

-- ---- which spots lie in which

-- The network of a spot.
abbrev pub net_of_spot : ℕ → ℕ → ℕ → ℕ → Net
net_of_spot w depth bits h = record { bits = masked w bits depth + (h - 2 ^ level_at h) * 2 ^ (w - (depth + level_at h)); len = depth + level_at h }

-- The spot k is h or lies below it.
abbrev pub inside : ℕ → ℕ → Bool
inside h k = leb (level_at h) (level_at k) && eqb (k / 2 ^ (level_at k - level_at h)) h

-- The data bits r levels below the spot h.
abbrev pub row_below : ℕ → ℕ → ℕ
row_below h r = cond (ltb (h * 2 ^ r) 32) ((2 ^ 2 ^ r - 1) * 2 ^ (h * 2 ^ r - 1)) 0

-- The data bits of the spot h and below it.
abbrev pub rows_below : ℕ → ℕ
rows_below h = row_below h 0 + row_below h 1 + row_below h 2 + row_below h 3 + row_below h 4

-- The children below the spot h.
abbrev pub children_below : ℕ → ℕ
children_below h = (2 ^ 2 ^ (5 - level_at h) - 1) * 2 ^ key_bits_at h

-- The data bit r levels above the spot h.
abbrev pub bit_above : ℕ → ℕ → ℕ
bit_above h r = cond (ltb 0 (h / 2 ^ r) && ltb (h / 2 ^ r) 32) (2 ^ (h / 2 ^ r - 1)) 0

-- The data bits of the spot h and above it.
abbrev pub bits_above : ℕ → ℕ
bits_above h = bit_above h 0 + bit_above h 1 + bit_above h 2 + bit_above h 3 + bit_above h 4 + bit_above h 5

-- The place of a child of the node at this depth.
abbrev pub child_at : ℕ → ℕ → ℕ → ℕ → Net
child_at w depth bits child = record { bits = masked w bits depth + child * 2 ^ (w - (depth + 5)); len = depth + 5 }

-- The first len bits as a network.
abbrev pub prefix_net : ℕ → ℕ → ℕ → Net
prefix_net w bits len = record { bits = masked w bits len; len = len }
