-- Prefixes as numbers: the leading bits, the rest 0, and how many of them count.
use Rattle.std.specs.Prelude.{◌≡◌, ℕ, ◌-◌, ◌*◌, ◌/◌, ◌^◌, ◌<◌, ◌≤◌, Bool, true, ◌&&◌, eqb, leb}

-- The leading bits as a number of the whole width, and their count.
pub record Net : Type 0 where
  pub bits : ℕ
  pub len : ℕ

-- The prefix of these bits and this length.
abbrev pub net_of : ℕ → ℕ → Net
net_of bits len = record { bits = bits; len = len }

-- The number without the bits past the first len of w.
abbrev pub masked : ℕ → ℕ → ℕ → ℕ
masked w bits len = bits / 2 ^ (w - len) * 2 ^ (w - len)

-- A network of w bits.
pub record IsNet (w : ℕ) (n : Net) : Type 0 where
  pub len_fits : n.len ≤ w
  pub bits_fit : n.bits < 2 ^ w
  pub no_rest : masked w n.bits n.len ≡ n.bits

-- The numbers agree in their first len bits, and in no more.
pub record IsCommonLen (w a b len : ℕ) : Type 0 where
  pub fits : len ≤ w
  pub same : masked w a len ≡ masked w b len
  pub most : (l : ℕ) → l ≤ w → masked w a l ≡ masked w b l → l ≤ len

-- A contains b.
abbrev pub covers : ℕ → Net → Net → Bool
covers w a b = leb a.len b.len && eqb (masked w b.bits a.len) a.bits

-- ---- the laws of this order

-- Two prefixes that contain each other are one.
abbrev pub AreOneWhereBothCover : ℕ → Net → Net → Type 0
AreOneWhereBothCover w a b = covers w a b ≡ true → covers w b a ≡ true → a ≡ b

-- What contains a prefix contains what that one contains.
abbrev pub CoversThrough : ℕ → Net → Net → Net → Type 0
CoversThrough w a b c = covers w a b ≡ true → covers w b c ≡ true → covers w a c ≡ true
