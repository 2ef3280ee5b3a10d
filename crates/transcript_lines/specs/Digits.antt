-- Lower-case hex digits, and bytes that pairs of them spell.
use Rattle.std.specs.Prelude.{◌≡◌, ◌≢◌, ◌<◌, ◌≤◌, ℕ, Bool, true, false, List, flat_map}
use Rattle.std.specs.List.{AllByRecursion}
use Rattle.session_model.specs.Lines.{hex_byte, hex_digit}
use Rattle.session_model.specs.Transcript.{AreBytes}

-- This is the value of a digit, and 16 or more where the byte is none.
abbrev pub IsDigitValue : ℕ → ℕ → Type 0
IsDigitValue byte value = (value < 16 → byte ≡ hex_digit value) × (16 ≤ value → (v : ℕ) → v < 16 → byte ≢ hex_digit v)

-- Each is a digit.
abbrev pub AreDigits : List ℕ → Type 0
AreDigits word = AllByRecursion (λ b. (v : ℕ) × (v < 16) × (b ≡ hex_digit v)) word

-- These are the bytes that the word spells; or else not all of the word are digits.
abbrev pub ArePairs : List ℕ → List ℕ → Bool → Type 0
ArePairs word bytes true = AreBytes bytes × (word ≡ flat_map hex_byte bytes)
ArePairs word bytes false = AreDigits word → ⊥
