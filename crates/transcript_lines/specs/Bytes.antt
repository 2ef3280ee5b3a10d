-- What a reader of bytes says of the hex digits that it was fed.
use Rattle.std.specs.Prelude.{◌≡◌, ◌≢◌, ◌<◌, ◌≤◌, ◌*◌, ℕ, List, [], ◌∷◌, ◌++◌, length, flat_map, Option, Some, None}
use Rattle.session_model.specs.Lines.{dash, hex_digit, hex_byte, hex_word}
use Rattle.session_model.specs.Transcript.{AreBytes}
use Rattle.transcript_lines.specs.declared.bytes.Last.{Last}
use Rattle.transcript_lines.specs.declared.bytes.Last.TheVariants.{Begin, Dash, Whole, Half, Bad}

-- No bytes have a spelling that begins like this.
abbrev pub BeginsNoBytes : List ℕ → Type 0
BeginsNoBytes fed = (more bytes : List ℕ) → AreBytes bytes → fed ++ more ≢ hex_word bytes

-- A reader that holds these bytes, and was last fed such a byte, was fed exactly this.
abbrev pub ReadsAt : List ℕ → List ℕ → Last → Type 0
ReadsAt fed bytes Begin = (fed ≡ []) × (bytes ≡ [])
ReadsAt fed bytes Dash = (fed ≡ dash ∷ []) × (bytes ≡ [])
ReadsAt fed bytes Whole = (fed ≡ flat_map hex_byte bytes) × (0 < length bytes) × AreBytes bytes
ReadsAt fed bytes (Half high) = (fed ≡ flat_map hex_byte bytes ++ hex_digit high ∷ []) × (high < 16) × AreBytes bytes
ReadsAt fed bytes Bad = BeginsNoBytes fed × (length bytes * 2 ≤ length fed)

-- These are the bytes that the word spells, and None where it spells none.
abbrev pub AreBytesOf : List ℕ → Option (List ℕ) → Type 0
AreBytesOf word (Some bytes) = AreBytes bytes × (word ≡ hex_word bytes)
AreBytesOf word None = (bytes : List ℕ) → AreBytes bytes → word ≢ hex_word bytes

-- A first digit that waits for its second is below 16.
abbrev pub IsHalfSmall : Last → Type 0
IsHalfSmall last = (high : ℕ) → last ≡ Half high → high < 16
