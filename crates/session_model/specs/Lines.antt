-- How words and lines are spelled.
use Rattle.std.specs.Prelude.{◌+◌, ◌/◌, ◌%◌, ℕ, if◌then◌else◌, List, [], ◌∷◌, ◌++◌, nat_lt, flat_map}
use Rattle.std.specs.List.{join_with_byte}

-- The byte between two words.
abbrev pub space : ℕ
space = 32

-- The byte that ends a line.
abbrev pub newline : ℕ
newline = 10

-- A lower-case hex digit.
abbrev pub hex_digit : ℕ → ℕ
hex_digit n = if nat_lt n 10 then 48 + n else 87 + n

-- The two digits of a byte.
abbrev pub hex_byte : ℕ → List ℕ
hex_byte b = hex_digit (b / 16) ∷ hex_digit (b % 16) ∷ []

-- The byte `-`, which spells that there are no bytes.
abbrev pub dash : ℕ
dash = 45

-- Two digits for each byte, and `-` for no bytes.
abbrev pub hex_word : List ℕ → List ℕ
hex_word [] = dash ∷ []
hex_word (b ∷ bytes) = flat_map hex_byte (b ∷ bytes)

-- Words separated by one space, and a newline.
abbrev pub line : List (List ℕ) → List ℕ
line words = join_with_byte space words ++ newline ∷ []
