-- Numbers in lower-case hex digits.
use Rattle.std.specs.Prelude.{zero, suc, ℕ, ◌+◌, ◌/◌, ◌%◌, List, [], ◌∷◌, ◌++◌, nat_lt, if◌then◌else◌}

-- The lower-case hex digit of a value below 16.
abbrev pub hex_digit : ℕ → ℕ
hex_digit n = if nat_lt n 10 then 48 + n else 87 + n

-- The last hex digits of a number, as many as counted, the highest first.
unfoldable pub hex_text : ℕ → ℕ → List ℕ
hex_text zero n = []
hex_text (suc count) n = hex_text count (n / 16) ++ hex_digit (n % 16) ∷ []
