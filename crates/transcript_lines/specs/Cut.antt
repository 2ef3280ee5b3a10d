-- Where bytes are cut in two.
use Rattle.std.specs.Prelude.{◌≡◌, ◌==◌, ℕ, false, List, ◌∷◌, ◌++◌, Option, Some, None}
use Rattle.std.specs.Borrow.{Bor}
use Rattle.std.specs.List.{All}

-- This byte isn't among the bytes.
abbrev pub HasNoByte : ℕ → List ℕ → Type 0
HasNoByte byte bytes = All (λ b. (b == byte) ≡ false) bytes

-- These stand before and after the first such byte, and None where there is none.
abbrev pub IsCutAt : ℕ → List ℕ → Option (Bor (List ℕ) × Bor (List ℕ)) → Type 0
IsCutAt byte bytes (Some parts) = HasNoByte byte parts.0.now × (bytes ≡ parts.0.now ++ byte ∷ parts.1.now)
IsCutAt byte bytes None = HasNoByte byte bytes
