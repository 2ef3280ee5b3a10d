-- The format of a type of inner messages, by what its two traits say of it.
use Rattle.std.specs.Prelude.{ℕ, Bool, List, Result}
use Rattle.nl_core.specs.Frames.{Format}
use Rattle.nl_core.specs.declared.error.DecodeError.{DecodeError}

-- What a payload of a type reads as, the type and the bytes of a message, and whether it fits.
abbrev pub format_of :
    {M : Type 0} → (ℕ → List ℕ → Result M DecodeError) → (M → ℕ) → (M → List ℕ) → (M → Bool) → Format M
format_of reads kind text fits = record { reads = reads; kind = kind; text = text; fits = fits }
