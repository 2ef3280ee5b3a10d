-- The names and the bits of flags of neighbours.
use Rattle.std.specs.Prelude.{ℕ, List, [], ◌∷◌, codes}

-- The flags of a neighbour.
abbrev pub flag_table : List (List ℕ × ℕ)
flag_table =
    (codes "Use", 1) ∷ (codes "Own", 2) ∷ (codes "Controller", 4) ∷ (codes "Proxy", 8) ∷ (codes "ExtLearned", 16)
    ∷ (codes "Offloaded", 32) ∷ (codes "Sticky", 64) ∷ (codes "Router", 128) ∷ []

-- The further flags of a neighbour, and every bit, which has no name.
abbrev pub ext_flag_table : List (List ℕ × ℕ)
ext_flag_table = (codes "Managed", 1) ∷ (codes "Locked", 2) ∷ (codes "ExtValidated", 4) ∷ ([], 4_294_967_295) ∷ []
