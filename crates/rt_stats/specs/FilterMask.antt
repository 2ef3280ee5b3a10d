-- The names and the bits of what is asked for.
use Rattle.std.specs.Prelude.{ℕ, List, [], ◌∷◌, codes}

-- Which statistics are asked for, and every bit, which has no name.
abbrev pub mask_table : List (List ℕ × ℕ)
mask_table =
    (codes "Link64", 1) ∷ (codes "LinkXstats", 2) ∷ (codes "LinkXstatsPort", 4) ∷ (codes "LinkOffloadXstats", 8)
    ∷ (codes "AfSpec", 16) ∷ ([], 4_294_967_295) ∷ []
