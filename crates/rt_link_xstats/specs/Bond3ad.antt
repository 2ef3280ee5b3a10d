-- Counters of link aggregation: what is read and what is written.
use Rattle.std.specs.Prelude.{◌<◌, ◌^◌, ℕ, List, [], ◌∷◌, Result}
use Rattle.nl_core.specs.declared.error.DecodeError.{DecodeError}
use Rattle.nl_core.specs.Numbers.{le64}
use Rattle.nl_core.specs.Reading.{number64}
use Rattle.rt_layout.specs.Rows.{Row, row, attribute_by, IsOfNoRow}
use Rattle.rt_link_xstats.specs.declared.bond.three_ad.Bond3adStats.{Bond3adStats}
use Rattle.rt_link_xstats.specs.declared.bond.three_ad.Bond3adStats.TheVariants.{LacpduRx, LacpduTx, LacpduUnknownRx, LacpduIllegalRx, MarkerRx, MarkerTx, MarkerRespRx, MarkerRespTx, MarkerUnknownRx, Other}

-- The type and the value as they are written.
abbrev pub written : Bond3adStats → ℕ × List ℕ
written (LacpduRx n) = (0, le64 n)
written (LacpduTx n) = (1, le64 n)
written (LacpduUnknownRx n) = (2, le64 n)
written (LacpduIllegalRx n) = (3, le64 n)
written (MarkerRx n) = (4, le64 n)
written (MarkerTx n) = (5, le64 n)
written (MarkerRespRx n) = (6, le64 n)
written (MarkerRespTx n) = (7, le64 n)
written (MarkerUnknownRx n) = (8, le64 n)
written (Other n) = (n.kind, n.value)

-- What values are read as, by their types.
abbrev pub rows : List (Row Bond3adStats)
rows =
    row 0 number64 (λ n. LacpduRx n) ∷ row 1 number64 (λ n. LacpduTx n) ∷ row 2 number64 (λ n. LacpduUnknownRx n)
    ∷ row 3 number64 (λ n. LacpduIllegalRx n) ∷ row 4 number64 (λ n. MarkerRx n) ∷ row 5 number64 (λ n. MarkerTx n)
    ∷ row 6 number64 (λ n. MarkerRespRx n) ∷ row 7 number64 (λ n. MarkerRespTx n) ∷ row 8 number64 (λ n. MarkerUnknownRx n) ∷ []

-- The type as it is written.
abbrev pub kind : Bond3adStats → ℕ
kind x = (written x).0

-- The bytes of the value.
abbrev pub value : Bond3adStats → List ℕ
value x = (written x).1

-- What the counter at the front of bytes is read as.
abbrev pub attribute_at : List ℕ → Result Bond3adStats DecodeError
attribute_at bytes = attribute_by rows (λ n. Other n) bytes

-- A counter reads back: it fits eight bytes, and another one has a type that no row has.
abbrev pub ReadsBack : Bond3adStats → Type 0
ReadsBack (LacpduRx n) = n < 2 ^ 64
ReadsBack (LacpduTx n) = n < 2 ^ 64
ReadsBack (LacpduUnknownRx n) = n < 2 ^ 64
ReadsBack (LacpduIllegalRx n) = n < 2 ^ 64
ReadsBack (MarkerRx n) = n < 2 ^ 64
ReadsBack (MarkerTx n) = n < 2 ^ 64
ReadsBack (MarkerRespRx n) = n < 2 ^ 64
ReadsBack (MarkerRespTx n) = n < 2 ^ 64
ReadsBack (MarkerUnknownRx n) = n < 2 ^ 64
ReadsBack (Other n) = IsOfNoRow rows n
