-- Parameters of neighbour tables: what is read and what is written.
use Rattle.std.specs.Prelude.{◌<◌, ◌^◌, ℕ, List, [], ◌∷◌, Result}
use Rattle.nl_core.specs.declared.error.DecodeError.{DecodeError}
use Rattle.nl_core.specs.Numbers.{le32, le64}
use Rattle.nl_core.specs.Reading.{number32, number64}
use Rattle.rt_layout.specs.Rows.{Row, row, attribute_by, IsOfNoRow}
use Rattle.rt_neighbour_table.specs.declared.parameter.NeighbourTableParameter.{NeighbourTableParameter}
use Rattle.rt_neighbour_table.specs.declared.parameter.NeighbourTableParameter.TheVariants.{Ifindex, ReferenceCount, ReachableTime, BaseReachableTime, RetransTime, GcStaletime, DelayProbeTime, QueueLen, AppProbes, UcastProbes}
use Rattle.rt_neighbour_table.specs.declared.parameter.NeighbourTableParameter.TheVariants.{McastProbes, AnycastDelay, ProxyDelay, ProxyQlen, Locktime, QueueLenbytes, McastReprobes, IntervalProbeTimeMs, Other}

-- The type and the value as they are written.
abbrev pub written : NeighbourTableParameter → ℕ × List ℕ
written (Ifindex n) = (1, le32 n)
written (ReferenceCount n) = (2, le32 n)
written (ReachableTime n) = (3, le64 n)
written (BaseReachableTime n) = (4, le64 n)
written (RetransTime n) = (5, le64 n)
written (GcStaletime n) = (6, le64 n)
written (DelayProbeTime n) = (7, le64 n)
written (QueueLen n) = (8, le32 n)
written (AppProbes n) = (9, le32 n)
written (UcastProbes n) = (10, le32 n)
written (McastProbes n) = (11, le32 n)
written (AnycastDelay n) = (12, le64 n)
written (ProxyDelay n) = (13, le64 n)
written (ProxyQlen n) = (14, le32 n)
written (Locktime n) = (15, le64 n)
written (QueueLenbytes n) = (16, le32 n)
written (McastReprobes n) = (17, le32 n)
written (IntervalProbeTimeMs n) = (19, le64 n)
written (Other n) = (n.kind, n.value)

-- What values are read as, by their types.
abbrev pub rows : List (Row NeighbourTableParameter)
rows =
    row 1 number32 (λ n. Ifindex n) ∷ row 2 number32 (λ n. ReferenceCount n) ∷ row 3 number64 (λ n. ReachableTime n)
    ∷ row 4 number64 (λ n. BaseReachableTime n) ∷ row 5 number64 (λ n. RetransTime n) ∷ row 6 number64 (λ n. GcStaletime n)
    ∷ row 7 number64 (λ n. DelayProbeTime n) ∷ row 8 number32 (λ n. QueueLen n) ∷ row 9 number32 (λ n. AppProbes n)
    ∷ row 10 number32 (λ n. UcastProbes n) ∷ row 11 number32 (λ n. McastProbes n) ∷ row 12 number64 (λ n. AnycastDelay n)
    ∷ row 13 number64 (λ n. ProxyDelay n) ∷ row 14 number32 (λ n. ProxyQlen n) ∷ row 15 number64 (λ n. Locktime n)
    ∷ row 16 number32 (λ n. QueueLenbytes n) ∷ row 17 number32 (λ n. McastReprobes n)
    ∷ row 19 number64 (λ n. IntervalProbeTimeMs n) ∷ []

-- The type as it is written.
abbrev pub kind : NeighbourTableParameter → ℕ
kind x = (written x).0

-- The bytes of the value.
abbrev pub value : NeighbourTableParameter → List ℕ
value x = (written x).1

-- What the parameter at the front of bytes is read as.
abbrev pub attribute_at : List ℕ → Result NeighbourTableParameter DecodeError
attribute_at bytes = attribute_by rows (λ n. Other n) bytes

-- A parameter reads back: its number fits its width, and another one has a type that no row has.
abbrev pub ReadsBack : NeighbourTableParameter → Type 0
ReadsBack (Ifindex n) = n < 2 ^ 32
ReadsBack (ReferenceCount n) = n < 2 ^ 32
ReadsBack (ReachableTime n) = n < 2 ^ 64
ReadsBack (BaseReachableTime n) = n < 2 ^ 64
ReadsBack (RetransTime n) = n < 2 ^ 64
ReadsBack (GcStaletime n) = n < 2 ^ 64
ReadsBack (DelayProbeTime n) = n < 2 ^ 64
ReadsBack (QueueLen n) = n < 2 ^ 32
ReadsBack (AppProbes n) = n < 2 ^ 32
ReadsBack (UcastProbes n) = n < 2 ^ 32
ReadsBack (McastProbes n) = n < 2 ^ 32
ReadsBack (AnycastDelay n) = n < 2 ^ 64
ReadsBack (ProxyDelay n) = n < 2 ^ 64
ReadsBack (ProxyQlen n) = n < 2 ^ 32
ReadsBack (Locktime n) = n < 2 ^ 64
ReadsBack (QueueLenbytes n) = n < 2 ^ 32
ReadsBack (McastReprobes n) = n < 2 ^ 32
ReadsBack (IntervalProbeTimeMs n) = n < 2 ^ 64
ReadsBack (Other n) = IsOfNoRow rows n
