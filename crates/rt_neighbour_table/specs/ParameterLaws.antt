-- Parameters of neighbour tables read back.
use Rattle.std.proofs.Common.{◌≡◌, ◌≤◌, ◌<◌, ◌^◌, ◌%◌, ℕ, true, List, length, Ok, refl, arith}
use Rattle.nl_core.specs.Numbers.{AreBytes}
use Rattle.nl_core.specs.Reading.{number32, number64}
use Rattle.nl_core.specs.Attribute.{is_checked}
use Rattle.nl_core.specs.AttributeReadBack.{ReadsAgain}
use Rattle.nl_core.proofs.NumberReadBack.{number32-le32, number64-le64, number32-below, number64-below}
use Rattle.rt_layout.specs.Rows.{row, read_by}
use Rattle.rt_layout.specs.RowLaws.{◌&◌, RowReads, row-again, other-again, row-reads, attribute-reads}
use Rattle.rt_neighbour_table.specs.declared.parameter.NeighbourTableParameter.{NeighbourTableParameter}
use Rattle.rt_neighbour_table.specs.declared.parameter.NeighbourTableParameter.TheVariants.{Ifindex, ReferenceCount, ReachableTime, BaseReachableTime, RetransTime, GcStaletime, DelayProbeTime, QueueLen, AppProbes, UcastProbes}
use Rattle.rt_neighbour_table.specs.declared.parameter.NeighbourTableParameter.TheVariants.{McastProbes, AnycastDelay, ProxyDelay, ProxyQlen, Locktime, QueueLenbytes, McastReprobes, IntervalProbeTimeMs, Other}
use Rattle.rt_neighbour_table.specs.Parameter.{rows, kind, value, attribute_at, ReadsBack}

again : (x : NeighbourTableParameter) → kind x < 65536 → length (value x) ≤ 65531
    → ((o : NeighbourTableParameter) → read_by rows (kind x % 16384) (value x) o ≡ Ok x) → ReadsAgain kind value attribute_at x
again x fits short is = row-again rows (λ n. Other n) kind value x fits short is

-- A parameter that reads back does so, where its length fits its field.
pub attribute-again : (p : Unit {0}) (x : NeighbourTableParameter) → ReadsBack x → length (value x) ≤ 65531
    → ReadsAgain kind value attribute_at x
attribute-again p (Ifindex n) h short = again (Ifindex n) (omega arith) short (λ o. rw (number32-le32 n h) refl)
attribute-again p (ReferenceCount n) h short = again (ReferenceCount n) (omega arith) short (λ o. rw (number32-le32 n h) refl)
attribute-again p (ReachableTime n) h short = again (ReachableTime n) (omega arith) short (λ o. rw (number64-le64 n h) refl)
attribute-again p (BaseReachableTime n) h short = again (BaseReachableTime n) (omega arith) short (λ o. rw (number64-le64 n h) refl)
attribute-again p (RetransTime n) h short = again (RetransTime n) (omega arith) short (λ o. rw (number64-le64 n h) refl)
attribute-again p (GcStaletime n) h short = again (GcStaletime n) (omega arith) short (λ o. rw (number64-le64 n h) refl)
attribute-again p (DelayProbeTime n) h short = again (DelayProbeTime n) (omega arith) short (λ o. rw (number64-le64 n h) refl)
attribute-again p (QueueLen n) h short = again (QueueLen n) (omega arith) short (λ o. rw (number32-le32 n h) refl)
attribute-again p (AppProbes n) h short = again (AppProbes n) (omega arith) short (λ o. rw (number32-le32 n h) refl)
attribute-again p (UcastProbes n) h short = again (UcastProbes n) (omega arith) short (λ o. rw (number32-le32 n h) refl)
attribute-again p (McastProbes n) h short = again (McastProbes n) (omega arith) short (λ o. rw (number32-le32 n h) refl)
attribute-again p (AnycastDelay n) h short = again (AnycastDelay n) (omega arith) short (λ o. rw (number64-le64 n h) refl)
attribute-again p (ProxyDelay n) h short = again (ProxyDelay n) (omega arith) short (λ o. rw (number64-le64 n h) refl)
attribute-again p (ProxyQlen n) h short = again (ProxyQlen n) (omega arith) short (λ o. rw (number32-le32 n h) refl)
attribute-again p (Locktime n) h short = again (Locktime n) (omega arith) short (λ o. rw (number64-le64 n h) refl)
attribute-again p (QueueLenbytes n) h short = again (QueueLenbytes n) (omega arith) short (λ o. rw (number32-le32 n h) refl)
attribute-again p (McastReprobes n) h short = again (McastReprobes n) (omega arith) short (λ o. rw (number32-le32 n h) refl)
attribute-again p (IntervalProbeTimeMs n) h short = again (IntervalProbeTimeMs n) (omega arith) short (λ o. rw (number64-le64 n h) refl)
attribute-again p (Other n) h short = other-again rows (λ n. Other n) kind value n refl refl h short

short : (k : ℕ) (make : ℕ → NeighbourTableParameter) → ((n : ℕ) → n < 2 ^ 32 → ReadsBack (make n)) → RowReads ReadsBack (row k number32 make)
short k make makes = row-reads (λ n. n < 2 ^ 32) ReadsBack number32 make k number32-below makes

long : (k : ℕ) (make : ℕ → NeighbourTableParameter) → ((n : ℕ) → n < 2 ^ 64 → ReadsBack (make n)) → RowReads ReadsBack (row k number64 make)
long k make makes = row-reads (λ n. n < 2 ^ 64) ReadsBack number64 make k number64-below makes

-- A parameter that was read from bytes reads back.
pub attribute-read : (p : Unit {0}) (bytes : List ℕ) (x : NeighbourTableParameter) → AreBytes bytes → is_checked bytes ≡ true
    → attribute_at bytes ≡ Ok x → ReadsBack x
attribute-read p bytes x are checked is =
    attribute-reads ReadsBack rows (λ n. Other n) bytes x are (
    short 1 (λ n. Ifindex n) (λ n fits. fits)
    & short 2 (λ n. ReferenceCount n) (λ n fits. fits)
    & long 3 (λ n. ReachableTime n) (λ n fits. fits)
    & long 4 (λ n. BaseReachableTime n) (λ n fits. fits)
    & long 5 (λ n. RetransTime n) (λ n fits. fits)
    & long 6 (λ n. GcStaletime n) (λ n fits. fits)
    & long 7 (λ n. DelayProbeTime n) (λ n fits. fits)
    & short 8 (λ n. QueueLen n) (λ n fits. fits)
    & short 9 (λ n. AppProbes n) (λ n fits. fits)
    & short 10 (λ n. UcastProbes n) (λ n fits. fits)
    & short 11 (λ n. McastProbes n) (λ n fits. fits)
    & long 12 (λ n. AnycastDelay n) (λ n fits. fits)
    & long 13 (λ n. ProxyDelay n) (λ n fits. fits)
    & short 14 (λ n. ProxyQlen n) (λ n fits. fits)
    & long 15 (λ n. Locktime n) (λ n fits. fits)
    & short 16 (λ n. QueueLenbytes n) (λ n fits. fits)
    & short 17 (λ n. McastReprobes n) (λ n fits. fits)
    & long 19 (λ n. IntervalProbeTimeMs n) (λ n fits. fits)
    & tt
    ) (λ n none. none) is
