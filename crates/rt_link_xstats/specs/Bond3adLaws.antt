-- Counters of link aggregation read back.
use Rattle.std.proofs.Common.{◌≡◌, ◌≤◌, ◌<◌, ◌^◌, ◌%◌, ℕ, true, List, length, Ok, refl, arith}
use Rattle.nl_core.specs.Numbers.{AreBytes}
use Rattle.nl_core.specs.Reading.{number64}
use Rattle.nl_core.specs.Attribute.{is_checked}
use Rattle.nl_core.specs.AttributeReadBack.{ReadsAgain}
use Rattle.nl_core.proofs.NumberReadBack.{number64-le64, number64-below}
use Rattle.rt_layout.specs.Rows.{row, read_by}
use Rattle.rt_layout.specs.RowLaws.{◌&◌, RowReads, row-again, other-again, row-reads, attribute-reads}
use Rattle.rt_link_xstats.specs.declared.bond.three_ad.Bond3adStats.{Bond3adStats}
use Rattle.rt_link_xstats.specs.declared.bond.three_ad.Bond3adStats.TheVariants.{LacpduRx, LacpduTx, LacpduUnknownRx, LacpduIllegalRx, MarkerRx, MarkerTx, MarkerRespRx, MarkerRespTx, MarkerUnknownRx, Other}
use Rattle.rt_link_xstats.specs.Bond3ad.{rows, kind, value, attribute_at, ReadsBack}

again : (x : Bond3adStats) → kind x < 65536 → length (value x) ≤ 65531
    → ((o : Bond3adStats) → read_by rows (kind x % 16384) (value x) o ≡ Ok x) → ReadsAgain kind value attribute_at x
again x fits short is = row-again rows (λ n. Other n) kind value x fits short is

-- A counter that reads back does so, where its length fits its field.
pub attribute-again : (p : Unit {0}) (x : Bond3adStats) → ReadsBack x → length (value x) ≤ 65531
    → ReadsAgain kind value attribute_at x
attribute-again p (LacpduRx n) h short = again (LacpduRx n) (omega arith) short (λ o. rw (number64-le64 n h) refl)
attribute-again p (LacpduTx n) h short = again (LacpduTx n) (omega arith) short (λ o. rw (number64-le64 n h) refl)
attribute-again p (LacpduUnknownRx n) h short = again (LacpduUnknownRx n) (omega arith) short (λ o. rw (number64-le64 n h) refl)
attribute-again p (LacpduIllegalRx n) h short = again (LacpduIllegalRx n) (omega arith) short (λ o. rw (number64-le64 n h) refl)
attribute-again p (MarkerRx n) h short = again (MarkerRx n) (omega arith) short (λ o. rw (number64-le64 n h) refl)
attribute-again p (MarkerTx n) h short = again (MarkerTx n) (omega arith) short (λ o. rw (number64-le64 n h) refl)
attribute-again p (MarkerRespRx n) h short = again (MarkerRespRx n) (omega arith) short (λ o. rw (number64-le64 n h) refl)
attribute-again p (MarkerRespTx n) h short = again (MarkerRespTx n) (omega arith) short (λ o. rw (number64-le64 n h) refl)
attribute-again p (MarkerUnknownRx n) h short = again (MarkerUnknownRx n) (omega arith) short (λ o. rw (number64-le64 n h) refl)
attribute-again p (Other n) h short = other-again rows (λ n. Other n) kind value n refl refl h short

counter : (k : ℕ) (make : ℕ → Bond3adStats) → ((n : ℕ) → n < 2 ^ 64 → ReadsBack (make n)) → RowReads ReadsBack (row k number64 make)
counter k make makes = row-reads (λ n. n < 2 ^ 64) ReadsBack number64 make k number64-below makes

-- A counter that was read from bytes reads back.
pub attribute-read : (p : Unit {0}) (bytes : List ℕ) (x : Bond3adStats) → AreBytes bytes → is_checked bytes ≡ true
    → attribute_at bytes ≡ Ok x → ReadsBack x
attribute-read p bytes x are checked is =
    attribute-reads ReadsBack rows (λ n. Other n) bytes x are (
    counter 0 (λ n. LacpduRx n) (λ n fits. fits)
    & counter 1 (λ n. LacpduTx n) (λ n fits. fits)
    & counter 2 (λ n. LacpduUnknownRx n) (λ n fits. fits)
    & counter 3 (λ n. LacpduIllegalRx n) (λ n fits. fits)
    & counter 4 (λ n. MarkerRx n) (λ n fits. fits)
    & counter 5 (λ n. MarkerTx n) (λ n fits. fits)
    & counter 6 (λ n. MarkerRespRx n) (λ n fits. fits)
    & counter 7 (λ n. MarkerRespTx n) (λ n fits. fits)
    & counter 8 (λ n. MarkerUnknownRx n) (λ n fits. fits)
    & tt
    ) (λ n none. none) is
