-- Attributes of network namespaces read back.
use Rattle.std.proofs.Common.{◌≡◌, ◌≤◌, ◌<◌, ◌^◌, ℕ, ℤ, true, List, length, Ok, refl, arith}
use Rattle.std.specs.Prelude.{FitsSigned}
use Rattle.std.specs.Int.{w32}
use Rattle.nl_core.specs.Numbers.{AreBytes}
use Rattle.nl_core.specs.Reading.{number32, number_i32}
use Rattle.nl_core.specs.Attribute.{is_checked}
use Rattle.nl_core.specs.AttributeReadBack.{ReadsAgain}
use Rattle.nl_core.proofs.NumberReadBack.{number32-le32, number32-below, number_i32-le_i32, number_i32-fits}
use Rattle.rt_layout.specs.Rows.{row}
use Rattle.rt_layout.specs.RowLaws.{◌&◌, RowReads, row-again, other-again, row-reads, attribute-reads}
use Rattle.rt_wire.specs.declared.nsid.attribute.NsidAttribute.{NsidAttribute}
use Rattle.rt_wire.specs.declared.nsid.attribute.NsidAttribute.TheVariants.{Id, Pid, Fd, TargetNsid, CurrentNsid, Other}
use Rattle.rt_wire.specs.NsidAttribute.{rows, kind, value, attribute_at, ReadsBack}

-- An attribute that reads back does so, where its length fits its field.
pub attribute-again : (p : Unit {0}) (x : NsidAttribute) → ReadsBack x → length (value x) ≤ 65531 → ReadsAgain kind value attribute_at x
attribute-again p (Id n) h short =
    row-again rows (λ n. Other n) kind value (Id n) (omega arith) short (λ o. rw (number_i32-le_i32 n h) refl)
attribute-again p (Pid n) h short =
    row-again rows (λ n. Other n) kind value (Pid n) (omega arith) short (λ o. rw (number32-le32 n h) refl)
attribute-again p (Fd n) h short =
    row-again rows (λ n. Other n) kind value (Fd n) (omega arith) short (λ o. rw (number32-le32 n h) refl)
attribute-again p (TargetNsid n) h short =
    row-again rows (λ n. Other n) kind value (TargetNsid n) (omega arith) short (λ o. rw (number_i32-le_i32 n h) refl)
attribute-again p (CurrentNsid n) h short =
    row-again rows (λ n. Other n) kind value (CurrentNsid n) (omega arith) short (λ o. rw (number_i32-le_i32 n h) refl)
attribute-again p (Other n) h short = other-again rows (λ n. Other n) kind value n refl refl h short

unsigned : (k : ℕ) (make : ℕ → NsidAttribute) → ((n : ℕ) → n < 2 ^ 32 → ReadsBack (make n)) → RowReads ReadsBack (row k number32 make)
unsigned k make makes = row-reads (λ n. n < 2 ^ 32) ReadsBack number32 make k number32-below makes

signed : (k : ℕ) (make : ℤ → NsidAttribute) → ((n : ℤ) → FitsSigned w32 n → ReadsBack (make n)) → RowReads ReadsBack (row k number_i32 make)
signed k make makes = row-reads (λ n. FitsSigned w32 n) ReadsBack number_i32 make k number_i32-fits makes

-- An attribute that was read from bytes reads back.
pub attribute-read : (p : Unit {0}) (bytes : List ℕ) (x : NsidAttribute) → AreBytes bytes → is_checked bytes ≡ true
    → attribute_at bytes ≡ Ok x → ReadsBack x
attribute-read p bytes x are checked is =
    attribute-reads ReadsBack rows (λ n. Other n) bytes x are (
    signed 1 (λ n. Id n) (λ n fits. fits)
    & unsigned 2 (λ n. Pid n) (λ n fits. fits)
    & unsigned 3 (λ n. Fd n) (λ n fits. fits)
    & signed 4 (λ n. TargetNsid n) (λ n fits. fits)
    & signed 5 (λ n. CurrentNsid n) (λ n fits. fits)
    & tt
    ) (λ n none. none) is
