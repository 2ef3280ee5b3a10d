-- Attributes of address labels read back.
use Rattle.std.proofs.Common.{◌≡◌, ◌==◌, ◌≤◌, ◌<◌, ◌^◌, ℕ, Bool, true, false, List, length, Ok, refl, subst, arith}
use Rattle.std.specs.Prelude.{if◌then◌else◌}
use Rattle.std.proofs.lemmas.Bool.{eqb-true}
use Rattle.nl_core.specs.Numbers.{AreBytes}
use Rattle.nl_core.specs.Reading.{exactly, number32}
use Rattle.nl_core.specs.Attribute.{is_checked}
use Rattle.nl_core.specs.AttributeReadBack.{ReadsAgain}
use Rattle.nl_core.proofs.NumberReadBack.{number32-le32, number32-below, exactly-ok}
use Rattle.rt_other.specs.declared.ip.IpAddr.{IpAddr}
use Rattle.rt_other.specs.declared.ip.IpAddr.TheVariants.{V4, V6}
use Rattle.rt_layout.specs.RowLaws.{◌&◌, row-again, other-again, row-reads, attribute-reads}
use Rattle.rt_wire.specs.declared.addrlabel.attribute.AddrLabelAttribute.{AddrLabelAttribute}
use Rattle.rt_wire.specs.declared.addrlabel.attribute.AddrLabelAttribute.TheVariants.{Address, Label, Other}
use Rattle.rt_wire.specs.AddrLabelAttribute.{address_text, address_at, rows, kind, value, attribute_at, IsWhole, ReadsBack}

-- ---- addresses

address-again : (a : IpAddr) → IsWhole a → address_at (address_text a) ≡ Ok a
address-again (V4 a) whole = rw whole refl
address-again (V6 a) whole = rw whole refl

address-read-if : (b : Bool) (bytes : List ℕ) (a : IpAddr) → (length bytes == 4) ≡ b
    → (if b then Ok (V4 (record { 0 = bytes })) else exactly 16 bytes (V6 (record { 0 = bytes }))) ≡ Ok a → IsWhole a
address-read-if true bytes a e is =
    let same : V4 (record { 0 = bytes }) ≡ a = cc in
    subst IsWhole same (eqb-true (length bytes) 4 e)
address-read-if false bytes a e is =
    let both = exactly-ok 16 bytes (V6 (record { 0 = bytes })) a is in
    subst IsWhole both.1 both.0

address-read : (bytes : List ℕ) (a : IpAddr) → AreBytes bytes → address_at bytes ≡ Ok a → IsWhole a
address-read bytes a are is = address-read-if (length bytes == 4) bytes a refl is

-- ---- attributes

-- An attribute that reads back does so, where its length fits its field.
pub attribute-again : (p : Unit {0}) (x : AddrLabelAttribute) → ReadsBack x → length (value x) ≤ 65531
    → ReadsAgain kind value attribute_at x
attribute-again p (Address a) h short =
    row-again rows (λ n. Other n) kind value (Address a) (omega arith) short (λ o. rw (address-again a h) refl)
attribute-again p (Label n) h short =
    row-again rows (λ n. Other n) kind value (Label n) (omega arith) short (λ o. rw (number32-le32 n h) refl)
attribute-again p (Other n) h short = other-again rows (λ n. Other n) kind value n refl refl h short

-- An attribute that was read from bytes reads back.
pub attribute-read : (p : Unit {0}) (bytes : List ℕ) (x : AddrLabelAttribute) → AreBytes bytes → is_checked bytes ≡ true
    → attribute_at bytes ≡ Ok x → ReadsBack x
attribute-read p bytes x are checked is =
    attribute-reads ReadsBack rows (λ n. Other n) bytes x are (
    row-reads IsWhole ReadsBack address_at (λ a. Address a) 1 address-read (λ a whole. whole)
    & row-reads (λ n. n < 2 ^ 32) ReadsBack number32 (λ n. Label n) 2 number32-below (λ n below. below)
    & tt
    ) (λ n none. none) is
