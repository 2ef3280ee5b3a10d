-- Attributes that are kept as they are read back.
use Rattle.std.proofs.Common.{◌≡◌, ◌≤◌, ℕ, true, List, length, Ok, refl, subst, arith}
use Rattle.nl_core.specs.declared.default_nla.DefaultNla.{DefaultNla}
use Rattle.nl_core.specs.Numbers.{AreBytes}
use Rattle.nl_core.specs.Attribute.{is_checked, default_at}
use Rattle.nl_core.specs.AttributeReadBack.{ReadsAgain}
use Rattle.nl_core.proofs.Bytes.{u16-below}
use Rattle.rt_other.specs.Opaque.{kind, value, attribute_at, IsInRange}

-- An attribute whose type is two bytes reads back.
pub opaque-again : (p : Unit {0}) (n : DefaultNla) → IsInRange n → length (value n) ≤ 65531 → ReadsAgain kind value attribute_at n
opaque-again p n range short =
    record { kind_fits = omega (arith, range); value_fits = short; again = λ bytes r k v. rw (r, v) refl }

-- An attribute that was read from bytes has a type of two bytes.
pub opaque-read : (p : Unit {0}) (bytes : List ℕ) (n : DefaultNla) → AreBytes bytes → is_checked bytes ≡ true → attribute_at bytes ≡ Ok n
    → IsInRange n
opaque-read p bytes n are checked is =
    let same : default_at bytes ≡ n = cc in
    subst IsInRange same (u16-below bytes 2 are)
