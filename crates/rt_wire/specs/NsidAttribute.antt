-- Attributes of network namespaces: what is read and what is written.
use Rattle.std.specs.Prelude.{◌<◌, ◌^◌, ℕ, FitsSigned, List, [], ◌∷◌, Result}
use Rattle.std.specs.Int.{w32}
use Rattle.nl_core.specs.declared.error.DecodeError.{DecodeError}
use Rattle.nl_core.specs.Numbers.{le32, le_i32}
use Rattle.nl_core.specs.Reading.{number32, number_i32}
use Rattle.rt_layout.specs.Rows.{Row, row, attribute_by, IsOfNoRow}
use Rattle.rt_wire.specs.declared.nsid.attribute.NsidAttribute.{NsidAttribute}
use Rattle.rt_wire.specs.declared.nsid.attribute.NsidAttribute.TheVariants.{Id, Pid, Fd, TargetNsid, CurrentNsid, Other}

-- The type and the value as they are written.
abbrev pub written : NsidAttribute → ℕ × List ℕ
written (Id n) = (1, le_i32 n)
written (Pid n) = (2, le32 n)
written (Fd n) = (3, le32 n)
written (TargetNsid n) = (4, le_i32 n)
written (CurrentNsid n) = (5, le_i32 n)
written (Other n) = (n.kind, n.value)

-- What values are read as, by their types.
abbrev pub rows : List (Row NsidAttribute)
rows =
    row 1 number_i32 (λ n. Id n) ∷ row 2 number32 (λ n. Pid n) ∷ row 3 number32 (λ n. Fd n) ∷ row 4 number_i32 (λ n. TargetNsid n)
    ∷ row 5 number_i32 (λ n. CurrentNsid n) ∷ []

-- The type as it is written.
abbrev pub kind : NsidAttribute → ℕ
kind x = (written x).0

-- The bytes of the value.
abbrev pub value : NsidAttribute → List ℕ
value x = (written x).1

-- What the attribute at the front of bytes is read as.
abbrev pub attribute_at : List ℕ → Result NsidAttribute DecodeError
attribute_at bytes = attribute_by rows (λ n. Other n) bytes

-- An attribute reads back: its number fits four bytes, and another one has a type that no row has.
abbrev pub ReadsBack : NsidAttribute → Type 0
ReadsBack (Id n) = FitsSigned w32 n
ReadsBack (Pid n) = n < 2 ^ 32
ReadsBack (Fd n) = n < 2 ^ 32
ReadsBack (TargetNsid n) = FitsSigned w32 n
ReadsBack (CurrentNsid n) = FitsSigned w32 n
ReadsBack (Other n) = IsOfNoRow rows n
