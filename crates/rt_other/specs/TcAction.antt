-- Actions of traffic control: what is read and what is written.
use Rattle.std.specs.Prelude.{◌≡◌, ℕ, Bool, true, List, [], ◌∷◌, slice_index, Result, Ok}
use Rattle.std.specs.List.{AllByRecursion}
use Rattle.nl_core.specs.declared.error.DecodeError.{DecodeError}
use Rattle.nl_core.specs.declared.default_nla.DefaultNla.{DefaultNla}
use Rattle.rt_other.specs.declared.address_family.AddressFamily.TheVariants.{Unspec}
use Rattle.rt_other.specs.Family as Family
use Rattle.rt_other.specs.Message as message
use Rattle.rt_other.specs.Opaque.{kind, value, attribute_at, IsInRange}
use Rattle.rt_other.specs.declared.message.Message.{Message}
use Rattle.rt_other.specs.declared.tc_action.TcActionHeader.{TcActionHeader}

-- ---- the header

-- The 4 bytes of a header.
unfoldable pub header_text : TcActionHeader → List ℕ
header_text h = Family.family_byte h.family ∷ 0 ∷ 0 ∷ 0 ∷ []

-- The header at the front of bytes.
abbrev pub header_at : List ℕ → TcActionHeader
header_at bytes = record {
  family = Family.family_of (slice_index bytes 0);
}

-- The header of zeros.
abbrev pub default_header : TcActionHeader
default_header = record {
  family = Unspec;
}

-- ---- the message

-- A header and the attributes after it.
abbrev pub TcActionMessage : Type 0
TcActionMessage = Message TcActionHeader DefaultNla

-- The bytes of a message.
abbrev pub text : TcActionMessage → List ℕ
text m = message.text header_text kind value m

-- Whether each attribute fits, and the message a frame.
abbrev pub fits : TcActionMessage → Bool
fits m = message.fits header_text kind value m

-- The message of bytes, or the first cause from the left why they are none.
abbrev pub message_at : List ℕ → Result TcActionMessage DecodeError
message_at bytes = message.message_at 4 header_at (λ h. attribute_at) bytes

-- ---- what reads back

-- The family of a header reads back.
pub record HeaderReadsBack (h : TcActionHeader) : Type 0 where
  pub of_family : Family.ReadsBack h.family

-- A message reads back where its header and each of its attributes does.
abbrev pub ReadsBack : TcActionMessage → Type 0
ReadsBack m = HeaderReadsBack m.header × AllByRecursion IsInRange m.attributes

-- Each message that fits and reads back does so from its bytes.
abbrev pub MessagesReadBack : Type 0
MessagesReadBack = (m : TcActionMessage) → fits m ≡ true → ReadsBack m → message_at (text m) ≡ Ok m
