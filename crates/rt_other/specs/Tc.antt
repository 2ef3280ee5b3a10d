-- Traffic control: what is read and what is written.
use Rattle.std.specs.Prelude.{◌≡◌, ◌<◌, ◌^◌, ℕ, pos, FitsSigned, Bool, true, List, [], ◌∷◌, ◌++◌, slice_index, Result, Ok}
use Rattle.std.specs.Int.{w32}
use Rattle.std.specs.List.{AllByRecursion}
use Rattle.nl_core.specs.declared.error.DecodeError.{DecodeError}
use Rattle.nl_core.specs.declared.default_nla.DefaultNla.{DefaultNla}
use Rattle.nl_core.specs.Numbers.{le32, u32_at, le_i32, i32_at}
use Rattle.rt_other.specs.declared.address_family.AddressFamily.TheVariants.{Unspec}
use Rattle.rt_other.specs.Family as Family
use Rattle.rt_other.specs.Message as message
use Rattle.rt_other.specs.Opaque.{kind, value, attribute_at, IsInRange}
use Rattle.rt_other.specs.declared.message.Message.{Message}
use Rattle.rt_other.specs.declared.tc.TcHeader.{TcHeader}

-- ---- the header

-- The 20 bytes of a header.
unfoldable pub header_text : TcHeader → List ℕ
header_text h = (Family.family_byte h.family ∷ 0 ∷ 0 ∷ 0 ∷ []) ++ le_i32 h.index ++ le32 h.handle ++ le32 h.parent ++ le32 h.info

-- The header at the front of bytes.
abbrev pub header_at : List ℕ → TcHeader
header_at bytes = record {
  family = Family.family_of (slice_index bytes 0);
  index = i32_at bytes 4;
  handle = u32_at bytes 8;
  parent = u32_at bytes 12;
  info = u32_at bytes 16;
}

-- The header of zeros.
abbrev pub default_header : TcHeader
default_header = record {
  family = Unspec;
  index = pos 0;
  handle = 0;
  parent = 0;
  info = 0;
}

-- ---- the message

-- A header and the attributes after it.
abbrev pub TcMessage : Type 0
TcMessage = Message TcHeader DefaultNla

-- The bytes of a message.
abbrev pub text : TcMessage → List ℕ
text m = message.text header_text kind value m

-- Whether each attribute fits, and the message a frame.
abbrev pub fits : TcMessage → Bool
fits m = message.fits header_text kind value m

-- The message of bytes, or the first cause from the left why they are none.
abbrev pub message_at : List ℕ → Result TcMessage DecodeError
message_at bytes = message.message_at 20 header_at (λ h. attribute_at) bytes

-- ---- what reads back

-- The numbers of a header fit their fields, and its family reads back.
pub record HeaderReadsBack (h : TcHeader) : Type 0 where
  pub of_family : Family.ReadsBack h.family
  pub of_index : FitsSigned w32 h.index
  pub of_handle : h.handle < 2 ^ 32
  pub of_parent : h.parent < 2 ^ 32
  pub of_info : h.info < 2 ^ 32

-- A message reads back where its header and each of its attributes does.
abbrev pub ReadsBack : TcMessage → Type 0
ReadsBack m = HeaderReadsBack m.header × AllByRecursion IsInRange m.attributes

-- Each message that fits and reads back does so from its bytes.
abbrev pub MessagesReadBack : Type 0
MessagesReadBack = (m : TcMessage) → fits m ≡ true → ReadsBack m → message_at (text m) ≡ Ok m
