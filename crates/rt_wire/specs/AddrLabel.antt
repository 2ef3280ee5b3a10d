-- Address labels: what is read and what is written.
use Rattle.std.specs.Prelude.{◌≡◌, ◌<◌, ◌^◌, ℕ, Bool, true, List, [], ◌∷◌, ◌++◌, slice_index, Result, Ok}
use Rattle.std.specs.List.{AllByRecursion}
use Rattle.nl_core.specs.declared.error.DecodeError.{DecodeError}
use Rattle.nl_core.specs.Numbers.{le32, u32_at}
use Rattle.rt_other.specs.declared.address_family.AddressFamily.TheVariants.{Unspec}
use Rattle.rt_other.specs.Family as Family
use Rattle.rt_other.specs.Message as message
use Rattle.rt_other.specs.declared.message.Message.{Message}
use Rattle.rt_wire.specs.AddrLabelAttribute as Attribute
use Rattle.rt_wire.specs.declared.addrlabel.attribute.AddrLabelAttribute.{AddrLabelAttribute}
use Rattle.rt_wire.specs.declared.addrlabel.header.AddrLabelHeader.{AddrLabelHeader}

-- ---- the header

-- The 12 bytes of a header.
unfoldable pub header_text : AddrLabelHeader → List ℕ
header_text h = (Family.family_byte h.family ∷ 0 ∷ h.prefix_len ∷ h.flags ∷ []) ++ le32 h.index ++ le32 h.sequence

-- The header at the front of bytes.
abbrev pub header_at : List ℕ → AddrLabelHeader
header_at bytes = record {
  family = Family.family_of (slice_index bytes 0);
  prefix_len = slice_index bytes 2;
  flags = slice_index bytes 3;
  index = u32_at bytes 4;
  sequence = u32_at bytes 8;
}

-- The header of zeros.
abbrev pub default_header : AddrLabelHeader
default_header = record {
  family = Unspec;
  prefix_len = 0;
  flags = 0;
  index = 0;
  sequence = 0;
}

-- ---- the message

-- A header and the attributes after it.
abbrev pub AddrLabelMessage : Type 0
AddrLabelMessage = Message AddrLabelHeader AddrLabelAttribute

-- The bytes of a message.
abbrev pub text : AddrLabelMessage → List ℕ
text m = message.text header_text Attribute.kind Attribute.value m

-- Whether each attribute fits, and the message a frame.
abbrev pub fits : AddrLabelMessage → Bool
fits m = message.fits header_text Attribute.kind Attribute.value m

-- The message of bytes, or the first cause from the left why they are none.
abbrev pub message_at : List ℕ → Result AddrLabelMessage DecodeError
message_at bytes = message.message_at 12 header_at (λ h. Attribute.attribute_at) bytes

-- ---- what reads back

-- The numbers of a header fit their fields, and its family reads back.
pub record HeaderReadsBack (h : AddrLabelHeader) : Type 0 where
  pub of_family : Family.ReadsBack h.family
  pub of_index : h.index < 2 ^ 32
  pub of_sequence : h.sequence < 2 ^ 32

-- A message reads back where its header and each of its attributes does.
abbrev pub ReadsBack : AddrLabelMessage → Type 0
ReadsBack m = HeaderReadsBack m.header × AllByRecursion Attribute.ReadsBack m.attributes

-- Each message that fits and reads back does so from its bytes.
abbrev pub MessagesReadBack : Type 0
MessagesReadBack = (m : AddrLabelMessage) → fits m ≡ true → ReadsBack m → message_at (text m) ≡ Ok m
