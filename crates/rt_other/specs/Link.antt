-- Links: what is read and what is written.
use Rattle.std.specs.Prelude.{◌≡◌, ◌<◌, ◌^◌, ℕ, Bool, true, List, [], ◌∷◌, ◌++◌, slice_index, Result, Ok}
use Rattle.std.specs.List.{AllByRecursion}
use Rattle.nl_core.specs.declared.error.DecodeError.{DecodeError}
use Rattle.nl_core.specs.declared.default_nla.DefaultNla.{DefaultNla}
use Rattle.nl_core.specs.Numbers.{le16, u16_at, le32, u32_at}
use Rattle.rt_other.specs.declared.address_family.AddressFamily.TheVariants.{Unspec}
use Rattle.rt_other.specs.Family as Family
use Rattle.rt_other.specs.Message as message
use Rattle.rt_other.specs.Opaque.{kind, value, attribute_at, IsInRange}
use Rattle.rt_other.specs.declared.message.Message.{Message}
use Rattle.rt_other.specs.declared.link.LinkHeader.{LinkHeader}

-- ---- the header

-- The 16 bytes of a header.
unfoldable pub header_text : LinkHeader → List ℕ
header_text h = (Family.family_byte h.interface_family ∷ 0 ∷ []) ++ le16 h.link_layer_type ++ le32 h.index ++ le32 h.flags ++ le32 h.change_mask

-- The header at the front of bytes.
abbrev pub header_at : List ℕ → LinkHeader
header_at bytes = record {
  interface_family = Family.family_of (slice_index bytes 0);
  link_layer_type = u16_at bytes 2;
  index = u32_at bytes 4;
  flags = u32_at bytes 8;
  change_mask = u32_at bytes 12;
}

-- The header of zeros.
abbrev pub default_header : LinkHeader
default_header = record {
  interface_family = Unspec;
  link_layer_type = 0;
  index = 0;
  flags = 0;
  change_mask = 0;
}

-- ---- the message

-- A header and the attributes after it.
abbrev pub LinkMessage : Type 0
LinkMessage = Message LinkHeader DefaultNla

-- The bytes of a message.
abbrev pub text : LinkMessage → List ℕ
text m = message.text header_text kind value m

-- Whether each attribute fits, and the message a frame.
abbrev pub fits : LinkMessage → Bool
fits m = message.fits header_text kind value m

-- The message of bytes, or the first cause from the left why they are none.
abbrev pub message_at : List ℕ → Result LinkMessage DecodeError
message_at bytes = message.message_at 16 header_at (λ h. attribute_at) bytes

-- ---- what reads back

-- The numbers of a header fit their fields, and its family reads back.
pub record HeaderReadsBack (h : LinkHeader) : Type 0 where
  pub of_family : Family.ReadsBack h.interface_family
  pub of_link_layer_type : h.link_layer_type < 2 ^ 16
  pub of_index : h.index < 2 ^ 32
  pub of_flags : h.flags < 2 ^ 32
  pub of_change_mask : h.change_mask < 2 ^ 32

-- A message reads back where its header and each of its attributes does.
abbrev pub ReadsBack : LinkMessage → Type 0
ReadsBack m = HeaderReadsBack m.header × AllByRecursion IsInRange m.attributes

-- Each message that fits and reads back does so from its bytes.
abbrev pub MessagesReadBack : Type 0
MessagesReadBack = (m : LinkMessage) → fits m ≡ true → ReadsBack m → message_at (text m) ≡ Ok m
