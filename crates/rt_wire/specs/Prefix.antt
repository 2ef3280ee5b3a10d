-- Prefixes that routers announce: what is read and what is written.
use Rattle.std.specs.Prelude.{◌≡◌, ℕ, pos, FitsSigned, Bool, true, List, [], ◌∷◌, ◌++◌, slice_index, Result, Ok}
use Rattle.std.specs.Int.{w32}
use Rattle.std.specs.List.{AllByRecursion}
use Rattle.nl_core.specs.declared.error.DecodeError.{DecodeError}
use Rattle.nl_core.specs.Numbers.{le_i32, i32_at}
use Rattle.rt_other.specs.Message as message
use Rattle.rt_other.specs.declared.message.Message.{Message}
use Rattle.rt_wire.specs.PrefixAttribute as Attribute
use Rattle.rt_wire.specs.declared.prefix.attribute.PrefixAttribute.{PrefixAttribute}
use Rattle.rt_wire.specs.declared.prefix.header.PrefixHeader.{PrefixHeader}

-- ---- the header

-- The 12 bytes of a header.
unfoldable pub header_text : PrefixHeader → List ℕ
header_text h = (h.prefix_family ∷ 0 ∷ 0 ∷ 0 ∷ []) ++ le_i32 h.ifindex ++ (h.prefix_type ∷ h.prefix_len ∷ h.flags ∷ 0 ∷ [])

-- The header at the front of bytes.
abbrev pub header_at : List ℕ → PrefixHeader
header_at bytes = record {
  prefix_family = slice_index bytes 0;
  ifindex = i32_at bytes 4;
  prefix_type = slice_index bytes 8;
  prefix_len = slice_index bytes 9;
  flags = slice_index bytes 10;
}

-- The header of zeros.
abbrev pub default_header : PrefixHeader
default_header = record {
  prefix_family = 0;
  ifindex = pos 0;
  prefix_type = 0;
  prefix_len = 0;
  flags = 0;
}

-- ---- the message

-- A header and the attributes after it.
abbrev pub PrefixMessage : Type 0
PrefixMessage = Message PrefixHeader PrefixAttribute

-- The bytes of a message.
abbrev pub text : PrefixMessage → List ℕ
text m = message.text header_text Attribute.kind Attribute.value m

-- Whether each attribute fits, and the message a frame.
abbrev pub fits : PrefixMessage → Bool
fits m = message.fits header_text Attribute.kind Attribute.value m

-- The message of bytes, or the first cause from the left why they are none.
abbrev pub message_at : List ℕ → Result PrefixMessage DecodeError
message_at bytes = message.message_at 12 header_at (λ h. Attribute.attribute_at) bytes

-- ---- what reads back

-- The numbers of a header fit their fields.
pub record HeaderReadsBack (h : PrefixHeader) : Type 0 where
  pub of_ifindex : FitsSigned w32 h.ifindex

-- A message reads back where its header and each of its attributes does.
abbrev pub ReadsBack : PrefixMessage → Type 0
ReadsBack m = HeaderReadsBack m.header × AllByRecursion Attribute.ReadsBack m.attributes

-- Each message that fits and reads back does so from its bytes.
abbrev pub MessagesReadBack : Type 0
MessagesReadBack = (m : PrefixMessage) → fits m ≡ true → ReadsBack m → message_at (text m) ≡ Ok m
