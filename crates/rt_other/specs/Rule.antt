-- Rules of route look-ups: what is read and what is written.
use Rattle.std.specs.Prelude.{◌≡◌, ◌<◌, ◌^◌, ℕ, Bool, true, List, [], ◌∷◌, ◌++◌, slice_index, Result, Ok}
use Rattle.std.specs.List.{AllByRecursion}
use Rattle.nl_core.specs.declared.error.DecodeError.{DecodeError}
use Rattle.nl_core.specs.declared.default_nla.DefaultNla.{DefaultNla}
use Rattle.nl_core.specs.Numbers.{le32, u32_at}
use Rattle.rt_other.specs.declared.address_family.AddressFamily.TheVariants.{Unspec}
use Rattle.rt_other.specs.Family as Family
use Rattle.rt_other.specs.Message as message
use Rattle.rt_other.specs.Opaque.{kind, value, attribute_at, IsInRange}
use Rattle.rt_other.specs.declared.message.Message.{Message}
use Rattle.rt_other.specs.declared.rule.RuleHeader.{RuleHeader}

-- ---- the header

-- The 12 bytes of a header.
unfoldable pub header_text : RuleHeader → List ℕ
header_text h = (Family.family_byte h.family ∷ h.dst_len ∷ h.src_len ∷ h.tos ∷ h.table ∷ 0 ∷ 0 ∷ h.action ∷ []) ++ le32 h.flags

-- The header at the front of bytes.
abbrev pub header_at : List ℕ → RuleHeader
header_at bytes = record {
  family = Family.family_of (slice_index bytes 0);
  dst_len = slice_index bytes 1;
  src_len = slice_index bytes 2;
  tos = slice_index bytes 3;
  table = slice_index bytes 4;
  action = slice_index bytes 7;
  flags = u32_at bytes 8;
}

-- The header of zeros.
abbrev pub default_header : RuleHeader
default_header = record {
  family = Unspec;
  dst_len = 0;
  src_len = 0;
  tos = 0;
  table = 0;
  action = 0;
  flags = 0;
}

-- ---- the message

-- A header and the attributes after it.
abbrev pub RuleMessage : Type 0
RuleMessage = Message RuleHeader DefaultNla

-- The bytes of a message.
abbrev pub text : RuleMessage → List ℕ
text m = message.text header_text kind value m

-- Whether each attribute fits, and the message a frame.
abbrev pub fits : RuleMessage → Bool
fits m = message.fits header_text kind value m

-- The message of bytes, or the first cause from the left why they are none.
abbrev pub message_at : List ℕ → Result RuleMessage DecodeError
message_at bytes = message.message_at 12 header_at (λ h. attribute_at) bytes

-- ---- what reads back

-- The numbers of a header fit their fields, and its family reads back.
pub record HeaderReadsBack (h : RuleHeader) : Type 0 where
  pub of_family : Family.ReadsBack h.family
  pub of_flags : h.flags < 2 ^ 32

-- A message reads back where its header and each of its attributes does.
abbrev pub ReadsBack : RuleMessage → Type 0
ReadsBack m = HeaderReadsBack m.header × AllByRecursion IsInRange m.attributes

-- Each message that fits and reads back does so from its bytes.
abbrev pub MessagesReadBack : Type 0
MessagesReadBack = (m : RuleMessage) → fits m ≡ true → ReadsBack m → message_at (text m) ≡ Ok m
