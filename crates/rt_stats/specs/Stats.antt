-- Messages on statistics: what is read and what is written.
use Rattle.std.specs.Prelude.{◌≡◌, ◌<◌, ◌^◌, ℕ, Bool, true, List, [], ◌∷◌, ◌++◌, slice_index, Result, Ok}
use Rattle.std.specs.List.{AllByRecursion}
use Rattle.nl_core.specs.declared.error.DecodeError.{DecodeError}
use Rattle.nl_core.specs.Numbers.{le32, u32_at}
use Rattle.rt_other.specs.declared.address_family.AddressFamily.TheVariants.{Unspec}
use Rattle.rt_other.specs.Family as Family
use Rattle.rt_other.specs.Message as message
use Rattle.rt_other.specs.declared.message.Message.{Message}
use Rattle.rt_stats.specs.StatsAttribute as Attribute
use Rattle.rt_stats.specs.declared.stats.attribute.StatsAttribute.{StatsAttribute}
use Rattle.rt_stats.specs.declared.stats.header.StatsHeader.{StatsHeader}

-- ---- the header

-- The 12 bytes of a header.
unfoldable pub header_text : StatsHeader → List ℕ
header_text h = (Family.family_byte h.family ∷ 0 ∷ 0 ∷ 0 ∷ []) ++ le32 h.ifindex ++ le32 h.filter_mask.0

-- The header at the front of bytes.
abbrev pub header_at : List ℕ → StatsHeader
header_at bytes = record {
  family = Family.family_of (slice_index bytes 0);
  ifindex = u32_at bytes 4;
  filter_mask = record { 0 = u32_at bytes 8 };
}

-- The header of zeros.
abbrev pub default_header : StatsHeader
default_header = record {
  family = Unspec;
  ifindex = 0;
  filter_mask = record { 0 = 0 };
}

-- ---- the message

-- A header and the attributes after it.
abbrev pub StatsMessage : Type 0
StatsMessage = Message StatsHeader StatsAttribute

-- The bytes of a message.
abbrev pub text : StatsMessage → List ℕ
text m = message.text header_text Attribute.kind Attribute.value m

-- Whether each attribute fits, and the message a frame.
abbrev pub fits : StatsMessage → Bool
fits m = message.fits header_text Attribute.kind Attribute.value m

-- The message of bytes, or the first cause from the left why they are none.
abbrev pub message_at : List ℕ → Result StatsMessage DecodeError
message_at bytes = message.message_at 12 header_at (λ h. Attribute.attribute_at) bytes

-- ---- what reads back

-- The numbers of a header fit their fields, and its family reads back.
pub record HeaderReadsBack (h : StatsHeader) : Type 0 where
  pub of_family : Family.ReadsBack h.family
  pub of_ifindex : h.ifindex < 2 ^ 32
  pub of_filter_mask : h.filter_mask.0 < 2 ^ 32

-- A message reads back where its header and each of its attributes does.
abbrev pub ReadsBack : StatsMessage → Type 0
ReadsBack m = HeaderReadsBack m.header × AllByRecursion Attribute.ReadsBack m.attributes

-- Each message that fits and reads back does so from its bytes.
abbrev pub MessagesReadBack : Type 0
MessagesReadBack = (m : StatsMessage) → fits m ≡ true → ReadsBack m → message_at (text m) ≡ Ok m
