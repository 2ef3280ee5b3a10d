-- Routes: what is read and what is written.
use Rattle.std.specs.Prelude.{◌≡◌, ◌<◌, ◌^◌, ℕ, Bool, true, List, [], ◌∷◌, ◌++◌, slice_index, Result, Ok}
use Rattle.std.specs.List.{AllByRecursion}
use Rattle.nl_core.specs.declared.error.DecodeError.{DecodeError}
use Rattle.nl_core.specs.Numbers.{le32, u32_at}
use Rattle.nl_core.specs.Reading.{◌>>=◌, number8}
use Rattle.rt_other.specs.declared.address_family.AddressFamily.TheVariants.{Unspec}
use Rattle.rt_other.specs.Family as Family
use Rattle.rt_other.specs.Message as message
use Rattle.rt_other.specs.RouteAttribute as Attribute
use Rattle.rt_other.specs.declared.route_attribute.RouteAttribute.{RouteAttribute}
use Rattle.rt_other.specs.declared.route.RouteProtocol.{RouteProtocol}
use Rattle.rt_other.specs.declared.message.Message.{Message}
use Rattle.rt_other.specs.declared.route.RouteHeader.{RouteHeader}

-- The protocol that bytes are.
abbrev pub protocol_at : List ℕ → Result RouteProtocol DecodeError
protocol_at bytes = number8 bytes >>= λ n. Ok (record { 0 = n })

-- ---- the header

-- The 12 bytes of a header.
unfoldable pub header_text : RouteHeader → List ℕ
header_text h =
    (Family.family_byte h.address_family ∷ h.destination_prefix_length ∷ h.source_prefix_length ∷ h.tos ∷ h.table ∷ h.protocol.0
    ∷ h.scope ∷ h.kind.0 ∷ []) ++ le32 h.flags

-- The header at the front of bytes.
abbrev pub header_at : List ℕ → RouteHeader
header_at bytes = record {
  address_family = Family.family_of (slice_index bytes 0);
  destination_prefix_length = slice_index bytes 1;
  source_prefix_length = slice_index bytes 2;
  tos = slice_index bytes 3;
  table = slice_index bytes 4;
  protocol = record { 0 = slice_index bytes 5 };
  scope = slice_index bytes 6;
  kind = record { 0 = slice_index bytes 7 };
  flags = u32_at bytes 8;
}

-- The header of zeros.
abbrev pub default_header : RouteHeader
default_header = record {
  address_family = Unspec;
  destination_prefix_length = 0;
  source_prefix_length = 0;
  tos = 0;
  table = 0;
  protocol = record { 0 = 0 };
  scope = 0;
  kind = record { 0 = 0 };
  flags = 0;
}

-- ---- the message

-- A header and the attributes after it.
abbrev pub RouteMessage : Type 0
RouteMessage = Message RouteHeader RouteAttribute

-- The bytes of a message.
abbrev pub text : RouteMessage → List ℕ
text m = message.text header_text Attribute.kind Attribute.value m

-- Whether each attribute fits, and the message a frame.
abbrev pub fits : RouteMessage → Bool
fits m = message.fits header_text Attribute.kind Attribute.value m

-- The message of bytes, or the first cause from the left why they are none.
abbrev pub message_at : List ℕ → Result RouteMessage DecodeError
message_at bytes = message.message_at 12 header_at (λ h. Attribute.attribute_at h.address_family) bytes

-- ---- what reads back

-- The numbers of a header fit their fields, and its family reads back.
pub record HeaderReadsBack (h : RouteHeader) : Type 0 where
  pub of_family : Family.ReadsBack h.address_family
  pub of_flags : h.flags < 2 ^ 32

-- A message reads back where its header and each of its attributes does.
abbrev pub ReadsBack : RouteMessage → Type 0
ReadsBack m = HeaderReadsBack m.header × AllByRecursion (Attribute.ReadsBack m.header.address_family) m.attributes

-- Each message that fits and reads back does so from its bytes.
abbrev pub MessagesReadBack : Type 0
MessagesReadBack = (m : RouteMessage) → fits m ≡ true → ReadsBack m → message_at (text m) ≡ Ok m
