-- Neighbour tables: what is read and what is written.
use Rattle.std.specs.Prelude.{◌≡◌, ℕ, Bool, true, List, [], ◌∷◌, slice_index, Result, Ok}
use Rattle.std.specs.List.{AllByRecursion}
use Rattle.nl_core.specs.declared.error.DecodeError.{DecodeError}
use Rattle.rt_other.specs.declared.address_family.AddressFamily.TheVariants.{Unspec}
use Rattle.rt_other.specs.Family as Family
use Rattle.rt_other.specs.Message as message
use Rattle.rt_other.specs.declared.message.Message.{Message}
use Rattle.rt_neighbour_table.specs.NeighbourTableAttribute as Attribute
use Rattle.rt_neighbour_table.specs.declared.attribute.NeighbourTableAttribute.{NeighbourTableAttribute}
use Rattle.rt_neighbour_table.specs.declared.header.NeighbourTableHeader.{NeighbourTableHeader}

-- ---- the header

-- The 4 bytes of a header.
unfoldable pub header_text : NeighbourTableHeader → List ℕ
header_text h = Family.family_byte h.family ∷ 0 ∷ 0 ∷ 0 ∷ []

-- The header at the front of bytes.
abbrev pub header_at : List ℕ → NeighbourTableHeader
header_at bytes = record {
  family = Family.family_of (slice_index bytes 0);
}

-- The header of zeros.
abbrev pub default_header : NeighbourTableHeader
default_header = record {
  family = Unspec;
}

-- ---- the message

-- A header and the attributes after it.
abbrev pub NeighbourTableMessage : Type 0
NeighbourTableMessage = Message NeighbourTableHeader NeighbourTableAttribute

-- The bytes of a message.
abbrev pub text : NeighbourTableMessage → List ℕ
text m = message.text header_text Attribute.kind Attribute.value m

-- Whether each attribute fits, and the message a frame.
abbrev pub fits : NeighbourTableMessage → Bool
fits m = message.fits header_text Attribute.kind Attribute.value m

-- The message of bytes, or the first cause from the left why they are none.
abbrev pub message_at : List ℕ → Result NeighbourTableMessage DecodeError
message_at bytes = message.message_at 4 header_at (λ h. Attribute.attribute_at) bytes

-- ---- what reads back

-- The family of a header reads back.
pub record HeaderReadsBack (h : NeighbourTableHeader) : Type 0 where
  pub of_family : Family.ReadsBack h.family

-- A message reads back where its header and each of its attributes does.
abbrev pub ReadsBack : NeighbourTableMessage → Type 0
ReadsBack m = HeaderReadsBack m.header × AllByRecursion Attribute.ReadsBack m.attributes

-- Each message that fits and reads back does so from its bytes.
abbrev pub MessagesReadBack : Type 0
MessagesReadBack = (m : NeighbourTableMessage) → fits m ≡ true → ReadsBack m → message_at (text m) ≡ Ok m
