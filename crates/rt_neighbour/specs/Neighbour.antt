-- Neighbours: what is read and what is written.
use Rattle.std.specs.Prelude.{◌≡◌, ◌<◌, ◌^◌, ℕ, Bool, true, List, [], ◌∷◌, ◌++◌, slice_index, Result, Ok}
use Rattle.std.specs.List.{AllByRecursion}
use Rattle.nl_core.specs.declared.error.DecodeError.{DecodeError}
use Rattle.nl_core.specs.Numbers.{le16, u16_at, le32, u32_at}
use Rattle.rt_other.specs.declared.address_family.AddressFamily.TheVariants.{Unspec}
use Rattle.rt_other.specs.Family as Family
use Rattle.rt_other.specs.Message as message
use Rattle.rt_other.specs.declared.message.Message.{Message}
use Rattle.rt_neighbour.specs.State as State
use Rattle.rt_neighbour.specs.declared.state.NeighbourState.TheVariants as state
use Rattle.rt_neighbour.specs.NeighbourAttribute as Attribute
use Rattle.rt_neighbour.specs.declared.attribute.NeighbourAttribute.{NeighbourAttribute}
use Rattle.rt_neighbour.specs.declared.header.NeighbourHeader.{NeighbourHeader}

-- ---- the header

-- The 12 bytes of a header.
unfoldable pub header_text : NeighbourHeader → List ℕ
header_text h =
    (Family.family_byte h.family ∷ 0 ∷ 0 ∷ 0 ∷ []) ++ le32 h.ifindex ++ le16 (State.state_number h.state)
    ++ (h.flags.0 ∷ h.kind.0 ∷ [])

-- The header at the front of bytes.
abbrev pub header_at : List ℕ → NeighbourHeader
header_at bytes = record {
  family = Family.family_of (slice_index bytes 0);
  ifindex = u32_at bytes 4;
  state = State.state_of (u16_at bytes 8);
  flags = record { 0 = slice_index bytes 10 };
  kind = record { 0 = slice_index bytes 11 };
}

-- The header of zeros.
abbrev pub default_header : NeighbourHeader
default_header = record {
  family = Unspec;
  ifindex = 0;
  state = state.None;
  flags = record { 0 = 0 };
  kind = record { 0 = 0 };
}

-- ---- the message

-- A header and the attributes after it.
abbrev pub NeighbourMessage : Type 0
NeighbourMessage = Message NeighbourHeader NeighbourAttribute

-- The bytes of a message.
abbrev pub text : NeighbourMessage → List ℕ
text m = message.text header_text Attribute.kind Attribute.value m

-- Whether each attribute fits, and the message a frame.
abbrev pub fits : NeighbourMessage → Bool
fits m = message.fits header_text Attribute.kind Attribute.value m

-- The message of bytes, or the first cause from the left why they are none.
abbrev pub message_at : List ℕ → Result NeighbourMessage DecodeError
message_at bytes = message.message_at 12 header_at (λ h. Attribute.attribute_at h.family) bytes

-- ---- what reads back

-- The numbers of a header fit their fields, and its family and its state read back.
pub record HeaderReadsBack (h : NeighbourHeader) : Type 0 where
  pub of_family : Family.ReadsBack h.family
  pub of_ifindex : h.ifindex < 2 ^ 32
  pub of_state : State.ReadsBack h.state

-- A message reads back where its header and each of its attributes does.
abbrev pub ReadsBack : NeighbourMessage → Type 0
ReadsBack m = HeaderReadsBack m.header × AllByRecursion (Attribute.ReadsBack m.header.family) m.attributes

-- Each message that fits and reads back does so from its bytes.
abbrev pub MessagesReadBack : Type 0
MessagesReadBack = (m : NeighbourMessage) → fits m ≡ true → ReadsBack m → message_at (text m) ≡ Ok m
