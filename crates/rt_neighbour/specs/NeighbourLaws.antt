-- Headers of messages: neighbours. A header reads back, and one that was read from bytes does.
use Rattle.std.proofs.Common.{◌≡◌, ℕ, List, ◌++◌, length, refl}
use Rattle.std.specs.Prelude.{slice_index}
use Rattle.std.proofs.lemmas.Nat.{from_le_bytes-to_le_bytes_2, from_le_bytes-to_le_bytes_4}
use Rattle.nl_core.specs.Numbers.{AreBytes, le16, le32, u16_at, u32_at}
use Rattle.nl_core.proofs.Bytes.{u16-below, u32-below}
use Rattle.rt_other.specs.Family.{family_byte}
use Rattle.rt_other.specs.FamilyLaws.{family-again, family-read}
use Rattle.rt_neighbour.specs.State.{state_number}
use Rattle.rt_neighbour.specs.StateLaws.{state-again, state-read, state-fits}
use Rattle.rt_neighbour.specs.declared.header.NeighbourHeader.{NeighbourHeader}
use Rattle.rt_neighbour.specs.Neighbour.{header_text, header_at, HeaderReadsBack}

-- A header has 12 bytes.
pub length-header : (h : NeighbourHeader) → length (header_text h) ≡ 12
unfolding header_text le16 le32
length-header h = refl

-- The single bytes of a header.
bytes : (h : NeighbourHeader) (more : List ℕ)
    → (slice_index (header_text h ++ more) 0 ≡ family_byte h.family)
    × (slice_index (header_text h ++ more) 10 ≡ h.flags.0)
    × (slice_index (header_text h ++ more) 11 ≡ h.kind.0)
unfolding header_text le16 le32
bytes h more = (refl, refl, refl)

-- The numbers of a header.
numbers : (h : NeighbourHeader) (more : List ℕ) → HeaderReadsBack h
    → (u32_at (header_text h ++ more) 4 ≡ h.ifindex)
    × (u16_at (header_text h ++ more) 8 ≡ state_number h.state)
unfolding header_text le16 le32 u16_at u32_at
numbers h more back = (
  from_le_bytes-to_le_bytes_4 h.ifindex back.of_ifindex,
  from_le_bytes-to_le_bytes_2 (state_number h.state) (state-fits h.state back.of_state),
)

-- A header reads back, whatever follows it.
pub header-again : (h : NeighbourHeader) (more : List ℕ) → HeaderReadsBack h → header_at (header_text h ++ more) ≡ h
header-again h more back =
    let b = bytes h more in
    let n = numbers h more back in
    rw (b.0, b.1, b.2, family-again h.family back.of_family, n.0, n.1, state-again h.state back.of_state) refl

-- A header that was read from bytes reads back.
pub header-read : (bytes : List ℕ) → AreBytes bytes → HeaderReadsBack (header_at bytes)
header-read bytes are = record {
  of_family = family-read (slice_index bytes 0);
  of_ifindex = u32-below bytes 4 are;
  of_state = state-read (u16_at bytes 8) (u16-below bytes 8 are);
}
