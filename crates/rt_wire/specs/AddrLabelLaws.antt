-- Headers of messages: address labels. A header reads back, and one that was read from bytes does.
use Rattle.std.proofs.Common.{◌≡◌, ℕ, List, ◌++◌, length, refl}
use Rattle.std.specs.Prelude.{slice_index}
use Rattle.std.proofs.lemmas.Nat.{from_le_bytes-to_le_bytes_4}
use Rattle.nl_core.specs.Numbers.{AreBytes, le32, u32_at}
use Rattle.nl_core.proofs.Bytes.{u32-below}
use Rattle.rt_other.specs.Family.{family_byte}
use Rattle.rt_other.specs.FamilyLaws.{family-again, family-read}
use Rattle.rt_wire.specs.declared.addrlabel.header.AddrLabelHeader.{AddrLabelHeader}
use Rattle.rt_wire.specs.AddrLabel.{header_text, header_at, HeaderReadsBack}

-- A header has 12 bytes.
pub length-header : (h : AddrLabelHeader) → length (header_text h) ≡ 12
unfolding header_text le32
length-header h = refl

-- The single bytes of a header.
bytes : (h : AddrLabelHeader) (more : List ℕ)
    → (slice_index (header_text h ++ more) 0 ≡ family_byte h.family)
    × (slice_index (header_text h ++ more) 2 ≡ h.prefix_len)
    × (slice_index (header_text h ++ more) 3 ≡ h.flags)
unfolding header_text le32
bytes h more = (refl, refl, refl)

-- The numbers of a header.
numbers : (h : AddrLabelHeader) (more : List ℕ) → HeaderReadsBack h
    → (u32_at (header_text h ++ more) 4 ≡ h.index)
    × (u32_at (header_text h ++ more) 8 ≡ h.sequence)
unfolding header_text le32 u32_at
numbers h more back = (
  from_le_bytes-to_le_bytes_4 h.index back.of_index,
  from_le_bytes-to_le_bytes_4 h.sequence back.of_sequence,
)

-- A header reads back, whatever follows it.
pub header-again : (h : AddrLabelHeader) (more : List ℕ) → HeaderReadsBack h → header_at (header_text h ++ more) ≡ h
header-again h more back =
    let b = bytes h more in
    let n = numbers h more back in
    rw (b.0, b.1, b.2, family-again h.family back.of_family, n.0, n.1) refl

-- A header that was read from bytes reads back.
pub header-read : (bytes : List ℕ) → AreBytes bytes → HeaderReadsBack (header_at bytes)
header-read bytes are = record {
  of_family = family-read (slice_index bytes 0);
  of_index = u32-below bytes 4 are;
  of_sequence = u32-below bytes 8 are;
}
