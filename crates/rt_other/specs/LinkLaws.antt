-- Headers of messages: links. A header reads back, and one that was read from bytes does.
use Rattle.std.proofs.Common.{◌≡◌, ℕ, List, ◌++◌, length, refl}
use Rattle.std.specs.Prelude.{slice_index}
use Rattle.std.proofs.lemmas.Nat.{from_le_bytes-to_le_bytes_2, from_le_bytes-to_le_bytes_4}
use Rattle.nl_core.specs.Numbers.{AreBytes, le16, u16_at, le32, u32_at}
use Rattle.nl_core.proofs.Bytes.{u16-below, u32-below}
use Rattle.rt_other.specs.Family.{family_byte}
use Rattle.rt_other.specs.FamilyLaws.{family-again, family-read}
use Rattle.rt_other.specs.declared.link.LinkHeader.{LinkHeader}
use Rattle.rt_other.specs.Link.{header_text, header_at, HeaderReadsBack}

-- A header has 16 bytes.
pub length-header : (h : LinkHeader) → length (header_text h) ≡ 16
unfolding header_text le16 le32
length-header h = refl

-- The single bytes of a header.
bytes : (h : LinkHeader) (more : List ℕ)
    → (slice_index (header_text h ++ more) 0 ≡ family_byte h.interface_family)
unfolding header_text le16 le32
bytes h more = refl

-- The numbers of a header.
numbers : (h : LinkHeader) (more : List ℕ) → HeaderReadsBack h
    → (u16_at (header_text h ++ more) 2 ≡ h.link_layer_type)
    × (u32_at (header_text h ++ more) 4 ≡ h.index)
    × (u32_at (header_text h ++ more) 8 ≡ h.flags)
    × (u32_at (header_text h ++ more) 12 ≡ h.change_mask)
unfolding header_text le16 le32 u16_at u32_at
numbers h more back = (
  from_le_bytes-to_le_bytes_2 h.link_layer_type back.of_link_layer_type,
  from_le_bytes-to_le_bytes_4 h.index back.of_index,
  from_le_bytes-to_le_bytes_4 h.flags back.of_flags,
  from_le_bytes-to_le_bytes_4 h.change_mask back.of_change_mask,
)

-- A header reads back, whatever follows it.
pub header-again : (h : LinkHeader) (more : List ℕ) → HeaderReadsBack h → header_at (header_text h ++ more) ≡ h
header-again h more back =
    let n = numbers h more back in
    rw (bytes h more, family-again h.interface_family back.of_family, n.0, n.1, n.2, n.3) refl

-- A header that was read from bytes reads back.
pub header-read : (bytes : List ℕ) → AreBytes bytes → HeaderReadsBack (header_at bytes)
header-read bytes are = record {
  of_family = family-read (slice_index bytes 0);
  of_link_layer_type = u16-below bytes 2 are;
  of_index = u32-below bytes 4 are;
  of_flags = u32-below bytes 8 are;
  of_change_mask = u32-below bytes 12 are;
}
