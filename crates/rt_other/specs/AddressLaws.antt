-- Headers of messages: addresses of links. A header reads back, and one that was read from bytes does.
use Rattle.std.proofs.Common.{◌≡◌, ℕ, List, ◌++◌, length, refl}
use Rattle.std.specs.Prelude.{slice_index}
use Rattle.std.proofs.lemmas.Nat.{from_le_bytes-to_le_bytes_4}
use Rattle.nl_core.specs.Numbers.{AreBytes, le32, u32_at}
use Rattle.nl_core.proofs.Bytes.{u32-below}
use Rattle.rt_other.specs.Family.{family_byte}
use Rattle.rt_other.specs.FamilyLaws.{family-again, family-read}
use Rattle.rt_other.specs.declared.address.AddressHeader.{AddressHeader}
use Rattle.rt_other.specs.Address.{header_text, header_at, HeaderReadsBack}

-- A header has 8 bytes.
pub length-header : (h : AddressHeader) → length (header_text h) ≡ 8
unfolding header_text le32
length-header h = refl

-- The single bytes of a header.
bytes : (h : AddressHeader) (more : List ℕ)
    → (slice_index (header_text h ++ more) 0 ≡ family_byte h.family)
    × (slice_index (header_text h ++ more) 1 ≡ h.prefix_len)
    × (slice_index (header_text h ++ more) 2 ≡ h.flags)
    × (slice_index (header_text h ++ more) 3 ≡ h.scope)
unfolding header_text le32
bytes h more = (refl, refl, refl, refl)

-- The numbers of a header.
numbers : (h : AddressHeader) (more : List ℕ) → HeaderReadsBack h
    → (u32_at (header_text h ++ more) 4 ≡ h.index)
unfolding header_text le32 u32_at
numbers h more back = from_le_bytes-to_le_bytes_4 h.index back.of_index

-- A header reads back, whatever follows it.
pub header-again : (h : AddressHeader) (more : List ℕ) → HeaderReadsBack h → header_at (header_text h ++ more) ≡ h
header-again h more back =
    let b = bytes h more in
    rw (b.0, b.1, b.2, b.3, family-again h.family back.of_family, numbers h more back) refl

-- A header that was read from bytes reads back.
pub header-read : (bytes : List ℕ) → AreBytes bytes → HeaderReadsBack (header_at bytes)
header-read bytes are = record {
  of_family = family-read (slice_index bytes 0);
  of_index = u32-below bytes 4 are;
}
