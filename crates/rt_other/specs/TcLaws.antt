-- Headers of messages: traffic control. A header reads back, and one that was read from bytes does.
use Rattle.std.proofs.Common.{◌≡◌, ℕ, List, ◌++◌, length, refl}
use Rattle.std.specs.Prelude.{slice_index}
use Rattle.std.proofs.lemmas.Nat.{from_le_bytes-to_le_bytes_4}
use Rattle.nl_core.specs.Numbers.{AreBytes, le32, u32_at, le_i32, i32_at}
use Rattle.nl_core.proofs.Bytes.{u32-below, i32-fits}
use Rattle.nl_core.proofs.Signed.{from_le_bytes-signed}
use Rattle.rt_other.specs.Family.{family_byte}
use Rattle.rt_other.specs.FamilyLaws.{family-again, family-read}
use Rattle.rt_other.specs.declared.tc.TcHeader.{TcHeader}
use Rattle.rt_other.specs.Tc.{header_text, header_at, HeaderReadsBack}

-- A header has 20 bytes.
pub length-header : (h : TcHeader) → length (header_text h) ≡ 20
unfolding header_text le32 le_i32
length-header h = refl

-- The single bytes of a header.
bytes : (h : TcHeader) (more : List ℕ)
    → (slice_index (header_text h ++ more) 0 ≡ family_byte h.family)
unfolding header_text le32 le_i32
bytes h more = refl

-- The numbers of a header.
numbers : (h : TcHeader) (more : List ℕ) → HeaderReadsBack h
    → (i32_at (header_text h ++ more) 4 ≡ h.index)
    × (u32_at (header_text h ++ more) 8 ≡ h.handle)
    × (u32_at (header_text h ++ more) 12 ≡ h.parent)
    × (u32_at (header_text h ++ more) 16 ≡ h.info)
unfolding header_text le32 le_i32 u32_at i32_at
numbers h more back = (
  from_le_bytes-signed h.index back.of_index,
  from_le_bytes-to_le_bytes_4 h.handle back.of_handle,
  from_le_bytes-to_le_bytes_4 h.parent back.of_parent,
  from_le_bytes-to_le_bytes_4 h.info back.of_info,
)

-- A header reads back, whatever follows it.
pub header-again : (h : TcHeader) (more : List ℕ) → HeaderReadsBack h → header_at (header_text h ++ more) ≡ h
header-again h more back =
    let n = numbers h more back in
    rw (bytes h more, family-again h.family back.of_family, n.0, n.1, n.2, n.3) refl

-- A header that was read from bytes reads back.
pub header-read : (bytes : List ℕ) → AreBytes bytes → HeaderReadsBack (header_at bytes)
header-read bytes are = record {
  of_family = family-read (slice_index bytes 0);
  of_index = i32-fits bytes 4 are;
  of_handle = u32-below bytes 8 are;
  of_parent = u32-below bytes 12 are;
  of_info = u32-below bytes 16 are;
}
