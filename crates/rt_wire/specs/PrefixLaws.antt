-- Headers of messages: prefixes. A header reads back, and one that was read from bytes does.
use Rattle.std.proofs.Common.{◌≡◌, ℕ, List, ◌++◌, length, refl}
use Rattle.std.specs.Prelude.{slice_index}
use Rattle.nl_core.specs.Numbers.{AreBytes, le_i32, u32_at, i32_at}
use Rattle.nl_core.proofs.Bytes.{i32-fits}
use Rattle.nl_core.proofs.Signed.{from_le_bytes-signed}
use Rattle.rt_wire.specs.declared.prefix.header.PrefixHeader.{PrefixHeader}
use Rattle.rt_wire.specs.Prefix.{header_text, header_at, HeaderReadsBack}

-- A header has 12 bytes.
pub length-header : (h : PrefixHeader) → length (header_text h) ≡ 12
unfolding header_text le_i32
length-header h = refl

-- The single bytes of a header.
bytes : (h : PrefixHeader) (more : List ℕ)
    → (slice_index (header_text h ++ more) 0 ≡ h.prefix_family)
    × (slice_index (header_text h ++ more) 8 ≡ h.prefix_type)
    × (slice_index (header_text h ++ more) 9 ≡ h.prefix_len)
    × (slice_index (header_text h ++ more) 10 ≡ h.flags)
unfolding header_text le_i32
bytes h more = (refl, refl, refl, refl)

-- The numbers of a header.
numbers : (h : PrefixHeader) (more : List ℕ) → HeaderReadsBack h
    → (i32_at (header_text h ++ more) 4 ≡ h.ifindex)
unfolding header_text le_i32 u32_at i32_at
numbers h more back = from_le_bytes-signed h.ifindex back.of_ifindex

-- A header reads back, whatever follows it.
pub header-again : (h : PrefixHeader) (more : List ℕ) → HeaderReadsBack h → header_at (header_text h ++ more) ≡ h
header-again h more back =
    let b = bytes h more in
    rw (b.0, b.1, b.2, b.3, numbers h more back) refl

-- A header that was read from bytes reads back.
pub header-read : (bytes : List ℕ) → AreBytes bytes → HeaderReadsBack (header_at bytes)
header-read bytes are = record {
  of_ifindex = i32-fits bytes 4 are;
}
