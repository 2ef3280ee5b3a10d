-- Headers of messages: statistics. A header reads back, and one that was read from bytes does.
use Rattle.std.proofs.Common.{◌≡◌, ℕ, List, ◌++◌, length, refl}
use Rattle.std.specs.Prelude.{slice_index}
use Rattle.std.proofs.lemmas.Nat.{from_le_bytes-to_le_bytes_4}
use Rattle.nl_core.specs.Numbers.{AreBytes, le32, u32_at}
use Rattle.nl_core.proofs.Bytes.{u32-below}
use Rattle.rt_other.specs.Family.{family_byte}
use Rattle.rt_other.specs.FamilyLaws.{family-again, family-read}
use Rattle.rt_stats.specs.declared.stats.header.StatsHeader.{StatsHeader}
use Rattle.rt_stats.specs.Stats.{header_text, header_at, HeaderReadsBack}

-- A header has 12 bytes.
pub length-header : (h : StatsHeader) → length (header_text h) ≡ 12
unfolding header_text le32
length-header h = refl

-- The single bytes of a header.
bytes : (h : StatsHeader) (more : List ℕ)
    → (slice_index (header_text h ++ more) 0 ≡ family_byte h.family)
unfolding header_text
bytes h more = refl

-- The numbers of a header.
numbers : (h : StatsHeader) (more : List ℕ) → HeaderReadsBack h
    → (u32_at (header_text h ++ more) 4 ≡ h.ifindex)
    × (u32_at (header_text h ++ more) 8 ≡ h.filter_mask.0)
unfolding header_text le32 u32_at
numbers h more back = (
  from_le_bytes-to_le_bytes_4 h.ifindex back.of_ifindex,
  from_le_bytes-to_le_bytes_4 h.filter_mask.0 back.of_filter_mask,
)

-- A header reads back, whatever follows it.
pub header-again : (h : StatsHeader) (more : List ℕ) → HeaderReadsBack h → header_at (header_text h ++ more) ≡ h
header-again h more back =
    let n = numbers h more back in
    rw (bytes h more, family-again h.family back.of_family, n.0, n.1) refl

-- A header that was read from bytes reads back.
pub header-read : (bytes : List ℕ) → AreBytes bytes → HeaderReadsBack (header_at bytes)
header-read bytes are = record {
  of_family = family-read (slice_index bytes 0);
  of_ifindex = u32-below bytes 4 are;
  of_filter_mask = u32-below bytes 8 are;
}
