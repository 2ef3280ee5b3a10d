-- Headers of messages: network namespaces. A header reads back, and one that was read from bytes does.
use Rattle.std.proofs.Common.{◌≡◌, ℕ, List, ◌++◌, length, refl}
use Rattle.std.specs.Prelude.{slice_index}
use Rattle.nl_core.specs.Numbers.{AreBytes}
use Rattle.rt_other.specs.Family.{family_byte}
use Rattle.rt_other.specs.FamilyLaws.{family-again, family-read}
use Rattle.rt_wire.specs.declared.nsid.header.NsidHeader.{NsidHeader}
use Rattle.rt_wire.specs.Nsid.{header_text, header_at, HeaderReadsBack}

-- A header has 4 bytes.
pub length-header : (h : NsidHeader) → length (header_text h) ≡ 4
unfolding header_text
length-header h = refl

-- The single bytes of a header.
bytes : (h : NsidHeader) (more : List ℕ)
    → (slice_index (header_text h ++ more) 0 ≡ family_byte h.family)
unfolding header_text
bytes h more = refl

-- A header reads back, whatever follows it.
pub header-again : (h : NsidHeader) (more : List ℕ) → HeaderReadsBack h → header_at (header_text h ++ more) ≡ h
header-again h more back =
    rw (bytes h more, family-again h.family back.of_family) refl

-- A header that was read from bytes reads back.
pub header-read : (bytes : List ℕ) → AreBytes bytes → HeaderReadsBack (header_at bytes)
header-read bytes are = record {
  of_family = family-read (slice_index bytes 0);
}
