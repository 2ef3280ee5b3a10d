-- Attributes of neighbours read back.
use Rattle.std.proofs.Common.{◌≡◌, ◌≤◌, ◌<◌, ◌^◌, ◌%◌, ℕ, true, List, length, Ok, refl, subst, arith}
use Rattle.nl_core.specs.Numbers.{AreBytes}
use Rattle.nl_core.specs.Reading.{number16, number16_be, number32}
use Rattle.nl_core.specs.Attribute.{is_checked}
use Rattle.nl_core.specs.AttributeReadBack.{ReadsAgain}
use Rattle.nl_core.proofs.NumberReadBack.{number16-le16, number16_be-be16, number32-le32, number16-below, number16_be-below, number32-below}
use Rattle.rt_other.specs.declared.address_family.AddressFamily.{AddressFamily}
use Rattle.rt_other.specs.Route.{protocol_at}
use Rattle.rt_layout.specs.Rows.{row, read_by}
use Rattle.rt_layout.specs.FixedLaws.{sized-again, sized-read}
use Rattle.rt_layout.specs.RowLaws.{◌&◌, RowReads, row-again, other-again, row-reads, attribute-reads}
use Rattle.rt_neighbour.specs.CacheInfo as cache_info
use Rattle.rt_neighbour.specs.CacheInfoLaws.{length-cache_info, cache_info-again, cache_info-read}
use Rattle.rt_neighbour.specs.NeighbourAddress.{address_at, IsOfFamily}
use Rattle.rt_neighbour.specs.NeighbourAddressLaws.{address-again, address-read}
use Rattle.rt_neighbour.specs.declared.cache_info.NeighbourCacheInfo.{NeighbourCacheInfo}
use Rattle.rt_neighbour.specs.declared.attribute.NeighbourAttribute.{NeighbourAttribute}
use Rattle.rt_neighbour.specs.declared.attribute.NeighbourAttribute.TheVariants.{Destination, LinkLayerAddress, CacheInfo as Times, Probes, Vlan, Port, Vni, IfIndex, Controller, LinkNetNsId, SourceVni, Protocol, ExtFlags, Other}
use Rattle.rt_neighbour.specs.NeighbourAttribute.{times_at, rows, kind, value, attribute_at, ReadsBack}

times-again : (times : NeighbourCacheInfo) → cache_info.ReadsBack times → times_at (cache_info.cache_info_text times) ≡ Ok times
times-again times back =
    sized-again 16 cache_info.cache_info_text cache_info.cache_info_at times (length-cache_info times) (λ more. cache_info-again times more back)

times-read : (bytes : List ℕ) (times : NeighbourCacheInfo) → AreBytes bytes → times_at bytes ≡ Ok times → cache_info.ReadsBack times
times-read bytes times are is =
    subst (λ (i : NeighbourCacheInfo). cache_info.ReadsBack i) (sized-read 16 bytes (cache_info.cache_info_at bytes) times is) (cache_info-read bytes are)

again : (f : AddressFamily) (x : NeighbourAttribute) → kind x < 65536 → length (value x) ≤ 65531
    → ((o : NeighbourAttribute) → read_by (rows f) (kind x % 16384) (value x) o ≡ Ok x) → ReadsAgain kind value (attribute_at f) x
again f x fits short is = row-again (rows f) (λ n. Other n) kind value x fits short is

-- An attribute that reads back under a family does so, where its length fits its field.
pub attribute-again : (f : AddressFamily) (x : NeighbourAttribute) → ReadsBack f x → length (value x) ≤ 65531
    → ReadsAgain kind value (attribute_at f) x
attribute-again f (Destination a) h short = again f (Destination a) (omega arith) short (λ o. rw (address-again f a h) refl)
attribute-again f (LinkLayerAddress bytes) h short = again f (LinkLayerAddress bytes) (omega arith) short (λ o. refl)
attribute-again f (Times times) h short = again f (Times times) (omega arith) short (λ o. rw (times-again times h) refl)
attribute-again f (Probes n) h short = again f (Probes n) (omega arith) short (λ o. rw (number32-le32 n h) refl)
attribute-again f (Vlan n) h short = again f (Vlan n) (omega arith) short (λ o. rw (number16-le16 n h) refl)
attribute-again f (Port n) h short = again f (Port n) (omega arith) short (λ o. rw (number16_be-be16 n h) refl)
attribute-again f (Vni n) h short = again f (Vni n) (omega arith) short (λ o. rw (number32-le32 n h) refl)
attribute-again f (IfIndex n) h short = again f (IfIndex n) (omega arith) short (λ o. rw (number32-le32 n h) refl)
attribute-again f (Controller n) h short = again f (Controller n) (omega arith) short (λ o. rw (number32-le32 n h) refl)
attribute-again f (LinkNetNsId n) h short = again f (LinkNetNsId n) (omega arith) short (λ o. rw (number32-le32 n h) refl)
attribute-again f (SourceVni n) h short = again f (SourceVni n) (omega arith) short (λ o. rw (number32-le32 n h) refl)
attribute-again f (Protocol p) h short = again f (Protocol p) (omega arith) short (λ o. refl)
attribute-again f (ExtFlags flags) h short = again f (ExtFlags flags) (omega arith) short (λ o. rw (number32-le32 flags.0 h) refl)
attribute-again f (Other n) h short = other-again (rows f) (λ n. Other n) kind value n refl refl h short

numbers : (f : AddressFamily) (k : ℕ) (make : ℕ → NeighbourAttribute) → ((n : ℕ) → n < 2 ^ 32 → ReadsBack f (make n))
    → RowReads (ReadsBack f) (row k number32 make)
numbers f k make makes = row-reads (λ n. n < 2 ^ 32) (ReadsBack f) number32 make k number32-below makes

-- An attribute that was read from bytes under a family reads back under it.
pub attribute-read : (f : AddressFamily) (bytes : List ℕ) (x : NeighbourAttribute) → AreBytes bytes → is_checked bytes ≡ true
    → attribute_at f bytes ≡ Ok x → ReadsBack f x
attribute-read f bytes x are checked is =
    attribute-reads (ReadsBack f) (rows f) (λ n. Other n) bytes x are (
    row-reads (IsOfFamily f) (ReadsBack f) (address_at f) (λ a. Destination a) 1 (address-read f) (λ a of. of)
    & row-reads (λ bytes. Unit {0}) (ReadsBack f) (λ v. Ok v) (λ bytes. LinkLayerAddress bytes) 2 (λ v bytes are is. tt) (λ bytes fits. fits)
    & row-reads (λ times. cache_info.ReadsBack times) (ReadsBack f) times_at (λ times. Times times) 3 times-read (λ times fits. fits)
    & numbers f 4 (λ n. Probes n) (λ n fits. fits)
    & row-reads (λ n. n < 2 ^ 16) (ReadsBack f) number16 (λ n. Vlan n) 5 number16-below (λ n fits. fits)
    & row-reads (λ n. n < 2 ^ 16) (ReadsBack f) number16_be (λ n. Port n) 6 number16_be-below (λ n fits. fits)
    & numbers f 7 (λ n. Vni n) (λ n fits. fits)
    & numbers f 8 (λ n. IfIndex n) (λ n fits. fits)
    & numbers f 9 (λ n. Controller n) (λ n fits. fits)
    & numbers f 10 (λ n. LinkNetNsId n) (λ n fits. fits)
    & numbers f 11 (λ n. SourceVni n) (λ n fits. fits)
    & row-reads (λ p. Unit {0}) (ReadsBack f) protocol_at (λ p. Protocol p) 12 (λ v p are is. tt) (λ p fits. fits)
    & numbers f 15 (λ n. ExtFlags (record { 0 = n })) (λ n fits. fits)
    & tt
    ) (λ n none. none) is
