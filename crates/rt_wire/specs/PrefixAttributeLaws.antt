-- Attributes of prefixes read back.
use Rattle.std.proofs.Common.{◌≡◌, ◌≤◌, ℕ, true, List, length, Ok, refl, subst, arith}
use Rattle.nl_core.specs.Numbers.{AreBytes}
use Rattle.nl_core.specs.Attribute.{is_checked}
use Rattle.nl_core.specs.AttributeReadBack.{ReadsAgain}
use Rattle.nl_core.proofs.NumberReadBack.{exactly-ok}
use Rattle.rt_other.specs.declared.ip.Ipv6Addr.{Ipv6Addr}
use Rattle.rt_layout.specs.FixedLaws.{sized-again, sized-read}
use Rattle.rt_layout.specs.RowLaws.{◌&◌, row-again, other-again, row-reads, attribute-reads}
use Rattle.rt_wire.specs.declared.prefix.cache_info.CacheInfo.{CacheInfo}
use Rattle.rt_wire.specs.CacheInfo as cache_info
use Rattle.rt_wire.specs.CacheInfoLaws.{length-cache_info, cache_info-again, cache_info-read}
use Rattle.rt_wire.specs.declared.prefix.attribute.PrefixAttribute.{PrefixAttribute}
use Rattle.rt_wire.specs.declared.prefix.attribute.PrefixAttribute.TheVariants.{Address, CacheInfo as Lifetimes, Other}
use Rattle.rt_wire.specs.PrefixAttribute.{address_at, lifetimes_at, rows, kind, value, attribute_at, ReadsBack}

address-again : (a : Ipv6Addr) → length a.0 ≡ 16 → address_at a.0 ≡ Ok a
address-again a whole = rw whole refl

address-read : (bytes : List ℕ) (a : Ipv6Addr) → AreBytes bytes → address_at bytes ≡ Ok a → length a.0 ≡ 16
address-read bytes a are is =
    let both = exactly-ok 16 bytes (record { 0 = bytes }) a is in
    subst (λ (b : Ipv6Addr). length b.0 ≡ 16) both.1 both.0

lifetimes-again : (info : CacheInfo) → cache_info.ReadsBack info → lifetimes_at (cache_info.cache_info_text info) ≡ Ok info
lifetimes-again info back =
    sized-again 8 cache_info.cache_info_text cache_info.cache_info_at info (length-cache_info info) (λ more. cache_info-again info more back)

lifetimes-read : (bytes : List ℕ) (info : CacheInfo) → AreBytes bytes → lifetimes_at bytes ≡ Ok info → cache_info.ReadsBack info
lifetimes-read bytes info are is =
    subst (λ (i : CacheInfo). cache_info.ReadsBack i) (sized-read 8 bytes (cache_info.cache_info_at bytes) info is) (cache_info-read bytes are)

-- An attribute that reads back does so, where its length fits its field.
pub attribute-again : (p : Unit {0}) (x : PrefixAttribute) → ReadsBack x → length (value x) ≤ 65531 → ReadsAgain kind value attribute_at x
attribute-again p (Address a) h short =
    row-again rows (λ n. Other n) kind value (Address a) (omega arith) short (λ o. rw (address-again a h) refl)
attribute-again p (Lifetimes info) h short =
    row-again rows (λ n. Other n) kind value (Lifetimes info) (omega arith) short (λ o. rw (lifetimes-again info h) refl)
attribute-again p (Other n) h short = other-again rows (λ n. Other n) kind value n refl refl h short

-- An attribute that was read from bytes reads back.
pub attribute-read : (p : Unit {0}) (bytes : List ℕ) (x : PrefixAttribute) → AreBytes bytes → is_checked bytes ≡ true
    → attribute_at bytes ≡ Ok x → ReadsBack x
attribute-read p bytes x are checked is =
    attribute-reads ReadsBack rows (λ n. Other n) bytes x are (
    row-reads (λ a. length a.0 ≡ 16) ReadsBack address_at (λ a. Address a) 1 address-read (λ a whole. whole)
    & row-reads (λ info. cache_info.ReadsBack info) ReadsBack lifetimes_at (λ info. Lifetimes info) 2 lifetimes-read (λ info fits. fits)
    & tt
    ) (λ n none. none) is
