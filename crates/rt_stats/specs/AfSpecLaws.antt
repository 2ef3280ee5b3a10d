-- Statistics by address family read back.
use Rattle.std.proofs.Common.{◌≡◌, ◌≢◌, ◌==◌, ◌≤◌, ◌<◌, ℕ, zero, suc, Bool, true, false, List, [], ◌∷◌, ◌++◌, length, Result, Ok, Err, refl, sym, ◌∙◌, subst, arith, lit<, length-append, eq-eqb}
use Rattle.std.specs.Prelude.{if◌then◌else◌}
use Rattle.std.proofs.lemmas.Bool.{ne_eqb}
use Rattle.std.proofs.lemmas.List.{append-nil}
use Rattle.nl_core.specs.declared.error.DecodeError.{DecodeError}
use Rattle.nl_core.specs.declared.error.DecodeError.TheVariants.{BadAttribute}
use Rattle.nl_core.specs.Numbers.{AreBytes, u16_at}
use Rattle.nl_core.specs.Attribute.{is_checked, checked, kind_of, value_of, after, padded, attributes, attributes_text}
use Rattle.nl_core.specs.AttributeReadBack.{ReadsAgain}
use Rattle.nl_core.proofs.Bytes.{drop-bytes}
use Rattle.nl_core.proofs.Walk.{after-shorter, checked_ok}
use Rattle.nl_core.proofs.Lengths.{length-attribute}
use Rattle.nl_core.proofs.AttributeReadBack.{front, value-bytes, each-read}
use Rattle.rt_other.specs.RouteAttributeLaws.{made-ok}
use Rattle.rt_layout.specs.FixedLaws.{sized-again, sized-read}
use Rattle.rt_layout.specs.RowLaws.{◌&◌, row-again, other-again, row-reads, attribute-reads}
use Rattle.rt_link_xstats.specs.NestedLaws.{nested-again}
use Rattle.rt_stats.specs.MplsLink as mpls
use Rattle.rt_stats.specs.MplsLinkLaws.{length-mpls, mpls-again, mpls-read}
use Rattle.rt_stats.specs.declared.stats.mpls.MplsLinkStats.{MplsLinkStats}
use Rattle.rt_stats.specs.declared.stats.af_spec.AfSpecStat.{AfSpecStat}
use Rattle.rt_stats.specs.declared.stats.af_spec.AfSpecStat.TheVariants.{Mpls, Other}
use Rattle.rt_stats.specs.declared.stats.af_spec.AfSpecStats.{AfSpecStats}
use Rattle.rt_stats.specs.AfSpec.{mpls_at, zeros, first_among, entry_at, entry_text, stats_at, rows, kind, value, attribute_at, ReadsBack, AllReadBack, EntriesReadBack}

-- ---- the walk of an entry

same_if : {X : Type 0} (b : Bool) (x y z : X) → (b ≡ true → x ≡ y) → (if b then x else z) ≡ (if b then y else z)
same_if true x y z same = same refl
same_if false x y z same = refl

same_else : {X : Type 0} (b : Bool) (x y z : X) → y ≡ z → (if b then x else y) ≡ (if b then x else z)
same_else true x y z same = refl
same_else false x y z same = same

-- More fuel than bytes changes nothing.
first-fuel : (m n : ℕ) (bytes : List ℕ) → length bytes ≤ m → length bytes ≤ n → first_among m bytes ≡ first_among n bytes
unfolding first_among
first-fuel m n [] p q = refl
first-fuel zero n (b ∷ bytes) p q = absurd (omega arith)
first-fuel (suc m) zero (b ∷ bytes) p q = absurd (omega arith)
first-fuel (suc m) (suc n) (b ∷ bytes) p q =
    same_if (is_checked (b ∷ bytes)) _ _ (Err BadAttribute)
    (λ e. let shorter = after-shorter (b ∷ bytes) e in
    same_else (kind_of (b ∷ bytes) == 1) (mpls_at (value_of (b ∷ bytes))) _ _ (first-fuel m n (after (b ∷ bytes)) (omega arith) (omega arith)))

-- An entry without bytes has zeros.
pub entry-none : (bytes : List ℕ) → length bytes ≡ 0 → entry_at bytes ≡ Ok zeros
unfolding entry_at first_among
entry-none [] none = refl
entry-none (b ∷ bytes) none = absurd (omega arith)

-- An entry has the counters of the attribute at its front, or of those after it.
pub entry-one : (bytes : List ℕ) → 0 < length bytes → is_checked bytes ≡ true
    → entry_at bytes ≡ (if kind_of bytes == 1 then mpls_at (value_of bytes) else entry_at (after bytes))
unfolding entry_at first_among
entry-one [] some e = absurd (omega arith)
entry-one (b ∷ bytes) some e =
    let shorter = after-shorter (b ∷ bytes) e in
    rw e (same_else (kind_of (b ∷ bytes) == 1) (mpls_at (value_of (b ∷ bytes))) _ _
    (first-fuel (length bytes) (length (after (b ∷ bytes))) (after (b ∷ bytes)) (omega arith) (omega arith)))

-- An entry with no attribute at its front is refused.
pub entry-bad : (bytes : List ℕ) → 0 < length bytes → is_checked bytes ≡ false → entry_at bytes ≡ Err BadAttribute
unfolding entry_at first_among
entry-bad [] some e = absurd (omega arith)
entry-bad (b ∷ bytes) some e = rw e refl

abbrev IsSame : Result (List ℕ) DecodeError → Result (List ℕ) DecodeError → Type 0
IsSame a b = a ≡ b

refused-if : (b : Bool) (bytes : List ℕ) (e : DecodeError) → IsSame (if b then Ok bytes else Err BadAttribute) (Err e)
    → (b ≡ false) × (e ≡ BadAttribute)
refused-if true bytes e is = absurd cc
refused-if false bytes e is = (refl, cc)

-- An entry with no attribute at its front is refused as this is.
pub entry-refused : (e : DecodeError) (rest : List ℕ) → 0 < length rest → checked rest ≡ Err e → entry_at rest ≡ Err e
entry-refused e rest some bad =
    let both = refused-if (is_checked rest) rest e bad in
    rw both.1 (entry-bad rest some both.0)

-- An entry whose first attribute has the type has its counters.
pub entry-here : (rest nla : List ℕ) → 0 < length rest → checked rest ≡ Ok nla → kind_of nla ≡ 1 → entry_at rest ≡ mpls_at (value_of nla)
entry-here rest nla some ok is =
    let k = checked_ok rest nla ok in
    subst (λ (n : List ℕ). kind_of n ≡ 1 → entry_at rest ≡ mpls_at (value_of n)) (sym k.1)
    (λ here. entry-one rest some k.0 ∙ rw (eq-eqb (kind_of rest) 1 here) refl) is

-- An entry whose first attribute has another type has the counters of those after it.
pub entry-later : (rest nla : List ℕ) → 0 < length rest → checked rest ≡ Ok nla → kind_of nla ≢ 1 → entry_at rest ≡ entry_at (after nla)
entry-later rest nla some ok is =
    let k = checked_ok rest nla ok in
    subst (λ (n : List ℕ). kind_of n ≢ 1 → entry_at rest ≡ entry_at (after n)) (sym k.1)
    (λ other. entry-one rest some k.0 ∙ rw (ne_eqb (kind_of rest) 1 other) refl) is

-- ---- entries

mpls-value-again : (s : MplsLinkStats) → mpls.ReadsBack s → mpls_at (mpls.mpls_text s) ≡ Ok s
mpls-value-again s back = sized-again 72 mpls.mpls_text mpls.mpls_at s (length-mpls s) (λ more. mpls-again s more back)

mpls-value-read : (bytes : List ℕ) (s : MplsLinkStats) → AreBytes bytes → mpls_at bytes ≡ Ok s → mpls.ReadsBack s
mpls-value-read bytes s are is =
    subst (λ (t : MplsLinkStats). mpls.ReadsBack t) (sized-read 72 bytes (mpls.mpls_at bytes) s is) (mpls-read bytes are)

-- An entry has 76 bytes.
pub entry-length : (s : MplsLinkStats) → length (entry_text s) ≡ 76
entry-length s = length-attribute 1 (mpls.mpls_text s) ∙ rw (length-mpls s) refl

-- The counters of an entry read back.
pub entry-again : EntriesReadBack
entry-again s more back =
    let f = front 1 (mpls.mpls_text s) more (omega arith) (omega (arith, length-mpls s)) in
    let some : 0 < length (entry_text s ++ more) = omega (arith, entry-length s, length-append (entry_text s) more) in
    entry-one (entry_text s ++ more) some f.checked ∙ rw (f.kind, f.value) (mpls-value-again s back)

zeros-fit : mpls.ReadsBack zeros
zeros-fit = record {
  of_rx_packets = lit< tt;
  of_tx_packets = lit< tt;
  of_rx_bytes = lit< tt;
  of_tx_bytes = lit< tt;
  of_rx_errors = lit< tt;
  of_tx_errors = lit< tt;
  of_rx_dropped = lit< tt;
  of_tx_dropped = lit< tt;
  of_rx_noroute = lit< tt;
}

read-if : (checked first : Bool) (s : MplsLinkStats) (this others : Result MplsLinkStats DecodeError)
    → (this ≡ Ok s → mpls.ReadsBack s) → (others ≡ Ok s → mpls.ReadsBack s)
    → (if checked then (if first then this else others) else Err BadAttribute) ≡ Ok s → mpls.ReadsBack s
read-if true true s this others a b is = a is
read-if true false s this others a b is = b is
read-if false first s this others a b is = absurd cc

first-read : (fuel : ℕ) (bytes : List ℕ) (s : MplsLinkStats) → AreBytes bytes → first_among fuel bytes ≡ Ok s → mpls.ReadsBack s
unfolding first_among
first-read fuel [] s are is =
    let same : zeros ≡ s = cc in
    subst (λ (t : MplsLinkStats). mpls.ReadsBack t) same zeros-fit
first-read zero (b ∷ bytes) s are is = absurd cc
first-read (suc fuel) (b ∷ bytes) s are is =
    read-if (is_checked (b ∷ bytes)) (kind_of (b ∷ bytes) == 1) s _ _
    (λ this. mpls-value-read (value_of (b ∷ bytes)) s (value-bytes (b ∷ bytes) are) this)
    (λ others. first-read fuel (after (b ∷ bytes)) s (drop-bytes (padded (u16_at (b ∷ bytes) 0)) (b ∷ bytes) are) others) is

entry-read : (bytes : List ℕ) (s : MplsLinkStats) → AreBytes bytes → entry_at bytes ≡ Ok s → mpls.ReadsBack s
unfolding entry_at
entry-read bytes s are is = first-read (length bytes) bytes s are is

-- ---- attributes

whole-entry-again : (s : MplsLinkStats) → mpls.ReadsBack s → entry_at (entry_text s) ≡ Ok s
whole-entry-again s back =
    subst (λ (bytes : List ℕ). entry_at bytes ≡ Ok s) (append-nil (entry_text s)) (entry-again s [] back)

-- An attribute that reads back does so, where its length fits its field.
pub attribute-again : (p : Unit {0}) (x : AfSpecStat) → ReadsBack x → length (value x) ≤ 65531
    → ReadsAgain kind value attribute_at x
attribute-again p (Mpls s) h short =
    row-again rows (λ n. Other n) kind value (Mpls s) (omega arith) short (λ o. rw (whole-entry-again s h) refl)
attribute-again p (Other n) h short = other-again rows (λ n. Other n) kind value n refl refl h short

-- An attribute that was read from bytes reads back.
pub attribute-read : (p : Unit {0}) (bytes : List ℕ) (x : AfSpecStat) → AreBytes bytes → is_checked bytes ≡ true
    → attribute_at bytes ≡ Ok x → ReadsBack x
attribute-read p bytes x are checked is =
    attribute-reads ReadsBack rows (λ n. Other n) bytes x are (
    row-reads (λ s. mpls.ReadsBack s) ReadsBack entry_at (λ s. Mpls s) 28 entry-read (λ s fits. fits)
    & tt
    ) (λ n none. none) is

-- ---- lists

-- Statistics read back where each of them does.
pub stats-again : (s : AfSpecStats) → AllReadBack s → length (attributes_text kind value s.0) ≤ 65531
    → stats_at (attributes_text kind value s.0) ≡ Ok s
stats-again s back short = rw (nested-again kind value attribute_at ReadsBack (attribute-again tt) s.0 back short) refl

-- Statistics that were read from bytes read back.
pub stats-read : (bytes : List ℕ) (s : AfSpecStats) → AreBytes bytes → stats_at bytes ≡ Ok s → AllReadBack s
stats-read bytes s are is =
    let made = made-ok (attributes attribute_at bytes) (λ xs. record { 0 = xs }) s is in
    subst (λ (t : AfSpecStats). AllReadBack t) made.2 (each-read ReadsBack attribute_at (attribute-read tt) made.0 bytes are made.1)
