-- What is said of hardware that counts reads back.
use Rattle.std.proofs.Common.{◌≡◌, ◌≤◌, ◌<◌, ℕ, Option, Some, None, Bool, true, false, List, [], ◌∷◌, ◌++◌, length, Result, Ok, Err, refl, sym, subst, arith}
use Rattle.std.specs.Prelude.{if◌then◌else◌}
use Rattle.std.proofs.lemmas.List.{append-nil}
use Rattle.nl_core.specs.declared.error.DecodeError.{DecodeError}
use Rattle.nl_core.specs.declared.error.DecodeError.TheVariants.{BadAttribute}
use Rattle.nl_core.specs.Numbers.{le16}
use Rattle.nl_core.specs.Writing.{zeros}
use Rattle.nl_core.specs.Reading.{◌>>=◌}
use Rattle.nl_core.specs.Attribute.{after, is_checked, checked, attribute_text, attributes, attributes_text}
use Rattle.nl_core.specs.AttributeReadBack.{ReadsAgain}
use Rattle.nl_core.proofs.Walk.{attributes-one, left_to_right, checked_ok}
use Rattle.nl_core.proofs.AttributeReadBack.{attributes-again}
use Rattle.rt_stats.specs.declared.stats.hw_stats_info.HwStatsInfo.{HwStatsInfo}
use Rattle.rt_stats.specs.declared.stats.hw_stats_info.Number.{Number}
use Rattle.rt_stats.specs.HwInfo.{nothing, updated, all_said, info_by, number_says, says, info_at, number_kind, number_value, said_text, InformationReadsBack}

-- ---- lengths

-- The bytes of what is said are at most 20.
pub said-length : (r u : Option ℕ) → length (said_text r u) ≤ 20
unfolding le16 zeros
said-length None None = omega arith
said-length (Some r) None = omega arith
said-length None (Some u) = omega arith
said-length (Some r) (Some u) = omega arith

-- The bytes of one number fit.
pub one-short : (n : Number) → length (attributes_text number_kind number_value (n ∷ [])) ≤ 65531
unfolding le16 zeros
one-short n = omega arith

-- The bytes of two numbers fit.
pub two-short : (n o : Number) → length (attributes_text number_kind number_value (n ∷ o ∷ [])) ≤ 65531
unfolding le16 zeros
two-short n o = omega arith

-- ---- the loop that reads

-- What was said before and what the attributes of the rest say.
abbrev pub said_from : (List ℕ → Result HwStatsInfo DecodeError) → HwStatsInfo → List ℕ → Result HwStatsInfo DecodeError
said_from read info rest = attributes read rest >>= λ each. Ok (all_said info each)

regroup : (info said : HwStatsInfo) (rest : Result (List HwStatsInfo) DecodeError)
    → ((rest >>= λ xs. Ok (said ∷ xs)) >>= λ each. Ok (all_said info each)) ≡ (rest >>= λ each. Ok (all_said (updated info said) each))
regroup info said (Ok xs) = refl
regroup info said (Err e) = refl

one-more : (read : List ℕ → Result HwStatsInfo DecodeError) (info said : HwStatsInfo) (rest : List ℕ) → 0 < length rest
    → is_checked rest ≡ true → read rest ≡ Ok said → said_from read info rest ≡ said_from read (updated info said) (after rest)
one-more read info said rest some ok is = rw (attributes-one read rest some ok, is) (regroup info said (attributes read (after rest)))

-- One attribute more, and then the others.
pub said-more : (read : List ℕ → Result HwStatsInfo DecodeError) (info said : HwStatsInfo) (rest nla : List ℕ) → 0 < length rest
    → checked rest ≡ Ok nla → read nla ≡ Ok said → said_from read info rest ≡ said_from read (updated info said) (after nla)
said-more read info said rest nla some ok is =
    let k = checked_ok rest nla ok in
    subst (λ (n : List ℕ). read n ≡ Ok said → said_from read info rest ≡ said_from read (updated info said) (after n)) (sym k.1)
    (λ here. one-more read info said rest some k.0 here) is

-- A fault of one attribute is that of all.
pub said-fault : (read : List ℕ → Result HwStatsInfo DecodeError) (info : HwStatsInfo) (e : DecodeError) (rest nla : List ℕ)
    → 0 < length rest → checked rest ≡ Ok nla → read nla ≡ Err e → said_from read info rest ≡ Err e
said-fault read info e rest nla some ok is =
    let k = checked_ok rest nla ok in
    subst (λ (n : List ℕ). read n ≡ Err e → said_from read info rest ≡ Err e) (sym k.1)
    (λ here. rw (attributes-one read rest some k.0, here) refl) is

abbrev IsSame : Result (List ℕ) DecodeError → Result (List ℕ) DecodeError → Type 0
IsSame a b = a ≡ b

refused-if : (b : Bool) (bytes : List ℕ) (e : DecodeError) → IsSame (if b then Ok bytes else Err BadAttribute) (Err e)
    → (b ≡ false) × (e ≡ BadAttribute)
refused-if true bytes e is = absurd cc
refused-if false bytes e is = (refl, cc)

-- Bytes with no attribute at the front are the fault of all.
pub said-refused : (read : List ℕ → Result HwStatsInfo DecodeError) (info : HwStatsInfo) (e : DecodeError) (rest : List ℕ)
    → 0 < length rest → checked rest ≡ Err e → said_from read info rest ≡ Err e
said-refused read info e rest some bad =
    let both = refused-if (is_checked rest) rest e bad in
    rw (both.1, (left_to_right read).fault rest some both.0) refl

-- Where no byte is left, nothing more is said.
pub said-all : (read : List ℕ → Result HwStatsInfo DecodeError) (info : HwStatsInfo) (rest : List ℕ) → length rest ≡ 0
    → said_from read info rest ≡ Ok info
said-all read info [] none = rw ((left_to_right read).nothing) refl
said-all read info (b ∷ rest) none = absurd (omega arith)

-- ---- written and read

-- What says one thing, as an attribute.
abbrev said_kind : HwStatsInfo → ℕ
said_kind info = elim info.request [ Some r ↦ 1 | None ↦ 2 ]

abbrev byte_of : Option ℕ → List ℕ
byte_of (Some n) = n ∷ []
byte_of None = []

abbrev said_value : HwStatsInfo → List ℕ
said_value info = byte_of info.request ++ byte_of info.used

abbrev of_request : ℕ → HwStatsInfo
of_request r = record { request = Some r; used = None }

abbrev of_used : ℕ → HwStatsInfo
of_used u = record { request = None; used = Some u }

request-again : (r : ℕ) → ReadsAgain said_kind said_value number_says (of_request r)
request-again r = record { kind_fits = omega arith; value_fits = omega arith; again = λ bytes raw k v. rw (k, v) refl }

used-again : (u : ℕ) → ReadsAgain said_kind said_value number_says (of_used u)
used-again u = record { kind_fits = omega arith; value_fits = omega arith; again = λ bytes raw k v. rw (k, v) refl }

-- The attribute that holds numbers reads as what they say.
nested : (inner : List ℕ) (info : HwStatsInfo) → length inner ≤ 65531 → info_by number_says inner ≡ Ok info
    → info_at (attribute_text 32771 inner) ≡ Ok (updated nothing info)
nested inner info short is =
    let kind : HwStatsInfo → ℕ = λ i. 32771 in
    let value : HwStatsInfo → List ℕ = λ i. inner in
    let one : ReadsAgain kind value says info =
    record { kind_fits = omega arith; value_fits = short; again = λ bytes raw k v. rw (k, v) is } in
    let all : attributes says (attribute_text 32771 inner) ≡ Ok (info ∷ []) =
    subst (λ (bytes : List ℕ). attributes says bytes ≡ Ok (info ∷ [])) (append-nil (attribute_text 32771 inner))
    (attributes-again kind value says (info ∷ []) (one, tt)) in
    rw all refl

-- A request, the use, and both, as numbers.
abbrev request_number : ℕ → Number
request_number r = record { kind = 1; value = r }

abbrev used_number : ℕ → Number
used_number u = record { kind = 2; value = u }

abbrev text_of : List Number → List ℕ
text_of numbers = attributes_text number_kind number_value numbers

said-again : (r u : Option ℕ) → info_at (said_text r u) ≡ Ok (record { request = r; used = u })
said-again None None = rw ((left_to_right says).nothing) refl
said-again (Some r) None =
    let inner : attributes number_says (text_of (request_number r ∷ [])) ≡ Ok (of_request r ∷ []) =
    attributes-again said_kind said_value number_says (of_request r ∷ []) (request-again r, tt) in
    nested (text_of (request_number r ∷ [])) (of_request r) (one-short (request_number r)) (rw inner refl)
said-again None (Some u) =
    let inner : attributes number_says (text_of (used_number u ∷ [])) ≡ Ok (of_used u ∷ []) =
    attributes-again said_kind said_value number_says (of_used u ∷ []) (used-again u, tt) in
    nested (text_of (used_number u ∷ [])) (of_used u) (one-short (used_number u)) (rw inner refl)
said-again (Some r) (Some u) =
    let inner : attributes number_says (text_of (request_number r ∷ used_number u ∷ [])) ≡ Ok (of_request r ∷ of_used u ∷ []) =
    attributes-again said_kind said_value number_says (of_request r ∷ of_used u ∷ []) (request-again r, (used-again u, tt)) in
    nested (text_of (request_number r ∷ used_number u ∷ [])) (record { request = Some r; used = Some u })
    (two-short (request_number r) (used_number u)) (rw inner refl)

-- What is said reads back.
pub info-again : InformationReadsBack
info-again info = said-again info.request info.used
