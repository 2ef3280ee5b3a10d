-- What the words of addresses and networks are, and what they are not.
use Rattle.std.proofs.Common.{◌≡◌, ◌≢◌, ◌==◌, ◌*◌, ◌<◌, ◌^◌, ℕ, Bool, true, false, List, [], ◌∷◌, ◌++◌, length, get_or, flat_map, Option, Some, None, refl, sym, subst, ◌∙◌, ap, arith}
use Rattle.std.specs.Fmt.{decimal}
use Rattle.std.specs.Int.{bytes_high_first}
use Rattle.std.specs.List.{AllByRecursion, slice_split}
use Rattle.std.proofs.lemmas.Bool.Decides.{nat_tests}
use Rattle.std.proofs.lemmas.List.{append_cancel_left}
use Rattle.std.proofs.lemmas.List.Elements.{All-from_recursion, recursion_from_All}
use Rattle.std.proofs.lemmas.List.Splits.{slice_split_at}
use Rattle.session_model.specs.Lines.{hex_byte, hex_digit, hex_word}
use Rattle.session_model.specs.Networks.{IsHost, IsNetwork, address_words, base_of, digits_of, family_word, length_of, network_words, octets_of}
use Rattle.session_model.specs.Transcript.{AreBytes}
use Rattle.session_model.specs.declared.network.Address.{Address}
use Rattle.session_model.specs.declared.network.Address.TheVariants as address
use Rattle.session_model.specs.declared.network.Network.{Network}
use Rattle.session_model.specs.declared.network.Network.TheVariants.{V4, V6}
use Rattle.transcript_lines.specs.declared.network.Family.{Family}
use Rattle.transcript_lines.specs.declared.network.Family.TheVariants as families
use Rattle.transcript_lines.specs.Network.{AreOctetsOf, HasNoSlash, IsHostOf, IsNetworkAt, IsNetworkOf, SpellOctets, count_in, word_of}
use Rattle.transcript_lines.proofs.Candidates.{bytes_back, bytes_of}
use Rattle.transcript_lines.proofs.Decimals.{number_after, value_of}
use Rattle.transcript_lines.proofs.HexDigits.{above_dash, digits_in, twice}
use Rattle.transcript_lines.specs.Digits.{AreDigits, ArePairs}
use Rattle.transcript_lines.proofs.Octets.{octets_bytes, octets_injective, octets_length, octets_of_v4, octets_of_v6}

-- ---- a slash

has_slash : (front back : List ℕ) → AllByRecursion (λ b. (b == 47) ≡ false) (front ++ 47 ∷ back) → ⊥
has_slash [] back h = let no : true ≡ false = h.0 in cc
has_slash (x ∷ front) back h = has_slash front back h.1

-- A word without a slash has no parts around one.
no_parts : (word front back : List ℕ) → HasNoSlash word → word ≢ front ++ 47 ∷ back
no_parts word front back none e = has_slash front back (recursion_from_All (λ b. (b == 47) ≡ false) (front ++ 47 ∷ back) (rw e at none))

-- A word has one first slash.
one_cut : (front back other left : List ℕ) → HasNoSlash front → HasNoSlash other → front ++ 47 ∷ back ≡ other ++ 47 ∷ left
    → (front ≡ other) × (back ≡ left)
one_cut front back other left h k e =
    let a = slice_split_at (λ b. b == 47) front 47 back h refl in
    let b = slice_split_at (λ b. b == 47) other 47 left k refl in
    let parts : front ∷ slice_split (λ b. b == 47) back ≡ other ∷ slice_split (λ b. b == 47) left =
    sym a ∙ ap (slice_split (λ b. b == 47)) e ∙ b in
    let first : front ≡ other = cc in
    let rest : 47 ∷ back ≡ 47 ∷ left = append_cancel_left other (47 ∷ back) (47 ∷ left) (ap (λ z. z ++ 47 ∷ back) (sym first) ∙ e) in
    (first, (cc))

digits_differ : (w : List ℕ) → AreDigits w → AllByRecursion (λ b. (b == 47) ≡ false) w
digits_differ [] h = tt
digits_differ (x ∷ w) h = (by x h.0.0 h.0.2, digits_differ w h.1)
  where
    by : (x v : ℕ) → x ≡ hex_digit v → (x == 47) ≡ false
    by x v is = let up = above_dash v in let high : 47 < x = omega (arith, up, is) in grind (arith, nat_tests)

bytes_differ : (bytes : List ℕ) → AreBytes bytes → AllByRecursion (λ b. (b == 47) ≡ false) (hex_word bytes)
bytes_differ [] h = (refl, tt)
bytes_differ (b ∷ bytes) h = digits_differ (flat_map hex_byte (b ∷ bytes)) (digits_in (b ∷ bytes) h)

-- The digits of an address have no slash.
digits_no_slash : (a : Address) → HasNoSlash (digits_of a)
digits_no_slash a = All-from_recursion (λ b. (b == 47) ≡ false) (digits_of a) (bytes_differ (octets_of a) (octets_bytes a))

-- ---- addresses

-- A word of no family is no address's.
pub no_family : (family digits : List ℕ) → ((own : Family) → family ≢ word_of own) → (a : Address) → IsHost a
    → family ∷ digits ∷ [] ≢ address_words a
no_family family digits none (address.V4 n) host e = let same : family ≡ word_of families.V4 = cc in none families.V4 same
no_family family digits none (address.V6 n) host e = let same : family ≡ word_of families.V6 = cc in none families.V6 same

-- Octets of another count are those of no address of the family.
pub no_host : (family : Family) (octets : List ℕ) → length octets ≢ count_in family → AreOctetsOf (word_of family) octets None
no_host families.V4 octets none (address.V4 n) host own e = none (ap length e ∙ octets_length (address.V4 n))
no_host families.V4 octets none (address.V6 n) host own e = let t : 52 ≡ 54 = ap (λ w. get_or w 0 0) own in omega (arith, t)
no_host families.V6 octets none (address.V4 n) host own e = let t : 54 ≡ 52 = ap (λ w. get_or w 0 0) own in omega (arith, t)
no_host families.V6 octets none (address.V6 n) host own e = none (ap length e ∙ octets_length (address.V6 n))

-- The number of 4 octets is an IPv4 address.
pub host_v4 : (family : Family) (octets : List ℕ) (n : ℕ) → family ≡ families.V4 → length octets ≡ count_in family
    → bytes_high_first (length octets) n ≡ octets → n < 256 ^ length octets → AreOctetsOf (word_of family) octets (Some (address.V4 n))
host_v4 family octets n own count are low =
    let four : length octets ≡ 4 = count ∙ ap count_in own in
    (rw four at low, ap word_of own, octets_of_v4 octets n four are)

-- The number of 16 octets is an IPv6 address.
pub host_v6 : (family : Family) (octets : List ℕ) (n : ℕ) → family ≡ families.V6 → length octets ≡ count_in family
    → bytes_high_first (length octets) n ≡ octets → n < 256 ^ length octets → AreOctetsOf (word_of family) octets (Some (address.V6 n))
host_v6 family octets n own count are low =
    let sixteen : length octets ≡ 16 = count ∙ ap count_in own in
    (rw sixteen at low, ap word_of own, octets_of_v6 octets n sixteen are)

-- Octets that a word of digits spells are those of the address that it spells.
pub host_of_octets : (family digits octets : List ℕ) (o : Option Address) → AreBytes octets → digits ≡ hex_word octets
    → AreOctetsOf family octets o → IsHostOf (family ∷ digits ∷ []) o
host_of_octets family digits octets (Some a) bytes is at =
    (at.0, ap (λ f. f ∷ digits ∷ []) at.1 ∙ ap (λ d. family_word a ∷ d ∷ []) (is ∙ ap hex_word at.2))
host_of_octets family digits octets None bytes is none = λ a host e.
    let own : family ≡ family_word a = cc in
    let same : digits ≡ digits_of a = cc in
    none a host own (sym (bytes_back octets bytes) ∙ ap bytes_of (sym is ∙ same) ∙ bytes_back (octets_of a) (octets_bytes a))

-- Digits of another count spell no octets of this count.
pub other_count : (digits octets : List ℕ) → 0 < length octets → length digits ≢ 2 * length octets → SpellOctets digits octets false
other_count digits octets some none [] each same e = omega (arith, some, same)
other_count digits octets some none (b ∷ bytes) each same e =
    none (ap length e ∙ twice (b ∷ bytes) ∙ omega (arith, same))

no_pairs : (digits bytes : List ℕ) → 0 < length bytes → (AreDigits digits → ⊥) → AreBytes bytes → digits ≢ hex_word bytes
no_pairs digits [] some none each e = omega (arith, some)
no_pairs digits (b ∷ bytes) some none each e = none (subst AreDigits (sym e) (digits_in (b ∷ bytes) each))

-- Pairs of digits spell the octets that they are decoded to.
pub pairs_spell : (digits octets : List ℕ) (ok : Bool) → 0 < length octets → ArePairs digits octets ok → SpellOctets digits octets ok
pairs_spell digits [] true some pairs = absurd (omega (arith, some))
pairs_spell digits (b ∷ octets) true some pairs = pairs
pairs_spell digits octets false some none = λ bytes each same. no_pairs digits bytes (omega (arith, some, same)) none each

-- Digits that don't spell a family's count of octets spell no address of the family.
pub no_octets : (own : Family) (digits octets : List ℕ) → length octets ≡ count_in own → SpellOctets digits octets false
    → (a : Address) → IsHost a → word_of own ∷ digits ∷ [] ≢ address_words a
no_octets families.V4 digits octets count none (address.V4 n) host e =
    let same : digits ≡ digits_of (address.V4 n) = cc in
    none (octets_of (address.V4 n)) (octets_bytes (address.V4 n)) (octets_length (address.V4 n) ∙ sym count) same
no_octets families.V4 digits octets count none (address.V6 n) host e =
    let own : word_of families.V4 ≡ word_of families.V6 = cc in
    let t : 52 ≡ 54 = ap (λ w. get_or w 0 0) own in
    omega (arith, t)
no_octets families.V6 digits octets count none (address.V4 n) host e =
    let own : word_of families.V6 ≡ word_of families.V4 = cc in
    let t : 54 ≡ 52 = ap (λ w. get_or w 0 0) own in
    omega (arith, t)
no_octets families.V6 digits octets count none (address.V6 n) host e =
    let same : digits ≡ digits_of (address.V6 n) = cc in
    none (octets_of (address.V6 n)) (octets_bytes (address.V6 n)) (octets_length (address.V6 n) ∙ sym count) same

-- ---- networks

base_is_host : (n : Network) → IsNetwork n → IsHost (base_of n)
base_is_host (V4 p) h = h.0
base_is_host (V6 p) h = h.0

length_is_number : (n : Network) → IsNetwork n → length_of n < 2 ^ 32
length_is_number (V4 p) h = omega (arith, h.1)
length_is_number (V6 p) h = omega (arith, h.1)

-- A word without a slash is no network's.
pub no_slash : (words : List (List ℕ)) (family word : List ℕ) → words ≡ family ∷ word ∷ [] → HasNoSlash word
    → (n : Network) → IsNetwork n → words ≢ network_words n
no_slash words family word two none n h e =
    let same : word ≡ digits_of (base_of n) ++ 47 ∷ decimal (length_of n) = cc in
    no_parts word (digits_of (base_of n)) (decimal (length_of n)) none same

-- Two words, the second with a slash.
pub record IsPair (words : List (List ℕ)) (family digits length : List ℕ) : Type 0 where
  pub are : words ≡ family ∷ (digits ++ 47 ∷ length) ∷ []
  pub first : HasNoSlash digits

-- Two words whose second is cut at its first slash.
pub pair_of : (words : List (List ℕ)) (family word digits length : List ℕ) → words ≡ family ∷ word ∷ []
    → HasNoSlash digits × (word ≡ digits ++ 47 ∷ length) → IsPair words family digits length
pair_of words family word digits length two cut = record { are = two ∙ ap (λ w. family ∷ w ∷ []) cut.1; first = cut.0 }

-- The parts of a network's words.
parts_of : (words : List (List ℕ)) (family digits length : List ℕ) (n : Network) → IsPair words family digits length → words ≡ network_words n
    → (family ≡ family_word (base_of n)) × (digits ≡ digits_of (base_of n)) × (length ≡ decimal (length_of n))
parts_of words family digits length n pair e =
    let are = sym pair.are ∙ e in
    let own : family ≡ family_word (base_of n) = cc in
    let word : digits ++ 47 ∷ length ≡ digits_of (base_of n) ++ 47 ∷ decimal (length_of n) = cc in
    let cut = one_cut digits length (digits_of (base_of n)) (decimal (length_of n)) pair.first (digits_no_slash (base_of n)) word in
    (own, cut.0, cut.1)

-- A word whose length is no number is no network's.
pub no_length : (words : List (List ℕ)) (family digits length : List ℕ) → IsPair words family digits length
    → ((number : ℕ) → number < 2 ^ 32 → length ≢ decimal number) → (n : Network) → IsNetwork n → words ≢ network_words n
no_length words family digits length pair none n h e =
    none (length_of n) (length_is_number n h) (parts_of words family digits length n pair e).2

-- A word whose digits are no address's is no network's.
pub no_base : (words : List (List ℕ)) (family digits length : List ℕ) → IsPair words family digits length
    → ((a : Address) → IsHost a → family ∷ digits ∷ [] ≢ address_words a) → (n : Network) → IsNetwork n → words ≢ network_words n
no_base words family digits length pair none n h e =
    let parts = parts_of words family digits length n pair e in
    none (base_of n) (base_is_host n h) (ap (λ f. f ∷ digits ∷ []) parts.0 ∙ ap (λ d. family_word (base_of n) ∷ d ∷ []) parts.1)

-- The network of the address and the length that words spell is the one that they spell.
pub network_of_parts : (words : List (List ℕ)) (family digits length : List ℕ) (base : Address) (number : ℕ) (o : Option Network)
    → IsPair words family digits length → IsHost base → family ∷ digits ∷ [] ≡ address_words base → number < 2 ^ 32 → length ≡ decimal number
    → IsNetworkAt base number o → IsNetworkOf words o
network_of_parts words family digits length base number (Some n) pair host are small is at =
    let own : family ≡ family_word base = cc in
    let same : digits ≡ digits_of base = cc in (
      at.0,
      pair.are ∙ ap (λ f. f ∷ (digits ++ 47 ∷ length) ∷ []) (own ∙ ap family_word at.1)
          ∙ ap (λ d. family_word (base_of n) ∷ (d ++ 47 ∷ length) ∷ []) (same ∙ ap digits_of at.1)
          ∙ ap (λ l. family_word (base_of n) ∷ (digits_of (base_of n) ++ 47 ∷ l) ∷ []) (is ∙ ap decimal at.2),
    )
network_of_parts words family digits length base number None pair host are small is none = λ n h e.
    let parts = parts_of words family digits length n pair e in
    let same : digits ≡ digits_of base = cc in
    let digits_are : digits_of base ≡ digits_of (base_of n) = sym same ∙ parts.1 in
    let octets : octets_of base ≡ octets_of (base_of n) =
    sym (bytes_back (octets_of base) (octets_bytes base)) ∙ ap bytes_of digits_are ∙ bytes_back (octets_of (base_of n)) (octets_bytes (base_of n)) in
    let long : number ≡ length_of n =
    sym (value_of number small) ∙ ap (number_after 0) (sym is ∙ parts.2) ∙ value_of (length_of n) (length_is_number n h) in
    none n h (octets_injective base (base_of n) host (base_is_host n h) octets) long
