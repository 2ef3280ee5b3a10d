-- How long the first three words of a record are.
use Rattle.std.proofs.Common.{◌≡◌, ◌≢◌, ◌==◌, ◌<◌, ◌≤◌, ◌^◌, ℕ, false, List, [], ◌∷◌, ◌++◌, length, refl, sym, subst, ◌∙◌, ap, arith, append_assoc, length-append}
use Rattle.std.specs.Fmt.{decimal}
use Rattle.std.specs.List.{join_with_byte, onto_first}
use Rattle.std.proofs.lemmas.Fmt.{length-decimal-le}
use Rattle.std.proofs.lemmas.List.Splits.{slice_split_at, slice_split-cons_no}
use Rattle.std.proofs.lemmas.List.Elements.{All-head, All-tail}
use Rattle.session_model.specs.Lines.{hex_word}
use Rattle.session_model.specs.Networks.{IsNetwork, base_of, digits_of, family_word, length_of, octets_of}
use Rattle.session_model.specs.Transcript.{IsSpelled, record_words}
use Rattle.session_model.specs.declared.network.Address.{Address}
use Rattle.session_model.specs.declared.network.Address.TheVariants as address
use Rattle.session_model.specs.declared.network.Network.{Network}
use Rattle.session_model.specs.declared.network.Network.TheVariants as network
use Rattle.session_model.specs.declared.transcript.Record.{Record}
use Rattle.session_model.specs.declared.transcript.Record.TheVariants.{Recv, Overrun, Close, Batch, Resync, Block, Unblock, Lookup}
use Rattle.transcript_lines.specs.Cut.{HasNoByte}
use Rattle.transcript_lines.specs.Decoding.{AreWords, BeginsNoRecord}
use Rattle.transcript_lines.specs.OpenLine.{HasFewWords}
use Rattle.transcript_lines.specs.Words.{words_of}
use Rattle.transcript_lines.proofs.Heads.{begins_none}
use Rattle.transcript_lines.proofs.HexDigits.{twice}
use Rattle.transcript_lines.proofs.Octets.{octets_in, octets_length}

-- The first word of words, and the others.
abbrev first : List (List ℕ) → List ℕ
first [] = []
first (word ∷ words) = word

abbrev others : List (List ℕ) → List (List ℕ)
others [] = []
others (word ∷ words) = words

-- How long the first three words of a record are at most.
record AreShort (words : List (List ℕ)) : Type 0 where
  pub one : length (first words) ≤ 7
  pub two : length (first (others words)) ≤ 10
  pub three : length (first (others (others words))) ≤ 36

decimal_short : (n : ℕ) → n < 2 ^ 32 → length (decimal n) ≤ 10
decimal_short n h = length-decimal-le 10 n (omega arith) (omega (arith, h)) (omega (arith, h))

family_short : (a : Address) → length (family_word a) ≤ 10
family_short (address.V4 n) = omega arith
family_short (address.V6 n) = omega arith

word_short : (bytes : List ℕ) → length bytes ≤ 16 → length (hex_word bytes) ≤ 32
word_short [] h = omega arith
word_short (b ∷ bytes) h = omega (arith, h, twice (b ∷ bytes))

octets_few : (a : Address) → octets_in a ≤ 16
octets_few (address.V4 n) = omega arith
octets_few (address.V6 n) = omega arith

digits_short : (a : Address) → length (digits_of a) ≤ 32
digits_short a = word_short (octets_of a) (omega (arith, octets_length a, octets_few a))

length_short : (n : Network) → IsNetwork n → length (decimal (length_of n)) ≤ 3
length_short (network.V4 p) h = length-decimal-le 3 p.1 (omega arith) (omega (arith, h.1)) (omega (arith, h.1))
length_short (network.V6 p) h = length-decimal-le 3 p.1 (omega arith) (omega (arith, h.1)) (omega (arith, h.1))

network_short : (n : Network) → IsNetwork n → length (digits_of (base_of n) ++ 47 ∷ decimal (length_of n)) ≤ 36
network_short n h =
    omega (arith, digits_short (base_of n), length_short n h, length-append (digits_of (base_of n)) (47 ∷ decimal (length_of n)))

all_short : (r : Record) → IsSpelled r → AreShort (record_words r)
all_short (Recv a bytes) h = record {
  one = omega arith;
  two = decimal_short a.port h.0.port;
  three = omega (arith, decimal_short a.groups h.0.groups);
}
all_short Overrun h = record { one = omega arith; two = omega arith; three = omega arith }
all_short Close h = record { one = omega arith; two = omega arith; three = omega arith }
all_short (Batch a frames) h = record {
  one = omega arith;
  two = decimal_short a.port h.0.port;
  three = omega (arith, decimal_short a.groups h.0.groups);
}
all_short Resync h = record { one = omega arith; two = omega arith; three = omega arith }
all_short (Block n) h = record { one = omega arith; two = family_short (base_of n); three = network_short n h }
all_short (Unblock n) h = record { one = omega arith; two = family_short (base_of n); three = network_short n h }
all_short (Lookup a) h = record { one = omega arith; two = family_short a; three = omega (arith, digits_short a) }

-- Bytes without a space begin the first word.
onto : (word more : List ℕ) → HasNoByte 32 word → length word ≤ length (first (words_of (word ++ more)))
onto [] more h = omega arith
onto (b ∷ word) more h =
    subst (λ z. length (b ∷ word) ≤ length (first z))
    (sym (slice_split-cons_no (λ x. x == 32) b (word ++ more) (All-head (λ x. (x == 32) ≡ false) b word h)))
    (by (words_of (word ++ more)) (onto word more (All-tail (λ x. (x == 32) ≡ false) b word h)))
  where
    by : (parts : List (List ℕ)) → length word ≤ length (first parts) → length (b ∷ word) ≤ length (first (onto_first b parts))
    by [] low = omega (arith, low)
    by (part ∷ parts) low = omega (arith, low)

after_space : (word more : List ℕ) → HasNoByte 32 word → words_of (word ++ 32 ∷ more) ≡ word ∷ words_of more
after_space word more h = slice_split_at (λ b. b == 32) word 32 more h refl

-- A line of three words at most that is longer than those of any record.
pub long_head : (line : List ℕ) → HasFewWords line → 55 < length line → BeginsNoRecord line
long_head line few long = begins_none line (λ more r h e. by few.words few.apart few.some few.few few.joined more r h e)
  where
    by : (words : List (List ℕ)) → AreWords words → 0 < length words → length words ≤ 3 → line ≡ join_with_byte 32 words
        → (more : List ℕ) (r : Record) → IsSpelled r → words_of (line ++ more) ≢ record_words r
    by [] apart some few is more r h e = omega (arith, some)
    by (w ∷ []) apart some few is more r h e =
        let s = all_short r h in
        let low = onto line more (subst (HasNoByte 32) (sym is) apart.0) in
        let same : length (first (words_of (line ++ more))) ≡ length (first (record_words r)) = ap (λ z. length (first z)) e in
        omega (arith, low, same, s.one, long)
    by (w ∷ v ∷ []) apart some few is more r h e =
        let s = all_short r h in
        let cut : words_of (line ++ more) ≡ w ∷ words_of (v ++ more) =
        ap words_of (ap (λ z. z ++ more) is ∙ append_assoc w (32 ∷ v) more) ∙ after_space w (v ++ more) apart.0 in
        let low = onto v more apart.1.0 in
        let one : length w ≡ length (first (record_words r)) = ap (λ z. length (first z)) (sym cut ∙ e) in
        let two : length (first (words_of (v ++ more))) ≡ length (first (others (record_words r))) = ap (λ z. length (first (others z))) (sym cut ∙ e) in
        let size : length line ≡ length (w ++ 32 ∷ v) = ap length is in
        omega (arith, low, one, two, s.one, s.two, size, long, length-append w (32 ∷ v))
    by (w ∷ v ∷ u ∷ []) apart some few is more r h e =
        let s = all_short r h in
        let cut : words_of (line ++ more) ≡ w ∷ v ∷ words_of (u ++ more) =
        ap words_of (ap (λ z. z ++ more) is ∙ append_assoc w (32 ∷ (v ++ 32 ∷ u)) more
        ∙ ap (λ z. w ++ 32 ∷ z) (append_assoc v (32 ∷ u) more)) ∙ after_space w (v ++ 32 ∷ (u ++ more)) apart.0
        ∙ ap (λ z. w ∷ z) (after_space v (u ++ more) apart.1.0) in
        let low = onto u more apart.1.1.0 in
        let one : length w ≡ length (first (record_words r)) = ap (λ z. length (first z)) (sym cut ∙ e) in
        let two : length v ≡ length (first (others (record_words r))) = ap (λ z. length (first (others z))) (sym cut ∙ e) in
        let three : length (first (words_of (u ++ more))) ≡ length (first (others (others (record_words r)))) =
        ap (λ z. length (first (others (others z)))) (sym cut ∙ e) in
        let size : length line ≡ length (w ++ 32 ∷ (v ++ 32 ∷ u)) = ap length is in
        omega (arith, low, one, two, three, s.one, s.two, s.three, size, long, length-append w (32 ∷ (v ++ 32 ∷ u)), length-append v (32 ∷ u))
    by (w ∷ v ∷ u ∷ t ∷ words) apart some few is more r h e = omega (arith, few)
