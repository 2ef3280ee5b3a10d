-- Bytes of pairs of digits, as a loop goes over them.
use Rattle.std.proofs.Common.{◌≡◌, ◌+◌, ◌-◌, ◌*◌, ◌/◌, ◌%◌, ◌<◌, ◌≤◌, ◌⊎◌, ℕ, nat_lt, max, Bool, true, false, List, [], ◌∷◌, ◌++◌, length, take, drop, replicate, get_or, flat_map, refl, sym, subst, inl, inr, ◌∙◌, ap, arith, append_assoc, append-nil, length-append}
use Rattle.std.proofs.lemmas.Bool.Decides.{nat_tests}
use Rattle.std.proofs.lemmas.Grind.{flat_map-append}
use Rattle.std.proofs.lemmas.List.{take_more, take_at, take_all, drop_all, length-drop}
use borrow.Rule.Slice.PartMut.{post_of}
use Rattle.session_model.specs.Lines.{hex_byte, hex_digit}
use Rattle.session_model.specs.Transcript.{AreBytes}
use Rattle.transcript_lines.specs.Bytes.{BeginsNoBytes, ReadsAt}
use Rattle.transcript_lines.specs.Digits.{AreDigits, ArePairs, IsDigitValue}
use Rattle.transcript_lines.specs.declared.bytes.Last.{Last}
use Rattle.transcript_lines.specs.declared.bytes.Last.TheVariants.{Begin, Whole, Bad}
use Rattle.transcript_lines.proofs.HexDigits.{digits_in, fits_half, flat_one, are_more}

-- Of these digits these are the bytes as long as the greatest value is that of a digit; else not all are digits.
pub record Decoded (word bytes : List ℕ) (worst : ℕ) : Type 0 where
  pub good : worst < 16 → AreBytes bytes × (word ≡ flat_map hex_byte bytes)
  pub bad : 16 ≤ worst → AreDigits word → ⊥

below : (a b : ℕ) → (a < b) ⊎ (b ≤ a)
below a b = by (nat_lt a b) refl
  where
    by : (t : Bool) → nat_lt a b ≡ t → (a < b) ⊎ (b ≤ a)
    by true e = inl (grind (arith, nat_tests))
    by false e = inr (grind (arith, nat_tests))

digits_front : (v w : List ℕ) → AreDigits (v ++ w) → AreDigits v
digits_front [] w h = tt
digits_front (x ∷ v) w h = (h.0, digits_front v w h.1)

digits_back : (v w : List ℕ) → AreDigits (v ++ w) → AreDigits w
digits_back [] w h = h
digits_back (x ∷ v) w h = digits_back v w h.1

-- Nothing is decoded yet.
pub none_decoded : Decoded [] [] 0
none_decoded = record { good = λ h. (tt, refl); bad = λ h. absurd (omega (arith, h)) }

byte_of : (high low : ℕ) → high < 16 → low < 16 → (high * 16 % 256 + low) % 256 ≡ high * 16 + low
byte_of high low h k = omega (arith, h, k)

pair_of : (high low : ℕ) → high < 16 → low < 16 → hex_byte (high * 16 + low) ≡ hex_digit high ∷ hex_digit low ∷ []
pair_of high low h k =
    let front : (high * 16 + low) / 16 ≡ high = omega (arith, h, k) in
    let back : (high * 16 + low) % 16 ≡ low = omega (arith, h, k) in
    ap (λ z. hex_digit z ∷ hex_digit ((high * 16 + low) % 16) ∷ []) front ∙ ap (λ z. hex_digit high ∷ hex_digit z ∷ []) back

-- One pair more.
pub one_pair : (word bytes : List ℕ) (worst first second high low : ℕ) → IsDigitValue first high → IsDigitValue second low
    → Decoded word bytes worst
    → Decoded (word ++ first ∷ second ∷ []) (bytes ++ (high * 16 % 256 + low) % 256 ∷ []) (max (max worst high) low)
one_pair word bytes worst first second high low h k d = record { good = good; bad = λ m. bad (below worst 16) (below high 16) (below low 16) m }
  where
    good : max (max worst high) low < 16 → AreBytes (bytes ++ (high * 16 % 256 + low) % 256 ∷ [])
        × (word ++ first ∷ second ∷ [] ≡ flat_map hex_byte (bytes ++ (high * 16 % 256 + low) % 256 ∷ []))
    good m =
        let a : worst < 16 = omega (arith, m) in
        let b : high < 16 = omega (arith, m) in
        let c : low < 16 = omega (arith, m) in
        let so_far = d.good a in
        let same = byte_of high low b c in
        let pair : hex_byte ((high * 16 % 256 + low) % 256) ≡ first ∷ second ∷ [] =
        ap hex_byte same ∙ pair_of high low b c ∙ ap (λ z. z ∷ hex_digit low ∷ []) (sym (h.0 b)) ∙ ap (λ z. first ∷ z ∷ []) (sym (k.0 c)) in (
          are_more bytes ((high * 16 % 256 + low) % 256) so_far.0 (omega (arith, same, b, c)),
          ap (λ z. z ++ first ∷ second ∷ []) so_far.1 ∙ ap (λ z. flat_map hex_byte bytes ++ z) (sym pair)
              ∙ sym (flat_one bytes ((high * 16 % 256 + low) % 256)),
        )

    bad : (worst < 16) ⊎ (16 ≤ worst) → (high < 16) ⊎ (16 ≤ high) → (low < 16) ⊎ (16 ≤ low) → 16 ≤ max (max worst high) low
        → AreDigits (word ++ first ∷ second ∷ []) → ⊥
    bad (inr a) b c m digits = d.bad a (digits_front word (first ∷ second ∷ []) digits)
    bad (inl a) (inr b) c m digits = let last = digits_back word (first ∷ second ∷ []) digits in h.1 b last.0.0 last.0.1 last.0.2
    bad (inl a) (inl b) (inr c) m digits = let last = digits_back word (first ∷ second ∷ []) digits in k.1 c last.1.0.0 last.1.0.1 last.1.0.2
    bad (inl a) (inl b) (inl c) m digits = omega (arith, a, b, c, m)

-- Two bytes more of a list.
pub two_more : (xs : List ℕ) (i : ℕ) → 2 * i + 1 < length xs
    → take (2 * (i + 1)) xs ≡ take (2 * i) xs ++ get_or xs (2 * i) 0 ∷ get_or xs (2 * i + 1) 0 ∷ []
two_more xs i low =
    let step : 2 * (i + 1) ≡ 2 * i + 1 + 1 = omega arith in
    ap (λ n. take n xs) step ∙ take_more xs (2 * i + 1) 0 low ∙ ap (λ z. z ++ get_or xs (2 * i + 1) 0 ∷ []) (take_more xs (2 * i) 0 (omega (arith, low)))
    ∙ append_assoc (take (2 * i) xs) (get_or xs (2 * i) 0 ∷ []) (get_or xs (2 * i + 1) 0 ∷ [])

-- What the whole loop has decoded.
pub all_decoded : (word bytes : List ℕ) (worst : ℕ) → Decoded word bytes worst → (ok : Bool) → nat_lt worst 16 ≡ ok → ArePairs word bytes ok
all_decoded word bytes worst d true e = d.good (grind (arith, nat_tests))
all_decoded word bytes worst d false e = d.bad (grind (arith, nat_tests))

-- A word of two bytes or more that aren't all digits begins no spelling of bytes.
not_digits : (word : List ℕ) → 1 < length word → (AreDigits word → ⊥) → BeginsNoBytes word
not_digits word long not more [] h e =
    let size : length (word ++ more) ≡ 1 = ap length e in
    omega (arith, size, long, length-append word more)
not_digits word long not more (b ∷ bytes) h e = not (digits_front word more (subst AreDigits (sym e) (digits_in (b ∷ bytes) h)))

some_more : (xs ys : List ℕ) → 0 < length ys → 0 < length (xs ++ ys)
some_more xs ys h = omega (arith, h, length-append xs ys)

bytes_joined : (xs ys : List ℕ) → AreBytes xs → AreBytes ys → AreBytes (xs ++ ys)
bytes_joined [] ys h k = k
bytes_joined (x ∷ xs) ys h k = (h.0, bytes_joined xs ys h.1 k)

-- Where a reader stands after pairs, where no digit waits for its second.
abbrev pub after_pairs : Bool → Last
after_pairs true = Whole
after_pairs false = Bad

-- A reader that holds whole bytes was fed pairs more.
pub pairs_read : (fed bytes word more : List ℕ) (last : Last) (ok : Bool) → ReadsAt fed bytes last → (last ≡ Begin) ⊎ (last ≡ Whole)
    → 0 < length word → length word ≡ 2 * length more → ArePairs word more ok → ReadsAt (fed ++ word) (bytes ++ more) (after_pairs ok)
pairs_read fed bytes word more last ok r (inl is) some even pairs = by ok pairs
  where
    at : ReadsAt fed bytes Begin
    at = subst (ReadsAt fed bytes) is r

    by : (ok : Bool) → ArePairs word more ok → ReadsAt (fed ++ word) (bytes ++ more) (after_pairs ok)
    by true pairs = (
      ap (λ z. z ++ word) at.0 ∙ pairs.1 ∙ sym (ap (λ z. flat_map hex_byte (z ++ more)) at.1),
      some_more bytes more (omega (arith, some, even)),
      subst (λ z. AreBytes (z ++ more)) (sym at.1) pairs.0,
    )
    by false pairs = (
      not_digits (fed ++ word) (omega (arith, some, even, length-append fed word)) (λ digits. pairs (digits_back fed word digits)),
      omega (arith, even, fits_half fed bytes last r, length-append fed word, length-append bytes more),
    )
pairs_read fed bytes word more last ok r (inr is) some even pairs = by ok pairs
  where
    at : ReadsAt fed bytes Whole
    at = subst (ReadsAt fed bytes) is r

    by : (ok : Bool) → ArePairs word more ok → ReadsAt (fed ++ word) (bytes ++ more) (after_pairs ok)
    by true pairs = (
      ap (λ z. z ++ word) at.0 ∙ ap (λ z. flat_map hex_byte bytes ++ z) pairs.1 ∙ sym (flat_map-append hex_byte bytes more),
      some_more bytes more (omega (arith, some, even)),
      bytes_joined bytes more at.2 pairs.0,
    )
    by false pairs = (
      not_digits (fed ++ word) (omega (arith, some, even, length-append fed word)) (λ digits. pairs (digits_back fed word digits)),
      omega (arith, even, fits_half fed bytes last r, length-append fed word, length-append bytes more),
    )

-- What was decoded, under equal names.
pub decoded_as : (word word' bytes bytes' : List ℕ) (worst worst' : ℕ) → word' ≡ word → bytes' ≡ bytes → worst' ≡ worst → Decoded word bytes worst
    → Decoded word' bytes' worst'
decoded_as word word' bytes bytes' worst worst' a b c d =
    subst (λ z. Decoded word' bytes' z) (sym c) (subst (λ z. Decoded word' z worst) (sym b) (subst (λ z. Decoded z bytes worst) (sym a) d))

-- What a list holds after a part behind its old items was written.
pub written_behind : (old decoded now : List ℕ) (held n : ℕ) → now ≡ old ++ replicate n 0 → length old ≡ held → length decoded ≡ n
    → take held now ++ (decoded ++ post_of held (length now - held) now) ≡ old ++ decoded
written_behind old decoded now held n is count size =
    let front : take held now ≡ old = ap (take held) is ∙ take_at old (replicate n 0) held count in
    let back : post_of held (length now - held) now ≡ [] = drop_all (length now - held) (drop held now) (omega (arith, length-drop held now)) in
    ap (λ z. z ++ (decoded ++ post_of held (length now - held) now)) front ∙ ap (λ z. old ++ (decoded ++ z)) back
    ∙ ap (λ z. old ++ z) (append-nil decoded)

-- What a list is once it was made longer.
pub made_longer : (old now : List ℕ) (held len n : ℕ) → length old ≡ held → len ≡ held → now ≡ take (held + n) old ++ replicate (held + n - len) 0
    → now ≡ old ++ replicate n 0
made_longer old now held len n count same is =
    let more : held + n - len ≡ n = omega (arith, same) in
    is ∙ ap (λ z. z ++ replicate (held + n - len) 0) (take_all (held + n) old (omega (arith, count))) ∙ ap (λ k. old ++ replicate k 0) more
