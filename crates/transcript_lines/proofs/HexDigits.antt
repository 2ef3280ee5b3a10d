-- How the spelling of bytes goes on.
use Rattle.std.proofs.Common.{◌≡◌, ◌≢◌, ◌+◌, ◌*◌, ◌/◌, ◌%◌, ◌<◌, ◌≤◌, ◌==◌, nat_lt, cond, ℕ, Bool, true, false, List, [], ◌∷◌, ◌++◌, length, flat_map, refl, sym, ◌∙◌, ap, subst, arith, append_assoc, append-nil, length-append}
use Rattle.std.proofs.lemmas.Bool.Decides.{nat_tests}
use Rattle.session_model.specs.Lines.{hex_digit, hex_byte, hex_word}
use Rattle.session_model.specs.Transcript.{AreBytes}
use Rattle.transcript_lines.specs.Bytes.{BeginsNoBytes, ReadsAt}
use Rattle.transcript_lines.specs.Digits.{AreDigits}
use Rattle.transcript_lines.specs.declared.bytes.Last.{Last}
use Rattle.transcript_lines.specs.declared.bytes.Last.TheVariants.{Begin, Dash, Whole, Half, Bad}

-- The spelling of bytes is digits.
pub digits_in : (bytes : List ℕ) → AreBytes bytes → AreDigits (flat_map hex_byte bytes)
digits_in [] h = tt
digits_in (b ∷ bytes) h = ((b / 16, omega (arith, h.0), refl), ((b % 16, omega arith, refl), digits_in bytes h.1))

digit_inside : (w : List ℕ) (b : ℕ) (more : List ℕ) → AreDigits ((w ++ b ∷ []) ++ more) → (v : ℕ) × (v < 16) × (b ≡ hex_digit v)
digit_inside [] b more h = h.0
digit_inside (x ∷ w) b more h = digit_inside w b more h.1

shape : (v : ℕ) (t : Bool) → nat_lt v 10 ≡ t → 47 < cond t (48 + v) (87 + v)
shape v true e = omega arith
shape v false e = omega arith

-- A digit is above the dash and the slash.
pub above_dash : (v : ℕ) → 47 < hex_digit v
above_dash v = shape v (nat_lt v 10) refl

-- A word of one byte or more.
whole_word : (bytes : List ℕ) → 0 < length bytes → hex_word bytes ≡ flat_map hex_byte bytes
whole_word [] h = absurd (omega (arith, h))
whole_word (b ∷ bytes) h = refl

-- A byte that is neither a digit nor a dash stands in no spelling of bytes.
pub no_digit : (w : List ℕ) (b : ℕ) → ((v : ℕ) → v < 16 → b ≢ hex_digit v) → b ≢ 45 → BeginsNoBytes (w ++ b ∷ [])
no_digit w b not dash more bytes h e = by bytes h e
  where
    by : (bytes : List ℕ) → AreBytes bytes → (w ++ b ∷ []) ++ more ≢ hex_word bytes
    by [] h e = first w e
      where
        first : (w : List ℕ) → (w ++ b ∷ []) ++ more ≢ 45 ∷ []
        first [] e = let is : b ≡ 45 = cc in dash is
        first (x ∷ []) e = cc
        first (x ∷ y ∷ w) e = cc
    by (c ∷ bytes) h e = let d = digit_inside w b more (subst AreDigits (sym e) (digits_in (c ∷ bytes) h)) in not d.0 d.1 d.2

-- A dash after anything.
pub late_dash : (w : List ℕ) → 0 < length w → BeginsNoBytes (w ++ 45 ∷ [])
late_dash w some more [] h e = by w some e
  where
    by : (w : List ℕ) → 0 < length w → (w ++ 45 ∷ []) ++ more ≢ 45 ∷ []
    by [] some e = omega (arith, some)
    by (x ∷ []) some e = cc
    by (x ∷ y ∷ w) some e = cc
late_dash w some more (c ∷ bytes) h e =
    let d = digit_inside w 45 more (subst AreDigits (sym e) (digits_in (c ∷ bytes) h)) in
    let up = above_dash d.0 in
    omega (arith, up, d.2)

-- Anything after a dash.
pub after_dash : (w : List ℕ) (b : ℕ) → w ≡ 45 ∷ [] → BeginsNoBytes (w ++ b ∷ [])
after_dash w b is more bytes h e = by bytes h (ap (λ z. (z ++ b ∷ []) ++ more) (sym is) ∙ e)
  where
    by : (bytes : List ℕ) → AreBytes bytes → 45 ∷ b ∷ more ≢ hex_word bytes
    by [] h e = cc
    by (c ∷ bytes) h e =
        let up = above_dash (c / 16) in
        let same : 45 ≡ hex_digit (c / 16) = cc in
        omega (arith, up, same)

-- What begins no spelling of bytes begins none with more bytes.
pub stays : (w : List ℕ) (b : ℕ) → BeginsNoBytes w → BeginsNoBytes (w ++ b ∷ [])
stays w b bad more bytes h e = bad (b ∷ more) bytes h (sym (append_assoc w (b ∷ []) more) ∙ e)

-- What begins no spelling of bytes is none.
pub none : (w : List ℕ) → BeginsNoBytes w → (bytes : List ℕ) → AreBytes bytes → w ≢ hex_word bytes
none w bad bytes h e = bad [] bytes h (append-nil w ∙ e)

-- No bytes are spelled by nothing.
pub empty : (w : List ℕ) → w ≡ [] → (bytes : List ℕ) → AreBytes bytes → w ≢ hex_word bytes
empty w is [] h e = let l : 1 ≡ 0 = ap length (sym e ∙ is) in omega (arith, l)
empty w is (c ∷ bytes) h e = let t : [] ≡ flat_map hex_byte (c ∷ bytes) = sym is ∙ e in cc

-- Each byte is two digits.
pub twice : (bytes : List ℕ) → length (flat_map hex_byte bytes) ≡ length bytes * 2
twice [] = refl
twice (b ∷ bytes) = let t = twice bytes in omega (arith, t)

-- An odd count of digits.
pub odd : (w bytes : List ℕ) (v : ℕ) → w ≡ flat_map hex_byte bytes ++ hex_digit v ∷ [] → (own : List ℕ) → AreBytes own → w ≢ hex_word own
odd w bytes v is [] h e = by bytes (sym is ∙ e)
  where
    by : (bytes : List ℕ) → flat_map hex_byte bytes ++ hex_digit v ∷ [] ≢ 45 ∷ []
    by [] e = let up = above_dash v in let same : hex_digit v ≡ 45 = cc in omega (arith, up, same)
    by (b ∷ bytes) e = cc
odd w bytes v is (c ∷ own) h e =
    let l : length (flat_map hex_byte bytes ++ hex_digit v ∷ []) ≡ length (flat_map hex_byte (c ∷ own)) = ap length (sym is ∙ e) in
    let a = twice bytes in
    let b = twice (c ∷ own) in
    omega (arith, l, a, b, length-append (flat_map hex_byte bytes) (hex_digit v ∷ []))

-- One byte more is two digits more.
pub flat_one : (bytes : List ℕ) (b : ℕ) → flat_map hex_byte (bytes ++ b ∷ []) ≡ flat_map hex_byte bytes ++ hex_byte b
flat_one [] b = refl
flat_one (c ∷ bytes) b = ap (λ z. hex_digit (c / 16) ∷ hex_digit (c % 16) ∷ z) (flat_one bytes b)

-- One byte more.
pub are_more : (bytes : List ℕ) (b : ℕ) → AreBytes bytes → b < 256 → AreBytes (bytes ++ b ∷ [])
are_more [] b h k = (k, tt)
are_more (c ∷ bytes) b h k = (h.0, are_more bytes b h.1 k)

-- The second digit of a byte.
pub second : (w bytes now : List ℕ) (high v : ℕ) → w ≡ flat_map hex_byte bytes ++ hex_digit high ∷ [] → high < 16 → v < 16 → AreBytes bytes
    → now ≡ bytes ++ (high * 16 + v) ∷ [] → (w ++ hex_digit v ∷ [] ≡ flat_map hex_byte now) × (0 < length now) × AreBytes now
second w bytes now high v is small low each got =
    let front : (high * 16 + v) / 16 ≡ high = omega (arith, low) in
    let back : (high * 16 + v) % 16 ≡ v = omega (arith, low) in
    let pair : hex_byte (high * 16 + v) ≡ hex_digit high ∷ hex_digit v ∷ [] =
    ap (λ z. hex_digit z ∷ hex_digit ((high * 16 + v) % 16) ∷ []) front ∙ ap (λ z. hex_digit high ∷ hex_digit z ∷ []) back in (
      ap (λ z. z ++ hex_digit v ∷ []) is ∙ append_assoc (flat_map hex_byte bytes) (hex_digit high ∷ []) (hex_digit v ∷ [])
          ∙ ap (λ z. flat_map hex_byte bytes ++ z) (sym pair) ∙ sym (flat_one bytes (high * 16 + v)) ∙ ap (flat_map hex_byte) (sym got),
      some,
      subst AreBytes (sym got) (are_more bytes (high * 16 + v) each (omega (arith, small, low))),
    )
  where
    some : 0 < length now
    some = let l : length now ≡ length (bytes ++ (high * 16 + v) ∷ []) = ap length got in omega (arith, l, length-append bytes ((high * 16 + v) ∷ []))

-- A reader at any place.

-- A reader holds at most half as many bytes as it was fed.
pub fits_half : (w bytes : List ℕ) (last : Last) → ReadsAt w bytes last → length bytes * 2 ≤ length w
fits_half w bytes Begin r = let l : length bytes ≡ 0 = ap length r.1 in omega (arith, l)
fits_half w bytes Dash r = let l : length bytes ≡ 0 = ap length r.1 in omega (arith, l)
fits_half w bytes Whole r = let l : length w ≡ length (flat_map hex_byte bytes) = ap length r.0 in omega (arith, l, twice bytes)
fits_half w bytes (Half high) r =
    let l : length w ≡ length (flat_map hex_byte bytes ++ hex_digit high ∷ []) = ap length r.0 in
    omega (arith, l, twice bytes, length-append (flat_map hex_byte bytes) (hex_digit high ∷ []))
fits_half w bytes Bad r = r.1

-- A reader holds at most half as many bytes as it was fed with one more.
pub fits_more : (w bytes : List ℕ) (last : Last) (b : ℕ) → ReadsAt w bytes last → length bytes * 2 ≤ length (w ++ b ∷ [])
fits_more w bytes place b r = omega (arith, fits_half w bytes place r, length-append w (b ∷ []))

-- A reader that was last fed neither a dash nor a second digit was fed no spelling.
pub no_end : (w bytes : List ℕ) (last : Last) → ReadsAt w bytes last → last ≢ Dash → last ≢ Whole → (own : List ℕ) → AreBytes own → w ≢ hex_word own
no_end w bytes Begin r d h = empty w r.0
no_end w bytes Dash r d h = absurd (d refl)
no_end w bytes Whole r d h = absurd (h refl)
no_end w bytes (Half high) r d h = odd w bytes high r.0
no_end w bytes Bad r d h = none w r.0

-- A dash after anything begins no spelling.
pub dashed : (w bytes : List ℕ) (last : Last) (b : ℕ) → b ≡ 45 → ReadsAt w bytes last → last ≢ Begin → BeginsNoBytes (w ++ b ∷ [])
dashed w bytes Begin b is r h = absurd (h refl)
dashed w bytes Dash b is r h = after_dash w b r.0
dashed w bytes Whole b is r h =
    let l : length w ≡ length (flat_map hex_byte bytes) = ap length r.0 in
    subst (λ z. BeginsNoBytes (w ++ z ∷ [])) (sym is) (late_dash w (omega (arith, l, twice bytes, r.1)))
dashed w bytes (Half high) b is r h =
    let l : length w ≡ length (flat_map hex_byte bytes ++ hex_digit high ∷ []) = ap length r.0 in
    subst (λ z. BeginsNoBytes (w ++ z ∷ [])) (sym is) (late_dash w (omega (arith, l, length-append (flat_map hex_byte bytes) (hex_digit high ∷ []))))
dashed w bytes Bad b is r h = stays w b r.0

-- A dash alone goes on from nothing; no other byte that is no digit goes on from anywhere.
pub no_other : (w bytes : List ℕ) (last : Last) (b : ℕ) → ((v : ℕ) → v < 16 → b ≢ hex_digit v) → (last ≡ Begin → b ≢ 45) → ReadsAt w bytes last
    → BeginsNoBytes (w ++ b ∷ []) × (length bytes * 2 ≤ length (w ++ b ∷ []))
no_other w bytes place b digit begun r = (by (b == 45) refl, fits_more w bytes place b r)
  where
    by : (t : Bool) → (b == 45) ≡ t → BeginsNoBytes (w ++ b ∷ [])
    by true e = let is : b ≡ 45 = grind (arith, nat_tests) in dashed w bytes place b is r (λ p. begun p is)
    by false e = no_digit w b digit (λ is. absurd (differ is e))
      where
        differ : b ≡ 45 → (b == 45) ≡ false → ⊥
        differ is e = grind (arith, nat_tests)
