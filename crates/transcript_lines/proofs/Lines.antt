-- Lines, their words and their records.
use Rattle.std.proofs.Common.{◌≡◌, ◌==◌, ◌<◌, ◌^◌, ℕ, nat_lt, true, false, List, [], ◌∷◌, ◌++◌, map, flat_map, Option, Some, None, Result, Ok, Err, IfOk, IfSome, IfNone, refl, sym, ◌∙◌, ap, arith}
use Rattle.std.proofs.lemmas.Bool.{or_from}
use Rattle.std.proofs.lemmas.List.{append_cancel_right}
use Rattle.std.proofs.lemmas.List.Folds.{list_any-append}
use Rattle.std.specs.List.{AllByRecursion, join_with_byte}
use Rattle.std.specs.Fmt.{decimal}
use Rattle.std.specs.Str.Parse.{AllDigits}
use Rattle.std.proofs.lemmas.Bool.Decides.{nat_tests}
use Rattle.std.proofs.lemmas.Str.Parse.{digit_from_value}
use Rattle.session_model.specs.Lines.{hex_word, hex_byte}
use Rattle.session_model.specs.Networks.{IsNetwork, base_of, digits_of, family_word, length_of, network_words, octets_of}
use Rattle.session_model.specs.Transcript.{AreBytes, AreFrames, IsSpelled, record_words, record_line, frame_word, mark_letter, has_newline}
use Rattle.session_model.specs.declared.network.Address.{Address}
use Rattle.session_model.specs.declared.network.Address.TheVariants as address
use Rattle.session_model.specs.declared.network.Network.{Network}
use Rattle.session_model.specs.declared.network.Network.TheVariants as network
use Rattle.session_model.specs.declared.transcript.BatchFrame.{BatchFrame}
use Rattle.session_model.specs.declared.transcript.Mark.{Mark}
use Rattle.session_model.specs.declared.transcript.Mark.TheVariants.{ByFlags, Expected, NotExpected}
use Rattle.session_model.specs.declared.transcript.Record.{Record}
use Rattle.session_model.specs.declared.transcript.Record.TheVariants.{Recv, Overrun, Close, Batch, Resync, Block, Unblock, Lookup}
use Rattle.transcript_lines.specs.Words.{words_of}
use Rattle.session_model.specs.Causes.{IsNoRecord}
use Rattle.transcript_lines.specs.Line.{IsRecordOf}
use Rattle.transcript_lines.proofs.Decimals.{decimal_digits}
use Rattle.transcript_lines.proofs.HexDigits.{digits_in, above_dash}
use Rattle.transcript_lines.specs.Digits.{AreDigits}
use Rattle.transcript_lines.proofs.Octets.{octets_bytes}
use Rattle.transcript_lines.proofs.Splits.{IsWord, words_joined, joined_words}

-- Each byte is above the space.
abbrev IsPrinted : List ℕ → Type 0
IsPrinted word = AllByRecursion (λ b. nat_lt 32 b ≡ true) word

above : (b : ℕ) → 32 < b → nat_lt 32 b ≡ true
above b h = grind (arith, nat_tests)

digits_printed : (ds : List ℕ) → AllDigits 10 ds → IsPrinted ds
digits_printed [] h = tt
digits_printed (d ∷ ds) h = let r = digit_from_value d h.0 in (above d (omega (arith, r.0)), digits_printed ds h.1)

decimal_printed : (n : ℕ) → n < 2 ^ 32 → IsPrinted (decimal n)
decimal_printed n h = digits_printed (decimal n) (decimal_digits n h)

hex_digits_printed : (w : List ℕ) → AreDigits w → IsPrinted w
hex_digits_printed [] h = tt
hex_digits_printed (x ∷ w) h = let up = above_dash h.0.0 in (above x (omega (arith, up, h.0.2)), hex_digits_printed w h.1)

bytes_printed : (bytes : List ℕ) → AreBytes bytes → IsPrinted (hex_word bytes)
bytes_printed [] h = (refl, tt)
bytes_printed (b ∷ bytes) h = hex_digits_printed (flat_map hex_byte (b ∷ bytes)) (digits_in (b ∷ bytes) h)

mark_above : (m : Mark) → 32 < mark_letter m
mark_above ByFlags = omega arith
mark_above Expected = omega arith
mark_above NotExpected = omega arith

frame_printed : (f : BatchFrame) → AreBytes f.bytes → IsPrinted (frame_word f)
frame_printed f h = (above (mark_letter f.mark) (mark_above f.mark), (refl, bytes_printed f.bytes h))

frames_printed : (fs : List BatchFrame) → AreFrames AreBytes fs → AllByRecursion IsPrinted (map frame_word fs)
frames_printed [] h = tt
frames_printed (f ∷ fs) h = (frame_printed f h.0, frames_printed fs h.1)

family_printed : (a : Address) → IsPrinted (family_word a)
family_printed (address.V4 n) = (refl, tt)
family_printed (address.V6 n) = (refl, tt)

digits_of_printed : (a : Address) → IsPrinted (digits_of a)
digits_of_printed a = bytes_printed (octets_of a) (octets_bytes a)

both_printed : (v w : List ℕ) → IsPrinted v → IsPrinted w → IsPrinted (v ++ w)
both_printed [] w h k = k
both_printed (b ∷ v) w h k = (h.0, both_printed v w h.1 k)

network_printed : (n : Network) → IsNetwork n → AllByRecursion IsPrinted (network_words n)
network_printed n h =
    let base = base_of n in
    let length = 47 ∷ decimal (length_of n) in
    (family_printed base, (both_printed (digits_of base) length (digits_of_printed base) (refl, length_printed n h), tt))
  where
    length_printed : (n : Network) → IsNetwork n → IsPrinted (decimal (length_of n))
    length_printed (network.V4 p) h = decimal_printed p.1 (omega (arith, h.1))
    length_printed (network.V6 p) h = decimal_printed p.1 (omega (arith, h.1))

record_printed : (r : Record) → IsSpelled r → AllByRecursion IsPrinted (record_words r)
record_printed (Recv a bytes) h =
    ((refl, (refl, (refl, (refl, tt)))), (decimal_printed a.port h.0.port, (decimal_printed a.groups h.0.groups, (bytes_printed bytes h.1, tt))))
record_printed Overrun h = ((refl, (refl, (refl, (refl, (refl, (refl, (refl, tt))))))), tt)
record_printed Close h = ((refl, (refl, (refl, (refl, (refl, tt))))), tt)
record_printed (Batch a fs) h =
    ((refl, (refl, (refl, (refl, (refl, tt))))), (decimal_printed a.port h.0.port, (decimal_printed a.groups h.0.groups, frames_printed fs h.1)))
record_printed Resync h = ((refl, (refl, (refl, (refl, (refl, (refl, tt)))))), tt)
record_printed (Block n) h = ((refl, (refl, (refl, (refl, (refl, tt))))), network_printed n h)
record_printed (Unblock n) h = ((refl, (refl, (refl, (refl, (refl, (refl, (refl, tt))))))), network_printed n h)
record_printed (Lookup a) h = ((refl, (refl, (refl, (refl, (refl, (refl, tt)))))), (family_printed a, (digits_of_printed a, tt)))

printed_word : (word : List ℕ) → IsPrinted word → IsWord word
printed_word [] h = tt
printed_word (b ∷ word) h = (by b h.0, printed_word word h.1)
  where
    by : (b : ℕ) → nat_lt 32 b ≡ true → (b == 32) ≡ false
    by b h = grind (arith, nat_tests)

printed_words : (words : List (List ℕ)) → AllByRecursion IsPrinted words → AllByRecursion IsWord words
printed_words [] h = tt
printed_words (word ∷ words) h = (printed_word word h.0, printed_words words h.1)

-- No word of a record has a space.
pub record_is_words : (r : Record) → IsSpelled r → AllByRecursion IsWord (record_words r)
record_is_words r h = printed_words (record_words r) (record_printed r h)

-- A record's line comes apart into the record's words.
pub record_joined : (r : Record) → IsSpelled r → words_of (join_with_byte 32 (record_words r)) ≡ record_words r
record_joined (Recv a bytes) h = words_joined _ _ (record_is_words (Recv a bytes) h)
record_joined Overrun h = words_joined _ _ (record_is_words Overrun h)
record_joined Close h = words_joined _ _ (record_is_words Close h)
record_joined (Batch a fs) h = words_joined _ _ (record_is_words (Batch a fs) h)
record_joined Resync h = words_joined _ _ (record_is_words Resync h)
record_joined (Block n) h = words_joined _ _ (record_is_words (Block n) h)
record_joined (Unblock n) h = words_joined _ _ (record_is_words (Unblock n) h)
record_joined (Lookup a) h = words_joined _ _ (record_is_words (Lookup a) h)

printed_newline : (word : List ℕ) → IsPrinted word → has_newline word ≡ false
printed_newline [] h = refl
printed_newline (b ∷ word) h = or_from (b == 10) (has_newline word) (by b h.0) (printed_newline word h.1)
  where
    by : (b : ℕ) → nat_lt 32 b ≡ true → (b == 10) ≡ false
    by b h = grind (arith, nat_tests)

joined_newline : (words : List (List ℕ)) → AllByRecursion IsPrinted words → has_newline (join_with_byte 32 words) ≡ false
joined_newline [] h = refl
joined_newline (word ∷ []) h = printed_newline word h.0
joined_newline (word ∷ next ∷ words) h =
    list_any-append (λ b. b == 10) word (32 ∷ join_with_byte 32 (next ∷ words))
    ∙ or_from (has_newline word) (has_newline (join_with_byte 32 (next ∷ words))) (printed_newline word h.0) (joined_newline (next ∷ words) h.1)

-- A record's line has no newline before its last byte.
pub record_newline : (r : Record) → IsSpelled r → has_newline (join_with_byte 32 (record_words r)) ≡ false
record_newline r h = joined_newline (record_words r) (record_printed r h)

-- A line of a record has the words of the record.
pub words_of_line : (line : List ℕ) (r : Record) → IsSpelled r → line ++ 10 ∷ [] ≡ record_line r → words_of line ≡ record_words r
words_of_line line r h e = ap words_of (append_cancel_right line (join_with_byte 32 (record_words r)) (10 ∷ []) e) ∙ record_joined r h

-- A line whose words are those of a record is its line.
pub line_of_words : (line : List ℕ) (r : Record) → words_of line ≡ record_words r → line ++ 10 ∷ [] ≡ record_line r
line_of_words line r e = ap (λ z. z ++ 10 ∷ []) (sym (joined_words line) ∙ ap (join_with_byte 32) e)

-- Where words are those of a record, the line is its line.
pub line_some : (line : List ℕ) (o : Option Record) → IsRecordOf (words_of line) o → IfSome o (λ r. IsSpelled r × (line ++ 10 ∷ [] ≡ record_line r))
line_some line (Some r) h = (h.0, line_of_words line r h.1)
line_some line None h = tt

-- Where words are those of no record, no record has the line.
pub line_none : (line : List ℕ) (o : Option Record) → IsRecordOf (words_of line) o → IfNone o (IsNoRecord IsSpelled line)
line_none line (Some r) h = tt
line_none line None h = λ r k e. h r k (words_of_line line r k e)

-- What holds of a result in Ok also holds in other words.
pub if_ok : {X E : Type 0} (result : Result X E) (P Q : X → Type 0) → IfOk result P → ((x : X) → P x → Q x) → IfOk result Q
if_ok (Ok x) P Q h k = k x h
if_ok (Err e) P Q h k = h
