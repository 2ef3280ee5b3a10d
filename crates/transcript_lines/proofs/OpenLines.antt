-- An unfinished line, as its bytes come.
use Rattle.std.proofs.Common.{◌≡◌, ◌<◌, ◌≤◌, ℕ, nat_lt, Bool, true, false, List, [], ◌∷◌, ◌++◌, length, flat_map, codes, Option, Some, None, refl, sym, subst, ◌∙◌, ap, arith, append_assoc, append-nil, get_or, Result, IfSome, IfNone}
use Rattle.std.specs.Bool.{then_some}
use Rattle.std.specs.Option.{is_some}
use Rattle.std.proofs.lemmas.Bool.Decides.{nat_tests}
use Rattle.nl_core.specs.declared.error.DecodeError.{DecodeError}
use Rattle.session_model.specs.Causes.{IsNoRecord}
use Rattle.session_model.specs.Transcript.{IsRecord, IsSpelled, record_line, record_words}
use Rattle.session_model.specs.declared.transcript.Record.{Record}
use Rattle.session_model.specs.declared.transcript.Record.TheVariants.{Overrun, Batch}
use Rattle.transcript_lines.specs.Cut.{HasNoByte}
use Rattle.transcript_lines.specs.Decoding.{BeginsNoRecord, ReadsBatch, head_words, spaced}
use Rattle.transcript_lines.specs.Line.{IsRecordOf}
use Rattle.transcript_lines.specs.Words.{words_of}
use Rattle.transcript_lines.specs.OpenLine.{FeedsTail, HasFewWords, IsRecvLine, ReadsHead, ReadsTail, StandsAt}
use Rattle.transcript_lines.specs.declared.batch_reader.BatchReader.{BatchReader}
use Rattle.transcript_lines.specs.declared.open_line.Tail.{Tail}
use Rattle.transcript_lines.specs.declared.open_line.Tail.TheVariants as tail
use Rattle.transcript_lines.proofs.HeadBounds.{long_head}
use Rattle.transcript_lines.proofs.Heads.{spaced_joined, stays}
use Rattle.transcript_lines.proofs.Lines.{line_of_words, words_of_line}

-- A line of few words that is too long begins no record.
pub too_long : (taken head front others piece : List ℕ) → ReadsHead taken head → piece ≡ front ++ others → HasFewWords (head ++ front)
    → 55 < length (head ++ front) → BeginsNoRecord (taken ++ piece)
too_long taken head front others piece h e few long =
    let same : (head ++ front) ++ others ≡ taken ++ piece =
    append_assoc head front others ∙ ap (λ z. z ++ (front ++ others)) h.kept ∙ ap (λ z. taken ++ z) (sym e) in
    subst BeginsNoRecord same (stays (head ++ front) others (long_head (head ++ front) few long))

-- A line whose head goes on.
pub head_goes_on : (taken head front others piece now : List ℕ) → ReadsHead taken head → piece ≡ front ++ others → others ≡ [] → now ≡ head ++ front
    → length now ≤ 55 → ReadsHead (taken ++ piece) now
head_goes_on taken head front others piece now h e none is low = record {
  kept = is ∙ ap (λ z. z ++ front) h.kept ∙ ap (λ z. taken ++ z) (sym (append-nil front) ∙ ap (λ z. front ++ z) (sym none) ∙ sym e);
  short = low;
}

-- A line whose head is whole, and what follows it.
pub tail_begins : (taken head front others piece words rest : List ℕ) (first second last : Tail) → ReadsHead taken head → piece ≡ front ++ others
    → head ++ front ≡ words ++ rest → ReadsTail words first → FeedsTail first rest second → FeedsTail second others last
    → ReadsTail (taken ++ piece) last
tail_begins taken head front others piece words rest first second last h e cut a b c =
    let same : (words ++ rest) ++ others ≡ taken ++ piece =
    ap (λ z. z ++ others) (sym cut) ∙ append_assoc head front others ∙ ap (λ z. z ++ (front ++ others)) h.kept ∙ ap (λ z. taken ++ z) (sym e) in
    subst (λ z. ReadsTail z last) same (c (words ++ rest) (b words a))

-- What a tail has read isn't nothing.
pub some_taken : (taken : List ℕ) (t : Tail) → ReadsTail taken t → 0 < length taken
some_taken taken (tail.Datagram reader) d =
    let size : length taken ≡ length (flat_map spaced (head_words (codes "recv") reader.source) ++ d.word) = ap length d.spelled in
    omega (arith, size)
some_taken taken (tail.Batch reader) b =
    let size : length taken ≡ length (flat_map spaced (record_words (Batch reader.to reader.frames)) ++ b.word) = ap length b.spelled in
    omega (arith, size)
some_taken [] tail.Bad none = absurd (none (codes "overrun") Overrun tt refl)
some_taken (b ∷ taken) tail.Bad none = omega arith

-- A batch's line isn't a datagram's.
pub no_recv : (taken : List ℕ) (reader : BatchReader) → ReadsBatch taken reader → IsRecvLine taken → ⊥
no_recv taken reader b r =
    let first : get_or (flat_map spaced (record_words (Batch reader.to reader.frames)) ++ b.word) 0 0 ≡ get_or (codes "recv " ++ r.0) 0 0 =
    ap (λ z. get_or z 0 0) (sym b.spelled ∙ r.1) in
    omega (arith, first)

-- A line of one word, of two and of three.
pub one_word : (line : List ℕ) → HasNoByte 32 line → HasFewWords line
one_word line h = record { words = line ∷ []; apart = (h, tt); joined = refl; some = omega arith; few = omega arith }

pub two_words : (line first rest : List ℕ) → HasNoByte 32 first → line ≡ first ++ 32 ∷ rest → HasNoByte 32 rest → HasFewWords line
two_words line first rest h e k = record { words = first ∷ rest ∷ []; apart = (h, (k, tt)); joined = e; some = omega arith; few = omega arith }

pub three_words : (line first rest second last : List ℕ) → HasNoByte 32 first → line ≡ first ++ 32 ∷ rest → HasNoByte 32 second
    → rest ≡ second ++ 32 ∷ last → HasNoByte 32 last → HasFewWords line
three_words line first rest second last h e k f m = record {
  words = first ∷ second ∷ last ∷ [];
  apart = (h, (k, (m, tt)));
  joined = e ∙ ap (λ z. first ++ 32 ∷ z) f;
  some = omega arith;
  few = omega arith;
}

-- A line of more than three words.
pub more_words : (line first rest second later third last : List ℕ) → line ≡ first ++ 32 ∷ rest → rest ≡ second ++ 32 ∷ later
    → later ≡ third ++ 32 ∷ last → line ≡ flat_map spaced (first ∷ second ∷ third ∷ []) ++ last
more_words line first rest second later third last e f g =
    e ∙ ap (λ z. first ++ 32 ∷ z) (f ∙ ap (λ z. second ++ 32 ∷ z) g) ∙ sym (spaced_joined (first ∷ second ∷ third ∷ []) last)

-- Where a tail is there, bytes were taken.
pub begun : (taken head : List ℕ) (o : Option Tail) → is_some o ≡ true → StandsAt taken head o → 0 < length taken
begun taken head (Some t) is h = some_taken taken t h
begun taken head None is h = absurd (cc)

-- What a line of few words is: kept, or too long.
pub kept_or_bad : (taken head front others piece now : List ℕ) (t : Bool) → nat_lt 55 (length now) ≡ t → ReadsHead taken head → piece ≡ front ++ others
    → now ≡ head ++ front → HasFewWords now → (length now ≤ 55 → others ≡ []) → StandsAt (taken ++ piece) now (then_some t tail.Bad)
kept_or_bad taken head front others piece now true e h parts is few none =
    let long : 55 < length now = grind (arith, nat_tests) in
    too_long taken head front others piece h parts (subst HasFewWords is few) (subst (λ z. 55 < length z) is long)
kept_or_bad taken head front others piece now false e h parts is few none =
    let low : length now ≤ 55 = grind (arith, nat_tests) in
    head_goes_on taken head front others piece now h parts (none low) is low

-- What a whole line's reading tells, by its words.
pub told_by_words : (line taken : List ℕ) (o : Option Record) → line ≡ taken
    → IfSome o (λ r. IsSpelled r × (line ++ 10 ∷ [] ≡ record_line r)) → IfNone o (IsNoRecord IsSpelled line) → IsRecordOf (words_of taken) o
told_by_words line taken o is h k = subst (λ z. IsRecordOf (words_of z) o) is (by o h k)
  where
    by : (o : Option Record) → IfSome o (λ r. IsSpelled r × (line ++ 10 ∷ [] ≡ record_line r)) → IfNone o (IsNoRecord IsSpelled line)
        → IsRecordOf (words_of line) o
    by (Some r) h k = (h.0, words_of_line line r h.0 h.1)
    by None h k = λ r is e. k r is (line_of_words line r e)

-- A line that is none whatever the frames are is none.
pub line_bad : {M : Type 0} (reads : ℕ → List ℕ → Result M DecodeError) (line : List ℕ) → IsRecordOf (words_of line) None
    → IsNoRecord (IsRecord reads) line
line_bad reads line none r is e = none r is.0 (words_of_line line r is.0 e)
