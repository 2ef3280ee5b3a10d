-- A datagram's digits, as they come.
use Rattle.std.proofs.Common.{◌≡◌, ◌≢◌, ◌+◌, ◌-◌, ◌*◌, ◌<◌, ◌≤◌, ℕ, List, [], ◌∷◌, ◌++◌, length, flat_map, codes, Some, None, refl, sym, subst, ◌∙◌, ap, arith, append_assoc, append-nil, length-append}
use Rattle.session_model.specs.Lines.{hex_byte, hex_digit, hex_word}
use Rattle.session_model.specs.Transcript.{IsAddress}
use Rattle.session_model.specs.declared.address.SocketAddr.{SocketAddr}
use Rattle.session_model.specs.declared.transcript.Record.TheVariants.{Recv}
use Rattle.transcript_lines.specs.Bytes.{AreBytesOf, ReadsAt}
use Rattle.transcript_lines.specs.BytesReader.{FeedsBytes, ReadsBytes}
use Rattle.transcript_lines.specs.Decoding.{FeedsDatagram, ReadsDatagram, head_words, spaced}
use Rattle.transcript_lines.specs.Line.{IsRecordOf}
use Rattle.transcript_lines.specs.Words.{words_of}
use Rattle.transcript_lines.specs.declared.bytes.BytesReader.{BytesReader}
use Rattle.transcript_lines.specs.declared.bytes.Last.{Last}
use Rattle.transcript_lines.specs.declared.bytes.Last.TheVariants.{Begin, Dash, Whole, Half, Bad}
use Rattle.transcript_lines.specs.declared.datagram_reader.DatagramReader.{DatagramReader}
use Rattle.transcript_lines.proofs.Heads.{datagram_none, datagram_some, no_datagram_begins}
use Rattle.transcript_lines.proofs.HexDigits.{fits_half, twice}
use Rattle.transcript_lines.proofs.RecordWords.{word_length}

-- A reader that was fed nothing isn't bad.
fresh : (bytes : List ℕ) (last : Last) → ReadsAt [] bytes last → last ≢ Bad
fresh bytes last r e = let bad = subst (ReadsAt [] bytes) e r in bad.0 (hex_word []) [] tt refl

-- A reader that isn't bad was fed two digits a byte, and one more at most.
word_size : (word bytes : List ℕ) (last : Last) → ReadsAt word bytes last → last ≢ Bad → length word ≤ 2 * length bytes + 1
word_size word bytes Begin r h = let l : length word ≡ 0 = ap length r.0 in omega (arith, l)
word_size word bytes Dash r h = let l : length word ≡ 1 = ap length r.0 in omega (arith, l)
word_size word bytes Whole r h = let l : length word ≡ length (flat_map hex_byte bytes) = ap length r.0 in omega (arith, l, twice bytes)
word_size word bytes (Half high) r h =
    let l : length word ≡ length (flat_map hex_byte bytes ++ hex_digit high ∷ []) = ap length r.0 in
    omega (arith, l, twice bytes, length-append (flat_map hex_byte bytes) (hex_digit high ∷ []))
word_size word bytes Bad r h = absurd (h refl)

-- A datagram before its first digit.
pub no_digits : (source : SocketAddr) (digits : BytesReader) → ReadsBytes [] digits → IsAddress source
    → ReadsDatagram (flat_map spaced (head_words (codes "recv") source)) (record { source = source; digits = digits })
no_digits source digits r h = record {
  address = h;
  word = [];
  spelled = sym (append-nil (flat_map spaced (head_words (codes "recv") source)));
  reads = r;
  good = fresh digits.bytes.items digits.last r;
  short = omega (arith, fits_half [] digits.bytes.items digits.last r);
}

spelled_more : (taken front word piece : List ℕ) → taken ≡ front ++ word → taken ++ piece ≡ front ++ (word ++ piece)
spelled_more taken front word piece is = ap (λ z. z ++ piece) is ∙ append_assoc front word piece

hex_long : (bytes : List ℕ) → length bytes ≤ 65536 → length (hex_word bytes) ≤ 131072
hex_long [] h = omega arith
hex_long (b ∷ bytes) h = omega (arith, h, twice (b ∷ bytes))

-- A piece that is too long begins no datagram.
pub too_long : (before : DatagramReader) (piece : List ℕ) → 131072 - 2 * length before.digits.bytes.items < length piece
    → FeedsDatagram before piece None
too_long before piece long taken d =
    no_datagram_begins (taken ++ piece) (d.word ++ piece) before.source d.address
    (spelled_more taken (flat_map spaced (head_words (codes "recv") before.source)) d.word piece d.spelled)
    (λ more bytes each short same.
    let size : length ((d.word ++ piece) ++ more) ≡ length (hex_word bytes) = ap length same in
    omega (
      arith,
      size,
      long,
      short,
      hex_long bytes short,
      fits_half d.word before.digits.bytes.items before.digits.last d.reads,
      length-append (d.word ++ piece) more,
      length-append d.word piece,
    ))

-- Digits that spell no bytes begin no datagram.
pub bad_digits : (before : DatagramReader) (piece : List ℕ) (digits : BytesReader) → FeedsBytes before.digits piece digits → digits.last ≡ Bad
    → FeedsDatagram before piece None
bad_digits before piece digits feeds is taken d =
    let bad = subst (ReadsAt (d.word ++ piece) digits.bytes.items) is (feeds d.word d.reads) in
    no_datagram_begins (taken ++ piece) (d.word ++ piece) before.source d.address
    (spelled_more taken (flat_map spaced (head_words (codes "recv") before.source)) d.word piece d.spelled)
    (λ more bytes each short same. bad.0 more bytes each same)

-- More digits of a datagram.
pub good_digits : (before : DatagramReader) (piece : List ℕ) (digits : BytesReader) → FeedsBytes before.digits piece digits → digits.last ≢ Bad
    → length piece ≤ 131072 - 2 * length before.digits.bytes.items
    → FeedsDatagram before piece (Some (record { source = before.source; digits = digits }))
good_digits before piece digits feeds not low taken d =
    let reads = feeds d.word d.reads in record {
      address = d.address;
      word = d.word ++ piece;
      spelled = spelled_more taken (flat_map spaced (head_words (codes "recv") before.source)) d.word piece d.spelled;
      reads = reads;
      good = not;
      short = omega (
        arith,
        low,
        d.short,
        fits_half (d.word ++ piece) digits.bytes.items digits.last reads,
        word_size d.word before.digits.bytes.items before.digits.last d.reads d.good,
        length-append d.word piece,
      );
    }

-- The record of a datagram's line, by the bytes of its digits.
pub ends_some : (reader : DatagramReader) (bytes taken : List ℕ) → ((fed : List ℕ) → ReadsBytes fed reader.digits → AreBytesOf fed (Some bytes))
    → ReadsDatagram taken reader → IsRecordOf (words_of taken) (Some (Recv reader.source bytes))
ends_some reader bytes taken end d =
    let read = end d.word d.reads in
    let size : length d.word ≡ length (hex_word bytes) = ap length read.1 in
    let small : length bytes ≤ 65536 = omega (
      arith,
      size,
      word_length bytes,
      d.short,
      word_size d.word reader.digits.bytes.items reader.digits.last d.reads d.good,
    ) in
    datagram_some taken d.word reader.source bytes d.address small d.spelled read.0 read.1

-- It is none where the digits are of no bytes.
pub ends_none : (reader : DatagramReader) (taken : List ℕ) → ((fed : List ℕ) → ReadsBytes fed reader.digits → AreBytesOf fed None)
    → ReadsDatagram taken reader → IsRecordOf (words_of taken) None
ends_none reader taken end d = datagram_none taken d.word reader.source d.address d.spelled (end d.word d.reads)

-- The bytes held are at most half of those taken.
pub at_most_half : (reader : DatagramReader) (taken : List ℕ) (held : ℕ) → ((fed : List ℕ) → ReadsBytes fed reader.digits → held * 2 ≤ length fed)
    → ReadsDatagram taken reader → held * 2 ≤ length taken
at_most_half reader taken held half d =
    let size : length taken ≡ length (flat_map spaced (head_words (codes "recv") reader.source) ++ d.word) = ap length d.spelled in
    omega (arith, size, half d.word d.reads, length-append (flat_map spaced (head_words (codes "recv") reader.source)) d.word)
