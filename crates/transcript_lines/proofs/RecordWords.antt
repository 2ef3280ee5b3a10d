-- What the words of a record are, and what they are not.
use Rattle.std.proofs.Common.{◌≡◌, ◌≢◌, ◌+◌, ◌*◌, ◌<◌, ◌≤◌, ℕ, true, false, List, [], ◌∷◌, ◌++◌, map, length, flat_map, codes, Option, Some, None, refl, ◌∙◌, ap, arith}
use Rattle.std.specs.Fmt.{decimal}
use Rattle.std.specs.Option.{MatchOption, is_some}
use Rattle.std.specs.Borrow.{Bor}
use Rattle.session_model.specs.Lines.{hex_word, hex_byte}
use Rattle.session_model.specs.Transcript.{AreBytes, AreFrames, IsSpelled, record_words, frame_word}
use Rattle.session_model.specs.declared.address.SocketAddr.{SocketAddr}
use Rattle.session_model.specs.declared.transcript.BatchFrame.{BatchFrame}
use Rattle.session_model.specs.declared.transcript.Record.{Record}
use Rattle.session_model.specs.declared.transcript.Record.TheVariants.{Recv, Overrun, Close, Batch, Resync, Block, Unblock, Lookup}
use Rattle.transcript_lines.specs.declared.line.Kind.{Kind}
use Rattle.transcript_lines.specs.declared.line.Kind.TheVariants.{Recv as ForRecv, Overrun as ForOverrun, Close as ForClose, Batch as ForBatch, Resync as ForResync, Block as ForBlock, Unblock as ForUnblock, Lookup as ForLookup}
use Rattle.transcript_lines.specs.Line.{keyword}
use Rattle.transcript_lines.proofs.HexDigits.{twice}

-- The first and the third letter of the first word, as one number, which no two kinds of records share.
abbrev pub tag : List (List ℕ) → ℕ
tag ((first ∷ second ∷ third ∷ word) ∷ words) = first * 256 + third
tag words = 0

-- That number for the records of a kind.
abbrev pub tag_of : Kind → ℕ
tag_of kind = tag (keyword kind ∷ [])

-- The first word is no keyword.
pub no_kind : (words : List (List ℕ)) (first : List ℕ) (left : List (List ℕ)) → words ≡ first ∷ left → ((kind : Kind) → first ≢ keyword kind)
    → (r : Record) → IsSpelled r → words ≢ record_words r
no_kind words first left is none (Recv a bytes) h e = let same : first ≡ keyword ForRecv = cc in none ForRecv same
no_kind words first left is none Overrun h e = let same : first ≡ keyword ForOverrun = cc in none ForOverrun same
no_kind words first left is none Close h e = let same : first ≡ keyword ForClose = cc in none ForClose same
no_kind words first left is none (Batch a frames) h e = let same : first ≡ keyword ForBatch = cc in none ForBatch same
no_kind words first left is none Resync h e = let same : first ≡ keyword ForResync = cc in none ForResync same
no_kind words first left is none (Block n) h e = let same : first ≡ keyword ForBlock = cc in none ForBlock same
no_kind words first left is none (Unblock n) h e = let same : first ≡ keyword ForUnblock = cc in none ForUnblock same
no_kind words first left is none (Lookup a) h e = let same : first ≡ keyword ForLookup = cc in none ForLookup same

-- A datagram's words, after its address.
pub no_datagram : (words left : List (List ℕ)) (a : SocketAddr) → words ≡ decimal a.port ∷ decimal a.groups ∷ left
    → ((bytes : List ℕ) → AreBytes bytes → length bytes ≤ 65536 → left ≢ hex_word bytes ∷ []) → (r : Record) → IsSpelled r
    → codes "recv" ∷ words ≢ record_words r
no_datagram words left a is none (Recv b bytes) h e = let same : left ≡ hex_word bytes ∷ [] = cc in none bytes h.1 h.2 same
no_datagram words left a is none r h e = let t : tag_of ForRecv ≡ tag (record_words r) = ap tag e in omega (arith, t)

-- A batch's words, after its address.
pub no_batch : (words left : List (List ℕ)) (a : SocketAddr) → words ≡ decimal a.port ∷ decimal a.groups ∷ left
    → ((frames : List BatchFrame) → AreFrames AreBytes frames → left ≢ map frame_word frames) → (r : Record) → IsSpelled r
    → codes "batch" ∷ words ≢ record_words r
no_batch words left a is none (Batch b frames) h e = let same : left ≡ map frame_word frames = cc in none frames h.1 same
no_batch words left a is none r h e = let t : tag_of ForBatch ≡ tag (record_words r) = ap tag e in omega (arith, t)

-- A word that spells no frame stands in no batch.
pub no_frames : (before : List BatchFrame) (word : List ℕ) (left : List (List ℕ))
    → ((frame : BatchFrame) → AreBytes frame.bytes → word ≢ frame_word frame)
    → (frames : List BatchFrame) → AreFrames AreBytes frames → map frame_word before ++ word ∷ left ≢ map frame_word frames
no_frames [] word left none [] h e = cc
no_frames [] word left none (g ∷ frames) h e = let same : word ≡ frame_word g = cc in none g h.0 same
no_frames (f ∷ before) word left none [] h e = cc
no_frames (f ∷ before) word left none (g ∷ frames) h e =
    let rest : map frame_word before ++ word ∷ left ≡ map frame_word frames = cc in
    no_frames before word left none frames h.1 rest

-- One more frame of bytes.
pub frames_more : (frames : List BatchFrame) (frame : BatchFrame) → AreFrames AreBytes frames → AreBytes frame.bytes
    → AreFrames AreBytes (frames ++ frame ∷ [])
frames_more [] frame h k = (k, tt)
frames_more (g ∷ frames) frame h k = (h.0, frames_more frames frame h.1 k)

-- One more word of a batch.
pub words_more : (frames : List BatchFrame) (frame : BatchFrame) (left : List (List ℕ))
    → map frame_word frames ++ frame_word frame ∷ left ≡ map frame_word (frames ++ frame ∷ []) ++ left
words_more [] frame left = refl
words_more (g ∷ frames) frame left = ap (λ z. frame_word g ∷ z) (words_more frames frame left)

-- A word has two digits a byte at least.
pub word_length : (bytes : List ℕ) → length bytes * 2 ≤ length (hex_word bytes)
word_length [] = omega arith
word_length (b ∷ bytes) = let t = twice (b ∷ bytes) in omega (arith, t)

-- A word that is short enough spells a datagram that is.
pub short_bytes : (word bytes : List ℕ) → length word ≤ 131072 → word ≡ hex_word bytes → length bytes ≤ 65536
short_bytes word bytes short is = let l : length word ≡ length (hex_word bytes) = ap length is in omega (arith, short, l, word_length bytes)

-- A word that is too long spells no datagram.
pub long_word : (word bytes : List ℕ) → 131072 < length word → length bytes ≤ 65536 → word ≢ hex_word bytes
long_word word [] long short is = let l : length word ≡ 1 = ap length is in omega (arith, l, long)
long_word word (b ∷ bytes) long short is = let l : length word
    ≡ length (flat_map hex_byte (b ∷ bytes)) = ap length is in omega (arith, l, long, short, twice (b ∷ bytes))

-- A word that is there is the next one.
pub one_more : (next : Option (Bor (List ℕ))) (before after : List (List ℕ))
    → MatchOption next ((before ≡ []) × (after ≡ [])) (λ word. before ≡ word.now ∷ after) → is_some next ≡ true
    → (word : List ℕ) × (before ≡ word ∷ after)
one_more (Some word) before after h e = (word.now, h)
one_more None before after h e = absurd (differ e)
  where
    differ : false ≡ true → ⊥
    differ e = cc

-- Where no word is there, none is left.
pub no_more : (next : Option (Bor (List ℕ))) (before after : List (List ℕ))
    → MatchOption next ((before ≡ []) × (after ≡ [])) (λ word. before ≡ word.now ∷ after) → is_some next ≡ false
    → before ≡ []
no_more (Some word) before after h e = absurd (differ e)
  where
    differ : true ≡ false → ⊥
    differ e = cc
no_more None before after h e = h.0

-- The words of a datagram, one after the other.
pub datagram_words : (words left rest : List (List ℕ)) (port groups word bytes : List ℕ) → words ≡ port ∷ groups ∷ left → left ≡ word ∷ rest
    → rest ≡ [] → word ≡ bytes
    → codes "recv" ∷ words ≡ codes "recv" ∷ port ∷ groups ∷ bytes ∷ []
datagram_words words left rest port groups word bytes a b c d = ap (λ z. codes "recv" ∷ z) (a
    ∙ ap (λ z. port ∷ groups ∷ z) (b ∙ ap (λ z. word ∷ z) c ∙ ap (λ z. z ∷ []) d))
