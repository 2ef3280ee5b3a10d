-- Lines by what they begin with: words that have a space behind them.
use Rattle.std.proofs.Common.{◌≡◌, ◌≢◌, ◌==◌, ◌≤◌, ℕ, false, List, [], ◌∷◌, ◌++◌, length, map, flat_map, codes, Some, None, refl, sym, subst, ◌∙◌, ap, arith, append_assoc, append-nil}
use Rattle.std.specs.Fmt.{decimal}
use Rattle.std.specs.List.{AllByRecursion, join_with_byte}
use Rattle.std.proofs.lemmas.List.Elements.{All-from_recursion}
use Rattle.std.proofs.lemmas.List.Splits.{slice_split_at, slice_split_none}
use Rattle.session_model.specs.Causes.{IsNoRecord}
use Rattle.session_model.specs.Lines.{hex_word}
use Rattle.session_model.specs.Transcript.{AreBytes, AreFrames, IsAddress, IsSpelled, frame_word, record_words}
use Rattle.session_model.specs.declared.address.SocketAddr.{SocketAddr}
use Rattle.session_model.specs.declared.transcript.BatchFrame.{BatchFrame}
use Rattle.session_model.specs.declared.transcript.Record.{Record}
use Rattle.session_model.specs.declared.transcript.Record.TheVariants.{Recv, Batch}
use Rattle.transcript_lines.specs.Cut.{HasNoByte}
use Rattle.transcript_lines.specs.Decoding.{AreWords, BeginsNoRecord, head_words, spaced}
use Rattle.transcript_lines.specs.Line.{IsFrameOf, IsRecordOf}
use Rattle.transcript_lines.specs.Words.{words_of}
use Rattle.transcript_lines.proofs.Lines.{line_of_words, record_is_words, record_joined, words_of_line}
use Rattle.transcript_lines.proofs.RecordWords.{no_batch, no_datagram, no_frames, words_more, frames_more}
use Rattle.transcript_lines.proofs.Splits.{IsWord, joined_words}

-- Behind words with their spaces the words of what follows come.
pub words_after : (words : List (List ℕ)) (rest : List ℕ) → AreWords words → words_of (flat_map spaced words ++ rest) ≡ words ++ words_of rest
words_after [] rest h = refl
words_after (word ∷ words) rest h =
    ap words_of (append_assoc (word ++ 32 ∷ []) (flat_map spaced words) rest ∙ append_assoc word (32 ∷ []) (flat_map spaced words ++ rest))
    ∙ slice_split_at (λ b. b == 32) word 32 (flat_map spaced words ++ rest) h.0 refl ∙ ap (λ z. word ∷ z) (words_after words rest h.1)

-- Words with their spaces and a last one are the words, joined.
pub spaced_joined : (words : List (List ℕ)) (last : List ℕ) → flat_map spaced words ++ last ≡ join_with_byte 32 (words ++ last ∷ [])
spaced_joined [] last = refl
spaced_joined (word ∷ []) last = append_assoc (word ++ 32 ∷ []) [] last ∙ append_assoc word (32 ∷ []) last
spaced_joined (word ∷ next ∷ words) last =
    append_assoc (word ++ 32 ∷ []) (flat_map spaced (next ∷ words)) last
    ∙ append_assoc word (32 ∷ []) (flat_map spaced (next ∷ words) ++ last)
    ∙ ap (λ z. word ++ 32 ∷ z) (spaced_joined (next ∷ words) last)

-- Words that are told byte by byte have no space.
pub are_words : (words : List (List ℕ)) → AllByRecursion IsWord words → AreWords words
are_words [] h = tt
are_words (word ∷ words) h = (All-from_recursion (λ b. (b == 32) ≡ false) word h.0, are_words words h.1)

-- The words of a record have no space.
pub words_apart : (r : Record) → IsSpelled r → AreWords (record_words r)
words_apart r h = are_words (record_words r) (record_is_words r h)

datagram_apart : (a : SocketAddr) → IsAddress a → AreWords (head_words (codes "recv") a)
datagram_apart a h = let all = words_apart (Recv a []) (h, tt, omega arith) in (all.0, (all.1.0, (all.1.1.0, tt)))

-- A line that has the words of no record, whatever follows, begins none.
pub begins_none : (taken : List ℕ) → ((more : List ℕ) (r : Record) → IsSpelled r → words_of (taken ++ more) ≢ record_words r) → BeginsNoRecord taken
begins_none taken none more r h e = none more r h (words_of_line (taken ++ more) r h e)

-- What begins no record begins none with more bytes.
pub stays : (taken more : List ℕ) → BeginsNoRecord taken → BeginsNoRecord (taken ++ more)
stays taken more none after = subst (IsNoRecord IsSpelled) (sym (append_assoc taken more after)) (none (more ++ after))

-- What begins no record is none.
pub no_record : (taken : List ℕ) → BeginsNoRecord taken → IsRecordOf (words_of taken) None
no_record taken none r h e =
    subst (IsNoRecord IsSpelled) (append-nil taken) (none []) r h (line_of_words taken r e)

-- ---- a datagram

one_word : (word w : List ℕ) → words_of word ≡ w ∷ [] → word ≡ w
one_word word w e = sym (joined_words word) ∙ ap (join_with_byte 32) e

-- A line of a datagram, by its last word and what follows.
datagram_words : (taken word more : List ℕ) (a : SocketAddr) → IsAddress a
    → taken ≡ flat_map spaced (head_words (codes "recv") a) ++ word
    → words_of (taken ++ more) ≡ codes "recv" ∷ decimal a.port ∷ decimal a.groups ∷ words_of (word ++ more)
datagram_words taken word more a h is =
    ap words_of (ap (λ z. z ++ more) is ∙ append_assoc (flat_map spaced (head_words (codes "recv") a)) word more)
    ∙ words_after (head_words (codes "recv") a) (word ++ more) (datagram_apart a h)

-- A datagram's last word that begins no datagram's begins no record.
pub no_datagram_begins : (taken word : List ℕ) (a : SocketAddr) → IsAddress a
    → taken ≡ flat_map spaced (head_words (codes "recv") a) ++ word
    → ((more bytes : List ℕ) → AreBytes bytes → length bytes ≤ 65536 → word ++ more ≢ hex_word bytes) → BeginsNoRecord taken
no_datagram_begins taken word a h is none = begins_none taken (λ more r k e.
    no_datagram (decimal a.port ∷ decimal a.groups ∷ words_of (word ++ more)) (words_of (word ++ more)) a refl
    (λ bytes each short same. none more bytes each short (one_word (word ++ more) (hex_word bytes) same)) r k
    (sym (datagram_words taken word more a h is) ∙ e))

-- A datagram's line whose last word spells these bytes, or none.
pub datagram_some : (taken word : List ℕ) (a : SocketAddr) (bytes : List ℕ) → IsAddress a → length bytes ≤ 65536
    → taken ≡ flat_map spaced (head_words (codes "recv") a) ++ word → AreBytes bytes → word ≡ hex_word bytes
    → IsRecordOf (words_of taken) (Some (Recv a bytes))
datagram_some taken word a bytes h short is each same =
    let spelled : IsSpelled (Recv a bytes) = (h, each, short) in
    let whole : taken ≡ join_with_byte 32 (record_words (Recv a bytes)) =
    is ∙ ap (λ z. flat_map spaced (head_words (codes "recv") a) ++ z) same ∙ spaced_joined (head_words (codes "recv") a) (hex_word bytes) in
    (spelled, ap words_of whole ∙ record_joined (Recv a bytes) spelled)

pub datagram_none : (taken word : List ℕ) (a : SocketAddr) → IsAddress a → taken ≡ flat_map spaced (head_words (codes "recv") a) ++ word
    → ((bytes : List ℕ) → AreBytes bytes → word ≢ hex_word bytes) → IsRecordOf (words_of taken) None
datagram_none taken word a h is none r k e =
    no_datagram (decimal a.port ∷ decimal a.groups ∷ words_of (word ++ [])) (words_of (word ++ [])) a refl
    (λ bytes each short same. none bytes each (sym (append-nil word) ∙ one_word (word ++ []) (hex_word bytes) same)) r k
    (sym (datagram_words taken word [] a h is) ∙ ap words_of (append-nil taken) ∙ e)

-- ---- a batch

-- A line of a batch, by a last word and what follows.
batch_words : (taken word more : List ℕ) (a : SocketAddr) (frames : List BatchFrame) → IsAddress a → AreFrames AreBytes frames
    → taken ≡ flat_map spaced (record_words (Batch a frames)) ++ word
    → words_of (taken ++ more) ≡ codes "batch" ∷ decimal a.port ∷ decimal a.groups ∷ (map frame_word frames ++ words_of (word ++ more))
batch_words taken word more a frames h each is =
    ap words_of (ap (λ z. z ++ more) is ∙ append_assoc (flat_map spaced (record_words (Batch a frames))) word more)
    ∙ words_after (record_words (Batch a frames)) (word ++ more) (words_apart (Batch a frames) (h, each))

-- A word before the end of a batch's line, or before a space.
word_ends : (word more : List ℕ) → HasNoByte 32 word → words_of (word ++ 32 ∷ more) ≡ word ∷ words_of more
word_ends word more h = slice_split_at (λ b. b == 32) word 32 more h refl

word_alone : (word : List ℕ) → HasNoByte 32 word → words_of word ≡ word ∷ []
word_alone word h = slice_split_none (λ b. b == 32) word h

no_batch_words : (word : List ℕ) (left : List (List ℕ)) (a : SocketAddr) (frames : List BatchFrame) → IsFrameOf word None → (r : Record) → IsSpelled r
    → codes "batch" ∷ decimal a.port ∷ decimal a.groups ∷ (map frame_word frames ++ word ∷ left) ≢ record_words r
no_batch_words word left a frames none r h e =
    no_batch (decimal a.port ∷ decimal a.groups ∷ (map frame_word frames ++ word ∷ left)) (map frame_word frames ++ word ∷ left) a refl
    (λ others each same. no_frames frames word left none others each same) r h e

-- A batch's line whose last word spells no frame is none, and with a space it begins none.
pub batch_none : (taken word : List ℕ) (a : SocketAddr) (frames : List BatchFrame) → IsAddress a → AreFrames AreBytes frames → HasNoByte 32 word
    → taken ≡ flat_map spaced (record_words (Batch a frames)) ++ word → IsFrameOf word None
    → IsRecordOf (words_of taken) None × BeginsNoRecord (taken ++ 32 ∷ [])
batch_none taken word a frames h each one is none = (
  λ r k e. no_batch_words word [] a frames none r k
      (sym (ap words_of (sym (append-nil taken)) ∙ batch_words taken word [] a frames h each is
      ∙ ap (λ z. codes "batch" ∷ decimal a.port ∷ decimal a.groups ∷ (map frame_word frames ++ z)) (ap words_of (append-nil word) ∙ word_alone word one)) ∙ e),
  begins_none (taken ++ 32 ∷ []) (λ more r k e. no_batch_words word (words_of more) a frames none r k
      (sym (ap words_of (append_assoc taken (32 ∷ []) more) ∙ batch_words taken word (32 ∷ more) a frames h each is
      ∙ ap (λ z. codes "batch" ∷ decimal a.port ∷ decimal a.groups ∷ (map frame_word frames ++ z)) (word_ends word more one)) ∙ e)),
)

-- A batch's line whose last word spells a frame is that of the batch with this frame.
pub batch_some : (taken word : List ℕ) (a : SocketAddr) (frames : List BatchFrame) (frame : BatchFrame) → IsAddress a → AreFrames AreBytes frames
    → HasNoByte 32 word → taken ≡ flat_map spaced (record_words (Batch a frames)) ++ word → AreBytes frame.bytes → word ≡ frame_word frame
    → IsRecordOf (words_of taken) (Some (Batch a (frames ++ frame ∷ [])))
batch_some taken word a frames frame h each one is bytes same =
    let front : List ℕ → List (List ℕ) = λ z. codes "batch" ∷ decimal a.port ∷ decimal a.groups ∷ (map frame_word frames ++ z ∷ []) in
    let more = words_more frames frame [] ∙ append-nil (map frame_word (frames ++ frame ∷ [])) in (
      (h, frames_more frames frame each bytes),
      ap words_of (sym (append-nil taken)) ∙ batch_words taken word [] a frames h each is
          ∙ ap (λ z. codes "batch" ∷ decimal a.port ∷ decimal a.groups ∷ (map frame_word frames ++ z)) (ap words_of (append-nil word) ∙ word_alone word one)
          ∙ ap front same ∙ ap (λ z. codes "batch" ∷ decimal a.port ∷ decimal a.groups ∷ z) more,
    )
