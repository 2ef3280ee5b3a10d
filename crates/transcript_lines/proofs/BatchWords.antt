-- A batch's frames, as their words come.
use Rattle.std.proofs.Common.{◌≡◌, ◌==◌, ◌+◌, ◌*◌, ◌≤◌, ℕ, false, List, [], ◌∷◌, ◌++◌, length, map, flat_map, codes, Some, None, refl, sym, subst, ◌∙◌, ap, arith, append_assoc, append-nil, length-append}
use Rattle.std.specs.Fmt.{decimal}
use Rattle.std.proofs.lemmas.Grind.{flat_map-append}
use Rattle.std.proofs.lemmas.List.{map_push}
use Rattle.std.proofs.lemmas.List.Elements.{All-append, All-nil}
use Rattle.std.proofs.lemmas.List.Sums.{sum_by-cons}
use Rattle.session_model.specs.Transcript.{IsAddress, frame_word, record_words}
use Rattle.session_model.specs.declared.address.SocketAddr.{SocketAddr}
use Rattle.session_model.specs.declared.transcript.BatchFrame.{BatchFrame}
use Rattle.session_model.specs.declared.transcript.Record.TheVariants.{Batch}
use Rattle.transcript_lines.specs.Cut.{HasNoByte}
use Rattle.transcript_lines.specs.Decoding.{BeginsNoRecord, EndsWord, FeedsBatch, FeedsFrame, GoesOnInBatch, ReadsBatch, ReadsFrame, bytes_in, head_words, spaced}
use Rattle.transcript_lines.specs.Line.{IsFrameOf}
use Rattle.transcript_lines.specs.declared.batch_reader.BatchReader.{BatchReader}
use Rattle.transcript_lines.specs.declared.frame_word.FrameReader.{FrameReader}
use Rattle.transcript_lines.specs.declared.frame_word.FrameReader.TheVariants.{Begin}
use Rattle.transcript_lines.proofs.Heads.{batch_none, batch_some, stays}
use Rattle.transcript_lines.proofs.RecordWords.{frames_more, word_length}

-- A batch before its first frame.
pub no_frame : (to : SocketAddr) (frames : List BatchFrame) → frames ≡ [] → IsAddress to
    → ReadsBatch (flat_map spaced (head_words (codes "batch") to)) (record { to = to; frames = frames; word = Begin })
no_frame to frames none h =
    let start : ReadsBatch (flat_map spaced (head_words (codes "batch") to)) (record { to = to; frames = []; word = Begin }) = record {
      address = h;
      frames = tt;
      word = [];
      one = All-nil (λ b. (b == 32) ≡ false);
      spelled = sym (append-nil (flat_map spaced (head_words (codes "batch") to)));
      reads = refl;
    } in
    subst (λ (fs : List BatchFrame). ReadsBatch (flat_map spaced (head_words (codes "batch") to)) (record { to = to; frames = fs; word = Begin })) (sym none) start

-- More of the last word.
pub word_goes_on : (before : BatchReader) (piece : List ℕ) (word : FrameReader) → HasNoByte 32 piece → FeedsFrame before.word piece word
    → FeedsBatch before piece (record { to = before.to; frames = before.frames; word = word })
word_goes_on before piece word one feeds taken b = record {
  address = b.address;
  frames = b.frames;
  word = b.word ++ piece;
  one = All-append (λ b. (b == 32) ≡ false) b.word piece b.one one;
  spelled = ap (λ z. z ++ piece) b.spelled ∙ append_assoc (flat_map spaced (record_words (Batch before.to before.frames))) b.word piece;
  reads = feeds b.word b.reads;
}

-- The last word ends and is no frame.
pub word_ends_none : (before : BatchReader) → ((word : List ℕ) → ReadsFrame word before.word → IsFrameOf word None) → EndsWord before None
word_ends_none before end taken b = batch_none taken b.word before.to before.frames b.address b.frames b.one b.spelled (end b.word b.reads)

frame_more : (to : SocketAddr) (frames : List BatchFrame) (frame : BatchFrame) (taken word : List ℕ)
    → taken ≡ flat_map spaced (record_words (Batch to frames)) ++ word → word ≡ frame_word frame
    → taken ++ 32 ∷ [] ≡ flat_map spaced (record_words (Batch to (frames ++ frame ∷ []))) ++ []
frame_more to frames frame taken word is same =
    let words = record_words (Batch to frames) in
    let more : record_words (Batch to (frames ++ frame ∷ [])) ≡ words ++ frame_word frame ∷ [] =
    ap (λ z. codes "batch" ∷ decimal to.port ∷ decimal to.groups ∷ z) (map_push frame_word frames frame) in
    ap (λ z. z ++ 32 ∷ []) is ∙ append_assoc (flat_map spaced words) word (32 ∷ []) ∙ ap (λ z. flat_map spaced words ++ (z ++ 32 ∷ [])) same
    ∙ ap (λ z. flat_map spaced words ++ z) (sym (append-nil (spaced (frame_word frame))))
    ∙ sym (flat_map-append spaced words (frame_word frame ∷ [])) ∙ ap (flat_map spaced) (sym more)
    ∙ sym (append-nil (flat_map spaced (record_words (Batch to (frames ++ frame ∷ [])))))

-- The last word ends and is a frame.
pub word_ends_some : (before : BatchReader) (frame : BatchFrame) (frames : List BatchFrame) → frames ≡ before.frames ++ frame ∷ []
    → ((word : List ℕ) → ReadsFrame word before.word → IsFrameOf word (Some frame))
    → EndsWord before (Some (record { to = before.to; frames = frames; word = Begin }))
word_ends_some before frame frames is end =
    subst (λ (fs : List BatchFrame). EndsWord before (Some (record { to = before.to; frames = fs; word = Begin }))) (sym is) (λ taken b.
    let read = end b.word b.reads in (
      batch_some taken b.word before.to before.frames frame b.address b.frames b.one b.spelled read.0 read.1,
      record {
        address = b.address;
        frames = frames_more before.frames frame b.frames read.0;
        word = [];
        one = All-nil (λ b. (b == 32) ≡ false);
        spelled = frame_more before.to before.frames frame taken b.word b.spelled read.1;
        reads = refl;
      },
    ))

along : (taken before word after rest piece : List ℕ) → piece ≡ before ++ rest → rest ≡ word ++ 32 ∷ after
    → taken ++ piece ≡ (((taken ++ before) ++ word) ++ 32 ∷ []) ++ after
along taken before word after rest piece e f =
    ap (λ z. taken ++ z) (e ∙ ap (λ z. before ++ z) f) ∙ sym (append_assoc taken before (word ++ 32 ∷ after))
    ∙ sym (append_assoc (taken ++ before) word (32 ∷ after)) ∙ sym (append_assoc ((taken ++ before) ++ word) (32 ∷ []) after)

-- A word of a piece ends and is no frame.
pub piece_none : (first reader next : BatchReader) (before word after rest piece : List ℕ) → piece ≡ before ++ rest → rest ≡ word ++ 32 ∷ after
    → FeedsBatch first before reader → FeedsBatch reader word next → EndsWord next None → GoesOnInBatch first piece None
piece_none first reader next before word after rest piece e f a b c taken h =
    let none = (c ((taken ++ before) ++ word) (b (taken ++ before) (a taken h))).1 in
    subst BeginsNoRecord (sym (along taken before word after rest piece e f)) (stays (((taken ++ before) ++ word) ++ 32 ∷ []) after none)

-- A word of a piece ends and is a frame.
pub piece_some : (first reader next last : BatchReader) (before word after rest piece : List ℕ) → piece ≡ before ++ rest → rest ≡ word ++ 32 ∷ after
    → FeedsBatch first before reader → FeedsBatch reader word next → EndsWord next (Some last)
    → (front : List ℕ) × (piece ≡ front ++ after) × FeedsBatch first front last
piece_some first reader next last before word after rest piece e f a b c = (
  (before ++ word) ++ 32 ∷ [],
  e ∙ ap (λ z. before ++ z) f ∙ sym (append_assoc before word (32 ∷ after)) ∙ sym (append_assoc (before ++ word) (32 ∷ []) after),
  λ taken h.
      let read = (c ((taken ++ before) ++ word) (b (taken ++ before) (a taken h))).1 in
      let same : ((taken ++ before) ++ word) ++ 32 ∷ [] ≡ taken ++ ((before ++ word) ++ 32 ∷ []) =
      ap (λ z. z ++ 32 ∷ []) (append_assoc taken before word) ∙ append_assoc taken (before ++ word) (32 ∷ []) in
      subst (λ z. ReadsBatch z last) same read,
)

-- The last word of a piece.
pub piece_ends : (first reader last : BatchReader) (before rest piece : List ℕ) → piece ≡ before ++ rest
    → FeedsBatch first before reader → FeedsBatch reader rest last → FeedsBatch first piece last
piece_ends first reader last before rest piece e a b taken h =
    let same : (taken ++ before) ++ rest ≡ taken ++ piece = append_assoc taken before rest ∙ ap (λ z. taken ++ z) (sym e) in
    subst (λ z. ReadsBatch z last) same (b (taken ++ before) (a taken h))

-- ---- how much is held

frames_long : (frames : List BatchFrame) → 2 * bytes_in frames ≤ length (flat_map spaced (map frame_word frames))
frames_long [] = omega arith
frames_long (f ∷ frames) =
    omega (
      arith,
      sum_by-cons (λ (frame : BatchFrame). length frame.bytes) f frames,
      frames_long frames,
      word_length f.bytes,
      length-append (spaced (frame_word f)) (flat_map spaced (map frame_word frames)),
      length-append (frame_word f) (32 ∷ []),
    )

-- The bytes held are at most half of those taken.
pub at_most_half : (reader : BatchReader) (taken : List ℕ) (last held word : ℕ) → ((word : List ℕ) → ReadsFrame word reader.word → last * 2 ≤ length word)
    → word ≡ last → held ≤ word + bytes_in reader.frames → ReadsBatch taken reader → held * 2 ≤ length taken
at_most_half reader taken last held word half same low b =
    let frames = flat_map spaced (map frame_word reader.frames) in
    let head = flat_map spaced (head_words (codes "batch") reader.to) in
    let size : length taken ≡ length (flat_map spaced (record_words (Batch reader.to reader.frames)) ++ b.word) = ap length b.spelled in
    let parts : length (flat_map spaced (record_words (Batch reader.to reader.frames))) ≡ length head + length frames =
    ap length (flat_map-append spaced (head_words (codes "batch") reader.to) (map frame_word reader.frames)) ∙ length-append head frames in
    omega (
      arith,
      size,
      parts,
      half b.word b.reads,
      low,
      frames_long reader.frames,
      length-append (flat_map spaced (record_words (Batch reader.to reader.frames))) b.word,
    )
