-- How the word of a frame goes on.
use Rattle.std.proofs.Common.{◌≡◌, ◌≢◌, ◌⊎◌, inl, inr, ℕ, List, [], ◌∷◌, ◌++◌, None, sym, subst, ◌∙◌, ap, append_assoc, append-nil}
use Rattle.session_model.specs.Lines.{hex_word}
use Rattle.session_model.specs.Transcript.{AreBytes, frame_word, mark_letter}
use Rattle.session_model.specs.declared.transcript.Mark.{Mark}
use Rattle.transcript_lines.specs.Decoding.{BeginsNoFrame, ReadsFrame}
use Rattle.transcript_lines.specs.Line.{IsFrameOf, IsMarkOf}
use Rattle.transcript_lines.specs.declared.frame_word.FrameReader.{FrameReader}
use Rattle.transcript_lines.specs.declared.frame_word.FrameReader.TheVariants.{Begin, Letter, Bad}

-- A letter that is no mark's begins no frame.
pub no_mark : (letter : ℕ) (others : List ℕ) → IsMarkOf letter None → BeginsNoFrame (letter ∷ others)
no_mark letter others none more frame h e = let same : letter ≡ mark_letter frame.mark = cc in none frame.mark same

-- What isn't a colon after a letter begins no frame.
pub no_colon : (letter b : ℕ) (others : List ℕ) → b ≢ 58 → BeginsNoFrame (letter ∷ b ∷ others)
no_colon letter b others not more frame h e = let same : b ≡ 58 = cc in not same

-- What begins no frame begins none with more bytes.
pub stays : (word more : List ℕ) → BeginsNoFrame word → BeginsNoFrame (word ++ more)
stays word more none after frame h e = none (more ++ after) frame h (sym (append_assoc word more after) ∙ e)

-- What begins no frame is none.
pub begins_none : (word : List ℕ) → BeginsNoFrame word → IsFrameOf word None
begins_none word none frame h e = none [] frame h (append-nil word ∙ e)

-- Nothing is no frame.
pub empty : (word : List ℕ) → word ≡ [] → IsFrameOf word None
empty word is frame h e = let same : [] ≡ frame_word frame = sym is ∙ e in cc

-- A letter alone is no frame.
pub letter_alone : (word : List ℕ) (letter : ℕ) → word ≡ letter ∷ [] → IsFrameOf word None
letter_alone word letter is frame h e = let same : letter ∷ [] ≡ frame_word frame = sym is ∙ e in cc

-- A letter, a colon and digits are a frame where the digits spell bytes.
pub frame_some : (word fed : List ℕ) (mark : Mark) (bytes : List ℕ) → word ≡ mark_letter mark ∷ 58 ∷ fed → fed ≡ hex_word bytes
    → word ≡ mark_letter mark ∷ 58 ∷ hex_word bytes
frame_some word fed mark bytes is same = is ∙ ap (λ z. mark_letter mark ∷ 58 ∷ z) same

pub frame_none : (word fed : List ℕ) (mark : Mark) → word ≡ mark_letter mark ∷ 58 ∷ fed → ((bytes : List ℕ) → AreBytes bytes → fed ≢ hex_word bytes)
    → IsFrameOf word None
frame_none word fed mark is none frame h e =
    let whole : mark_letter mark ∷ 58 ∷ fed ≡ frame_word frame = sym is ∙ e in
    let same : fed ≡ hex_word frame.bytes = cc in
    none frame.bytes h same

-- A word whose digits haven't begun, or of none, is no frame.
pub no_digits : (word : List ℕ) (reader : FrameReader) → (reader ≡ Begin) ⊎ (((mark : Mark) × (reader ≡ Letter mark)) ⊎ (reader ≡ Bad))
    → ReadsFrame word reader → IsFrameOf word None
no_digits word reader (inl is) r = empty word (subst (ReadsFrame word) is r)
no_digits word reader (inr (inl is)) r = letter_alone word (mark_letter is.0) (subst (ReadsFrame word) is.1 r)
no_digits word reader (inr (inr is)) r = begins_none word (subst (ReadsFrame word) is r)
