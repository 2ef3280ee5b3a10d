-- A line has one answer, in whatever pieces it comes.
use Rattle.std.proofs.Common.{◌≡◌, ◌+◌, ℕ, subst, List, [], ◌∷◌, ◌++◌, length, Result, refl, sym, ◌∙◌, ap, arith, append_assoc, append-nil, length-append}
use Rattle.std.specs.List.{concat}
use Rattle.std.proofs.lemmas.List.{append_cancel_right}
use Rattle.nl_core.specs.declared.error.DecodeError.{DecodeError}
use Rattle.session_model.specs.Transcript.{IsRecord}
use Rattle.transcript_lines.specs.LineDecoder.{IsLineOf, PiecesAgree, Stands, Tells}
use Rattle.transcript_lines.specs.declared.decoder.Line.{Line}
use Rattle.transcript_lines.specs.declared.decoder.Line.TheVariants as told
use Rattle.transcript_lines.specs.declared.decoder.LineDecoder.{LineDecoder}
use Rattle.transcript_lines.proofs.Injective.{record_of_line}

module _ {M : Type 0} (reads : ℕ → List ℕ → Result M DecodeError) where
  one_answer : (line : List ℕ) (l m : Line) → IsLineOf (IsRecord reads) line l → IsLineOf (IsRecord reads) line m → l ≡ m
  one_answer line (told.Record r) (told.Record s) h k = ap told.Record (record_of_line r s h.1.0 k.1.0 (sym h.0 ∙ k.0))
  one_answer line (told.Record r) told.Bad h k = absurd (k r h.1 h.0)
  one_answer line told.Bad (told.Record s) h k = absurd (h s k.1 k.0)
  one_answer line told.Bad told.Bad h k = refl

  no_rest : (front rest : List ℕ) → length front + 1 ≡ length (front ++ 10 ∷ rest) → rest ≡ []
  no_rest front [] e = refl
  no_rest front (b ∷ rest) e = absurd (omega (arith, e, length-append front (10 ∷ b ∷ rest)))

  -- What is told at the end of pieces is what the bytes taken and these spell.
  tells_line : {T : Type 0} (taken : List ℕ) (d : LineDecoder T) (pieces : List (List ℕ)) (l : Line) → Stands taken d → Tells reads d pieces l
      → (line : List ℕ) × (taken ++ concat pieces ≡ line ++ 10 ∷ []) × IsLineOf (IsRecord reads) line l
  tells_line taken d [] l h k = absurd k
  tells_line taken d (piece ∷ []) l h k =
      let ends = k.2 in
      let none = no_rest ends.front ends.rest (sym ends.count ∙ k.3 ∙ ap length ends.cut) in (
        taken ++ ends.front,
        ap (λ z. taken ++ z) (append-nil piece ∙ ends.cut ∙ ap (λ z. ends.front ++ 10 ∷ z) none) ∙ sym (append_assoc taken ends.front (10 ∷ [])),
        ends.told taken h,
      )
  tells_line taken d (piece ∷ next ∷ pieces) l h k =
      let later = tells_line (taken ++ piece) k.1 (next ∷ pieces) l (k.2.goes_on taken h) k.3 in
      (later.0, sym (append_assoc taken piece (concat (next ∷ pieces))) ∙ later.1, later.2)

  -- Fresh decoders that are fed one line tell one answer.
  pub pieces_agree : {T : Type 0} → PiecesAgree T reads
  pieces_agree d e ps qs l m h k same a b =
      let one = tells_line [] d ps l h a in
      let other = tells_line [] e qs m k b in
      let line = append_cancel_right one.0 other.0 (10 ∷ []) (sym one.1 ∙ same ∙ other.1) in
      one_answer other.0 l m (subst (λ z. IsLineOf (IsRecord reads) z l) line one.2) other.2
