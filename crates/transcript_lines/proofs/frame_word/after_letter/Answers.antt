use Rattle.std.proofs.Common.{◌≡◌, [], ◌∷◌, length, get_or, ap, ◌∙◌, arith}
use Rattle.std.specs.List.{between}
use Rattle.std.proofs.lemmas.Slice.{first_rest}
use Rattle.session_model.specs.Transcript.{mark_letter}
use Rattle.transcript_lines.proofs.frame_word.after_letter.Goals as goal

pub returns-in_ok-digits-in-58 : goal.returns-in_ok-digits-in-58
returns-in_ok-digits-in-58 c =
    let piece = c.args.piece.now in
    let rest = between 1 (length piece) piece in
    let first : get_or piece 0 0 ≡ 58 = omega arith in (
      rest,
      ap (λ z. mark_letter c.args.mark ∷ z) (first_rest piece 0 (omega arith) ∙ ap (λ z. z ∷ rest) first),
      c.in_ok-digits-in-58.ensures [] c.in_ok-reader-in-58.ensures,
    )
