use Rattle.std.proofs.Common.{◌==◌, refl, ap, ◌∙◌}
use Rattle.std.proofs.lemmas.List.Splits.{slice_split_at, slice_split_none}
use Rattle.transcript_lines.specs.Words.{words_of}
use Rattle.transcript_lines.proofs.words.split_first_word.Goals as goal

pub returns-in-Some : goal.returns-in-Some
returns-in-Some c = ap words_of c.in-Some.ensures.1 ∙ slice_split_at (λ b. b == 32) _ 32 _ c.in-Some.ensures.0 refl

pub returns-in-None : goal.returns-in-None
returns-in-None c = slice_split_none (λ b. b == 32) _ c.in-None.ensures
