-- Bytes without a newline.
use Rattle.std.proofs.Common.{◌≡◌, ◌==◌, ℕ, false, List}
use Rattle.std.proofs.lemmas.List.Folds.{list_any_none}
use Rattle.session_model.specs.Transcript.{has_newline}
use Rattle.transcript_lines.specs.Cut.{HasNoByte}

-- Where the newline isn't among bytes, they have none.
pub no_newline : (bytes : List ℕ) → HasNoByte 10 bytes → has_newline bytes ≡ false
no_newline bytes h = list_any_none (λ b. b == 10) bytes h
