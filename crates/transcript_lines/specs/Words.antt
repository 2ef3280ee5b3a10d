-- The words of a line.
use Rattle.std.specs.Prelude.{◌==◌, ℕ, List, []}
use Rattle.std.specs.List.{slice_split}
use Rattle.std.specs.Option.{option_map_or}
use Rattle.session_model.specs.Lines.{space}
use Rattle.transcript_lines.specs.declared.words.Words.{Words}

-- What stands between the spaces of a line, in order.
abbrev pub words_of : List ℕ → List (List ℕ)
words_of line = slice_split (λ byte. byte == space) line

-- The words that are still to come.
abbrev pub words_left : Words → List (List ℕ)
words_left words = option_map_or (λ rest. words_of rest.now) words.rest []
