use Rattle.std.proofs.Common.{◌≡◌, ◌∷◌, ◌++◌, take, flat_map}
use Rattle.transcript_lines.specs.Spelling.{spelled}
use Rattle.transcript_lines.proofs.spelling.put_more.Given as goal

abbrev pub invariant-loop-word : goal.invariant-loop-word
invariant-loop-word l = l.text.items ≡ l.initial.text.items ++ flat_map (λ w. 32 ∷ spelled w) (take l.word-index l.words)
