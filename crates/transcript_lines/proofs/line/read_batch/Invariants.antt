use Rattle.std.proofs.Common.{◌≡◌, ◌∷◌, ◌++◌, map}
use Rattle.std.specs.Fmt.{decimal}
use Rattle.session_model.specs.Transcript.{frame_word}
use Rattle.transcript_lines.specs.Words.{words_left}
use Rattle.session_model.specs.Transcript.{AreBytes, AreFrames}
use Rattle.transcript_lines.proofs.line.read_batch.Given as goal

abbrev pub invariant-loop-word : goal.invariant-loop-word
invariant-loop-word l =
    AreFrames AreBytes l.frames
    × (words_left l.fn.words ≡ decimal l.to.port ∷ decimal l.to.groups ∷ (map frame_word l.frames ++ words_left l.word-iterator))
