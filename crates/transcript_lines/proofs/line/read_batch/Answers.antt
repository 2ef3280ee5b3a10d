use Rattle.std.proofs.Common.{◌++◌, map, ap, sym, ◌∙◌}
use Rattle.session_model.specs.Transcript.{frame_word}
use Rattle.transcript_lines.specs.Words.{words_left}
use Rattle.transcript_lines.proofs.RecordWords.{no_batch, no_frames}
use Rattle.transcript_lines.proofs.line.read_batch.Goals as goal

pub returns-in-None-2 : goal.returns-in-None-2
returns-in-None-2 c =
    let none = rw c.in-None-2.is at c.in_ok-frame.ensures in
    no_batch (words_left c.args.words) _ c.in-Some.to c.loop-word.invariant.1
    (λ frames each is. no_frames c.loop-word.frames c.in-Some-word.word.now (words_left c.next.new.self) none frames each
    (ap (λ left. map frame_word c.loop-word.frames ++ left) (sym c.in-Some-word.ensures.steps) ∙ is))
