use Rattle.std.proofs.Common.{◌++◌, ap}
use Rattle.transcript_lines.proofs.frame_word.FrameReader.feed.Goals as goal

pub returns-in_ok-digits-in-Digits : goal.returns-in_ok-digits-in-Digits
returns-in_ok-digits-in-Digits c word r =
    let read = rw c.in-Digits.is at r in
    (read.0 ++ c.args.piece.now, ap (λ z. z ++ c.args.piece.now) read.1, c.in_ok-digits-in-Digits.ensures read.0 read.2)
