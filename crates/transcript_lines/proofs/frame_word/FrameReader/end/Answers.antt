use Rattle.transcript_lines.proofs.FrameWords.{frame_none, frame_some, no_digits}
use Rattle.transcript_lines.proofs.frame_word.FrameReader.end.Goals as goal

pub returns-in_err-bytes-in-Digits : goal.returns-in_err-bytes-in-Digits
returns-in_err-bytes-in-Digits c word r =
    let read = rw c.in-Digits.is at r in
    rw c.from_residual.ensures (frame_none word read.0 c.in-Digits.mark read.1 (c.in_err-bytes-in-Digits.ensures read.0 read.2))

pub returns-in_ok-bytes-in-Digits : goal.returns-in_ok-bytes-in-Digits
returns-in_ok-bytes-in-Digits c word r =
    let read = rw c.in-Digits.is at r in
    let bytes = c.in_ok-bytes-in-Digits.ensures read.0 read.2 in
    (bytes.0, frame_some word read.0 c.in-Digits.mark c.in_ok-bytes-in-Digits.bytes read.1 bytes.1)

pub returns-in-Begin : goal.returns-in-Begin
returns-in-Begin c word r = no_digits word c.args.self c.in-Begin.is r
