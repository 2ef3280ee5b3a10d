use Rattle.transcript_lines.proofs.OpenLines.{one_word, two_words, three_words}
use Rattle.transcript_lines.proofs.open_line.cut_head.Goals as goal

pub returns-in_err-first : goal.returns-in_err-first
returns-in_err-first c = rw c.from_residual.ensures (one_word c.args.line.now c.in_err-first.ensures)

pub returns-in_err-second : goal.returns-in_err-second
returns-in_err-second c =
    let first = c.in_ok-first.ensures in
    rw c.from_residual-in_err-second.ensures (two_words c.args.line.now _ _ first.0 first.1 c.in_err-second.ensures)

pub returns-in_err-third : goal.returns-in_err-third
returns-in_err-third c =
    let first = c.in_ok-first.ensures in
    let second = c.in_ok-second.ensures in
    rw c.from_residual-in_err-third.ensures (three_words c.args.line.now _ _ _ _ first.0 first.1 second.0 second.1 c.in_err-third.ensures)
