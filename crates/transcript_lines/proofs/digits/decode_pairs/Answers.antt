use Rattle.std.proofs.Common.{◌+◌, ◌*◌, ◌%◌, ◌<◌, length, max, get_or, ap, ◌∙◌, arith}
use Rattle.std.proofs.lemmas.List.{take_more_set}
use Rattle.transcript_lines.proofs.Pairs.{decoded_as, one_pair, two_more}
use Rattle.transcript_lines.proofs.digits.decode_pairs.Goals as goal

pub loop-at-preserved : goal.loop-at-preserved
loop-at-preserved c =
    let at = c.loop-at.at in
    let digits = c.args.digits.now in
    let high = c.digit_value-high.result in
    let low = c.digit_value-low.result in
    let within : at < length c.loop-at.bytes = omega arith in
    let wide : 2 * at + 1 < length digits = omega arith in
    decoded_as _ _ _ _ _ _ (two_more digits at wide) (take_more_set c.loop-at.bytes at ((high * 16 % 256 + low) % 256) within)
    (c.greater-worst.ensures ∙ ap (λ m. max m low) c.greater.ensures)
    (one_pair _ _ c.loop-at.worst (get_or digits (2 * at) 0) (get_or digits (2 * at + 1) 0) high low c.digit_value-high.ensures c.digit_value-low.ensures
    c.loop-at.invariant)
