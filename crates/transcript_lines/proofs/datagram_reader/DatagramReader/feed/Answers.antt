use Rattle.std.proofs.Common.{◌≡◌, ◌≢◌, true, false, ◌-◌, ◌*◌, ◌≤◌, length, sym, ◌∙◌, arith}
use Rattle.transcript_lines.specs.declared.bytes.Last.TheVariants.{Bad}
use Rattle.transcript_lines.proofs.DatagramDigits.{bad_digits, good_digits, too_long}
use Rattle.transcript_lines.proofs.datagram_reader.DatagramReader.feed.Goals as goal

pub returns-then-piece-left : goal.returns-then-piece-left
returns-then-piece-left c =
    too_long c.args.self c.args.piece.now
    (omega (arith, c.held.ensures.count, c.saturating_mul.ensures, c.saturating_sub-left.ensures, c.if-piece-left.true))

pub returns-then-is_bad : goal.returns-then-is_bad
returns-then-is_bad c =
    bad_digits c.args.self c.args.piece.now c.in_ok-digits.digits c.in_ok-digits.ensures (c.is_bad.ensures.0 c.if-is_bad.true)

pub returns : goal.returns
returns c =
    let low : length c.args.piece.now ≤ 131072 - 2 * length c.args.self.digits.bytes.items =
    omega (arith, c.held.ensures.count, c.saturating_mul.ensures, c.saturating_sub-left.ensures, c.if-piece-left.false) in
    let good : c.in_ok-digits.digits.last ≢ Bad =
    λ bad. let no : true ≡ false = sym (c.is_bad.ensures.1 bad) ∙ c.if-is_bad.false in cc in
    good_digits c.args.self c.args.piece.now c.in_ok-digits.digits c.in_ok-digits.ensures good low
