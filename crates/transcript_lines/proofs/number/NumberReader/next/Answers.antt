use Rattle.std.proofs.Common.{◌<◌, ◌+◌, ◌*◌, ◌^◌, arith}
use Rattle.transcript_lines.proofs.Decimals.{no_digit, too_large, leading, one_digit, more_digits}
use Rattle.transcript_lines.proofs.number.NumberReader.next.Goals as goal

pub returns-then-not-is_ascii_digit : goal.returns-then-not-is_ascii_digit
returns-then-not-is_ascii_digit c fed r = no_digit fed c.args.byte (λ d. omega (arith, d.0, d.1, c.if-not-is_ascii_digit.ensures.cases))

pub returns-in-Value-eq0 : goal.returns-in-Value-eq0
returns-in-Value-eq0 c fed r =
    let t = rw c.in-Value-eq0.is at r in
    let zero = rw c.in-Value-eq0.is at c.in-Value-eq0.number-test in
    leading fed c.args.byte (rw zero at t.1)

pub returns-then-next-from : goal.returns-then-next-from
returns-then-next-from c fed r =
    let t = rw c.in-Value.is at r in
    too_large fed c.in-Value.number c.args.byte t.0 t.1 (omega arith)

pub returns-in-Begin : goal.returns-in-Begin
returns-in-Begin c fed r =
    let t = rw c.in-Begin.is at r in
    let digit = c.if-not-is_ascii_digit.ensures.cases in
    (omega (arith, digit.0, digit.1), one_digit fed c.args.byte _ t (digit.0, digit.1) c.from-digit.ensures)

pub returns-else-next-from : goal.returns-else-next-from
returns-else-next-from c fed r =
    let t = rw c.in-Value.is at r in
    let digit = c.if-not-is_ascii_digit.ensures.cases in
    let low : c.from.result * 10 + c.from-digit.result < 2 ^ 32 = omega arith in
    let other = rw c.in-Value.is at c.in-Value.number-test.1 in
    (low, more_digits fed c.in-Value.number c.args.byte _ (omega (arith, other)) t.0 t.1 (digit.0, digit.1) (omega arith) low)
