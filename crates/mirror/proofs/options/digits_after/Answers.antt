use Rattle.std.proofs.Common.{rules, arith, ◌≡◌, ◌++◌, length, sym, ap, ◌∙◌}
use Rattle.mirror.proofs.Numerals.{first_of, not_after, nothing_there}
use Rattle.mirror.proofs.options.digits_after.Goals as goal
use Rattle.mirror.proofs.options.digits_after.Goals.{then-not-is_ascii_digit-via-then-not-is_ascii_digit, then-not-is_ascii_digit-via-else-not-is_ascii_digit+then-digits-gt1}

pub returns-in_default : goal.returns-in_default
returns-in_default c number h =
    let digits = c.in_ok-digits.digits.now in
    let is : c.args.word.now ≡ c.args.name.now ++ digits = search rules in
    not_after c.args.name.now digits c.args.word.now is (λ m.
    let none = c.in_default.ensures.item.0 in
    let n = ap length c.as_bytes.ensures.value in
    nothing_there c.as_bytes.result.now none (omega (arith, n, m.some))) number h

pub returns-then-not-is_ascii_digit : goal.returns-then-not-is_ascii_digit
returns-then-not-is_ascii_digit c number h =
    let digits = c.in_ok-digits.digits.now in
    let is : c.args.word.now ≡ c.args.name.now ++ digits = search rules in
    not_after c.args.name.now digits c.args.word.now is (λ m.
    let bytes = c.as_bytes.ensures.value in
    let first = first_of digits c.as_bytes.result.now c.in-Some.first.now bytes m.some c.in-Some.ensures.item.1 in
    elim c.then-not-is_ascii_digit.branch [
      | then-not-is_ascii_digit-via-then-not-is_ascii_digit w ↦
          omega (arith, m.begins.0, m.begins.1, first, w.if-not-is_ascii_digit.ensures.cases)
      | then-not-is_ascii_digit-via-else-not-is_ascii_digit+then-digits-gt1 w ↦
          let one = m.leading (sym first ∙ w.if-digits-gt1.true.0) in omega (arith, one, w.if-digits-gt1.true.1)
    ]) number h
