use Rattle.std.proofs.Common.{lit≤, ◌^◌, subst, sym}
use Rattle.mirror.specs.Options.{IsNumberAfter}
use Rattle.mirror.proofs.Numerals.{number_after}
use Rattle.mirror.proofs.options.u32_after.Goals as goal

pub returns : goal.returns
returns c =
    let after = c.in_ok-digits_after.ensures in
    subst (IsNumberAfter (2 ^ 32) c.args.name.now c.args.word.now) (sym c.ok.ensures.value)
    (number_after 32 c.args.name.now c.in_ok-digits_after.field-0.now c.args.word.now _ (lit≤ tt) (lit≤ tt) after.0 after.1 c.parse.ensures.value.0)
