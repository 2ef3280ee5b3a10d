use Rattle.std.proofs.Common.{◌∷◌, [], OnOk, subst, sym}
use Rattle.transcript_lines.specs.BytesReader.{FeedsBytes}
use Rattle.transcript_lines.proofs.bytes.BytesReader.take.Goals as goal

pub returns-then-value-lt16 : goal.returns-then-value-lt16
returns-then-value-lt16 c =
    subst (λ b. OnOk c.digit.result (FeedsBytes c.args.self.now (b ∷ []) c.digit.new.self)) (sym (c.digit_value-value.ensures.0 c.if-value-lt16.true))
    c.digit.ensures
