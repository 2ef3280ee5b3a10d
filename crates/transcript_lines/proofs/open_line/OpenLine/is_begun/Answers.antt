use Rattle.std.proofs.Common.{sym, ◌∙◌}
use Rattle.transcript_lines.proofs.OpenLines.{begun}
use Rattle.transcript_lines.proofs.open_line.OpenLine.is_begun.Goals as goal

pub returns-then-is_some-clause-begun : goal.returns-then-is_some-clause-begun
returns-then-is_some-clause-begun c taken h =
    let line = c.args.self.now in
    (λ _. begun taken line.head.items line.tail (sym c.is_some.ensures ∙ c.if-is_some.true) h, λ _. c.if-is_some.true)
