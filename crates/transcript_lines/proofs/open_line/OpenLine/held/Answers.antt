use Rattle.std.proofs.Common.{subst}
use Rattle.transcript_lines.specs.OpenLine.{StandsAt}
use Rattle.transcript_lines.proofs.open_line.OpenLine.held.Goals as goal

pub returns-in-Some-clause-short : goal.returns-in-Some-clause-short
returns-in-Some-clause-short c taken h r =
    c.held.ensures.short taken (subst (λ o. StandsAt taken c.args.self.now.head.items o) c.in-Some.is h) r
