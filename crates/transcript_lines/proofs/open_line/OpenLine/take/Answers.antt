use Rattle.std.proofs.Common.{sym, subst, ◌∙◌}
use Rattle.transcript_lines.specs.OpenLine.{StandsAt}
use Rattle.transcript_lines.proofs.open_line.OpenLine.take.Goals as goal
use Rattle.transcript_lines.proofs.open_line.OpenLine.take.Goals.{in-Some+in_ok-feed-in-Some, in-None+in_ok-tail-in-None}

pub returns : goal.returns
returns c taken h =
    let head = c.args.self.now.head.items in
    elim c.match-take.branch [
      | in-Some+in_ok-feed-in-Some w ↦
          rw w.tail-is (w.in_ok-feed-in-Some.ensures taken (subst (λ o. StandsAt taken head o) (sym c.take.ensures.value ∙ w.in-Some.is) h))
      | in-None+in_ok-tail-in-None w ↦
          let old = subst (λ o. StandsAt taken head o) (sym c.take.ensures.value ∙ w.in-None.is) h in
          rw (w.tail-is, w.self-is) (w.in_ok-tail-in-None.ensures taken old)
    ]
