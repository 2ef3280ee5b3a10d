use Rattle.std.proofs.Common.{sym, subst, ◌∙◌}
use Rattle.transcript_lines.specs.OpenLine.{StandsAt}
use Rattle.transcript_lines.proofs.OpenLines.{told_by_words}
use Rattle.transcript_lines.proofs.open_line.OpenLine.end.Goals as goal
use Rattle.transcript_lines.proofs.open_line.OpenLine.end.Goals.{in-Some+in_ok-spelled-in-Some, in-None+in_ok-spelled-in-None}

pub returns-clause-told : goal.returns-clause-told
returns-clause-told c taken h =
    let head = c.args.self.now.head.items in
    elim c.match-take.branch [
      | in-Some+in_ok-spelled-in-Some w ↦
          rw w.spelled-is (w.in_ok-spelled-in-Some.ensures taken (subst (λ o. StandsAt taken head o) (sym c.take.ensures.value ∙ w.in-Some.is) h))
      | in-None+in_ok-spelled-in-None w ↦
          let old = subst (λ o. StandsAt taken head o) (sym c.take.ensures.value ∙ w.in-None.is) h in
          rw w.spelled-is (told_by_words _ taken _ (w.as_slice.ensures.value ∙ old.kept) w.in_ok-spelled-in-None.ensures.some w.in_ok-spelled-in-None.ensures.none)
    ]
