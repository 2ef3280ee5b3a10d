use Rattle.std.proofs.Common.{◌≡◌, false, true, sym, ◌∙◌}
use Rattle.transcript_lines.proofs.Injective.{not_whole}
use Rattle.transcript_lines.proofs.Lines.{line_of_words}
use Rattle.transcript_lines.proofs.OpenLines.{line_bad}
use Rattle.transcript_lines.proofs.decoder.LineDecoder.end.Goals as goal

pub returns-in_default-clause-told : goal.returns-in_default-clause-told
returns-in_default-clause-told g c taken h =
    line_bad g.T.NetlinkDeserializable.reads taken ((rw c.in_default.is at c.in_ok-record.ensures.told) taken h)

pub returns-then-branch-clause-told : goal.returns-then-branch-clause-told
returns-then-branch-clause-told g c taken h =
    let told = (rw c.in-Some.is at c.in_ok-record.ensures.told) taken h in
    (line_of_words taken c.in-Some.record told.1, (told.0, c.in_ok-has_whole_frames.ensures.0 c.if-branch.true))

pub returns-else-branch-clause-told : goal.returns-else-branch-clause-told
returns-else-branch-clause-told g c taken h =
    let told = (rw c.in-Some.is at c.in_ok-record.ensures.told) taken h in
    not_whole g.T.NetlinkDeserializable.reads taken c.in-Some.record told.0 (line_of_words taken c.in-Some.record told.1)
    (λ whole. let no : false ≡ true = sym c.if-branch.false ∙ c.in_ok-has_whole_frames.ensures.1 whole in cc)
