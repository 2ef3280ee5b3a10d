use Rattle.std.proofs.Common.{◌≡◌, false, true, sym, ◌∙◌}
use Rattle.transcript_lines.proofs.Injective.{not_whole}
use Rattle.transcript_lines.proofs.record.read_record.Goals as goal

pub returns-else-branch-clause-none : goal.returns-else-branch-clause-none
returns-else-branch-clause-none g c =
    let spelled = rw c.in-Some.is at c.in_ok-spelled.ensures.some in
    not_whole g.T.NetlinkDeserializable.reads c.args.line.now c.in-Some.spelled spelled.0 spelled.1
    (λ whole. let no : false ≡ true = sym c.if-branch.false ∙ c.in_ok-has_whole_frames.ensures.1 whole in cc)
