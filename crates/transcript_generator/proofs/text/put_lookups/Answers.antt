use Rattle.std.proofs.Common.{◌++◌, ◌∙◌, ap}
use Rattle.session_model.specs.Transcript.{record_line}
use Rattle.transcript_generator.specs.Generated.{lookup_record}
use Rattle.transcript_generator.proofs.Numbers.{line_more}
use Rattle.transcript_generator.proofs.text.put_lookups.Goals as goal

pub loop-i-preserved : goal.loop-i-preserved
loop-i-preserved c =
    c.in_ok-put_lookup.ensures ∙ ap (λ t. t ++ record_line (lookup_record c.loop-i.i)) c.loop-i.invariant
    ∙ line_more lookup_record c.args.text.now.items c.loop-i.i
