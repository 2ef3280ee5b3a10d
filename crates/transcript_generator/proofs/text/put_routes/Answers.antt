use Rattle.std.proofs.Common.{◌++◌, ◌∙◌, ap}
use Rattle.session_model.specs.Transcript.{record_line}
use Rattle.transcript_generator.specs.Generated.{from_kernel, route_record}
use Rattle.transcript_generator.proofs.Numbers.{line_more}
use Rattle.transcript_generator.proofs.text.put_routes.Goals as goal

pub loop-i-preserved : goal.loop-i-preserved
loop-i-preserved c =
    let frame = c.as_slice.ensures.value ∙ c.in_ok-write_route_frame.ensures in
    c.in_ok-put_datagram.ensures ∙ ap (λ bytes. c.loop-i.text.items ++ record_line (from_kernel bytes)) frame
    ∙ ap (λ t. t ++ record_line (route_record c.loop-i.i)) c.loop-i.invariant
    ∙ line_more route_record c.args.text.now.items c.loop-i.i
