use Rattle.std.proofs.Common.{sym, arith}
use Rattle.nl_core.specs.Frames.{message_text, message_fits}
use Rattle.transcript_lines.proofs.Datagram.{no_more, one_message}
use Rattle.transcript_lines.proofs.session_text.put_frames.Goals as goal

pub loop-message-preserved : goal.loop-message-preserved
loop-message-preserved g c =
    let fits = message_fits g.T.NetlinkSerializable.text g.T.NetlinkSerializable.fitting in (
      omega (arith, c.loop-message.invariant.0, c.in_ok-put_frame.ensures.longer),
      λ h.
          let i = c.loop-message.invariant.1 h in
          one_message fits (message_text g.T.NetlinkSerializable.text) c.args.messages.now _ _ _ _ _ _ c.loop-message-test.true
          (sym c.message-item.is) i.0 i.1 c.in_ok-put_frame.ensures.frame,
    )

pub returns-clause-frames : goal.returns-clause-frames
returns-clause-frames g c h =
    let i = c.loop-message.invariant.1 h in
    no_more (message_text g.T.NetlinkSerializable.text) c.args.messages.now _ _ _ c.loop-message-test.false i.1
