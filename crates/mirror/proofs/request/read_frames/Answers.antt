use Rattle.std.proofs.Common.{◌∙◌, ap, sym}
use Rattle.nl_core.specs.Frames.{frame_at}
use Rattle.proto_core.specs.Walk.{if_read}
use Rattle.mirror.specs.Format.{format}
use Rattle.mirror.proofs.Frames.{frame_read, frame_skipped}
use Rattle.mirror.proofs.request.read_frames.Goals as goal
use Rattle.mirror.proofs.request.read_frames.Goals.{in-Some+in_ok-push, in_default}

pub loop-frame-preserved : goal.loop-frame-preserved
loop-frame-preserved c =
    let frame = c.frame-item.result in
    let i = c.loop-frame.invariant in
    let read = c.in_ok-message.ensures ∙ ap (λ b. if_read (frame_at format.reads b)) c.as_slice.ensures in
    elim c.match-branch-2.branch [
      | in-Some+in_ok-push w ↦
          let p = frame_read c.args.frames.now c.loop-frame.frame-index frame c.loop-frame-test.true c.frame-item.is
          c.loop-frame.messages.items w.push.new.self.items w.in-Some.message w.expectation_of-expectation.result
          (sym w.in-Some.is ∙ read) w.expectation_of-expectation.ensures w.in_ok-push.ensures.items i.messages i.marks in
          rw w.messages-is (record { messages = p.0; marks = p.1 })
      | in_default w ↦
          let p = frame_skipped c.args.frames.now c.loop-frame.frame-index frame c.loop-frame-test.true c.frame-item.is
          c.loop-frame.messages.items (sym w.in_default.is ∙ read) i.messages i.marks in
          rw w.messages-is (record { messages = p.0; marks = p.1 })
    ]
