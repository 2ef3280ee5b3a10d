use Rattle.std.proofs.Common.{◌≡◌, take}
use Rattle.proto_conn.specs.Handles.{marks_of, messages_of}
use Rattle.session_laws.specs.Requests.{marks_in, messages_in}
use Rattle.mirror.specs.Format.{format}
use Rattle.mirror.proofs.request.read_frames.Given as goal

abbrev pub invariant-loop-frame : goal.invariant-loop-frame
invariant-loop-frame l = record {
  messages : messages_of l.messages.items ≡ messages_in format (take l.frame-index l.frames);
  marks : marks_of l.messages.items ≡ marks_in format (take l.frame-index l.frames);
}
