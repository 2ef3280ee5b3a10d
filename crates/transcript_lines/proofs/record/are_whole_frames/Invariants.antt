use Rattle.std.proofs.Common.{take}
use Rattle.session_model.specs.Transcript.{AreFrames, IsWholeFrame}
use Rattle.transcript_lines.proofs.record.are_whole_frames.Given as goal

abbrev pub invariant-loop-frame : goal.invariant-loop-frame
invariant-loop-frame g l = AreFrames (IsWholeFrame g.T.NetlinkDeserializable.reads) (take l.frame-index l.frames)
