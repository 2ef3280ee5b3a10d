use Rattle.std.proofs.Common.{◌≡◌, ◌+◌, ◌++◌, true, take, drop}
use Rattle.std.specs.List.{list_all}
use Rattle.nl_core.specs.Frames.{message_fits}
use Rattle.session_model.specs.Awaited.{numbered}
use Rattle.proto_core.proofs.request.number_all.Given as goal

abbrev pub invariant-loop-message : goal.invariant-loop-message
invariant-loop-message g l = let s = g.T.NetlinkSerializable in record {
  number : l.number ≡ l.last + l.message-index;
  fit : list_all (message_fits s.text s.fitting) (drop l.message-index l.messages) ≡ true;
  text : take l.message-index l.messages ++ numbered s.kind s.text l.number (drop l.message-index l.messages) ≡ numbered s.kind s.text l.last l.initial.messages;
}
