use Rattle.std.proofs.Common.{◌≡◌, true, take}
use Rattle.std.specs.List.{list_all}
use Rattle.nl_core.specs.Frames.{message_fits}
use Rattle.proto_core.proofs.request.find_unfit.Given as goal

abbrev pub invariant-loop-i : goal.invariant-loop-i
invariant-loop-i g l = list_all (message_fits g.T.NetlinkSerializable.text g.T.NetlinkSerializable.fitting) (take l.i l.messages) ≡ true
