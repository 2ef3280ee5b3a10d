use Rattle.std.proofs.Common.{◌≡◌, ◌+◌, ◌≤◌, ◌++◌, drop, length, take}
use Rattle.proto_core.specs.Noted.{noted}
use Rattle.proto_core.specs.Numbers.{AreBelow}
use Rattle.proto_core.proofs.request.note_all.Given as goal

-- what is noted so far and what is left to note make up all, and what was there before stands in front
abbrev pub invariant-loop-i : goal.invariant-loop-i
invariant-loop-i g l = let r = l.request in record {
  below : AreBelow (l.last + l.i + 1) l.awaited;
  text : l.awaited ++ noted r.expect_response l.i (l.last + l.i) r.metadata r.destination.port (drop l.i l.messages) ≡ l.initial.awaited ++ noted r.expect_response 0 l.last r.metadata r.destination.port l.messages;
  room : l.before ≤ length l.awaited;
  kept : take l.before l.awaited ≡ l.initial.awaited;
}
