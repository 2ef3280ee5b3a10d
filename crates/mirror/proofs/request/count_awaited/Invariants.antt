use Rattle.std.proofs.Common.{◌≡◌, ◌≤◌, take}
use Rattle.proto_conn.specs.Handles.{marks_of}
use Rattle.session_laws.specs.Requests.{marked}
use Rattle.mirror.proofs.request.count_awaited.Given as goal

abbrev pub invariant-loop-expectation : goal.invariant-loop-expectation
invariant-loop-expectation l = record {
  bound : l.count ≤ l.expectation-index;
  so_far : l.count ≡ marked (marks_of (take l.expectation-index l.messages));
}
