use Rattle.std.proofs.Common.{◌+◌, ◌*◌, ◌-◌, ◌^◌, ◌≤◌}
use Rattle.proto_conn.specs.Reading.{Reads, room_of, work_of}
use Rattle.proto_conn.proofs.connection.Connection.read_with.Given as goal

abbrev pub invariant-reading : goal.invariant-reading
invariant-reading g l = record {
  so_far : Reads g.W.Watch.sees g.W.Watch.loses g.W.Watch.overruns g.T.NetlinkDeserializable.reads g.S.Link.meaning l.initial.self l.initial.watch l.self l.watch;
  room : 16 * l.self.session.arrived + room_of g.S.Link.meaning l.self ≤ 16 * (2 ^ 64 - 1);
}

abbrev pub decreases-reading : goal.decreases-reading
decreases-reading g l = work_of g.S.Link.meaning l.self
