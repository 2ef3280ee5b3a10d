use Rattle.std.proofs.Common.{◌+◌, ◌*◌, ◌≤◌, length}
use Rattle.proto_conn.proofs.Decodings.{GoOn}
use Rattle.proto_conn.proofs.connection.settling.decode_all.Given as goal

abbrev pub invariant-frames : goal.invariant-frames
invariant-frames g l = record {
  read : GoOn g.T.NetlinkDeserializable.reads l.messages.items l.buffer.items l.bytes;
  few : 16 * length l.messages.items + length l.buffer.items ≤ length l.bytes;
}

abbrev pub decreases-frames : goal.decreases-frames
decreases-frames g l = length l.buffer.items
