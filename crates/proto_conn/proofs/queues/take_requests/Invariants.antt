use Rattle.std.proofs.Common.{◌≡◌, ◌+◌, length}
use Rattle.proto_conn.specs.Conn.{TookSome, messages_in}
use Rattle.proto_conn.specs.Fitting.{BatchesFit, RequestsFit}
use Rattle.proto_conn.specs.Tallies.{AreNewest, IsTallied}
use Rattle.proto_conn.proofs.queues.take_requests.Given as goal

abbrev pub invariant-requests : goal.invariant-requests
invariant-requests g l = record {
  took : TookSome g.T.NetlinkSerializable.kind g.T.NetlinkSerializable.text l.initial.queue.items l.initial.protocol.session l.queue.items l.protocol.session;
  counted : l.count ≡ messages_in l.queue.items;
  fit : RequestsFit g.T.NetlinkSerializable.text g.T.NetlinkSerializable.fitting l.queue.items;
  batches : BatchesFit g.T.NetlinkSerializable.text g.T.NetlinkSerializable.fitting l.protocol.session.outgoing;
  numbers : l.protocol.session.last + l.count ≡ l.initial.protocol.session.last + l.initial.count;
  responses : l.protocol.session.responses ≡ l.initial.protocol.session.responses;
  incoming : l.protocol.session.incoming ≡ l.initial.protocol.session.incoming;
  given : length l.tallies.streams ≡ length l.initial.tallies.streams;
  newest : AreNewest (length l.tallies.streams) l.queue.items;
  tallied : IsTallied l.protocol.session.awaited l.protocol.session.responses l.protocol.session.arrived l.tallies;
}

abbrev pub decreases-requests : goal.decreases-requests
decreases-requests g l = length l.queue.items
