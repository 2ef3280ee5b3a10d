use Rattle.std.proofs.Common.{◌≡◌, ◌+◌, ◌≤◌, ◌<◌, ◌^◌, length, map}
use Rattle.nl_core.specs.declared.message.NetlinkMessage.{NetlinkMessage}
use Rattle.proto_core.specs.Session.{arrival_of}
use Rattle.proto_conn.specs.Reading.{takes}
use Rattle.proto_conn.specs.Tallies.{IsTallied}
use Rattle.proto_conn.proofs.connection.settling.take_all.Given as goal

abbrev pub invariant-messages : goal.invariant-messages
invariant-messages g l = record {
  session : takes (map (λ (m : NetlinkMessage g.row.T.Denot). arrival_of m l.source) l.messages.items) l.protocol.session
      ≡ takes (map (λ (m : NetlinkMessage g.row.T.Denot). arrival_of m l.source) l.initial.messages.items) l.initial.protocol.session;
  room : length l.messages.items ≤ l.protocol.spare;
  count : l.protocol.session.arrived + length l.messages.items < 2 ^ 64;
  responses : length l.protocol.session.responses + length l.messages.items ≤ length l.initial.protocol.session.responses + length l.initial.messages.items;
  incoming : length l.protocol.session.incoming + length l.messages.items ≤ length l.initial.protocol.session.incoming + length l.initial.messages.items;
  last : l.protocol.session.last ≡ l.initial.protocol.session.last;
  outgoing : l.protocol.session.outgoing ≡ l.initial.protocol.session.outgoing;
  given : length l.tallies.streams ≡ length l.initial.tallies.streams;
  tallied : IsTallied l.protocol.session.awaited l.protocol.session.responses l.protocol.session.arrived l.tallies;
}

abbrev pub decreases-messages : goal.decreases-messages
decreases-messages g l = length l.messages.items
