use Rattle.std.proofs.Common.{ap, refl, arith, length}
use Rattle.std.proofs.lemmas.List.{length-map}
use Rattle.nl_core.specs.declared.message.NetlinkMessage.{NetlinkMessage}
use Rattle.proto_core.specs.Session.{Session, arrival_of}
use Rattle.proto_conn.specs.Conn.{Conn}
use Rattle.proto_conn.proofs.Counts.{tallied_same}
use Rattle.proto_conn.proofs.Seeing.{on_err}
use Rattle.proto_conn.proofs.Settles.{roomy_same, settled_at}
use Rattle.proto_conn.proofs.Sounds.{sound_more, sound_roomy}
use Rattle.proto_conn.proofs.connection.Connection.settle.Goals as goal

pub invariant_of-self : goal.invariant_of-self
invariant_of-self g c =
    sound_roomy c.self.inside.protocol.session _ _ _ _ _ _ _ _ _ _ _ c.self.inside.held _ c.self.inside.framed.reader _ _ _
    c.make_room.ensures.session c.make_room.ensures.streams c.make_room.ensures.replies c.make_room.ensures.unsolicited c.self.invariant.held c.self.invariant

pub returns-in_err-make_room-clause-err : goal.returns-in_err-make_room-clause-err
returns-in_err-make_room-clause-err g c =
    on_err _ (roomy_same g.T.NetlinkDeserializable.reads _ _ c.self.view_is _ _ _ c.make_room.ensures.session c.make_room.ensures.same_replies c.make_room.ensures.same_unsolicited)

pub take_all-requires-clause-room : goal.take_all-requires-clause-room
take_all-requires-clause-room g c = omega (arith, c.in_ok-make_room.ensures.spare, c.len-count.ensures, c.in_ok-messages.messages.ok)

pub take_all-requires-clause-count : goal.take_all-requires-clause-count
take_all-requires-clause-count g c =
    let same = ap (λ (s : Session g.row.T.Denot _). s.arrived) c.make_room.ensures.session in
    let view = ap (λ (v : Conn g.row.T.Denot g.row.S.Denot). v.session.arrived) c.self.view_is in
    omega (arith, same, view, c.requires, c.in_ok-messages.ensures.few)

pub take_all-requires-clause-tallied : goal.take_all-requires-clause-tallied
take_all-requires-clause-tallied g c =
    tallied_same c.self.inside.protocol.session c.make_room.new.protocol.session c.self.inside.tallies c.make_room.ensures.session
    c.self.invariant.tallied

pub invariant_of-self-2 : goal.invariant_of-self-2
invariant_of-self-2 g c =
    let len = c.len-count.ensures in
    let own = c.in_ok-messages.messages.ok in
    sound_more c.self.inside.protocol.session c.make_room.new.protocol.session _ _ _ _ _ _ _ _ _ _ _ c.self.inside.held _
    c.self.inside.framed.reader _ _ c.self.inside.tallies _ (length c.in_ok-messages.messages.items) c.make_room.ensures.session c.make_room.ensures.streams
    (omega (arith, c.in_ok-make_room.ensures.more_replies, len, own)) (omega (arith, c.in_ok-make_room.ensures.more_unsolicited, len, own)) tt
    c.take_all.ensures.last c.take_all.ensures.responses c.take_all.ensures.incoming c.take_all.ensures.outgoing c.take_all.ensures.given c.take_all.ensures.tallied
    c.self.invariant

pub returns-clause-count : goal.returns-clause-count
returns-clause-count g c =
    let all = ap length c.in_ok-messages.ensures.messages in
    let one = length-map c.in_ok-messages.messages.items (λ (m : NetlinkMessage g.row.T.Denot). arrival_of m c.in_ok-messages.source) in
    omega (arith, all, one, c.len-count.ensures, c.in_ok-messages.messages.ok)

pub returns-clause-ok : goal.returns-clause-ok
returns-clause-ok g c =
    settled_at g.T.NetlinkDeserializable.reads _ _ c.self.view_is c.self.inside.framed c.drop_unread.new.self refl refl c.drop_unread.ensures
    c.make_room.new.protocol.session c.take_all.new.protocol.session _ _ _ c.make_room.ensures.session c.take_all.ensures.session
    c.in_ok-messages.ensures.messages c.make_room.ensures.same_replies c.make_room.ensures.same_unsolicited
    c.forward_unsolicited_messages.new.self _ c.forward_unsolicited_messages.ensures c.forward_responses.ensures
