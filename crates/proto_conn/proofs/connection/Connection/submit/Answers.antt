use Rattle.proto_conn.specs.Submitting.{marked_request}
use Rattle.proto_conn.proofs.Submits.{sends_as_poll, submits_marked}
use Rattle.proto_conn.proofs.connection.Connection.submit.Goals as goal

pub returns-clause-ok : goal.returns-clause-ok
returns-clause-ok g c =
    submits_marked g.S.Link.meaning g.T.NetlinkSerializable.kind g.T.NetlinkSerializable.text c.args.self.now c.take_batch.new.self
    c.args.messages.items c.args.destination c.in_ok-messages.messages c.in_ok-messages.marks c.in_ok-messages.ensures.messages
    c.in_ok-messages.ensures.marks c.in_ok-id.ensures.ok

pub returns-clause-as_poll : goal.returns-clause-as_poll
returns-clause-as_poll g c free =
    let r = marked_request c.args.self.now c.args.messages.items c.args.destination in
    sends_as_poll g.S.Link.meaning g.T.NetlinkSerializable.kind g.T.NetlinkSerializable.text r c.args.self.now c.take_batch.new.self
    c.in_ok-id.ensures.open (returns-clause-ok g c) free
