use Rattle.proto_conn.proofs.Fits.{memory_alone, requested_fit}
use Rattle.proto_conn.proofs.framed.NetlinkFramed.submit.Goals as goal

pub want_of_memory-requires : goal.want_of_memory-requires
want_of_memory-requires g c =
    memory_alone g.T.NetlinkSerializable.text g.T.NetlinkSerializable.fitting c.args.protocol.now.session.last c.args.request.messages
    c.in-Err.refusal c.in-Err.ensures.refused c.requires.in_range c.requires.fit

pub returns-then-behind-clause-batches : goal.returns-then-behind-clause-batches
returns-then-behind-clause-batches g c =
    requested_fit g.T.NetlinkSerializable.text g.T.NetlinkSerializable.fitting g.T.NetlinkSerializable.kind c.args.protocol.now.session
    c.request.new.self.session c.args.request c.in-Ok.ensures.ok c.requires.batches c.requires.fit

pub send_first-requires-clause-fit : goal.send_first-requires-clause-fit
send_first-requires-clause-fit g c =
    requested_fit g.T.NetlinkSerializable.text g.T.NetlinkSerializable.fitting g.T.NetlinkSerializable.kind c.args.protocol.now.session
    c.request.new.self.session c.args.request c.in-Ok.ensures.ok c.requires.batches c.requires.fit
