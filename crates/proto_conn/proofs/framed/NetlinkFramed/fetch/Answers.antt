use Rattle.std.proofs.Common.{rules, sym}
use Rattle.proto_conn.proofs.Steps.{step_fetched, step_overran, step_closed}
use Rattle.proto_conn.proofs.framed.NetlinkFramed.fetch.Goals as goal

pub returns-in-Datagram-clause-step : goal.returns-in-Datagram-clause-step
returns-in-Datagram-clause-step g c = rw (sym c.self.view_is)
    (step_fetched g.T.NetlinkDeserializable.reads g.S.Link.meaning _ c.recv.new.self c.recv.new.into.items c.in-Datagram.source
    (search rules) c.in-Datagram.ensures)

pub returns-in-Overrun-clause-step : goal.returns-in-Overrun-clause-step
returns-in-Overrun-clause-step g c = rw (sym c.self.view_is)
    (step_overran g.T.NetlinkDeserializable.reads g.S.Link.meaning _ c.recv.new.self c.recv.new.into.items (search rules) c.in-Overrun.ensures)

pub returns-in-Closed-clause-step : goal.returns-in-Closed-clause-step
returns-in-Closed-clause-step g c = rw (sym c.self.view_is)
    (step_closed g.T.NetlinkDeserializable.reads g.S.Link.meaning _ c.recv.new.self c.recv.new.into.items (search rules) c.in-Closed.ensures)
