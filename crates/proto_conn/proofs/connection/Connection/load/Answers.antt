use Rattle.std.proofs.Common.{refl, ◌∙◌, ap}
use Rattle.proto_conn.specs.Conn.{Conn}
use Rattle.proto_conn.proofs.Flushes.{load_at, unwritten}
use Rattle.proto_conn.proofs.Sounds.{sound_sent}
use Rattle.proto_conn.proofs.connection.Connection.load.Goals as goal

pub load-requires-clause-written : goal.load-requires-clause-written
load-requires-clause-written g c =
    unwritten c.self.inside.framed.writer c.self.inside.framed.destination (ap (λ
    (v : Conn g.row.T.Denot g.row.S.Denot). v.unsent) c.self.view_is ∙ c.requires)

pub returns-clause-ok : goal.returns-clause-ok
returns-clause-ok g c =
    load_at g.T.NetlinkSerializable.text _ _ c.self.view_is c.self.inside.held c.self.inside.framed c.load.new.self c.load.new.protocol.session refl refl refl c.in_ok-load.ensures.ok

pub invariant_of-self : goal.invariant_of-self
invariant_of-self g c =
    sound_sent c.self.inside.protocol.session _ _ _ _ _ _ _ _ c.self.inside.framed.reader _ _ _ c.load.ensures.numbers c.load.ensures.lists.0
    c.load.ensures.lists.1 c.load.ensures.awaited.0 c.load.ensures.awaited.1 c.load.ensures.reader c.load.ensures.fit c.self.invariant

pub invariant_of-self-2 : goal.invariant_of-self-2
invariant_of-self-2 g c =
    sound_sent c.self.inside.protocol.session _ _ _ _ _ _ _ _ c.self.inside.framed.reader _ _ _ c.load.ensures.numbers c.load.ensures.lists.0
    c.load.ensures.lists.1 c.load.ensures.awaited.0 c.load.ensures.awaited.1 c.load.ensures.reader c.load.ensures.fit c.self.invariant
