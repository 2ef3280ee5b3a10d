use Rattle.std.proofs.Common.{ap}
use Rattle.proto_conn.specs.Conn.{Conn}
use Rattle.proto_conn.proofs.Waits.{waits_at}
use Rattle.proto_conn.proofs.connection.Connection.waiting_bytes.Goals as goal

pub returns : goal.returns
returns g c =
    rw (c.unread.ensures, c.source.ensures) (waits_at c.self.inside.held c.self.inside.framed.source c.self.inside.framed.reader _
    (ap (λ (v : Conn g.row.T.Denot g.row.S.Denot). v.waiting) c.self.view_is) c.requires)
