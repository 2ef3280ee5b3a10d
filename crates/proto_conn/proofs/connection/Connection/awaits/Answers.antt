use Rattle.std.proofs.Common.{ap, ◌∙◌}
use Rattle.proto_conn.specs.Conn.{Conn}
use Rattle.proto_conn.specs.Tallies.{awaits_of}
use Rattle.proto_conn.proofs.Counts.{told_awaited}
use Rattle.proto_conn.proofs.Taking.{awaits_asking, awaits_nothing, awaits_number}
use Rattle.proto_conn.proofs.connection.Connection.awaits.Goals as goal

pub returns-then-is_asking : goal.returns-then-is_asking
returns-then-is_asking g c =
    awaits_asking c.args.stream c.args.self.now c.should_shut_down.result c.is_asking.result c.if-not-should_shut_down.true
    c.if-is_asking.true c.should_shut_down.ensures c.is_asking.ensures

pub returns-else-is_asking : goal.returns-else-is_asking
returns-else-is_asking g c =
    awaits_number c.args.stream c.args.self.now c.should_shut_down.result c.is_asking.result c.is_awaited.result
    c.if-not-should_shut_down.true c.if-is_asking.false c.should_shut_down.ensures c.is_asking.ensures
    (c.is_awaited.ensures ∙ told_awaited _ _ _ _ c.self.invariant.tallied c.args.stream
    ∙ ap (λ (v : Conn g.row.T.Denot g.row.S.Denot). awaits_of c.args.stream v.session.awaited) c.self.view_is)

pub returns-else-not-should_shut_down : goal.returns-else-not-should_shut_down
returns-else-not-should_shut_down g c =
    awaits_nothing c.args.stream c.args.self.now c.should_shut_down.result c.if-not-should_shut_down.false c.should_shut_down.ensures
