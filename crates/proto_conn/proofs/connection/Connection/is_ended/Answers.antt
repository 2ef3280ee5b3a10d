use Rattle.std.proofs.Common.{ap, ◌∙◌}
use Rattle.proto_conn.specs.Conn.{Conn}
use Rattle.proto_conn.specs.Tallies.{replies_of}
use Rattle.proto_conn.proofs.Counts.{told_reply}
use Rattle.proto_conn.proofs.Taking.{ended_quiet, ended_waits}
use Rattle.proto_conn.proofs.connection.Connection.is_ended.Goals as goal

pub returns-then-not-has_reply : goal.returns-then-not-has_reply
returns-then-not-has_reply g c =
    ended_quiet c.args.stream c.args.self.now c.has_reply.result c.awaits.result c.if-not-has_reply.true
    (c.has_reply.ensures ∙ told_reply _ _ _ _ c.self.invariant.tallied c.args.stream
    ∙ ap (λ (v : Conn g.row.T.Denot g.row.S.Denot). replies_of c.args.stream v.session.responses) c.self.view_is) c.awaits.ensures

pub returns-else-not-has_reply : goal.returns-else-not-has_reply
returns-else-not-has_reply g c =
    ended_waits c.args.stream c.args.self.now c.has_reply.result c.if-not-has_reply.false
    (c.has_reply.ensures ∙ told_reply _ _ _ _ c.self.invariant.tallied c.args.stream
    ∙ ap (λ (v : Conn g.row.T.Denot g.row.S.Denot). replies_of c.args.stream v.session.responses) c.self.view_is)
