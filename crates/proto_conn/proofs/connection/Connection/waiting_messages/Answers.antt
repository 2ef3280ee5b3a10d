use Rattle.std.proofs.Common.{◌++◌, ◌∷◌, [], List, ap, refl, sym, ◌∙◌}
use Rattle.nl_core.specs.declared.message.NetlinkMessage.{NetlinkMessage}
use Rattle.proto_conn.proofs.Settles.{arrives_bytes, arrives_overrun}
use Rattle.proto_conn.proofs.connection.Connection.waiting_messages.Goals as goal

pub returns-then-is_overrun-clause-messages : goal.returns-then-is_overrun-clause-messages
returns-then-is_overrun-clause-messages g c =
    arrives_overrun g.T.NetlinkDeserializable.reads _ _ c.self.view_is c.self.inside.held c.self.inside.framed.source c.self.inside.framed.reader refl
    (sym c.is_overrun.ensures ∙ c.if-is_overrun.true) c.overrun_message.result c.overrun_message.ensures _
    (c.in_ok-push.ensures.items ∙ ap (λ (ms : List (NetlinkMessage g.row.T.Denot)). ms ++ c.overrun_message.result ∷ []) c.new-messages.ensures.items)

pub returns-clause-messages : goal.returns-clause-messages
returns-clause-messages g c =
    arrives_bytes g.T.NetlinkDeserializable.reads _ _ c.self.view_is c.self.inside.held c.self.inside.framed.source
    c.source.result c.self.inside.framed.reader c.unread.result.now refl (sym c.is_overrun.ensures
    ∙ c.if-is_overrun.false) c.source.ensures c.unread.ensures _ c.in_ok-messages.ensures.messages
