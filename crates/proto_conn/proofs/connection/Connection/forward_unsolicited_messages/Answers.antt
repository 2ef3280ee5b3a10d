use Rattle.proto_conn.proofs.Sounds.{sound_unsolicited}
use Rattle.proto_conn.proofs.connection.Connection.forward_unsolicited_messages.Goals as goal

pub invariant_of-self : goal.invariant_of-self
invariant_of-self g c =
    sound_unsolicited c.self.inside.protocol.session _ _ _ _ _ _ _ _ _ _ _ _ _ c.forward_incoming.ensures.session
    c.forward_incoming.ensures.room c.self.invariant
