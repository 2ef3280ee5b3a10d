use Rattle.proto_conn.proofs.Belows.{replies_below}
use Rattle.proto_conn.proofs.Sounds.{sound_forwarded}
use Rattle.proto_conn.proofs.connection.Connection.forward_responses.Goals as goal

pub forward_responses-requires-clause-streams : goal.forward_responses-requires-clause-streams
forward_responses-requires-clause-streams g c =
    replies_below c.self.inside.protocol.session c.self.inside.tallies _ c.self.inside.replies.room.streams c.self.invariant.tallied
    c.self.invariant.streams c.self.invariant.known

pub invariant_of-self : goal.invariant_of-self
invariant_of-self g c =
    sound_forwarded c.self.inside.protocol.session _ _ _ _ _ _ _ _ _ _ _ _ c.self.inside.tallies _ c.arrivals.result
    c.forward_responses.ensures.session c.arrivals.ensures c.note_forwarded.ensures c.forward_responses.ensures.fits
    c.forward_responses.ensures.room c.self.invariant
