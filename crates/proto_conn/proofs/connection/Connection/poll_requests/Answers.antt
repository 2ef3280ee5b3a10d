use Rattle.proto_conn.proofs.Sounds.{sound_taken}
use Rattle.proto_conn.proofs.connection.Connection.poll_requests.Goals as goal

pub invariant_of-self : goal.invariant_of-self
invariant_of-self g c =
    sound_taken c.self.inside.protocol.session _ c.self.inside.queue.items _ c.self.inside.count _ _ _ _ _ _ _ _ c.self.inside.tallies _
    c.take_requests.ensures.counted c.take_requests.ensures.numbers c.take_requests.ensures.lists.0 c.take_requests.ensures.lists.1
    c.take_requests.ensures.given c.take_requests.ensures.fit c.take_requests.ensures.batches c.take_requests.ensures.newest c.take_requests.ensures.tallied c.self.invariant

pub invariant_of-self-2 : goal.invariant_of-self-2
invariant_of-self-2 g c =
    sound_taken c.self.inside.protocol.session _ c.self.inside.queue.items _ c.self.inside.count _ _ _ _ _ _ _ _ c.self.inside.tallies _
    c.take_requests.ensures.counted c.take_requests.ensures.numbers c.take_requests.ensures.lists.0 c.take_requests.ensures.lists.1
    c.take_requests.ensures.given c.take_requests.ensures.fit c.take_requests.ensures.batches c.take_requests.ensures.newest c.take_requests.ensures.tallied c.self.invariant
