use Rattle.std.proofs.Common.{refl}
use Rattle.stream_list.proofs.Listed.{linked_streams}
use Rattle.stream_list.proofs.list.StreamList.reserve_stream.Goals as goal

pub invariant_of-self : goal.invariant_of-self
invariant_of-self g c = linked_streams g.X.InStream.stream c.self.inside.links _ refl refl c.hold.ensures.same c.self.invariant
