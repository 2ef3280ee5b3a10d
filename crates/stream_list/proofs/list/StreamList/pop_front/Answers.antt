use Rattle.std.proofs.Common.{refl}
use Rattle.stream_list.proofs.Listed.{linked_left, oldest_of_all, was_first}
use Rattle.stream_list.proofs.list.StreamList.pop_front.Goals as goal

pub take-requires : goal.take-requires
take-requires g c = oldest_of_all g.X.InStream.stream c.self.inside.links c.in_ok-place.place c.self.invariant c.in_ok-place.was

pub invariant_of-self : goal.invariant_of-self
invariant_of-self g c =
    linked_left g.X.InStream.stream c.self.inside.links c.take.new.self c.args.self.now c.in_ok-place.place c.take.result c.self.view_is
    (oldest_of_all g.X.InStream.stream c.self.inside.links c.in_ok-place.place c.self.invariant c.in_ok-place.was)
    c.take.ensures.taken c.take.ensures.capacity c.take.ensures.streams

pub returns-clause-some : goal.returns-clause-some
returns-clause-some g c =
    was_first g.X.InStream.stream c.self.inside.links c.take.new.self c.args.self.now c.in_ok-place.place c.take.result c.self.view_is
    (oldest_of_all g.X.InStream.stream c.self.inside.links c.in_ok-place.place c.self.invariant c.in_ok-place.was)
    c.take.ensures.taken c.take.ensures.capacity c.take.ensures.streams refl
