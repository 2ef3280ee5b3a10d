use Rattle.stream_list.proofs.Listed.{has_none, linked_left, oldest_of_stream, took_oldest}
use Rattle.stream_list.proofs.list.StreamList.pop_front_of.Goals as goal

pub returns-in_err-place-clause-none : goal.returns-in_err-place-clause-none
returns-in_err-place-clause-none g c =
    has_none g.X.InStream.stream c.self.inside.links c.args.self.now c.args.stream c.self.view_is c.self.invariant c.ends_at.result
    c.as_slice.result.now c.ends_at.ensures c.as_slice.ensures.value c.in_err-place.was c.from_residual.result c.from_residual.ensures

pub take-requires : goal.take-requires
take-requires g c =
    (oldest_of_stream g.X.InStream.stream c.self.inside.links c.in_ok-place.place c.args.stream c.self.invariant c.ends_at.result
    c.as_slice.result.now c.ends_at.ensures c.as_slice.ensures.value c.in_ok-place.was).oldest

pub invariant_of-self : goal.invariant_of-self
invariant_of-self g c =
    let o = oldest_of_stream g.X.InStream.stream c.self.inside.links c.in_ok-place.place c.args.stream c.self.invariant c.ends_at.result
    c.as_slice.result.now c.ends_at.ensures c.as_slice.ensures.value c.in_ok-place.was in
    linked_left g.X.InStream.stream c.self.inside.links c.take.new.self c.args.self.now c.in_ok-place.place c.take.result c.self.view_is
    o.oldest c.take.ensures.taken c.take.ensures.capacity c.take.ensures.streams

pub returns-clause-some : goal.returns-clause-some
returns-clause-some g c =
    let o = oldest_of_stream g.X.InStream.stream c.self.inside.links c.in_ok-place.place c.args.stream c.self.invariant c.ends_at.result
    c.as_slice.result.now c.ends_at.ensures c.as_slice.ensures.value c.in_ok-place.was in
    took_oldest g.X.InStream.stream c.self.inside.links c.take.new.self c.args.self.now c.in_ok-place.place c.take.result c.self.view_is
    o.oldest c.take.ensures.taken c.take.ensures.capacity c.take.ensures.streams c.args.stream o.own
