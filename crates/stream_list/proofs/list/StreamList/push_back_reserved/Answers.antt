use Rattle.std.proofs.Common.{ap, arith}
use Rattle.stream_list.specs.Listed.{Listed}
use Rattle.stream_list.specs.Linked.{entries_of}
use Rattle.stream_list.proofs.Listed.{closed, listed_more, place_left}
use Rattle.stream_list.proofs.list.StreamList.push_back_reserved.Goals as goal

pub push-requires-clause-room : goal.push-requires-clause-room
push-requires-clause-room g c =
    place_left g.X.InStream.stream c.self.inside.links c.args.self.now c.self.view_is c.self.invariant (omega (arith, c.requires.room))

pub invariant_of-self : goal.invariant_of-self
invariant_of-self g c = closed g.X.InStream.stream c.push.new.self _ (c.push.ensures.linked (entries_of c.self.inside.links) c.self.invariant)

pub returns-clause-items : goal.returns-clause-items
returns-clause-items g c =
    ap (λ (w : Listed g.row.X.Denot). w.items) (listed_more g.X.InStream.stream c.self.inside.links c.push.new.self c.args.self.now _ c.args.item
    c.self.view_is (c.push.ensures.linked (entries_of c.self.inside.links) c.self.invariant) c.push.ensures.capacity c.push.ensures.streams)

pub returns-clause-room : goal.returns-clause-room
returns-clause-room g c =
    ap (λ (w : Listed g.row.X.Denot). w.room) (listed_more g.X.InStream.stream c.self.inside.links c.push.new.self c.args.self.now _ c.args.item
    c.self.view_is (c.push.ensures.linked (entries_of c.self.inside.links) c.self.invariant) c.push.ensures.capacity c.push.ensures.streams)
