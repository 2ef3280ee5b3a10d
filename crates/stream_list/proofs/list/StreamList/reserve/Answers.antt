use Rattle.std.proofs.Common.{ap}
use Rattle.stream_list.specs.Listed.{Listed}
use Rattle.stream_list.proofs.Listed.{linked_roomier, listed_roomier, on_ok, room_left}
use Rattle.stream_list.proofs.list.StreamList.reserve.Goals as goal

pub invariant_of-self : goal.invariant_of-self
invariant_of-self g c =
    linked_roomier g.X.InStream.stream c.self.inside.links c.reserve.new.self c.reserve.new.self.capacity c.reserve.ensures.rest_kept c.self.invariant

pub returns-clause-room : goal.returns-clause-room
returns-clause-room g c =
    on_ok c.reserve.result (room_left g.X.InStream.stream c.self.inside.links c.reserve.new.self c.args.additional c.reserve.ensures.rest_kept c.self.invariant)
    c.reserve.ensures.room

pub returns-clause-items : goal.returns-clause-items
returns-clause-items g c =
    ap (λ (w : Listed g.row.X.Denot). w.items)
    (listed_roomier g.X.InStream.stream c.self.inside.links c.args.self.now c.reserve.new.self c.self.view_is c.reserve.ensures.rest_kept)

pub returns-clause-streams : goal.returns-clause-streams
returns-clause-streams g c =
    ap (λ (w : Listed g.row.X.Denot). w.room.streams)
    (listed_roomier g.X.InStream.stream c.self.inside.links c.args.self.now c.reserve.new.self c.self.view_is c.reserve.ensures.rest_kept)
