use Rattle.std.proofs.Common.{arith}
use Rattle.nl_core.specs.Attribute.{attribute_text}
use Rattle.nl_core.proofs.FlatLists.{flat-room}
use Rattle.nl_core.proofs.nla_list.RefSliceEmitable.emit.Goals as goal

pub put-requires-clause-room : goal.put-requires-clause-room
put-requires-clause-room g c =
    let kind = g.X.Nla.kind_as_written in
    let value = g.X.Nla.value_text in
    let room = flat-room (λ x. attribute_text (kind x) (value x)) c.args.self.now.now c.loop-x.x-index c.x-item.result c.loop-x-test.true c.x-item.is in
    omega (arith, room, c.loop-x.invariant.at, c.requires.room)
