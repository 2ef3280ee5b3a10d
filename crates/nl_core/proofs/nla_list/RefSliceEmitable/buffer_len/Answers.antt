use Rattle.std.proofs.Common.{arith}
use Rattle.nl_core.specs.Attribute.{attribute_text}
use Rattle.nl_core.proofs.FlatLists.{flat-room}
use Rattle.nl_core.proofs.Lengths.{fit-parts}
use Rattle.nl_core.proofs.nla_list.RefSliceEmitable.buffer_len.Goals as goal

pub overflow_add-len : goal.overflow_add-len
overflow_add-len g c =
    let kind = g.X.Nla.kind_as_written in
    let value = g.X.Nla.value_text in
    let xs = c.args.self.now.now in
    let room = flat-room (λ x. attribute_text (kind x) (value x)) xs c.loop-x.x-index c.x-item.result c.loop-x-test.true c.x-item.is in
    omega (arith, room, c.loop-x.invariant, (fit-parts kind value xs c.requires).1, c.buffer_len-len.ensures)
