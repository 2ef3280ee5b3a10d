use Rattle.std.proofs.Common.{arith}
use Rattle.nl_core.proofs.Lengths.{attributes_length-take}
use Rattle.nl_core.proofs.nla_list.attributes_len.Goals as goal

pub loop-x-preserved : goal.loop-x-preserved
loop-x-preserved g c =
    let loop = c.loop-x in
    let step =
    attributes_length-take g.X.Nla.kind_as_written g.X.Nla.value_text c.args.xs.now loop.x-index c.x-item.result c.loop-x-test.true c.x-item.is in
    omega (arith, step, loop.invariant, c.attribute_len.ensures, c.saturating_add-len.ensures)
