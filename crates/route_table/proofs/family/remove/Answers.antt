use Rattle.std.proofs.Common.{Some, None}
use Rattle.route_table.proofs.Entries.{nets_listed}
use Rattle.route_table.proofs.Families.{puts, takes}
use Rattle.route_table.proofs.family.remove.Goals as goal

pub returns-then-remove : goal.returns-then-remove
returns-then-remove g c =
    let w = g.P.Number.KeyBits.width in
    let ok = nets_listed w c.args.routes.now c.in_order.ensures.list c.in_order.ensures.nets in
    rw c.remove-then-remove.ensures.gone
    (takes w c.args.routes.now ok (g.P.PlainPrefix.net c.args.prefix.now) c.args.priority c.number-number.ensures.prefix c.remove.new.self c.in-Some.list.now
    c.in-Some.ensures.value (c.remove.ensures.only c.if-remove.true))

pub returns-else-remove : goal.returns-else-remove
returns-else-remove g c =
    let w = g.P.Number.KeyBits.width in
    let ok = nets_listed w c.args.routes.now c.in_order.ensures.list c.in_order.ensures.nets in
    puts w c.args.routes.now ok (g.P.PlainPrefix.net c.args.prefix.now) c.args.priority c.number-number.ensures.prefix None c.remove.new.self
    (Some c.in-Some.list.now) c.in-Some.ensures.value (c.remove.ensures.removed c.if-remove.false)
