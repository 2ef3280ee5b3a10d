use Rattle.std.proofs.Common.{Some, None, sym}
use Rattle.std.proofs.lemmas.Result.{on_ok_weaker, on_err_weaker}
use Rattle.route_table.proofs.Entries.{nets_listed, put_same}
use Rattle.route_table.proofs.Families.{puts}
use Rattle.route_table.proofs.family.put.Goals as goal

pub returns-in-Some-clause-put : goal.returns-in-Some-clause-put
returns-in-Some-clause-put g c =
    let w = g.P.Number.KeyBits.width in
    let ok = nets_listed w c.args.routes.now c.in_order.ensures.list c.in_order.ensures.nets in
    on_ok_weaker c.put.result
    (puts w c.args.routes.now ok (g.P.PlainPrefix.net c.args.prefix) c.args.priority c.number-number.ensures.prefix (Some c.args.hop) c.put.new.self
    (Some c.in-Some.list.now) c.in-Some.ensures.value) c.put.ensures.put

pub returns-in-Some-clause-unchanged : goal.returns-in-Some-clause-unchanged
returns-in-Some-clause-unchanged g c =
    let w = g.P.Number.KeyBits.width in
    let ok = nets_listed w c.args.routes.now c.in_order.ensures.list c.in_order.ensures.nets in
    on_err_weaker c.put.result
    (λ same. put_same w c.args.routes.now ok (g.P.PlainPrefix.net c.args.prefix) c.put.new.self c.number-number.ensures.prefix (rw same (sym c.in-Some.ensures.value))) c.put.ensures.unchanged

pub returns-in-Ok-clause-put : goal.returns-in-Ok-clause-put
returns-in-Ok-clause-put g c =
    let w = g.P.Number.KeyBits.width in
    let ok = nets_listed w c.args.routes.now c.in_order.ensures.list c.in_order.ensures.nets in
    rw c.in-Ok.ensures.entry
    (puts w c.args.routes.now ok (g.P.PlainPrefix.net c.args.prefix) c.args.priority c.number-number.ensures.prefix (Some c.args.hop) c.new.result None c.in_default.ensures.value c.new.ensures)
