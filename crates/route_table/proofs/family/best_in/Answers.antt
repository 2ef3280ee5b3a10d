use Rattle.std.proofs.lemmas.Result.{IfOk-at_ok}
use Rattle.route_table.proofs.BestIn.{none_best, first_best}
use Rattle.route_table.proofs.Entries.{nets_listed}
use Rattle.route_table.proofs.family.best_in.Goals as goal

pub returns-in_err-prefix-clause-best : goal.returns-in_err-prefix-clause-best
returns-in_err-prefix-clause-best g c =
    let w = g.P.Number.KeyBits.width in
    let pairs = IfOk-at_ok _ c.unwrap-visible.ensures c.covering_difference.ensures.pairs in
    rw c.from_residual.ensures
    (none_best w c.args.routes.now c.args.blocked.now (g.P.PlainPrefix.net c.args.address.now) _ _ _ c.view_counted-all.ensures.pairs
    c.view_counted-hidden.ensures.pairs pairs (IfOk-at_ok _ c.in_err-prefix.ensures c.find_lpm_value.ensures.longest))

pub returns-clause-best : goal.returns-clause-best
returns-clause-best g c =
    let w = g.P.Number.KeyBits.width in
    let h = c.in_ok-prefix.ensures in
    let pairs = IfOk-at_ok _ c.unwrap-visible.ensures c.covering_difference.ensures.pairs in
    let longest = IfOk-at_ok _ c.in_ok-prefix.ensures c.find_lpm_value.ensures.longest in
    first_best w c.args.routes.now c.args.blocked.now (g.P.PlainPrefix.net c.args.address.now) _ _ _ c.view_counted-all.ensures.pairs c.view_counted-hidden.ensures.pairs pairs
    (nets_listed w c.args.routes.now c.in_order.ensures.list c.in_order.ensures.nets) (g.P.PlainPrefix.net c.in_ok-prefix.prefix) c.in_ok-prefix.list.now
    c.first-priority.result.0 c.first-priority.result.1 longest.0 longest.1 longest.2 c.first-priority.ensures.there c.first-priority.ensures.least
