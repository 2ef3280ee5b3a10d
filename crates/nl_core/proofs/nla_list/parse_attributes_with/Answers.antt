use Rattle.std.proofs.Common.{arith, sym}
use Rattle.std.proofs.lemmas.Result.{err_from_is_err_and}
use Rattle.nl_core.proofs.Walk.{goes_on, ends, ends_checked, is_done, checked_ok}
use Rattle.nl_core.proofs.nla_list.parse_attributes_with.Goals as goal

pub returns-in_err-nla : goal.returns-in_err-nla
returns-in_err-nla g c =
    let read = g.X.ParseableParametrized.reads c.args.param in
    let loop = c.loop-rest in
    let p = err_from_is_err_and c.from_residual.result c.from_residual.ensures.1 in
    rw (p.1, p.2)
    (ends_checked c.in_err-nla.field-0.0 read loop.items loop.rest.now _ c.loop-rest-test.true (sym c.in_err-nla.ensures) loop.invariant)

pub returns-in_err-item : goal.returns-in_err-item
returns-in_err-item g c =
    let read = g.X.ParseableParametrized.reads c.args.param in
    let loop = c.loop-rest in
    let p = err_from_is_err_and c.from_residual-in_err-item.result c.from_residual-in_err-item.ensures.1 in
    let k = checked_ok loop.rest.now c.in_ok-nla.nla (sym c.in_ok-nla.ensures) in
    rw (p.1, p.2)
    (ends c.in_err-item.field-0.0 read loop.items loop.rest.now _ c.loop-rest-test.true k.0 (rw (← k.1) c.in_err-item.ensures) loop.invariant)

pub loop-rest-preserved : goal.loop-rest-preserved
loop-rest-preserved g c =
    let read = g.X.ParseableParametrized.reads c.args.param in
    let loop = c.loop-rest in
    let k = checked_ok loop.rest.now c.in_ok-nla.nla (sym c.in_ok-nla.ensures) in
    rw (c.in_ok-push.ensures.ok, c.after-rest.ensures.value, k.1)
    (goes_on read loop.items loop.rest.now c.in_ok-item.item _ c.loop-rest-test.true k.0 (rw (← k.1) c.in_ok-item.ensures) loop.invariant)

pub returns : goal.returns
returns g c =
    is_done (g.X.ParseableParametrized.reads c.args.param) c.loop-rest.items c.loop-rest.rest.now _ (omega arith) c.loop-rest.invariant
