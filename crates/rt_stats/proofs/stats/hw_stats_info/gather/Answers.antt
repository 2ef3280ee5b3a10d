use Rattle.std.proofs.Common.{◌≡◌, arith, rules, sym, ◌∙◌, refl}
use Rattle.std.proofs.lemmas.Result.{err_from_is_err_and}
use Rattle.rt_stats.specs.HwInfo.{nothing}
use Rattle.rt_stats.specs.HwInfoLaws.{said-more, said-fault, said-refused, said-all}
use Rattle.rt_stats.proofs.stats.hw_stats_info.gather.Goals as goal

pub loop-rest-init : goal.loop-rest-init
loop-rest-init g c =
    let same : c.default-info.result ≡ nothing = Prim.search (rules, c.default-info.ensures) in
    rw same refl

pub returns-in_err-nla : goal.returns-in_err-nla
returns-in_err-nla g c =
    let loop = c.loop-rest in
    let p = err_from_is_err_and c.from_residual.result c.from_residual.ensures.1 in
    let bad = said-refused g.L.Level.says loop.info c.in_err-nla.field-0.0 loop.rest.now c.loop-rest-test.true (sym c.in_err-nla.ensures) in
    rw (p.1, p.2) (sym bad ∙ loop.invariant)

pub returns-in_err-said : goal.returns-in_err-said
returns-in_err-said g c =
    let loop = c.loop-rest in
    let p = err_from_is_err_and c.from_residual-in_err-said.result c.from_residual-in_err-said.ensures.1 in
    let bad = said-fault g.L.Level.says loop.info c.in_err-said.field-0.0 loop.rest.now c.in_ok-nla.nla c.loop-rest-test.true
    (sym c.in_ok-nla.ensures) (sym c.in_err-said.ensures) in
    rw (p.1, p.2) (sym bad ∙ loop.invariant)

pub loop-rest-preserved : goal.loop-rest-preserved
loop-rest-preserved g c =
    let loop = c.loop-rest in
    let more = said-more g.L.Level.says loop.info c.in_ok-said.said loop.rest.now c.in_ok-nla.nla c.loop-rest-test.true
    (sym c.in_ok-nla.ensures) (sym c.in_ok-said.ensures) in
    rw (c.updated-info.ensures, c.after-rest.ensures.value) (sym more ∙ loop.invariant)

pub returns : goal.returns
returns g c =
    sym (said-all g.L.Level.says c.loop-rest.info c.loop-rest.rest.now (omega (arith, c.loop-rest-test.false))) ∙ c.loop-rest.invariant
