use Rattle.std.proofs.Common.{◌≡◌, ◌≢◌, arith, rules, sym, ◌∙◌}
use Rattle.std.proofs.lemmas.Result.{err_from_is_err_and}
use Rattle.nl_core.specs.Attribute.{kind_of}
use Rattle.rt_stats.specs.AfSpec.{zeros}
use Rattle.rt_stats.specs.AfSpecLaws.{entry-none, entry-refused, entry-here, entry-later}
use Rattle.rt_stats.proofs.stats.af_spec.parse_mpls.Goals as goal

pub returns-in_err-nla : goal.returns-in_err-nla
returns-in_err-nla c =
    let p = err_from_is_err_and c.from_residual.result c.from_residual.ensures.1 in
    let bad = entry-refused c.in_err-nla.field-0.0 c.loop-rest.rest.now c.loop-rest-test.true (sym c.in_err-nla.ensures) in
    rw (p.1, p.2) (sym bad ∙ c.loop-rest.invariant)

pub returns-then-kind-eq-MPLS_STATS_LINK : goal.returns-then-kind-eq-MPLS_STATS_LINK
returns-then-kind-eq-MPLS_STATS_LINK c =
    let is : kind_of c.in_ok-nla.nla ≡ 1 = omega (arith, c.kind.ensures, c.if-kind-eq-MPLS_STATS_LINK.true) in
    let here = entry-here c.loop-rest.rest.now c.in_ok-nla.nla c.loop-rest-test.true (sym c.in_ok-nla.ensures) is in
    rw (c.parse.ensures, c.value.ensures) (sym here ∙ c.loop-rest.invariant)

pub loop-rest-preserved : goal.loop-rest-preserved
loop-rest-preserved c =
    let other : kind_of c.in_ok-nla.nla ≢ 1 = λ same. absurd (omega (arith, same, c.kind.ensures, c.if-kind-eq-MPLS_STATS_LINK.false)) in
    let later = entry-later c.loop-rest.rest.now c.in_ok-nla.nla c.loop-rest-test.true (sym c.in_ok-nla.ensures) other in
    rw c.after-rest.ensures.value (sym later ∙ c.loop-rest.invariant)

pub returns : goal.returns
returns c =
    let same : c.default.result ≡ zeros = Prim.search (rules, c.default.ensures) in
    rw same (sym (entry-none c.loop-rest.rest.now (omega (arith, c.loop-rest-test.false))) ∙ c.loop-rest.invariant)
