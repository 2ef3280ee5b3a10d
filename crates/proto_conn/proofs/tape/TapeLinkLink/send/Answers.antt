use Rattle.std.proofs.Common.{◌≡◌, ap, sym, ◌∙◌}
use Rattle.proto_conn.specs.Tapes.{counted}
use Rattle.proto_conn.specs.declared.tape.Planned.TheVariants as planned
use Rattle.proto_conn.proofs.Tapes.{send_fails, send_stalls}
use Rattle.proto_conn.proofs.tape.TapeLinkLink.send.Goals as goal

pub returns-in-Fails-clause-did : goal.returns-in-Fails-clause-did
returns-in-Fails-clause-did c =
    let now : c.planned.new.self ≡ counted planned.Fails c.args.self.now = c.planned.ensures.counted ∙ ap (λ p. counted p c.args.self.now) c.in-Fails.is in
    rw now (send_fails c.args.self.now _ c.args.to (sym c.in-Fails.is ∙ c.planned.ensures.plan) (rw now at c.planned.ensures.rises.0))

pub returns-in-Stalls-clause-did : goal.returns-in-Stalls-clause-did
returns-in-Stalls-clause-did c =
    let now : c.planned.new.self ≡ counted planned.Stalls c.args.self.now = c.planned.ensures.counted ∙ ap (λ p. counted p c.args.self.now) c.in-Stalls.is in
    rw now (send_stalls c.args.self.now _ c.args.to (sym c.in-Stalls.is ∙ c.planned.ensures.plan) (rw now at c.planned.ensures.rises.1))
