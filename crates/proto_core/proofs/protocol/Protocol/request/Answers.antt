use Rattle.std.proofs.Common.{rules, subst, ap}
use Rattle.proto_core.specs.Refused.{IsCause}
use Rattle.proto_core.proofs.Numbered.{numbers-numbered, continues_same, continues_step}
use Rattle.proto_core.proofs.protocol.Protocol.request.Goals as goal

pub returns-in-Err-clause-numbers : goal.returns-in-Err-clause-numbers
returns-in-Err-clause-numbers g c = numbers-numbered _ _ _ _

pub returns-in-Err-clause-continues : goal.returns-in-Err-clause-continues
returns-in-Err-clause-continues g c = continues_same _ _ (rw (c.in-Err.ensures.same, c.prepare.ensures.queue) (ap (λ v. v.session) c.self.view_is))

pub returns-in-Err-clause-refused : goal.returns-in-Err-clause-refused
returns-in-Err-clause-refused g c =
    subst (λ last. IsCause g.T.NetlinkSerializable.text g.T.NetlinkSerializable.fitting last c.args.request.messages c.in-Err.refusal) (ap (λ v. v.session.last) c.self.view_is) c.in-Err.ensures.refused

pub returns-clause-numbers : goal.returns-clause-numbers
returns-clause-numbers g c = numbers-numbered _ _ _ _

pub returns-clause-ok : goal.returns-clause-ok
returns-clause-ok g c = search rules

pub returns-clause-continues : goal.returns-clause-continues
returns-clause-continues g c = continues_step _ _ _ _ _ (returns-clause-ok g c)
