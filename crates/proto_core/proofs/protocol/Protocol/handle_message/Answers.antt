use Rattle.std.proofs.Common.{ap}
use Rattle.proto_core.proofs.Arrived.{reply_step, unsolicited_step, continues_step, ended_step, below_step}
use Rattle.proto_core.proofs.protocol.Protocol.handle_message.Goals as goal

pub invariant_of-self : goal.invariant_of-self
invariant_of-self g c = below_step _ _ _ _ _ c.self.invariant c.settle.ensures

pub returns-in-Reply-clause-after : goal.returns-in-Reply-clause-after
returns-in-Reply-clause-after g c =
    reply_step _ _ _ _ _ _ _ _ (ap (λ v. v.session) c.self.view_is) c.would_handle-handled.ensures.ascending c.would_handle-handled.ensures.handled c.in-Reply.is c.settle.ensures c.push_back_reserved.ensures.items

pub returns-in-Reply-clause-continues : goal.returns-in-Reply-clause-continues
returns-in-Reply-clause-continues g c = continues_step _ _ _ (returns-in-Reply-clause-after g c)

pub returns-in-Reply-clause-ended : goal.returns-in-Reply-clause-ended
returns-in-Reply-clause-ended g c =
    λ m to. ended_step _ _ _ _ m (returns-in-Reply-clause-after g c) c.would_handle-handled.ensures.ascending c.would_handle-handled.ensures.handled to

pub returns-in-Unsolicited-clause-after : goal.returns-in-Unsolicited-clause-after
returns-in-Unsolicited-clause-after g c =
    unsolicited_step _ _ _ _ _ (ap (λ v. v.session) c.self.view_is) c.would_handle-handled.ensures.handled c.in-Unsolicited.is c.push_back_reserved-in-Unsolicited.ensures.items

pub returns-in-Unsolicited-clause-continues : goal.returns-in-Unsolicited-clause-continues
returns-in-Unsolicited-clause-continues g c = continues_step _ _ _ (returns-in-Unsolicited-clause-after g c)
