use Rattle.std.proofs.Common.{ap}
use Rattle.proto_core.proofs.Queues.{no_outgoing, some_outgoing}
use Rattle.proto_core.proofs.protocol.Protocol.next_outgoing.Goals as goal

pub returns-clause-none : goal.returns-clause-none
returns-clause-none g c = no_outgoing _ _ _ _ (ap (λ v. v.session) c.self.view_is) c.pop_front.ensures.items c.pop_front.ensures.rest

pub returns-clause-some : goal.returns-clause-some
returns-clause-some g c = some_outgoing _ _ _ _ (ap (λ v. v.session) c.self.view_is) c.pop_front.ensures.items
