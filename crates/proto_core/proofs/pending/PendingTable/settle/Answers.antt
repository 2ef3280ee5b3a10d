use Rattle.proto_core.proofs.Entries.{ascending, removed}
use Rattle.proto_core.proofs.pending.PendingTable.settle.Goals as goal

pub invariant_of-self : goal.invariant_of-self
invariant_of-self g c = ascending _ c.remove.ensures.ordered

pub returns-then-done : goal.returns-then-done
returns-then-done g c = rw c.if-done.true (removed _ _ _ _ c.self.view_is c.self.invariant c.remove.ensures.entries)
