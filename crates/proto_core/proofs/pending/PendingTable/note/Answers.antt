use Rattle.proto_core.proofs.Entries.{ascending, noted_last}
use Rattle.proto_core.proofs.pending.PendingTable.note.Goals as goal

pub invariant_of-self-2 : goal.invariant_of-self-2
invariant_of-self-2 g c = ascending _ c.insert.ensures.ordered

pub returns-clause-ok : goal.returns-clause-ok
returns-clause-ok g c = noted_last _ _ _ _ _ c.self.view_is c.requires c.in_ok-insert.ensures.entries
