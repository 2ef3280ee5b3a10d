use Rattle.std.proofs.Common.{◌∙◌, arith}
use Rattle.proto_core.proofs.Entries.{ascending, popped}
use Rattle.proto_core.proofs.pending.PendingTable.truncate.Goals as goal

pub loop-self-preserved : goal.loop-self-preserved
loop-self-preserved g c = record {
  ascending = ascending _ c.pop_last.ensures.ordered;
  kept = popped _ _ _ _ c.pop_last.ensures.variant c.pop_last.ensures.removal (omega (arith, c.len.ensures)) ∙ c.loop-self.invariant.kept;
}
