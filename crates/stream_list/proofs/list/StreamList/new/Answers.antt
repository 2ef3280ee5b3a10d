use Rattle.stream_list.proofs.Listed.{linked_fresh}
use Rattle.std.proofs.Common.{refl}
use Rattle.stream_list.proofs.list.StreamList.new.Goals as goal

pub invariant_of-result : goal.invariant_of-result
invariant_of-result g c = linked_fresh g.X.InStream.stream _ c.new.ensures.empty refl c.new-2.ensures.items
