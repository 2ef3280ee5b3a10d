use Rattle.route_table.proofs.Entries.{nets_none}
use Rattle.route_table.proofs.blocked.Blocked.new.Goals as goal

pub invariant_of-result : goal.invariant_of-result
invariant_of-result c = rw (c.new.ensures, c.new-2.ensures) (nets_none 32, nets_none 128)
