use Rattle.std.proofs.Common.{refl}
use Rattle.route_mirror.proofs.mirror.Mirror.asked.Goals as goal

pub returns-clause-asked : goal.returns-clause-asked
returns-clause-asked c = rw (← c.self.view_is, c.begin_dump.ensures, c.in_ok-reserve.ensures.items) refl
