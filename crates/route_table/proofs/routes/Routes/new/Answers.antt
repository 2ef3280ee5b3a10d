use Rattle.std.proofs.Common.{refl}
use Rattle.route_table.specs.RouteTables.{table_of}
use Rattle.route_table.proofs.routes.Routes.new.Goals as goal

pub returns : goal.returns
unfolding table_of
returns c = rw (c.new.ensures, c.new-2.ensures) refl
