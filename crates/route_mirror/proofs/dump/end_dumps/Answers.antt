use Rattle.std.proofs.Common.{rules}
use Rattle.route_mirror.specs.Dumps.{is_other}
use Rattle.route_mirror.proofs.Lists.{retained}
use Rattle.route_mirror.proofs.dump.end_dumps.Goals as goal

pub returns-clause-dumps : goal.returns-clause-dumps
returns-clause-dumps c = retained _ (is_other c.args.stream) _ (λ x b g h. search rules) _ _ c.retain.ensures.filtered
