use Rattle.std.proofs.Common.{refl}
use Rattle.route_mirror.proofs.Dumps.{asked_dumps}
use Rattle.route_mirror.proofs.dump.begin_dump.Goals as goal

pub returns : goal.returns
returns c = rw (c.in-Ok.ensures.items, c.end_dumps.ensures.dumps, asked_dumps c.args.stream, c.new.ensures) refl
