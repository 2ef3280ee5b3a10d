use Rattle.std.proofs.Common.{◌≡◌, ◌++◌, map, take, drop, vec_len}
use Rattle.route_mirror.specs.Dumps.{dump_of, updated}
use Rattle.route_mirror.proofs.dump.update_all.Given as goal

abbrev pub invariant-loop-at : goal.invariant-loop-at
invariant-loop-at l = record {
  len : vec_len l.running ≡ l.at-end;
  dumps : map dump_of l.running.items
      ≡ map (updated l.update) (take l.at (map dump_of l.fn.running.items)) ++ drop l.at (map dump_of l.fn.running.items);
}
