use Rattle.std.proofs.Common.{◌∙◌, ap, add-one, arith}
use Rattle.route_mirror.specs.Dumps.{dump_of, updated}
use Rattle.route_mirror.proofs.Lists.{map_next}
use Rattle.route_mirror.proofs.dump.update_all.Goals as goal

pub loop-at-preserved : goal.loop-at-preserved
loop-at-preserved c = record {
  len = c.loop-at.invariant.len;
  dumps =
      rw add-one
      (map_next dump_of (updated c.args.update.now) c.loop-at.at _ c.loop-at.running.items c.update.new.self c.index_mut.result.now c.loop-at.invariant.dumps
      (omega (arith, c.loop-at.running.ok)) (c.in_ok-update.ensures ∙ ap (λ d. updated c.args.update.now (dump_of d)) c.index_mut.ensures.value));
}
