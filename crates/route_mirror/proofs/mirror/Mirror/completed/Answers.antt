use Rattle.std.proofs.Common.{◌∙◌, ap, sym}
use Rattle.route_mirror.specs.Mirrors.{completed_step}
use Rattle.route_mirror.specs.Values.{mirror_value}
use Rattle.route_mirror.proofs.Dumps.{completes_by, or_taken, or_there}
use Rattle.route_mirror.proofs.mirror.Mirror.completed.Goals as goal
use Rattle.route_mirror.proofs.mirror.Mirror.completed.Goals.{in-Some-1, in-None-1, in-Some-2, in-None-2}

pub returns-then-is_some : goal.returns-then-is_some
returns-then-is_some c =
    let m = c.self.inside in
    let whole = c.take_whole-whole.result in
    let rest =
    ap (λ o. mirror_value m.peer m.table m.closed o c.end_dumps.new.running.items m.blocked) (or_taken whole m.in_force (sym c.if-is_some.ensures))
    ∙ completes_by m.peer m.table m.closed m.in_force m.blocked c.args.stream m.running.items c.take_whole-whole.new.running.items c.end_dumps.new.running.items whole
    c.take_whole-whole.ensures.table c.take_whole-whole.ensures.others c.end_dumps.ensures.dumps
    ∙ ap (completed_step c.args.stream) c.self.view_is in
    elim c.match-self-whole.branch [ in-Some-1 w ↦ w.self-is ∙ rest | in-None-1 w ↦ w.self-is ∙ rest ]

pub returns-else-is_some : goal.returns-else-is_some
returns-else-is_some c =
    let m = c.self.inside in
    let whole = c.take_whole-whole.result in
    let rest =
    ap (λ o. mirror_value m.peer m.table m.closed o c.end_dumps.new.running.items m.blocked) (or_there whole m.in_force (sym c.if-is_some.ensures))
    ∙ completes_by m.peer m.table m.closed m.in_force m.blocked c.args.stream m.running.items c.take_whole-whole.new.running.items c.end_dumps.new.running.items whole
    c.take_whole-whole.ensures.table c.take_whole-whole.ensures.others c.end_dumps.ensures.dumps
    ∙ ap (completed_step c.args.stream) c.self.view_is in
    elim c.match-whole.branch [ in-Some-2 w ↦ w.self-is ∙ rest | in-None-2 w ↦ w.self-is ∙ rest ]
