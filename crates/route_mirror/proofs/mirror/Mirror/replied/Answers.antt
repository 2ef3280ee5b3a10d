use Rattle.std.proofs.Common.{◌∙◌}
use Rattle.route_mirror.proofs.Dumps.{reply_continues, reply_failed, reply_finished}
use Rattle.route_mirror.proofs.mirror.Mirror.replied.Goals as goal

pub returns-in-Continues-clause-replied : goal.returns-in-Continues-clause-replied
returns-in-Continues-clause-replied c =
    let m = c.self.inside in
    rw (← c.self.view_is, c.in-Continues.is)
    (reply_continues m.peer m.table m.closed m.in_force m.blocked c.args.stream c.args.update.now c.requires.stream m.running.items c.update_all.new.running.items
    c.in_ok-update_all.ensures)

pub returns-in-Failed-clause-replied : goal.returns-in-Failed-clause-replied
returns-in-Failed-clause-replied c =
    let m = c.self.inside in
    rw (← c.self.view_is, c.in-Failed.is)
    (reply_failed m.peer m.table m.closed m.in_force m.blocked c.args.stream c.args.update.now c.requires.stream m.running.items c.update_all.new.running.items
    c.in_ok-update_all.ensures c.end_dumps.new.running.items c.end_dumps.ensures.dumps)

pub returns-in-Finished-clause-replied : goal.returns-in-Finished-clause-replied
returns-in-Finished-clause-replied c =
    let m = c.self.inside in
    rw (← c.self.view_is, c.in-Finished.is)
    (c.completed.ensures
    ∙ reply_finished m.peer m.table m.closed m.in_force m.blocked c.args.stream c.args.update.now c.requires.stream m.running.items c.update_all.new.running.items
    c.in_ok-update_all.ensures)
