use Rattle.std.proofs.Common.{◌∙◌, ◌≡◌, ap, sym, Some, None}
use Rattle.std.specs.List.{position}
use Rattle.std.specs.Option.{option_map}
use Rattle.route_mirror.specs.declared.dump.RunningDump.{RunningDump}
use Rattle.route_mirror.specs.Dumps.{is_whole}
use Rattle.route_mirror.proofs.Dumps.{others_stay}
use Rattle.route_mirror.proofs.Lists.{find_there, find_nowhere}
use Rattle.route_mirror.proofs.dump.take_whole.Goals as goal

pub returns-in_default-clause-table : goal.returns-in_default-clause-table
returns-in_default-clause-table c =
    let ds = c.args.running.now.items in
    let place : None ≡ position (is_whole c.args.stream) ds = rw c.deref.ensures.value at c.in_default.ensures in
    sym (ap (option_map (λ (d : RunningDump). d.routes)) (find_nowhere (is_whole c.args.stream) ds (sym place)))

pub returns-clause-table : goal.returns-clause-table
returns-clause-table c =
    let ds = c.args.running.now.items in
    let place : Some c.in-Some.at ≡ position (is_whole c.args.stream) ds = rw c.deref.ensures.value at c.in-Some.ensures in
    ap (λ (d : RunningDump). Some d.routes) c.remove-routes.ensures.value
    ∙ sym (ap (option_map (λ (d : RunningDump). d.routes)) (find_there (is_whole c.args.stream) ds c.in-Some.at c.remove-routes.result (sym place)))

pub returns-clause-others : goal.returns-clause-others
returns-clause-others c =
    let ds = c.args.running.now.items in
    let place : Some c.in-Some.at ≡ position (is_whole c.args.stream) ds = rw c.deref.ensures.value at c.in-Some.ensures in
    rw c.remove-routes.ensures.items (others_stay c.args.stream ds c.in-Some.at c.remove-routes.result (sym place))
