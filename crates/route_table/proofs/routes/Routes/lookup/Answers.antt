use Rattle.std.proofs.Common.{◌∙◌, Some, None}
use Rattle.trie_model.specs.Spots.{prefix_net}
use Rattle.route_table.proofs.Entries.{nets_listed}
use Rattle.route_table.proofs.Lookup.{answered_v4, answered_v6, found_v4, found_v6}
use Rattle.route_table.proofs.routes.Routes.lookup.Goals as goal

pub returns-in-Some-clause-answer : goal.returns-in-Some-clause-answer
returns-in-Some-clause-answer g c =
    let r = c.self.inside in
    let b = c.blocked.inside in
    let p = c.in-Some.prefix in
    rw (c.in-V4.is, ← c.self.view_is, ← c.blocked.view_is)
    (c.found.ensures ∙ found_v4 p c.in-Some.priority c.in-Some.hop c.in-Some.ensures.plain
    ∙ answered_v4 r.v4 r.v6 b.v4 b.v6 (nets_listed 32 r.v4 c.in_order.ensures.list c.in_order.ensures.nets) c.blocked.invariant.0 c.in-V4.number
    (Some (record { net = prefix_net 32 p.0 p.1; priority = c.in-Some.priority; hop = c.in-Some.hop })) c.in-Some.ensures.best)

pub returns-in-None-clause-answer : goal.returns-in-None-clause-answer
returns-in-None-clause-answer g c =
    let r = c.self.inside in
    let b = c.blocked.inside in
    rw (c.in-V4.is, ← c.self.view_is, ← c.blocked.view_is)
    (answered_v4 r.v4 r.v6 b.v4 b.v6 (nets_listed 32 r.v4 c.in_order.ensures.list c.in_order.ensures.nets) c.blocked.invariant.0 c.in-V4.number
    None c.in-None.ensures.best)

pub returns-in-Some-best_in-clause-answer : goal.returns-in-Some-best_in-clause-answer
returns-in-Some-best_in-clause-answer g c =
    let r = c.self.inside in
    let b = c.blocked.inside in
    let p = c.in-Some-best_in.prefix in
    rw (c.in-V6.is, ← c.self.view_is, ← c.blocked.view_is)
    (c.found-in-Some-best_in.ensures ∙ found_v6 p c.in-Some-best_in.priority c.in-Some-best_in.hop c.in-Some-best_in.ensures.plain
    ∙ answered_v6 r.v4 r.v6 b.v4 b.v6 (nets_listed 128 r.v6 c.in_order-in-V6.ensures.list c.in_order-in-V6.ensures.nets) c.blocked.invariant.1 c.in-V6.number
    (Some (record { net = prefix_net 128 p.0 p.1; priority = c.in-Some-best_in.priority; hop = c.in-Some-best_in.hop })) c.in-Some-best_in.ensures.best)

pub returns-in-None-best_in-clause-answer : goal.returns-in-None-best_in-clause-answer
returns-in-None-best_in-clause-answer g c =
    let r = c.self.inside in
    let b = c.blocked.inside in
    rw (c.in-V6.is, ← c.self.view_is, ← c.blocked.view_is)
    (answered_v6 r.v4 r.v6 b.v4 b.v6 (nets_listed 128 r.v6 c.in_order-in-V6.ensures.list c.in_order-in-V6.ensures.nets) c.blocked.invariant.1 c.in-V6.number
    None c.in-None-best_in.ensures.best)
