use Rattle.std.proofs.Common.{Some, None, subst}
use Rattle.session_model.specs.declared.network.Network.TheVariants as network
use Rattle.route_table.specs.Lists.{PutsAt}
use Rattle.route_table.specs.Networks.{IsPlain}
use Rattle.route_table.proofs.Tables.{changed_v4, changed_v6, plain_v4, plain_v6}
use Rattle.route_table.proofs.routes.Routes.change.Goals as goal

pub put-requires : goal.put-requires
put-requires c = let plain : IsPlain (network.V4 c.in-V4-Some.prefix) = rw c.in-V4-Some.is-0 at c.requires in plain.fits

pub remove-requires : goal.remove-requires
remove-requires c = let plain : IsPlain (network.V4 c.in-V4-None.prefix) = rw c.in-V4-None.is-0 at c.requires in plain.fits

pub put-requires-in-V6-Some : goal.put-requires-in-V6-Some
put-requires-in-V6-Some c = let plain : IsPlain (network.V6 c.in-V6-Some.prefix) = rw c.in-V6-Some.is-0 at c.requires in plain.fits

pub remove-requires-in-V6-None : goal.remove-requires-in-V6-None
remove-requires-in-V6-None c = let plain : IsPlain (network.V6 c.in-V6-None.prefix) = rw c.in-V6-None.is-0 at c.requires in plain.fits

pub returns-in_ok-put-in-V4-Some-clause-changed : goal.returns-in_ok-put-in-V4-Some-clause-changed
returns-in_ok-put-in-V4-Some-clause-changed c =
    let plain : IsPlain (network.V4 c.in-V4-Some.prefix) = rw c.in-V4-Some.is-0 at c.requires in
    let old = c.self.inside.v4 in
    let new = c.put.new.routes in
    rw (c.in-V4-Some.is-0, c.in-V4-Some.is-1, ← c.self.view_is)
    (changed_v4 old new c.self.inside.v6 c.in-V4-Some.prefix c.args.change.now.priority (Some c.in-V4-Some.hop)
    (subst (λ net. PutsAt net c.args.change.now.priority (Some c.in-V4-Some.hop) old new) (plain_v4 c.in-V4-Some.prefix plain) c.in_ok-put-in-V4-Some.ensures.put))

pub returns-in-V4-None-clause-changed : goal.returns-in-V4-None-clause-changed
returns-in-V4-None-clause-changed c =
    let plain : IsPlain (network.V4 c.in-V4-None.prefix) = rw c.in-V4-None.is-0 at c.requires in
    let old = c.self.inside.v4 in
    let new = c.remove.new.routes in
    rw (c.in-V4-None.is-0, c.in-V4-None.is-1, ← c.self.view_is)
    (changed_v4 old new c.self.inside.v6 c.in-V4-None.prefix c.args.change.now.priority (None)
    (subst (λ net. PutsAt net c.args.change.now.priority (None) old new) (plain_v4 c.in-V4-None.prefix plain) c.remove.ensures))

pub returns-in_ok-put-in-V6-Some-clause-changed : goal.returns-in_ok-put-in-V6-Some-clause-changed
returns-in_ok-put-in-V6-Some-clause-changed c =
    let plain : IsPlain (network.V6 c.in-V6-Some.prefix) = rw c.in-V6-Some.is-0 at c.requires in
    let old = c.self.inside.v6 in
    let new = c.put-in-V6-Some.new.routes in
    rw (c.in-V6-Some.is-0, c.in-V6-Some.is-1, ← c.self.view_is)
    (changed_v6 old new c.self.inside.v4 c.in-V6-Some.prefix c.args.change.now.priority (Some c.in-V6-Some.hop)
    (subst (λ net. PutsAt net c.args.change.now.priority (Some c.in-V6-Some.hop) old new) (plain_v6 c.in-V6-Some.prefix plain) c.in_ok-put-in-V6-Some.ensures.put))

pub returns-in-V6-None-clause-changed : goal.returns-in-V6-None-clause-changed
returns-in-V6-None-clause-changed c =
    let plain : IsPlain (network.V6 c.in-V6-None.prefix) = rw c.in-V6-None.is-0 at c.requires in
    let old = c.self.inside.v6 in
    let new = c.remove-in-V6-None.new.routes in
    rw (c.in-V6-None.is-0, c.in-V6-None.is-1, ← c.self.view_is)
    (changed_v6 old new c.self.inside.v4 c.in-V6-None.prefix c.args.change.now.priority (None)
    (subst (λ net. PutsAt net c.args.change.now.priority (None) old new) (plain_v6 c.in-V6-None.prefix plain) c.remove-in-V6-None.ensures))
