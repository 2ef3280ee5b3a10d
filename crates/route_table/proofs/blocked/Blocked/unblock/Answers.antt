use Rattle.std.proofs.Common.{◌∙◌, sym}
use Rattle.session_model.specs.declared.network.Network.TheVariants as network
use Rattle.mirror_model.specs.Routes.{without_host_bits}
use Rattle.route_table.proofs.Networks.{listed_in, drops_v4, drops_v6}
use Rattle.route_table.proofs.blocked.Blocked.unblock.Goals as goal

pub returns-in-V4-clause-was : goal.returns-in-V4-clause-was
returns-in-V4-clause-was c =
    rw (c.in-V4.is, ← c.self.view_is)
    (c.remove_from.ensures.was ∙ sym (listed_in c.self.inside.v4 c.self.inside.v6 (without_host_bits (network.V4 c.in-V4.prefix))))

pub returns-in-V4-clause-dropped : goal.returns-in-V4-clause-dropped
returns-in-V4-clause-dropped c =
    rw (c.in-V4.is, ← c.self.view_is) (drops_v4 c.self.inside.v4 c.remove_from.new.set c.self.inside.v6 _ c.remove_from.ensures.dropped)

pub returns-in-V6-clause-was : goal.returns-in-V6-clause-was
returns-in-V6-clause-was c =
    rw (c.in-V6.is, ← c.self.view_is)
    (c.remove_from-in-V6.ensures.was ∙ sym (listed_in c.self.inside.v4 c.self.inside.v6 (without_host_bits (network.V6 c.in-V6.prefix))))

pub returns-in-V6-clause-dropped : goal.returns-in-V6-clause-dropped
returns-in-V6-clause-dropped c =
    rw (c.in-V6.is, ← c.self.view_is) (drops_v6 c.self.inside.v6 c.remove_from-in-V6.new.set c.self.inside.v4 _ c.remove_from-in-V6.ensures.dropped)
