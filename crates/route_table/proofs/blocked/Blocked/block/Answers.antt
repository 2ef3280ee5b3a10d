use Rattle.std.proofs.Common.{◌∙◌, ap, not, sym}
use Rattle.std.proofs.lemmas.Result.{IfOk-weaker, on_ok_weaker}
use Rattle.session_model.specs.declared.network.Network.TheVariants as network
use Rattle.mirror_model.specs.Routes.{without_host_bits}
use Rattle.route_table.proofs.Networks.{listed_in, adds_v4, adds_v6}
use Rattle.route_table.proofs.blocked.Blocked.block.Goals as goal

pub returns-in-V4-clause-new : goal.returns-in-V4-clause-new
returns-in-V4-clause-new c =
    rw (c.in-V4.is, ← c.self.view_is)
    (IfOk-weaker c.insert_into.result _ _
    (λ new is. is ∙ ap not (sym (listed_in c.self.inside.v4 c.self.inside.v6 (without_host_bits (network.V4 c.in-V4.prefix))))) c.insert_into.ensures.new)

pub returns-in-V4-clause-added : goal.returns-in-V4-clause-added
returns-in-V4-clause-added c =
    rw (c.in-V4.is, ← c.self.view_is)
    (on_ok_weaker c.insert_into.result (adds_v4 c.self.inside.v4 c.insert_into.new.set c.self.inside.v6 _) c.insert_into.ensures.added)

pub returns-in-V6-clause-new : goal.returns-in-V6-clause-new
returns-in-V6-clause-new c =
    rw (c.in-V6.is, ← c.self.view_is)
    (IfOk-weaker c.insert_into-in-V6.result _ _
    (λ new is. is ∙ ap not (sym (listed_in c.self.inside.v4 c.self.inside.v6 (without_host_bits (network.V6 c.in-V6.prefix))))) c.insert_into-in-V6.ensures.new)

pub returns-in-V6-clause-added : goal.returns-in-V6-clause-added
returns-in-V6-clause-added c =
    rw (c.in-V6.is, ← c.self.view_is)
    (on_ok_weaker c.insert_into-in-V6.result (adds_v6 c.self.inside.v6 c.insert_into-in-V6.new.set c.self.inside.v4 _) c.insert_into-in-V6.ensures.added)
