use Rattle.route_table.proofs.Entries.{nets_put}
use Rattle.route_table.proofs.Networks.{adds_net}
use Rattle.route_table.proofs.blocked.insert_into.Goals as goal

pub returns-in-Ok-clause-added : goal.returns-in-Ok-clause-added
returns-in-Ok-clause-added g c =
    rw c.in-Ok.ensures.added
    (adds_net g.P.Number.KeyBits.width c.args.set.now c.requires.nets (g.P.PlainPrefix.net c.args.prefix) c.requires.net)

pub returns-in-Ok-clause-nets : goal.returns-in-Ok-clause-nets
returns-in-Ok-clause-nets g c =
    rw c.in-Ok.ensures.added
    (nets_put g.P.Number.KeyBits.width c.args.set.now c.requires.nets (g.P.PlainPrefix.net c.args.prefix) tt c.requires.net)
