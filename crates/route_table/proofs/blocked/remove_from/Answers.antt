use Rattle.route_table.proofs.Entries.{nets_removed}
use Rattle.route_table.proofs.Networks.{drops_net}
use Rattle.route_table.proofs.blocked.remove_from.Goals as goal

pub returns-clause-dropped : goal.returns-clause-dropped
returns-clause-dropped g c =
    rw c.remove.ensures.gone (drops_net g.P.Number.KeyBits.width c.args.set.now c.requires.nets (g.P.PlainPrefix.net c.args.prefix.now))

pub returns-clause-nets : goal.returns-clause-nets
returns-clause-nets g c =
    rw c.remove.ensures.gone (nets_removed g.P.Number.KeyBits.width c.args.set.now c.requires.nets (g.P.PlainPrefix.net c.args.prefix.now))
