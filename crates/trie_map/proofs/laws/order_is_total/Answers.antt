use Rattle.trie_model.proofs.CountLaws.{order_apart}
use Rattle.trie_model.proofs.MapLists.{order_is}
use Rattle.trie_map.proofs.laws.order_is_total.Goals as goal

pub returns-clause-before : goal.returns-clause-before
returns-clause-before g c = order_is g.P.Number.KeyBits.width (g.P.PlainPrefix.net c.args.a.now) (g.P.PlainPrefix.net c.args.b.now) c.requires.a c.requires.b

pub returns-clause-same : goal.returns-clause-same
returns-clause-same g c = order_apart g.P.Number.KeyBits.width (g.P.PlainPrefix.net c.args.a.now) (g.P.PlainPrefix.net c.args.b.now) c.requires.a c.requires.b
