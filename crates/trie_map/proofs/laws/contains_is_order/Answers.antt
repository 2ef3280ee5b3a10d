use Rattle.trie_model.proofs.NodeLaws.{covers_trans}
use Rattle.trie_model.proofs.MapLists.{covers_same, covers_both}
use Rattle.trie_map.proofs.laws.contains_is_order.Goals as goal

pub returns-clause-reflexive : goal.returns-clause-reflexive
returns-clause-reflexive g c = covers_same g.P.Number.KeyBits.width (g.P.PlainPrefix.net c.args.a.now) c.number-number.ensures.prefix.no_rest

pub returns-clause-antisymmetric : goal.returns-clause-antisymmetric
returns-clause-antisymmetric g c = covers_both g.P.Number.KeyBits.width (g.P.PlainPrefix.net c.args.a.now) (g.P.PlainPrefix.net c.args.b.now) c.number-number-2.ensures.prefix.no_rest

pub returns-clause-transitive : goal.returns-clause-transitive
returns-clause-transitive g c = covers_trans g.P.Number.KeyBits.width (g.P.PlainPrefix.net c.args.a.now) (g.P.PlainPrefix.net c.args.b.now) (g.P.PlainPrefix.net c.args.c.now) c.requires.b
