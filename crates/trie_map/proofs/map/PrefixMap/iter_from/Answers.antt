use Rattle.trie_map.specs.Shape.{node_shape}
use Rattle.trie_model.proofs.ListLaws.{if_ok_map, listed_on}
use Rattle.trie_map.proofs.map.PrefixMap.iter_from.Goals as goal

pub returns-clause-list : goal.returns-clause-list
returns-clause-list g c = if_ok_map c.starting.result
    (λ walk rest. listed_on node_shape g.P.Number.KeyBits.width c.self.inside.root c.args.inclusive (g.P.PlainPrefix.net c.args.prefix.now) _ _
    c.args.self.now c.self.view_is rest c.view.ensures.pairs) c.starting.ensures.rest
