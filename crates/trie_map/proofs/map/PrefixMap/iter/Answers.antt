use Rattle.trie_map.specs.Shape.{node_shape}
use Rattle.trie_model.proofs.ListLaws.{if_ok_map, listed}
use Rattle.trie_map.proofs.map.PrefixMap.iter.Goals as goal

pub returns-clause-list : goal.returns-clause-list
returns-clause-list g c = if_ok_map c.new.result (λ walk whole. listed node_shape g.P.Number.KeyBits.width c.self.inside.root _ _ c.args.self.now c.self.view_is whole c.view.ensures.pairs) c.new.ensures.whole
