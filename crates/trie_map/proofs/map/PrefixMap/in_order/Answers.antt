use Rattle.std.proofs.Common.{subst, sym}
use Rattle.trie_map.specs.Shape.{node_shape}
use Rattle.trie_model.specs.Walks.{Within, Ascends}
use Rattle.trie_model.specs.Maps.{map_of}
use Rattle.trie_model.proofs.MapLists.{list_of_map}
use Rattle.trie_model.proofs.TrieMaps.{of_width}
use Rattle.trie_map.proofs.map.PrefixMap.in_order.Goals as goal

pub returns-clause-list : goal.returns-clause-list
returns-clause-list g c = record {
  ascends = subst (Ascends g.P.Number.KeyBits.width) c.self.view_is
      (list_of_map g.P.Number.KeyBits.width (map_of node_shape g.P.Number.KeyBits.width c.self.inside.root)
      (of_width node_shape g.P.Number.KeyBits.width c.self.inside.root)).ascends;
  same = λ n x. ((λ h. h), (λ h. h));
}

pub returns-clause-nets : goal.returns-clause-nets
returns-clause-nets g c n x h = let l = list_of_map g.P.Number.KeyBits.width (map_of node_shape g.P.Number.KeyBits.width c.self.inside.root)
    (of_width node_shape g.P.Number.KeyBits.width c.self.inside.root) in
    of_width node_shape g.P.Number.KeyBits.width c.self.inside.root n x ((l.same n x).0 (subst (λ ps. Within ps n x) (sym c.self.view_is) h))
