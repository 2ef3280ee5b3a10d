use Rattle.std.proofs.Common.{refl, ℕ, ap}
use Rattle.trie_model.specs.Nets.{Net}
use Rattle.trie_map.specs.Shape.{node_shape}
use Rattle.trie_model.proofs.RootLaws.{root_ref}
use Rattle.trie_model.proofs.TrieMaps.{root_pairs, list_of}
use Rattle.trie_map.proofs.trie_ref.root_view.Goals as goal

pub returns-clause-usable : goal.returns-clause-usable
returns-clause-usable g c = root_ref node_shape g.P.Number.KeyBits.width (g.P.Number.KeyBits.number c.zero.result) c.data_bitmap.result
    c.child_bitmap.result c.args.node.now c.visit-root.result.node.now c.requires.good c.requires.full c.zero.ensures c.visit-root.ensures.node
    c.data_bitmap.ensures c.child_bitmap.ensures

pub returns-clause-place : goal.returns-clause-place
returns-clause-place g c = let f : ℕ → Net = λ b. record { bits = b; len = 0 } in ap f c.zero.ensures

pub returns-clause-pairs : goal.returns-clause-pairs
returns-clause-pairs g c = root_pairs node_shape g.P.Number.KeyBits.width (g.P.Number.KeyBits.number c.zero.result) c.data_bitmap.result
    c.child_bitmap.result c.visit-root.result.node.now c.args.node.now (list_of node_shape g.P.Number.KeyBits.width c.args.node.now) c.zero.ensures
    c.visit-root.ensures.node c.data_bitmap.ensures c.child_bitmap.ensures refl
