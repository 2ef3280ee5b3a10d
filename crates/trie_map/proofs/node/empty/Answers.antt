use Rattle.std.proofs.Common.{◌∙◌, ap}
use Rattle.trie_model.proofs.RootLaws.{good_empty}
use Rattle.trie_model.proofs.FullLaws.{full_leaf}
use Rattle.trie_map.specs.Shape.{node_shape}
use Rattle.trie_map.specs.declared.node.Node.TheViews.{roll-Node, out-roll-Node}
use Rattle.trie_map.proofs.node.empty.Goals as goal

pub returns-clause-good : goal.returns-clause-good
returns-clause-good g c = λ w d k.
    let is = out-roll-Node g.row.T.Denot (record { data_bitmap = 0; child_bitmap = 0; items = c.new.result; children = c.new-2.result }) in
    good_empty node_shape w d (roll-Node g.row.T.Denot
    (record { data_bitmap = 0; child_bitmap = 0; items = c.new.result; children = c.new-2.result })) (ap (λ r. r.data_bitmap) is)
    (ap (λ r. r.child_bitmap) is) (ap (λ r. r.items.items) is ∙ c.new.ensures.items) (ap (λ r. r.children.items) is ∙ c.new-2.ensures.items) k

pub returns-clause-full : goal.returns-clause-full
returns-clause-full g c = λ k.
    let is = out-roll-Node g.row.T.Denot (record { data_bitmap = 0; child_bitmap = 0; items = c.new.result; children = c.new-2.result }) in
    full_leaf node_shape (roll-Node g.row.T.Denot (record { data_bitmap = 0; child_bitmap = 0; items = c.new.result; children = c.new-2.result })) (ap (λ r. r.child_bitmap) is) k
