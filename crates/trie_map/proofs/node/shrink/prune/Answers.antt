use Rattle.std.proofs.Common.{rules}
use Rattle.trie_model.proofs.FullLaws.{full_gone, full_kept, some_left, some_right}
use Rattle.trie_map.specs.Shape.{node_shape}
use Rattle.trie_model.proofs.TakeLaws.{taken_in, kid_good_back, drop_keeps_at}
use Rattle.trie_map.specs.declared.node.Node.TheViews.{the_lemmas}
use Rattle.trie_map.proofs.node.shrink.prune.Goals as goal
use Rattle.trie_map.proofs.node.shrink.prune.Goals.{else-child-eq0-via-then-child-eq0+else-child-eq0-2, else-child-eq0-via-else-child-eq0}

pub returns-then-child-eq0-2-clause-good : goal.returns-then-child-eq0-2-clause-good
returns-then-child-eq0-2-clause-good g c = λ w d good. kid_good_back node_shape w d c.args.bit c.detach-child_bitmap.result.1 c.args.node.now _ good
    (taken_in c.args.bit _ _ _ _ _ _ _ (search (rules, the_lemmas)) (search (rules, the_lemmas)) c.detach-child_bitmap.ensures)
    (record { data_bits = search (rules, the_lemmas); items = search (rules, the_lemmas) })

pub returns-then-child-eq0-2-clause-keeps : goal.returns-then-child-eq0-2-clause-keeps
returns-then-child-eq0-2-clause-keeps g c = λ w d net ok deep is. drop_keeps_at node_shape w d c.args.bit net c.args.node.now _
    c.detach-child_bitmap.result.1 c.item_at-child.result.now c.item_at-child.ensures ok deep is
    (taken_in c.args.bit _ _ _ _ _ _ _ (search (rules, the_lemmas)) (search (rules, the_lemmas)) c.detach-child_bitmap.ensures)
    (record { data_bits = search (rules, the_lemmas); items = search (rules, the_lemmas) }) c.if-child-eq0.true c.if-child-eq0-2.true

pub returns-then-child-eq0-2-clause-full : goal.returns-then-child-eq0-2-clause-full
returns-then-child-eq0-2-clause-full g c = full_gone node_shape c.args.bit c.detach-child_bitmap.result.1 c.args.node.now _
    (taken_in c.args.bit _ _ _ _ _ _ _ (search (rules, the_lemmas)) (search (rules, the_lemmas)) c.detach-child_bitmap.ensures) c.requires.full

pub returns-else-child-eq0-clause-full : goal.returns-else-child-eq0-clause-full
returns-else-child-eq0-clause-full g c = full_kept node_shape c.args.bit c.item_at-child.result.now c.args.node.now c.item_at-child.ensures (elim c.else-child-eq0.branch [
  | else-child-eq0-via-then-child-eq0+else-child-eq0-2 w ↦ some_right _ _ w.if-child-eq0-2.false
  | else-child-eq0-via-else-child-eq0 w ↦ some_left _ _ w.if-child-eq0.false
]) c.requires.full
