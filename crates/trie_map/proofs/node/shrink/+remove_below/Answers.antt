use Rattle.std.proofs.Common.{rules, arith, refl, ◌+◌, ◌≤◌, slice_set}
use Rattle.std.specs.Vec.{with_item}
use Rattle.trie_model.proofs.NodeLaws.{good_here, good_child, slot-lt}
use Rattle.trie_model.proofs.FullLaws.{full_child, full_but, full_same}
use Rattle.trie_map.specs.Shape.{node_shape}
use Rattle.trie_model.proofs.PutNodes.{test_on, test_off, held_at, put_in, kid_done_good, kid_none}
use Rattle.trie_model.proofs.SlotLaws.{put_over}
use Rattle.trie_model.proofs.TakeLaws.{put_over_back, kid_taken, take_then, keeps_none}
use Rattle.trie_map.specs.declared.node.Node.TheViews.{out-Node, roll-Node, the_lemmas}
use Rattle.trie_map.proofs.node.shrink.+remove_below.Goals as goal

pub index_mut-requires : goal.index_mut-requires
index_mut-requires g t c = let here = good_here node_shape g.W.KeyBits.width c.args.depth c.args.node.now c.requires.good in
    let on = test_on (out-Node g.row.T.Denot c.args.node.now).child_bitmap c.child_toward-bit.result c.if-node-bit-eq1.true in
    let lt = slot-lt (out-Node g.row.T.Denot c.args.node.now).child_bitmap c.child_toward-bit.result on in let len = here.children in
    search (rules, the_lemmas, lt, len)

pub remove_below-was-requires : goal.remove_below-was-requires
remove_below-was-requires g t c κs within = let here = good_here node_shape g.W.KeyBits.width c.args.depth c.args.node.now c.requires.good in
    let on = test_on (out-Node g.row.T.Denot c.args.node.now).child_bitmap c.child_toward-bit.result c.if-node-bit-eq1.true in
    let held = held_at (out-Node g.row.T.Denot c.args.node.now).child_bitmap c.child_toward-bit.result c.slot.result
    (out-Node g.row.T.Denot c.args.node.now).children.items c.index_mut.result.now on here.children c.slot.ensures c.index_mut.ensures.value in
    let kid_ok = good_child node_shape g.W.KeyBits.width c.args.depth c.args.node.now c.requires.good _ c.index_mut.result.now held.1 in
    let long : c.args.depth + 5 ≤ c.args.len = omega (arith, c.if-len-depth-lt5.false) in
    let kid_full = (full_child node_shape c.args.node.now c.requires.full c.child_toward-bit.result c.index_mut.result.now held).1 in
    search (rules, kid_ok, kid_full, long)

pub prune-requires-clause-compact : goal.prune-requires-clause-compact
prune-requires-clause-compact g t c = let here = good_here node_shape g.W.KeyBits.width c.args.depth c.args.node.now c.requires.good in
    let on = test_on (out-Node g.row.T.Denot c.args.node.now).child_bitmap c.child_toward-bit.result c.if-node-bit-eq1.true in
    let len = (put_over c.child_toward-bit.result (out-Node g.row.T.Denot c.args.node.now).child_bitmap c.slot.result
    (out-Node g.row.T.Denot c.args.node.now).children.items
    (slice_set (out-Node g.row.T.Denot c.args.node.now).children.items c.slot.result c.remove_below-was.new.node) c.remove_below-was.new.node
    here.children_fit on here.children refl c.slot.ensures).len in search (rules, the_lemmas, len)

pub prune-requires-clause-set : goal.prune-requires-clause-set
prune-requires-clause-set g t c = let on = test_on (out-Node g.row.T.Denot c.args.node.now).child_bitmap c.child_toward-bit.result c.if-node-bit-eq1.true in search (rules, the_lemmas, on)

pub returns-then-node-bit-eq1-clause-good : goal.returns-then-node-bit-eq1-clause-good
returns-then-node-bit-eq1-clause-good g t c = let here = good_here node_shape g.W.KeyBits.width c.args.depth c.args.node.now c.requires.good in
    let on = test_on (out-Node g.row.T.Denot c.args.node.now).child_bitmap c.child_toward-bit.result c.if-node-bit-eq1.true in
    let deep : c.args.depth + 5 ≤ g.W.KeyBits.width = omega (arith, c.if-len-depth-lt5.false, c.requires.net.len_fits) in
    let mid = roll-Node g.row.T.Denot (record {
      data_bitmap = (out-Node g.row.T.Denot c.args.node.now).data_bitmap;
      child_bitmap = (out-Node g.row.T.Denot c.args.node.now).child_bitmap;
      items = (out-Node g.row.T.Denot c.args.node.now).items;
      children = with_item
          (out-Node g.row.T.Denot c.args.node.now).children c.slot.result c.remove_below-was.new.node;
    }) in
    c.prune.ensures.good g.W.KeyBits.width c.args.depth
    (kid_done_good node_shape g.W.KeyBits.width c.args.depth c.child_toward-bit.result c.args.node.now mid c.remove_below-was.new.node _ _ _ _
    c.requires.good deep (record {
      from_child_bits = refl;
      from_children = refl;
      child_bits = search (rules, the_lemmas);
      children = search (rules, the_lemmas);
      data_bits = search (rules, the_lemmas);
      items = search (rules, the_lemmas);
    })
    (put_over c.child_toward-bit.result (out-Node g.row.T.Denot c.args.node.now).child_bitmap c.slot.result
    (out-Node g.row.T.Denot c.args.node.now).children.items
    (slice_set (out-Node g.row.T.Denot c.args.node.now).children.items c.slot.result c.remove_below-was.new.node) c.remove_below-was.new.node
    here.children_fit on here.children refl c.slot.ensures) c.remove_below-was.ensures.good)

pub returns-then-node-bit-eq1-clause-take : goal.returns-then-node-bit-eq1-clause-take
returns-then-node-bit-eq1-clause-take g t c = let here = good_here node_shape g.W.KeyBits.width c.args.depth c.args.node.now c.requires.good in
    let on = test_on (out-Node g.row.T.Denot c.args.node.now).child_bitmap c.child_toward-bit.result c.if-node-bit-eq1.true in
    let held = held_at (out-Node g.row.T.Denot c.args.node.now).child_bitmap c.child_toward-bit.result c.slot.result
    (out-Node g.row.T.Denot c.args.node.now).children.items c.index_mut.result.now on here.children c.slot.ensures c.index_mut.ensures.value in
    let long : c.args.depth + 5 ≤ c.args.len = omega (arith, c.if-len-depth-lt5.false) in
    let mid = roll-Node g.row.T.Denot (record {
      data_bitmap = (out-Node g.row.T.Denot c.args.node.now).data_bitmap;
      child_bitmap = (out-Node g.row.T.Denot c.args.node.now).child_bitmap;
      items = (out-Node g.row.T.Denot c.args.node.now).items;
      children = with_item
          (out-Node g.row.T.Denot c.args.node.now).children c.slot.result c.remove_below-was.new.node;
    }) in
    take_then node_shape g.W.KeyBits.width c.args.depth (record { bits = g.W.KeyBits.number c.args.key; len = c.args.len }) c.args.node.now mid
    c.prune.new.node c.remove_below-was.result (record { is_net = c.requires.net; low = c.requires.low; way = refl })
    (kid_taken node_shape g.W.KeyBits.width c.args.depth c.child_toward-bit.result (record { bits = g.W.KeyBits.number c.args.key; len = c.args.len })
    c.args.node.now mid c.index_mut.result.now c.remove_below-was.new.node c.remove_below-was.result c.requires.net long
    c.child_toward-bit.ensures.bit held (put_in c.child_toward-bit.result c.remove_below-was.new.node _ _ _ _ _ _ _ _ refl refl
    (search (rules, the_lemmas)) (search (rules, the_lemmas))
    (put_over c.child_toward-bit.result (out-Node g.row.T.Denot c.args.node.now).child_bitmap c.slot.result
    (out-Node g.row.T.Denot c.args.node.now).children.items
    (slice_set (out-Node g.row.T.Denot c.args.node.now).children.items c.slot.result c.remove_below-was.new.node) c.remove_below-was.new.node
    here.children_fit on here.children refl c.slot.ensures))
    (put_in c.child_toward-bit.result c.index_mut.result.now _ _ _ _ _ _ _ _ (search (rules, the_lemmas)) (search (rules, the_lemmas)) refl refl
    (put_over_back c.child_toward-bit.result (out-Node g.row.T.Denot c.args.node.now).child_bitmap c.slot.result
    (out-Node g.row.T.Denot c.args.node.now).children.items
    (slice_set (out-Node g.row.T.Denot c.args.node.now).children.items c.slot.result c.remove_below-was.new.node) c.remove_below-was.new.node
    c.index_mut.result.now here.children_fit here.children held refl c.slot.ensures))
    (record { data_bits = search (rules, the_lemmas); items = search (rules, the_lemmas) }) c.remove_below-was.ensures.take)
    (c.prune.ensures.keeps g.W.KeyBits.width c.args.depth (record { bits = g.W.KeyBits.number c.args.key; len = c.args.len }) c.requires.net long
    c.child_toward-bit.ensures.bit)

pub returns-clause-take : goal.returns-clause-take
returns-clause-take g t c = let long : c.args.depth + 5 ≤ c.args.len = omega (arith, c.if-len-depth-lt5.false) in
    keeps_none node_shape g.W.KeyBits.width c.args.depth (record { bits = g.W.KeyBits.number c.args.key; len = c.args.len }) c.args.node.now
    (kid_none node_shape g.W.KeyBits.width c.args.depth c.child_toward-bit.result (record { bits = g.W.KeyBits.number c.args.key; len = c.args.len })
    c.args.node.now long c.child_toward-bit.ensures.bit (test_off _ _ c.if-node-bit-eq1.false))

pub returns-then-len-depth-lt5-clause-full : goal.returns-then-len-depth-lt5-clause-full
returns-then-len-depth-lt5-clause-full g t c = full_same node_shape c.args.node.now c.take_here.new.node c.requires.full c.take_here.ensures.child_bits c.take_here.ensures.children

pub prune-requires-clause-full : goal.prune-requires-clause-full
prune-requires-clause-full g t c = let here = good_here node_shape g.W.KeyBits.width c.args.depth c.args.node.now c.requires.good in
    let on = test_on (out-Node g.row.T.Denot c.args.node.now).child_bitmap c.child_toward-bit.result c.if-node-bit-eq1.true in
    full_but node_shape c.child_toward-bit.result c.remove_below-was.new.node c.args.node.now _
    (put_in c.child_toward-bit.result c.remove_below-was.new.node _ _ _ _ _ _ _ _ refl refl (search (rules, the_lemmas)) (search (rules, the_lemmas))
    (put_over c.child_toward-bit.result (out-Node g.row.T.Denot c.args.node.now).child_bitmap c.slot.result
    (out-Node g.row.T.Denot c.args.node.now).children.items
    (slice_set (out-Node g.row.T.Denot c.args.node.now).children.items c.slot.result c.remove_below-was.new.node) c.remove_below-was.new.node
    here.children_fit on here.children refl c.slot.ensures)) c.requires.full c.remove_below-was.ensures.full
