use Rattle.std.proofs.Common.{rules, arith, refl, ◌+◌, ◌≤◌, slice_set, Ok}
use Rattle.std.specs.declared.alloc.AllocFailed.{AllocFailed}
use Rattle.trie_model.proofs.NodeLaws.{good_here, good_child, slot-lt}
use Rattle.trie_model.proofs.FullLaws.{full_child, full_put, full_same, some_put, some_new}
use Rattle.trie_map.specs.Shape.{node_shape}
use Rattle.trie_model.proofs.PutLaws.{same_keeps, kid_was, none_was}
use Rattle.trie_model.proofs.PutNodes.{test_on, test_off, same_good, held_at, kid_done_good, kid_result, put_in}
use Rattle.trie_model.proofs.SlotLaws.{put_over}
use Rattle.trie_map.specs.declared.node.Node.TheViews.{out-Node, the_lemmas}
use Rattle.trie_map.proofs.node.grow.+insert_below.Goals as goal

pub index_mut-requires : goal.index_mut-requires
index_mut-requires g t c = let here = good_here node_shape g.W.KeyBits.width c.args.depth c.args.node.now c.requires.good in
    let on = test_on (out-Node g.row.T.Denot c.args.node.now).child_bitmap c.child_toward-bit.result c.if-node-bit-eq1.true in
    let lt = slot-lt (out-Node g.row.T.Denot c.args.node.now).child_bitmap c.child_toward-bit.result on in let len = here.children in
    search (rules, the_lemmas, lt, len)

pub insert_below-requires : goal.insert_below-requires
insert_below-requires g t c κs within = let here = good_here node_shape g.W.KeyBits.width c.args.depth c.args.node.now c.requires.good in
    let on = test_on (out-Node g.row.T.Denot c.args.node.now).child_bitmap c.child_toward-bit.result c.if-node-bit-eq1.true in
    let held = held_at (out-Node g.row.T.Denot c.args.node.now).child_bitmap c.child_toward-bit.result c.slot.result
    (out-Node g.row.T.Denot c.args.node.now).children.items c.index_mut.result.now on here.children c.slot.ensures c.index_mut.ensures.value in
    let kid_ok = good_child node_shape g.W.KeyBits.width c.args.depth c.args.node.now c.requires.good _ c.index_mut.result.now held.1 in
    let long : c.args.depth + 5 ≤ c.args.len = omega (arith, c.if-len-depth-lt5.false) in
    let kid_full = (full_child node_shape c.args.node.now c.requires.full c.child_toward-bit.result c.index_mut.result.now held).1 in
    search (rules, kid_ok, kid_full, long)

pub returns-then-node-bit-eq1-clause-good : goal.returns-then-node-bit-eq1-clause-good
returns-then-node-bit-eq1-clause-good g t c = let here = good_here node_shape g.W.KeyBits.width c.args.depth c.args.node.now c.requires.good in
    let on = test_on (out-Node g.row.T.Denot c.args.node.now).child_bitmap c.child_toward-bit.result c.if-node-bit-eq1.true in
    let deep : c.args.depth + 5 ≤ g.W.KeyBits.width = omega (arith, c.if-len-depth-lt5.false, c.requires.net.len_fits) in
    kid_done_good node_shape g.W.KeyBits.width c.args.depth c.child_toward-bit.result c.args.node.now _ c.insert_below.new.node _ _ _ _
    c.requires.good deep (record {
      from_child_bits = refl;
      from_children = refl;
      child_bits = search (rules, the_lemmas);
      children = search (rules, the_lemmas);
      data_bits = search (rules, the_lemmas);
      items = search (rules, the_lemmas);
    })
    (put_over c.child_toward-bit.result (out-Node g.row.T.Denot c.args.node.now).child_bitmap c.slot.result
    (out-Node g.row.T.Denot c.args.node.now).children.items
    (slice_set (out-Node g.row.T.Denot c.args.node.now).children.items c.slot.result c.insert_below.new.node) c.insert_below.new.node
    here.children_fit on here.children refl c.slot.ensures) c.insert_below.ensures.good

pub returns-then-node-bit-eq1-clause-put : goal.returns-then-node-bit-eq1-clause-put
returns-then-node-bit-eq1-clause-put g t c = let here = good_here node_shape g.W.KeyBits.width c.args.depth c.args.node.now c.requires.good in
    let on = test_on (out-Node g.row.T.Denot c.args.node.now).child_bitmap c.child_toward-bit.result c.if-node-bit-eq1.true in
    let held = held_at (out-Node g.row.T.Denot c.args.node.now).child_bitmap c.child_toward-bit.result c.slot.result
    (out-Node g.row.T.Denot c.args.node.now).children.items c.index_mut.result.now on here.children c.slot.ensures c.index_mut.ensures.value in
    let long : c.args.depth + 5 ≤ c.args.len = omega (arith, c.if-len-depth-lt5.false) in
    kid_result (λ e. e.value) node_shape g.W.KeyBits.width c.args.depth c.child_toward-bit.result
    (record { bits = g.W.KeyBits.number c.args.key; len = c.args.len }) c.args.value c.args.node.now _ c.index_mut.result.now c.insert_below.new.node
    _ _ _ _ c.insert_below.result c.requires.net long c.child_toward-bit.ensures.bit
    (record {
      from_child_bits = refl;
      from_children = refl;
      child_bits = search (rules, the_lemmas);
      children = search (rules, the_lemmas);
      data_bits = search (rules, the_lemmas);
      items = search (rules, the_lemmas);
    })
    (put_over c.child_toward-bit.result (out-Node g.row.T.Denot c.args.node.now).child_bitmap c.slot.result
    (out-Node g.row.T.Denot c.args.node.now).children.items
    (slice_set (out-Node g.row.T.Denot c.args.node.now).children.items c.slot.result c.insert_below.new.node) c.insert_below.new.node
    here.children_fit on here.children refl c.slot.ensures)
    (kid_was node_shape g.W.KeyBits.width c.args.depth c.child_toward-bit.result c.args.node.now c.index_mut.result.now held)
    c.insert_below.ensures.put

pub returns-then-is_err-clause-good : goal.returns-then-is_err-clause-good
returns-then-is_err-clause-good g t c = same_good node_shape g.W.KeyBits.width c.args.depth c.args.node.now _ c.requires.good
    (record { data_bits = search (rules, the_lemmas); items = search (rules, the_lemmas) })
    (record { child_bits = search (rules, the_lemmas); children = search (rules, the_lemmas) })

pub returns-then-is_err-clause-put : goal.returns-then-is_err-clause-put
returns-then-is_err-clause-put g t c = (
  same_keeps node_shape g.W.KeyBits.width c.args.depth
      (record { bits = g.W.KeyBits.number c.args.key; len = c.args.len }) c.args.node.now _
      (record { data_bits = search (rules, the_lemmas); items = search (rules, the_lemmas) })
      (record { child_bits = search (rules, the_lemmas); children = search (rules, the_lemmas) }),
  refl,
)

pub attach-node-requires-clause-compact : goal.attach-node-requires-clause-compact
attach-node-requires-clause-compact g t c = let here = good_here node_shape g.W.KeyBits.width c.args.depth c.args.node.now c.requires.good in let len = here.children in search (rules, the_lemmas, len)

pub attach-node-requires-clause-clear : goal.attach-node-requires-clause-clear
attach-node-requires-clause-clear g t c = let off = test_off (out-Node g.row.T.Denot c.args.node.now).child_bitmap c.child_toward-bit.result c.if-node-bit-eq1.false in search (rules, the_lemmas, off)

pub returns-in-Err-clause-good : goal.returns-in-Err-clause-good
returns-in-Err-clause-good g t c = same_good node_shape g.W.KeyBits.width c.args.depth c.args.node.now _ c.requires.good
    (record { data_bits = search (rules, the_lemmas); items = search (rules, the_lemmas) })
    (record { child_bits = search (rules, the_lemmas); children = search (rules, the_lemmas) })

pub returns-in-Err-clause-put : goal.returns-in-Err-clause-put
returns-in-Err-clause-put g t c = (
  same_keeps node_shape g.W.KeyBits.width c.args.depth
      (record { bits = g.W.KeyBits.number c.args.key; len = c.args.len }) c.args.node.now _
      (record { data_bits = search (rules, the_lemmas); items = search (rules, the_lemmas) })
      (record { child_bits = search (rules, the_lemmas); children = search (rules, the_lemmas) }),
  c.in-Err.ensures.put.1,
)

pub returns-clause-good : goal.returns-clause-good
returns-clause-good g t c = let deep : c.args.depth + 5 ≤ g.W.KeyBits.width = omega (arith, c.if-len-depth-lt5.false, c.requires.net.len_fits) in
    kid_done_good node_shape g.W.KeyBits.width c.args.depth c.child_toward-bit.result c.args.node.now _ c.insert_below-2.new.node _ _ _ _
    c.requires.good deep (record {
      from_child_bits = search (rules, the_lemmas);
      from_children = search (rules, the_lemmas);
      child_bits = search (rules, the_lemmas);
      children = search (rules, the_lemmas);
      data_bits = search (rules, the_lemmas);
      items = search (rules, the_lemmas);
    }) c.attach-node.ensures.put c.insert_below-2.ensures.good

pub returns-clause-put : goal.returns-clause-put
returns-clause-put g t c = let off = test_off (out-Node g.row.T.Denot c.args.node.now).child_bitmap c.child_toward-bit.result c.if-node-bit-eq1.false
    in let long : c.args.depth + 5 ≤ c.args.len = omega (arith, c.if-len-depth-lt5.false) in
    kid_result {E = AllocFailed g.row.T.Denot} (λ e. e.value) node_shape g.W.KeyBits.width c.args.depth c.child_toward-bit.result
    (record { bits = g.W.KeyBits.number c.args.key; len = c.args.len }) c.args.value c.args.node.now _ c.empty-child.result c.insert_below-2.new.node
    _ _ _ _ (Ok c.in-Ok.was) c.requires.net long c.child_toward-bit.ensures.bit
    (record {
      from_child_bits = search (rules, the_lemmas);
      from_children = search (rules, the_lemmas);
      child_bits = search (rules, the_lemmas);
      children = search (rules, the_lemmas);
      data_bits = search (rules, the_lemmas);
      items = search (rules, the_lemmas);
    }) c.attach-node.ensures.put
    (none_was node_shape g.W.KeyBits.width c.args.depth c.child_toward-bit.result c.args.node.now c.empty-child.result off
    c.empty-child.ensures.data_bits c.empty-child.ensures.child_bits) c.in-Ok.ensures.put

pub returns-then-node-bit-eq1-clause-full : goal.returns-then-node-bit-eq1-clause-full
returns-then-node-bit-eq1-clause-full g t c = let here = good_here node_shape g.W.KeyBits.width c.args.depth c.args.node.now c.requires.good in
    let on = test_on (out-Node g.row.T.Denot c.args.node.now).child_bitmap c.child_toward-bit.result c.if-node-bit-eq1.true in
    let held = held_at (out-Node g.row.T.Denot c.args.node.now).child_bitmap c.child_toward-bit.result c.slot.result
    (out-Node g.row.T.Denot c.args.node.now).children.items c.index_mut.result.now on here.children c.slot.ensures c.index_mut.ensures.value in
    let was = full_child node_shape c.args.node.now c.requires.full c.child_toward-bit.result c.index_mut.result.now held in
    let long : c.args.depth + 5 ≤ c.args.len = omega (arith, c.if-len-depth-lt5.false) in
    full_put node_shape c.child_toward-bit.result c.insert_below.new.node c.args.node.now _
    (put_in c.child_toward-bit.result c.insert_below.new.node _ _ _ _ _ _ _ _ refl refl (search (rules, the_lemmas)) (search (rules, the_lemmas))
    (put_over c.child_toward-bit.result (out-Node g.row.T.Denot c.args.node.now).child_bitmap c.slot.result
    (out-Node g.row.T.Denot c.args.node.now).children.items
    (slice_set (out-Node g.row.T.Denot c.args.node.now).children.items c.slot.result c.insert_below.new.node) c.insert_below.new.node
    here.children_fit on here.children refl c.slot.ensures)) c.requires.full
    (some_put c.insert_below.result (λ e. e.value) node_shape g.W.KeyBits.width (c.args.depth + 5)
    (record { bits = g.W.KeyBits.number c.args.key; len = c.args.len }) c.args.value c.index_mut.result.now c.insert_below.new.node c.requires.net
    long c.insert_below.ensures.put c.insert_below.ensures.refused c.insert_below.ensures.kept was.0) c.insert_below.ensures.full

pub returns-then-is_err-clause-full : goal.returns-then-is_err-clause-full
returns-then-is_err-clause-full g t c = full_same node_shape c.args.node.now _ c.requires.full (search (rules, the_lemmas)) (search (rules, the_lemmas))

pub returns-in-Err-clause-full : goal.returns-in-Err-clause-full
returns-in-Err-clause-full g t c = full_same node_shape c.args.node.now _ c.requires.full (search (rules, the_lemmas)) (search (rules, the_lemmas))

pub returns-clause-full : goal.returns-clause-full
returns-clause-full g t c = let long : c.args.depth + 5 ≤ c.args.len = omega (arith, c.if-len-depth-lt5.false) in
    full_put node_shape c.child_toward-bit.result c.insert_below-2.new.node c.args.node.now _
    (put_in c.child_toward-bit.result c.insert_below-2.new.node _ _ _ _ _ _ _ _ (search (rules, the_lemmas)) (search (rules, the_lemmas))
    (search (rules, the_lemmas)) (search (rules, the_lemmas)) c.attach-node.ensures.put) c.requires.full
    (some_new {E = AllocFailed g.row.T.Denot} (λ e. e.value) node_shape g.W.KeyBits.width (c.args.depth + 5)
    (record { bits = g.W.KeyBits.number c.args.key; len = c.args.len }) c.args.value c.empty-child.result c.insert_below-2.new.node c.in-Ok.was
    c.requires.net long c.in-Ok.ensures.put) c.insert_below-2.ensures.full

pub returns-then-len-depth-lt5-clause-full : goal.returns-then-len-depth-lt5-clause-full
returns-then-len-depth-lt5-clause-full g t c = full_same node_shape c.args.node.now c.put_here.new.node c.requires.full c.put_here.ensures.child_bits c.put_here.ensures.children
