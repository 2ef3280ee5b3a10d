use Rattle.std.proofs.Common.{sym, subst, ◌≡◌, bit_and}
use Rattle.std.specs.Prelude.{◌↔◌}
use Rattle.trie_map.specs.Shape.{node_shape}
use Rattle.trie_map.specs.declared.node.Visited.{Visited}
use Rattle.trie_model.proofs.Places.{place_is}
use Rattle.trie_model.specs.Nets.{Net, IsNet}
use Rattle.trie_model.specs.Tries.{ref_at}
use Rattle.trie_model.specs.Inside.{LiesIn, SomeIn}
use Rattle.trie_model.proofs.FullLaws.{some_left, some_right}
use Rattle.trie_model.proofs.TrieMaps.{list_of}
use Rattle.trie_model.proofs.InsideLaws.{found, found_some, found_none, unreached}
use Rattle.trie_map.proofs.trie_ref.view_inside.Goals as goal
use Rattle.trie_map.proofs.trie_ref.view_inside.Goals.{else-data_bitmap-eq0-via-then-data_bitmap-eq0+else-child_bitmap-eq0, else-data_bitmap-eq0-via-else-data_bitmap-eq0}

pub node_of-requires-clause-net : goal.node_of-requires-clause-net
node_of-requires-clause-net g c =
    let e : (record { bits = g.P.Number.KeyBits.number c.number-key.result; len = c.length-len.result }) ≡ g.P.PlainPrefix.net
    c.args.prefix.now = place_is (g.P.PlainPrefix.net c.args.prefix.now) (g.P.Number.KeyBits.number c.number-key.result) c.length-len.result
    c.number-key.ensures.bits c.length-len.ensures in
    let ok : IsNet g.P.Number.KeyBits.width (record { bits = g.P.Number.KeyBits.number c.number-key.result; len = c.length-len.result }) = subst (IsNet g.P.Number.KeyBits.width) (sym e) c.number-key.ensures.prefix in
    ok

pub returns-in_default-clause-none : goal.returns-in_default-clause-none
returns-in_default-clause-none g c =
    let e : (record { bits = g.P.Number.KeyBits.number c.number-key.result; len = c.length-len.result }) ≡ g.P.PlainPrefix.net
    c.args.prefix.now = place_is (g.P.PlainPrefix.net c.args.prefix.now) (g.P.Number.KeyBits.number c.number-key.result) c.length-len.result
    c.number-key.ensures.bits c.length-len.ensures in
    let ok : IsNet g.P.Number.KeyBits.width (record { bits = g.P.Number.KeyBits.number c.number-key.result; len = c.length-len.result }) = subst (IsNet g.P.Number.KeyBits.width) (sym e) c.number-key.ensures.prefix in
    subst (λ z. SomeIn g.P.Number.KeyBits.width z (list_of node_shape g.P.Number.KeyBits.width c.args.node.now) → ⊥) e
    (unreached {R = Visited g.row.T.Denot} (λ r. r.node.now) node_shape g.P.Number.KeyBits.width
    (record { bits = g.P.Number.KeyBits.number c.number-key.result; len = c.length-len.result }) c.args.node.now c.in_default.ensures.node)

pub data_cover_mask-requires-clause-fits : goal.data_cover_mask-requires-clause-fits
data_cover_mask-requires-clause-fits g c =
    let e : (record { bits = g.P.Number.KeyBits.number c.number-key.result; len = c.length-len.result }) ≡ g.P.PlainPrefix.net
    c.args.prefix.now = place_is (g.P.PlainPrefix.net c.args.prefix.now) (g.P.Number.KeyBits.number c.number-key.result) c.length-len.result
    c.number-key.ensures.bits c.length-len.ensures in
    let ok : IsNet g.P.Number.KeyBits.width (record { bits = g.P.Number.KeyBits.number c.number-key.result; len = c.length-len.result }) = subst (IsNet g.P.Number.KeyBits.width) (sym e) c.number-key.ensures.prefix in
    ok.bits_fit

pub data_cover_mask-requires-clause-end : goal.data_cover_mask-requires-clause-end
data_cover_mask-requires-clause-end g c =
    let e : (record { bits = g.P.Number.KeyBits.number c.number-key.result; len = c.length-len.result }) ≡ g.P.PlainPrefix.net
    c.args.prefix.now = place_is (g.P.PlainPrefix.net c.args.prefix.now) (g.P.Number.KeyBits.number c.number-key.result) c.length-len.result
    c.number-key.ensures.bits c.length-len.ensures in
    let ok : IsNet g.P.Number.KeyBits.width (record { bits = g.P.Number.KeyBits.number c.number-key.result; len = c.length-len.result }) = subst (IsNet g.P.Number.KeyBits.width) (sym e) c.number-key.ensures.prefix in
    ok.len_fits

pub child_cover_mask-requires-clause-fits : goal.child_cover_mask-requires-clause-fits
child_cover_mask-requires-clause-fits g c =
    let e : (record { bits = g.P.Number.KeyBits.number c.number-key.result; len = c.length-len.result }) ≡ g.P.PlainPrefix.net
    c.args.prefix.now = place_is (g.P.PlainPrefix.net c.args.prefix.now) (g.P.Number.KeyBits.number c.number-key.result) c.length-len.result
    c.number-key.ensures.bits c.length-len.ensures in
    let ok : IsNet g.P.Number.KeyBits.width (record { bits = g.P.Number.KeyBits.number c.number-key.result; len = c.length-len.result }) = subst (IsNet g.P.Number.KeyBits.width) (sym e) c.number-key.ensures.prefix in
    ok.bits_fit

pub child_cover_mask-requires-clause-end : goal.child_cover_mask-requires-clause-end
child_cover_mask-requires-clause-end g c =
    let e : (record { bits = g.P.Number.KeyBits.number c.number-key.result; len = c.length-len.result }) ≡ g.P.PlainPrefix.net
    c.args.prefix.now = place_is (g.P.PlainPrefix.net c.args.prefix.now) (g.P.Number.KeyBits.number c.number-key.result) c.length-len.result
    c.number-key.ensures.bits c.length-len.ensures in
    let ok : IsNet g.P.Number.KeyBits.width (record { bits = g.P.Number.KeyBits.number c.number-key.result; len = c.length-len.result }) = subst (IsNet g.P.Number.KeyBits.width) (sym e) c.number-key.ensures.prefix in
    ok.len_fits

pub returns-then-child_bitmap-eq0-clause-none : goal.returns-then-child_bitmap-eq0-clause-none
returns-then-child_bitmap-eq0-clause-none g c =
    let e : (record { bits = g.P.Number.KeyBits.number c.number-key.result; len = c.length-len.result }) ≡ g.P.PlainPrefix.net
    c.args.prefix.now = place_is (g.P.PlainPrefix.net c.args.prefix.now) (g.P.Number.KeyBits.number c.number-key.result) c.length-len.result
    c.number-key.ensures.bits c.length-len.ensures in
    let ok : IsNet g.P.Number.KeyBits.width (record { bits = g.P.Number.KeyBits.number c.number-key.result; len = c.length-len.result }) = subst (IsNet g.P.Number.KeyBits.width) (sym e) c.number-key.ensures.prefix in
    let h = found {R = Visited g.row.T.Denot} (λ r. r.node.now) node_shape g.P.Number.KeyBits.width
    (record { bits = g.P.Number.KeyBits.number c.number-key.result; len = c.length-len.result }) c.args.node.now c.in-Some.node
    c.data_bitmap.result c.child_bitmap.result c.data_cover_mask.result c.child_cover_mask.result ok c.in-Some.ensures.node c.data_bitmap.ensures
    c.child_bitmap.ensures c.data_cover_mask.ensures.mask c.child_cover_mask.ensures.mask in
    subst (λ z. SomeIn g.P.Number.KeyBits.width z (list_of node_shape g.P.Number.KeyBits.width c.args.node.now) → ⊥) e
    (found_none node_shape g.P.Number.KeyBits.width _ c.args.node.now _ _ _ h c.if-data_bitmap-eq0.true c.if-child_bitmap-eq0.true)

pub returns-clause-found : goal.returns-clause-found
returns-clause-found g c =
    let e : (record { bits = g.P.Number.KeyBits.number c.number-key.result; len = c.length-len.result }) ≡ g.P.PlainPrefix.net
    c.args.prefix.now = place_is (g.P.PlainPrefix.net c.args.prefix.now) (g.P.Number.KeyBits.number c.number-key.result) c.length-len.result
    c.number-key.ensures.bits c.length-len.ensures in
    let ok : IsNet g.P.Number.KeyBits.width (record { bits = g.P.Number.KeyBits.number c.number-key.result; len = c.length-len.result }) = subst (IsNet g.P.Number.KeyBits.width) (sym e) c.number-key.ensures.prefix in
    let h = found {R = Visited g.row.T.Denot} (λ r. r.node.now) node_shape g.P.Number.KeyBits.width
    (record { bits = g.P.Number.KeyBits.number c.number-key.result; len = c.length-len.result }) c.args.node.now c.in-Some.node
    c.data_bitmap.result c.child_bitmap.result c.data_cover_mask.result c.child_cover_mask.result ok c.in-Some.ensures.node c.data_bitmap.ensures
    c.child_bitmap.ensures c.data_cover_mask.ensures.mask c.child_cover_mask.ensures.mask in
    subst (λ z. SomeIn g.P.Number.KeyBits.width z (list_of node_shape g.P.Number.KeyBits.width c.args.node.now)) e (found_some node_shape g.P.Number.KeyBits.width _ c.args.node.now _ _ _ h
    (elim c.else-data_bitmap-eq0.branch [
      | else-data_bitmap-eq0-via-then-data_bitmap-eq0+else-child_bitmap-eq0 w ↦ some_right _ _
          w.if-child_bitmap-eq0.false
      | else-data_bitmap-eq0-via-else-data_bitmap-eq0 w ↦ some_left _ _ w.if-data_bitmap-eq0.false
    ]))

pub returns-clause-usable : goal.returns-clause-usable
returns-clause-usable g c =
    let e : (record { bits = g.P.Number.KeyBits.number c.number-key.result; len = c.length-len.result }) ≡ g.P.PlainPrefix.net
    c.args.prefix.now = place_is (g.P.PlainPrefix.net c.args.prefix.now) (g.P.Number.KeyBits.number c.number-key.result) c.length-len.result
    c.number-key.ensures.bits c.length-len.ensures in
    let ok : IsNet g.P.Number.KeyBits.width (record { bits = g.P.Number.KeyBits.number c.number-key.result; len = c.length-len.result }) = subst (IsNet g.P.Number.KeyBits.width) (sym e) c.number-key.ensures.prefix in
    let h = found {R = Visited g.row.T.Denot} (λ r. r.node.now) node_shape g.P.Number.KeyBits.width
    (record { bits = g.P.Number.KeyBits.number c.number-key.result; len = c.length-len.result }) c.args.node.now c.in-Some.node
    c.data_bitmap.result c.child_bitmap.result c.data_cover_mask.result c.child_cover_mask.result ok c.in-Some.ensures.node c.data_bitmap.ensures
    c.child_bitmap.ensures c.data_cover_mask.ensures.mask c.child_cover_mask.ensures.mask in
    h.ok

pub returns-clause-place : goal.returns-clause-place
returns-clause-place g c =
    let e : (record { bits = g.P.Number.KeyBits.number c.number-key.result; len = c.length-len.result }) ≡ g.P.PlainPrefix.net
    c.args.prefix.now = place_is (g.P.PlainPrefix.net c.args.prefix.now) (g.P.Number.KeyBits.number c.number-key.result) c.length-len.result
    c.number-key.ensures.bits c.length-len.ensures in
    e

pub returns-clause-pairs : goal.returns-clause-pairs
returns-clause-pairs g c =
    let e : (record { bits = g.P.Number.KeyBits.number c.number-key.result; len = c.length-len.result }) ≡ g.P.PlainPrefix.net
    c.args.prefix.now = place_is (g.P.PlainPrefix.net c.args.prefix.now) (g.P.Number.KeyBits.number c.number-key.result) c.length-len.result
    c.number-key.ensures.bits c.length-len.ensures in
    let ok : IsNet g.P.Number.KeyBits.width (record { bits = g.P.Number.KeyBits.number c.number-key.result; len = c.length-len.result }) = subst (IsNet g.P.Number.KeyBits.width) (sym e) c.number-key.ensures.prefix in
    let h = found {R = Visited g.row.T.Denot} (λ r. r.node.now) node_shape g.P.Number.KeyBits.width
    (record { bits = g.P.Number.KeyBits.number c.number-key.result; len = c.length-len.result }) c.args.node.now c.in-Some.node
    c.data_bitmap.result c.child_bitmap.result c.data_cover_mask.result c.child_cover_mask.result ok c.in-Some.ensures.node c.data_bitmap.ensures
    c.child_bitmap.ensures c.data_cover_mask.ensures.mask c.child_cover_mask.ensures.mask in
    subst (λ z. (n : Net) (x : g.row.T.Denot) → ref_at node_shape g.P.Number.KeyBits.width
    (record { bits = g.P.Number.KeyBits.number c.number-key.result; len = c.length-len.result })
    (bit_and c.data_bitmap.result c.data_cover_mask.result) (bit_and c.child_bitmap.result c.child_cover_mask.result) c.in-Some.node.node.now n x
    ↔ LiesIn g.P.Number.KeyBits.width z (list_of node_shape g.P.Number.KeyBits.width c.args.node.now) n x) e h.pairs
