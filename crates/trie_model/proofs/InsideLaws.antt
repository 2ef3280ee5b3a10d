-- Laws of what lies in a prefix.
use Rattle.std.proofs.Common.{◌≡◌, ℕ, ◌+◌, ◌-◌, ◌*◌, ◌/◌, ◌<◌, ◌≤◌, ◌∙◌, sym, ap, subst, suc, zero, refl, arith, true, leb, cond, bit_and, Option, Some, None, inl, inr}
use Rattle.std.specs.Prelude.{◌⊎◌, ◌↔◌}
use Rattle.std.specs.Int.{bit_at}
use Rattle.std.proofs.lemmas.Bool.{le-leb, eq-eqb}
use Rattle.std.proofs.Math.Nat.{mul-div_cancel}
use Rattle.trie_model.specs.Nets.{Net, IsNet, covers}
use Rattle.trie_model.specs.Spots.{bits_toward, data_bit_of, prefix_net, child_at}
use Rattle.trie_model.specs.Views.{ViewValue, HasBelow, IsView, depth_at, level_of, net_of_bit, data_net, child_net, CanMove}
use Rattle.trie_model.specs.Tries.{slot_of, NodeShape, Good, Full, RefOk, Narrowed, ref_at, ref_told}
use Rattle.trie_model.specs.Puts.{HoldsAt, HasItem}
use Rattle.trie_model.specs.Walks.{IsListOf}
use Rattle.trie_model.specs.Maps.{Entry, map_of}
use Rattle.trie_model.specs.Inside.{LiesIn, SomeIn, depth_from, Reaches}
use Rattle.trie_model.proofs.Places.{both_hold, depth_le, bit_below, covers_len, covers_bits, covers_way}
use Rattle.trie_model.proofs.SpotLaws.{net_back}
use Rattle.trie_model.proofs.MaskLaws.{masked_net}
use Rattle.trie_model.proofs.NodeLaws.{slot-lt, has_at, covers_trans}
use Rattle.trie_model.proofs.TrieLaws.{among_at, ref_laws}
use Rattle.trie_model.proofs.PlaceMoves.{ref_node, ref_child, ref_moved, ref_moved_ok, data_narrowed, children_narrowed}
use Rattle.trie_model.proofs.RootLaws.{no_bit, ref_whole}
use Rattle.trie_model.proofs.SlotLaws.{less_or, same_or}
use Rattle.trie_model.proofs.PutLaws.{kid_was}
use Rattle.trie_model.proofs.PutNodes.{kid_none}
use Rattle.trie_model.proofs.FullLaws.{full_child, some_bit}
use Rattle.trie_model.proofs.LongestLaws.{toward_masked}
use Rattle.trie_model.proofs.WalkLaws.{either, short_small}
use Rattle.trie_model.proofs.MapLaws.{map_at, at_map}
use Rattle.trie_model.proofs.MapLists.{list_of_map}
use Rattle.trie_model.proofs.TrieMaps.{list_of, of_width}

-- ---- the way down

-- What lies in a prefix goes the same way down to its node.
same_way : (w d : ℕ) (net n : Net) → IsNet w net → IsNet w n → d + 5 ≤ net.len → covers w net n ≡ true → bits_toward w d 5 n.bits ≡ bits_toward w d 5 net.bits
same_way w d net n ok is deep c =
    sym (toward_masked w d net.len n.bits deep ok.len_fits) ∙ ap (bits_toward w d 5) (covers_bits w net n c)

depth_next : (d len : ℕ) → d + 5 ≤ len → depth_from (d + 5) len ≡ depth_from d len
depth_next d len h = omega arith

depth_here : (d len : ℕ) → len < d + 5 → depth_from d len ≡ d
depth_here d len h = omega arith

-- The search ends at a node that has the prefix's place.
pub reach_here : {N X R : Type 0} (look : R → N) (f : NodeShape N X) (w d : ℕ) (net : Net) (node : N) (r : R) → d ≤ net.len → net.len < d + 5 → look r
    ≡ node → ((k : ℕ) → Good f w k d node) → ((k : ℕ) → Full f k node) → Reaches look f w d net node (Some r)
reach_here {N} {X} look f w d net node r low high e good full =
    let at = depth_here d net.len high in (
      λ k. subst (λ z. Good f w k z (look r)) (sym at) (subst (λ z. Good f w k d z) (sym e) (good k)),
      λ k. subst (λ z. Full f k z) (sym e) (full k),
      λ n x is c. subst (λ z. HasItem f w d node n x ↔ HasItem f w z (look r) n x) (sym at) (subst (λ z. HasItem f w d node n x ↔ HasItem f w d z n x) (sym e) ((λ h. h), (λ h. h))),
    )

-- What the search finds below the child on the way is what it finds below the node.
pub reach_below : {N X R : Type 0} (look : R → N) (f : NodeShape N X) (w d c : ℕ) (net : Net) (node kid : N) (r : Option R) → IsNet w net → d + 5
    ≤ net.len → c ≡ bits_toward w d 5 net.bits → HoldsAt (f.child_bits node) (f.children node) c kid → Reaches look f w (d + 5) net kid r → Reaches
    look f w d net node r
reach_below look f w d c net node kid None ok deep is held h = λ n x net_ok cover a.
    let long = covers_len w net n cover in
    h n x net_ok cover ((kid_was f w d c node kid held n x (omega arith) (same_way w d net n ok net_ok deep cover ∙ sym is)).0 a)
reach_below {N} {X} {R} look f w d c net node kid (Some r) ok deep is held h = (
  λ k. subst (λ z. Good f w k z (look r)) (depth_next d net.len deep) (h.0 k),
  h.1,
  λ n x net_ok cover.
      let long = covers_len w net n cover in
      let was = kid_was f w d c node kid held n x (omega arith) (same_way w d net n ok net_ok deep cover ∙ sym is) in
      let rest = h.2 n x net_ok cover in
      let out : HasItem f w d node n x → HasItem f w (depth_from (d + 5) net.len) (look r) n x = λ a. rest.0 (was.0 a) in
      let back : HasItem f w (depth_from (d + 5) net.len) (look r) n x → HasItem f w d node n x = λ a. was.1 (rest.1 a) in
      subst (λ z. HasItem f w d node n x ↔ HasItem f w z (look r) n x) (depth_next d net.len deep) (out, back),
)

-- Without the child on the way, nothing lies in the prefix.
pub reach_none : {N X R : Type 0} (look : R → N) (f : NodeShape N X) (w d c : ℕ) (net : Net) (node : N) → IsNet w net → d + 5 ≤ net.len → c ≡ bits_toward w d 5 net.bits → bit_at (f.child_bits node) c ≡ 0 → Reaches look f w d net node None
reach_none look f w d c net node ok deep is off = λ n x net_ok cover a.
    let long = covers_len w net n cover in
    kid_none f w d c n node (omega arith) (is ∙ sym (same_way w d net n ok net_ok deep cover)) off x a

-- ---- a view with something

-- A view without bits has nothing.
pub view_empty : {X : Type 0} (w : ℕ) (t : ViewValue X) → IsView w t → t.data_bits ≡ 0 → t.child_bits ≡ 0 → (n : Net) (x : X) → t.at n x → ⊥
view_empty {X} w t ok a b n x h = by (less_or n.len (depth_at t.place.len + 5))
  where
    by : (n.len < depth_at t.place.len + 5) ⊎ (depth_at t.place.len + 5 ≤ n.len) → ⊥
    by (inl lt) =
        let d : ℕ = depth_at t.place.len in
        let p = ok.pairs n x h in
        let long = covers_len w t.place n p.1 in
        let top = depth_le t.place.len in
        let way = covers_way w d t.place n ok.place_ok.len_fits top p.1 in
        let e : data_net w t.place (data_bit_of w d n.bits n.len) ≡ n = net_back w d t.place.bits n p.0 (omega arith) lt way in
        no_bit _ _ a (ok.untold (data_bit_of w d n.bits n.len) x (short_small w d n lt) (subst (λ m. t.at m x) (sym e) h))
    by (inr long) = no_bit _ _ b (ok.below n x h long)

-- A length is at most four more than the depth of its node.
pub depth_low : (n : ℕ) → n + 1 ≤ depth_at n + 5
depth_low n = omega arith

-- A view of a full node has a pair where it has a bit.
pub has_pair : {N X : Type 0} (f : NodeShape N X) (w k : ℕ) (place : Net) (data_bits child_bits : ℕ) (node : N) → RefOk f w place data_bits child_bits
    node → 0 < data_bits + child_bits → w < place.len + k → (n : Net) × ((x : X) × ref_at f w place data_bits child_bits node n x)
has_pair f w zero place data_bits child_bits node ok some deep = absurd (let l = ok.place_ok.len_fits in let no : ⊥ = omega (arith, l, deep) in no)
has_pair {N} {X} f w (suc k) place data_bits child_bits node ok some deep = either
    (λ e.
    let bit = some_bit child_bits 32 ok.children_fit (omega (arith, e, some)) in
    let on = ok.children_sub bit.0 bit.1 in
    let here = ref_node f w place data_bits child_bits node ok in
    let lt = slot-lt (f.child_bits node) bit.0 on in
    let child = has_at (f.children node) (slot_of (f.child_bits node) bit.0) (let e = here.children in omega (arith, e, lt)) in
    let view = ref_child f w place (child_net w place bit.0) data_bits child_bits bit.0 node child.0 ok bit.1 child.1 refl in
    let below = full_child f node ok.full bit.0 child.0 (on, child.1) in
    let low = depth_low place.len in
    let pair = has_pair f w k (child_net w place bit.0) (f.data_bits child.0) (f.child_bits child.0) child.0 view.0 below.0 (omega (arith, low, deep)) in
    (pair.0, (pair.1.0, ((view.1.at pair.0 pair.1.0).0 pair.1.1).0)))
    (λ ne.
    let bit = some_bit data_bits 31 ok.data_fit (omega (arith, ne)) in
    ((data_net w place bit.0), (ref_laws f w place data_bits child_bits node ok).told bit.0 (bit_below 31 data_bits bit.0 ok.data_fit bit.1) bit.1))
    (same_or data_bits 0)

-- A pair lies below each child bit.
pub child_has : {N X : Type 0} (f : NodeShape N X) (w : ℕ) (place : Net) (data_bits child_bits bit : ℕ) (node : N) → RefOk f w place data_bits
    child_bits node → bit_at child_bits bit ≡ 1 → HasBelow w (ref_told f w place data_bits child_bits node) bit
child_has f w place data_bits child_bits bit node ok set =
    let on = ok.children_sub bit set in
    let here = ref_node f w place data_bits child_bits node ok in
    let lt = slot-lt (f.child_bits node) bit on in
    let child = has_at (f.children node) (slot_of (f.child_bits node) bit) (let e = here.children in omega (arith, e, lt)) in
    let view = ref_child f w place (child_net w place bit) data_bits child_bits bit node child.0 ok set child.1 refl in
    let some = full_child f node ok.full bit child.0 (on, child.1) in
    let pair = has_pair f w (w + 1) (child_net w place bit) (f.data_bits child.0) (f.child_bits child.0) child.0 view.0 some.0 (omega arith) in
    (pair.0, (pair.1.0, (view.1.at pair.0 pair.1.0).0 pair.1.1))

-- ---- the view of what lies in a prefix

-- The place of the node that has a prefix.
abbrev node_place : ℕ → Net → Net
node_place w net = prefix_net w net.bits (depth_at net.len)

depth_twice : (n : ℕ) → depth_at (depth_at n) ≡ depth_at n
depth_twice n = ap (λ k. k * 5) (mul-div_cancel (n / 5) (let five : 0 < 5 = omega arith in five))

-- The node that has a prefix, and masks of its bits inside the prefix.
pub record Cut {N X : Type 0} (f : NodeShape N X) (w : ℕ) (net : Net) (node : N) (data_mask child_mask : ℕ) : Type 0 where
  pub net_ok : IsNet w net
  pub good : (k : ℕ) → Good f w k (depth_at net.len) node
  pub full : (k : ℕ) → Full f k node
  pub inside : (b : ℕ) → b < 31 → depth_at net.len + level_of b ≤ w → bit_at data_mask b ≡ cond (covers w (prefix_net w net.bits net.len) (net_of_bit w (depth_at net.len) net.bits b)) 1 0
  pub below : (b : ℕ) → b < 32 → depth_at net.len + 5 ≤ w → bit_at child_mask b ≡ cond (covers w (prefix_net w net.bits net.len) (child_at w (depth_at net.len) net.bits b)) 1 0

whole : {N X : Type 0} (f : NodeShape N X) (w : ℕ) (net : Net) (node : N) (dm cm : ℕ) → Cut f w net node dm cm → RefOk f w (node_place w net) (f.data_bits node) (f.child_bits node) node
whole f w net node dm cm cut =
    let low = depth_le net.len in
    let l = cut.net_ok.len_fits in
    ref_whole f w (node_place w net) node (masked_net w (depth_at net.len) net.bits (omega (arith, low, l)) cut.net_ok.bits_fit) (depth_twice net.len) cut.good cut.full

can_cut : {N X : Type 0} (f : NodeShape N X) (w : ℕ) (net : Net) (node : N) (dm cm : ℕ) → Cut f w net node dm cm → CanMove w (node_place w net) net
can_cut f w net node dm cm cut = record {
  fits = cut.net_ok;
  within = both_hold (leb (depth_at net.len) net.len) _ (le-leb _ _ (depth_le net.len)) (eq-eqb _ _ refl);
  node = sym (depth_twice net.len);
}

cut_data : {N X : Type 0} (f : NodeShape N X) (w : ℕ) (net : Net) (node : N) (dm cm : ℕ) → Cut f w net node dm cm → Narrowed (f.data_bits node) (bit_and (f.data_bits node) dm) (λ b. covers w net (data_net w (node_place w net) b))
cut_data f w net node dm cm cut = data_narrowed f w (node_place w net) net (f.data_bits node) (f.child_bits node) dm node (whole f w net node dm cm cut) (can_cut f w net node dm cm cut)
    (subst (λ d. (b : ℕ) → b < 31 → d + level_of b ≤ w → bit_at dm b ≡ cond (covers w (prefix_net w net.bits net.len) (net_of_bit w d net.bits b)) 1 0) (sym (depth_twice net.len)) cut.inside)

cut_kids : {N X : Type 0} (f : NodeShape N X) (w : ℕ) (net : Net) (node : N) (dm cm : ℕ) → Cut f w net node dm cm → Narrowed (f.child_bits node) (bit_and (f.child_bits node) cm) (λ c. covers w net (child_net w (node_place w net) c))
cut_kids f w net node dm cm cut = children_narrowed f w (node_place w net) net (f.data_bits node) (f.child_bits node) cm node (whole f w net node dm cm cut) (can_cut f w net node dm cm cut)
    (subst (λ d. (b : ℕ) → b < 32 → d + 5 ≤ w → bit_at cm b ≡ cond (covers w (prefix_net w net.bits net.len) (child_at w d net.bits b)) 1 0) (sym (depth_twice net.len)) cut.below)

cut_ok : {N X : Type 0} (f : NodeShape N X) (w : ℕ) (net : Net) (node : N) (dm cm : ℕ) → Cut f w net node dm cm → RefOk f w net (bit_and (f.data_bits node) dm) (bit_and (f.child_bits node) cm) node
cut_ok f w net node dm cm cut = ref_moved_ok f w (node_place w net) net (f.data_bits node) (f.child_bits node) _ _ node (whole f w net node dm cm cut)
    (can_cut f w net node dm cm cut) (cut_data f w net node dm cm cut) (cut_kids f w net node dm cm cut)

cut_at : {N X : Type 0} (f : NodeShape N X) (w : ℕ) (net : Net) (node : N) (dm cm : ℕ) → Cut f w net node dm cm → (n : Net) (x : X) → ref_at f w net
    (bit_and (f.data_bits node) dm) (bit_and (f.child_bits node) cm) node n x
    ↔ (IsNet w n × (covers w net n ≡ true) × HasItem f w (depth_at net.len) node n x)
cut_at {N} {X} f w net node dm cm cut n x =
    let m = (ref_moved f w (node_place w net) net (f.data_bits node) (f.child_bits node) _ _ node (whole f w net node dm cm cut)
    (can_cut f w net node dm cm cut) (cut_data f w net node dm cm cut) (cut_kids f w net node dm cm cut)).at n x in (
      (λ h. let a = (m.0 h).0 in (a.0, h.1, among_at f w (f.data_bits node) (f.child_bits node) _ _ _ _ node n x (depth_twice net.len) levels a.2)),
      (λ h. m.1 (
        (
          h.0,
          covers_trans w (node_place w net) net n cut.net_ok.len_fits (can_cut f w net node dm cm cut).within h.1,
          among_at f w
              (f.data_bits node) (f.child_bits node) _ _ _ _ node n x (sym (depth_twice net.len)) (sym levels) h.2,
        ),
        h.1,
      )),
    )
  where
    levels : n.len / 5 - depth_at net.len / 5 ≡ (n.len - depth_at net.len) / 5
    levels = omega arith

-- ---- in the form of the code

-- What a look for the node of a prefix found, and the view of the node's bits inside the prefix.
pub record Found {N X : Type 0} (f : NodeShape N X) (w : ℕ) (net : Net) (root node : N) (data_bits child_bits : ℕ) : Type 0 where
  pub ok : RefOk f w net data_bits child_bits node
  pub pairs : (n : Net) (x : X) → ref_at f w net data_bits child_bits node n x ↔ LiesIn w net (list_of f w root) n x

depth_root : (len : ℕ) → depth_from 0 len ≡ depth_at len
depth_root len = omega arith

-- What was found with its bits masked is a view of the pairs that lie in the prefix.
pub found : {N X R : Type 0} (look : R → N) (f : NodeShape N X) (w : ℕ) (net : Net) (root : N) (r : R) (m k dm cm : ℕ) → IsNet w net → Reaches look f
    w 0 net root (Some r) → m ≡ f.data_bits (look r) → k ≡ f.child_bits (look r)
    → ((b : ℕ) → b < 31 → depth_at net.len + level_of b ≤ w → bit_at dm b ≡ cond
    (covers w (prefix_net w net.bits net.len) (net_of_bit w (depth_at net.len) net.bits b)) 1 0)
    → ((b : ℕ) → b < 32 → depth_at net.len + 5 ≤ w → bit_at cm b ≡ cond
    (covers w (prefix_net w net.bits net.len) (child_at w (depth_at net.len) net.bits b)) 1 0) → Found f w net root (look r) (bit_and m dm)
    (bit_and k cm)
found {N} {X} look f w net root r m k dm cm ok reach e g inside below =
    subst (λ z. Found f w net root (look r) (bit_and z dm) (bit_and k cm)) (sym e) (subst (λ z. Found f w net root (look r) (bit_and (f.data_bits (look r)) dm) (bit_and z cm)) (sym g) (record {
      ok = cut_ok f w net (look r) dm cm cut;
      pairs = λ n x. (
        (λ h. let a = (cut_at f w net (look r) dm cm cut n x).0 h in ((is.same n x).1 (map_at f w root n x a.0 ((down n x a.0 a.1).1 a.2)), a.1)),
        (λ h. let a = at_map f w root n x ((is.same n x).0 h.0) in (cut_at f w net (look r) dm cm cut n x).1 (a.0, h.1, (down n x a.0 h.1).0 a.1)),
      );
    }))
  where
    cut : Cut f w net (look r) dm cm
    cut = record {
      net_ok = ok;
      good = λ j. subst (λ d. Good f w j d (look r)) (depth_root net.len) (reach.0 j);
      full = reach.1;
      inside = inside;
      below = below;
    }

    is : IsListOf w (Entry (map_of f w root)) (list_of f w root)
    is = list_of_map w (map_of f w root) (of_width f w root)

    down : (n : Net) (x : X) → IsNet w n → covers w net n ≡ true → HasItem f w 0 root n x ↔ HasItem f w (depth_at net.len) (look r) n x
    down n x a c = subst (λ d. HasItem f w 0 root n x ↔ HasItem f w d (look r) n x) (depth_root net.len) (reach.2 n x a c)

-- A bit is left: some entry lies in the prefix.
pub found_some : {N X : Type 0} (f : NodeShape N X) (w : ℕ) (net : Net) (root node : N) (data_bits child_bits : ℕ) → Found f w net root node data_bits child_bits → 0 < data_bits + child_bits → SomeIn w net (list_of f w root)
found_some f w net root node data_bits child_bits h some =
    let pair = has_pair f w (w + 1) net data_bits child_bits node h.ok some (omega arith) in
    (pair.0, (pair.1.0, (h.pairs pair.0 pair.1.0).0 pair.1.1))

-- No bit is left: none does.
pub found_none : {N X : Type 0} (f : NodeShape N X) (w : ℕ) (net : Net) (root node : N) (data_bits child_bits : ℕ) → Found f w net root node data_bits child_bits → data_bits ≡ 0 → child_bits ≡ 0 → SomeIn w net (list_of f w root) → ⊥
found_none f w net root node data_bits child_bits h a b some =
    view_empty w (ref_told f w net data_bits child_bits node) (ref_laws f w net data_bits child_bits node h.ok) a b some.0 some.1.0 ((h.pairs some.0 some.1.0).1 some.1.1)

-- Where the search finds no node, no pair lies in the prefix.
pub unreached : {N X R : Type 0} (look : R → N) (f : NodeShape N X) (w : ℕ) (net : Net) (root : N) → Reaches {R = R} look f w 0 net root None → SomeIn w net (list_of f w root) → ⊥
unreached look f w net root none some =
    let is = list_of_map w (map_of f w root) (of_width f w root) in
    let a = at_map f w root some.0 some.1.0 ((is.same some.0 some.1.0).0 some.1.1.0) in
    none some.0 some.1.0 a.0 some.1.1.1 a.1

-- What equals a full node is full.
pub full_there : {N X : Type 0} (f : NodeShape N X) (a b : N) → b ≡ a → ((k : ℕ) → Full f k a) → (k : ℕ) → Full f k b
full_there f a b e g k = subst (λ z. Full f k z) (sym e) (g k)
