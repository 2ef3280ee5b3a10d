-- A node with another item for a prefix that has one.
use Rattle.std.proofs.Common.{◌≡◌, ℕ, ◌+◌, ◌-◌, ◌/◌, ◌<◌, ◌≤◌, ◌∙◌, sym, ap, subst, suc, zero, refl, arith, List, Option, Some, None, inl, slice_set, true≢false}
use Rattle.std.specs.Prelude.{slice_get, IsSome}
use Rattle.std.specs.Vec.{with_item}
use Rattle.std.specs.declared.vec.Vec.{Vec}
use Rattle.std.specs.declared.alloc.Global.{Global}
use Rattle.trie_model.specs.Spots.{bits_toward, data_bit_of}
use Rattle.trie_model.specs.Maps.{MapOk, inserted, map_of, value_at}
use Rattle.trie_model.specs.Nets.{Net, IsNet}
use Rattle.trie_model.specs.Puts.{HasItem, HoldsAt, PutAt, Puts}
use Rattle.trie_model.specs.Tries.{Full, Good, slot_of}
use Rattle.trie_model.proofs.MapLists.{value_of_map}
use Rattle.trie_model.proofs.FullLaws.{full_child, full_put, full_same, some_at}
use Rattle.trie_model.proofs.MapLaws.{at_map, map_at}
use Rattle.trie_model.proofs.NodeLaws.{good_child, good_here}
use Rattle.trie_model.proofs.Places.{bit_below}
use Rattle.trie_model.proofs.PutLaws.{at_item, at_kid, item_puts, kid_puts, kid_was, levels}
use Rattle.trie_model.proofs.PutNodes.{item_good, kid_good, put_in}
use Rattle.trie_model.proofs.SlotLaws.{put_over}
use Rattle.trie_model.proofs.TrieMaps.{list_of, of_width, put_done, put_over as map_put_over}
use Rattle.trie_map.specs.Shape.{node_shape}
use Rattle.trie_map.specs.Lending.{child_or, with_below, with_children, with_own}
use Rattle.trie_map.specs.declared.node.Node.{Node, out-Node}
use Rattle.trie_map.specs.declared.node.Node.TheViews.{out-roll-Node}

-- What stands at a bit's place.
pub placed : {X : Type 0} (m place bit b : ℕ) (xs : List X) (x : X) → HoldsAt m xs b x → bit ≡ b → place ≡ slot_of m bit → slice_get xs place ≡ Some x
placed m place bit b xs x h e is = ap (λ p. slice_get xs p) (is ∙ ap (slot_of m) e) ∙ h.1

-- What is put at a bit's place stands at that bit.
pub placed_back : {X : Type 0} (m place bit b : ℕ) (xs : List X) (x y : X) → HoldsAt m xs b x → bit ≡ b → place ≡ slot_of m bit → slice_get xs place ≡ Some y → HoldsAt m xs b y
placed_back m place bit b xs x y h e is at = (h.0, sym (ap (λ p. slice_get xs p) (is ∙ ap (slot_of m) e)) ∙ at)

-- The item of the node itself.
pub own_is : {T : Type 0} (w d : ℕ) (node : Node T) (n : Net) (place bit : ℕ) (x : T) → n.len < d + 5 → bit ≡ data_bit_of w d n.bits n.len → place
    ≡ slot_of (out-Node T node).data_bitmap bit → with_own node place x ≡ with_below w d ((n.len - d) / 5) node n x
unfolding with_below
own_is {T} w d node n place bit x high e is =
    let z : (n.len - d) / 5 ≡ 0 = omega (arith, high) in
    ap (λ p. with_own node p x) (is ∙ ap (slot_of (out-Node T node).data_bitmap) e) ∙ ap (λ k. with_below w d k node n x) (sym z)

kid_found : {T : Type 0} (w d k : ℕ) (node child : Node T) (n : Net) (x : T) → slice_get (out-Node T node).children.items
    (slot_of (out-Node T node).child_bitmap (bits_toward w d 5 n.bits)) ≡ Some child → with_below w d (suc k) node n x ≡ with_children node
    (with_item (out-Node T node).children (slot_of (out-Node T node).child_bitmap (bits_toward w d 5 n.bits)) (with_below w (d + 5) k child n x))
unfolding with_below
kid_found {T} w d k node child n x is = ap (λ o. with_children node (with_item (out-Node T node).children (slot_of (out-Node T node).child_bitmap (bits_toward w d 5 n.bits)) (with_below w (d + 5) k (child_or node o) n x))) is

-- The item of a child.
pub kid_is : {T : Type 0} (w d : ℕ) (node child : Node T) (children : Vec (Node T) Global) (n : Net) (place bit : ℕ) (x : T) → d + 5 ≤ n.len → bit
    ≡ bits_toward w d 5 n.bits → place ≡ slot_of (out-Node T node).child_bitmap bit → children ≡ (out-Node T node).children → slice_get children.items
    place ≡ Some child → with_children node (with_item children place (with_below w (d + 5) ((n.len - (d + 5)) / 5) child n x)) ≡ with_below w d
    ((n.len - d) / 5) node n x
kid_is {T} w d node child children n place bit x long e is same at =
    let slot : place ≡ slot_of (out-Node T node).child_bitmap (bits_toward w d 5 n.bits) = is ∙ ap (slot_of (out-Node T node).child_bitmap) e in
    let there = sym (ap (λ v. slice_get v.items place) same ∙ ap (λ p. slice_get (out-Node T node).children.items p) slot) ∙ at in
    ap (λ v. with_children node (with_item v place (with_below w (d + 5) ((n.len - (d + 5)) / 5) child n x))) same
    ∙ ap (λ p. with_children node (with_item (out-Node T node).children p (with_below w (d + 5) ((n.len - (d + 5)) / 5) child n x))) slot
    ∙ sym (kid_found w d ((n.len - (d + 5)) / 5) node child n x there)
    ∙ ap (λ k. with_below w d k node n x) (sym (levels d n.len long))

-- The node with the new item.
pub record Lent {T : Type 0} (w d : ℕ) (n : Net) (x : T) (old new : Node T) : Type 0 where
  pub good : (j : ℕ) → Good node_shape w j d new
  pub full : (j : ℕ) → Full node_shape j new
  pub puts : Puts node_shape w d n x old new

own_lent : {T : Type 0} (w d : ℕ) (node : Node T) (n : Net) (x y : T) → d ≤ n.len → n.len < d + 5 → IsNet w n → ((j : ℕ) → Good node_shape w j d node)
    → ((j : ℕ) → Full node_shape j node) → HasItem node_shape w d node n y → Lent w d n x node
    (with_own node (slot_of (out-Node T node).data_bitmap (data_bit_of w d n.bits n.len)) x)
own_lent {T} w d node n x y low high ok good full at =
    let bit = data_bit_of w d n.bits n.len in
    let place = slot_of (out-Node T node).data_bitmap bit in
    let new = with_own node place x in
    let here = good_here node_shape w d node good in
    let held = at_item node_shape w d node n y low high at in
    let put : PutAt bit x (out-Node T node).data_bitmap (out-Node T node).items.items (out-Node T node).data_bitmap
    (slice_set (out-Node T node).items.items place x) = put_over bit (out-Node T node).data_bitmap place (out-Node T node).items.items
    (slice_set (out-Node T node).items.items place x) x (let fit = here.data_fit in omega (arith, fit)) held.0 here.items refl refl in
    let put' : PutAt bit x (node_shape.data_bits node) (node_shape.items node) (node_shape.data_bits new) (node_shape.items new) = put_in bit x _ _ _
    _ _ _ _ _ refl refl (ap (λ r. r.data_bitmap) (out-roll-Node T _)) (ap (λ r. r.items.items) (out-roll-Node T _)) put in
    let child_bits = ap (λ r. r.child_bitmap) (out-roll-Node T _) in
    let below = ap (λ r. r.children.items) (out-roll-Node T _) in
    record {
      good = item_good node_shape w d bit x node new good (bit_below 31 (out-Node T node).data_bitmap bit here.data_fit held.0) (here.short bit held.0) put' (record { child_bits = child_bits; children = below });
      full = full_same node_shape node new full child_bits below;
      puts = item_puts node_shape w d bit n x node new ok low high refl put' (record { child_bits = child_bits; children = below });
    }

kid_lent : {T : Type 0} (w d : ℕ) (node child child' : Node T) (n : Net) (x : T) → d + 5 ≤ n.len → IsNet w n → ((j : ℕ) → Good node_shape w j d node)
    → ((j : ℕ) → Full node_shape j node) → HoldsAt (out-Node T node).child_bitmap (out-Node T node).children.items (bits_toward w d 5 n.bits) child
    → Lent w (d + 5) n x child child' → Lent w d n x node
    (with_children node (with_item (out-Node T node).children (slot_of (out-Node T node).child_bitmap (bits_toward w d 5 n.bits)) child'))
kid_lent {T} w d node child child' n x long ok good full held rec =
    let bit = bits_toward w d 5 n.bits in
    let place = slot_of (out-Node T node).child_bitmap bit in
    let new = with_children node (with_item (out-Node T node).children place child') in
    let here = good_here node_shape w d node good in
    let put : PutAt bit child' (out-Node T node).child_bitmap (out-Node T node).children.items (out-Node T node).child_bitmap
    (slice_set (out-Node T node).children.items place child') = put_over bit (out-Node T node).child_bitmap place (out-Node T node).children.items
    (slice_set (out-Node T node).children.items place child') child' here.children_fit held.0 here.children refl refl in
    let put' : PutAt bit child' (node_shape.child_bits node) (node_shape.children node) (node_shape.child_bits new) (node_shape.children new) = put_in
    bit child' _ _ _ _ _ _ _ _ refl refl (ap (λ r. r.child_bitmap) (out-roll-Node T _)) (ap (λ r. r.children.items) (out-roll-Node T _)) put in
    let data_bits = ap (λ r. r.data_bitmap) (out-roll-Node T _) in
    let items = ap (λ r. r.items.items) (out-roll-Node T _) in
    let some = some_at node_shape w (d + 5) child' n x long ((rec.puts n x (record { is_net = ok; low = long; way = refl })).1 (inl (refl, refl))) in
    record {
      good = kid_good node_shape w d bit child' node new good (here.deep bit held.0) put' (record { data_bits = data_bits; items = items }) rec.good;
      full = full_put node_shape bit child' node new put' full some rec.full;
      puts = kid_puts node_shape w d bit n x node new child child' ok long refl put' (record { data_bits = data_bits; items = items }) (kid_was node_shape w d bit node child held) rec.puts;
    }

-- A node that lent an item is, with what was left there, the node with that item for the prefix.
pub lent : {T : Type 0} (w d k : ℕ) (node : Node T) (n : Net) (x y : T) → k ≡ (n.len - d) / 5 → d ≤ n.len → IsNet w n
    → ((j : ℕ) → Good node_shape w j d node) → ((j : ℕ) → Full node_shape j node) → HasItem node_shape w d node n y → Lent w d n x node
    (with_below w d k node n x)
unfolding with_below
lent w d zero node n x y e low ok good full at = own_lent w d node n x y low (omega (arith, e, low)) ok good full at
lent {T} w d (suc k) node n x y e low ok good full at =
    let long : d + 5 ≤ n.len = omega (arith, e, low) in
    let kid = at_kid node_shape w d node n y long at in
    let deeper = lent w (d + 5) k kid.0 n x y (omega (arith, e, low)) long ok (good_child node_shape w d node good _ kid.0 kid.1.0.1) (full_child node_shape node full _ kid.0 kid.1.0).1 kid.1.1 in
    subst (λ z. Lent w d n x node z) (sym (kid_found w d k node kid.0 n x kid.1.0.1)) (kid_lent w d node kid.0 (with_below w (d + 5) k kid.0 n x) n x long ok good full kid.1.0 deeper)

-- ---- in the form of the code

value_there : {X : Type 0} (r : Option X) → IsSome r → (x : X) × (r ≡ Some x)
value_there None h = absurd (true≢false (sym h))
value_there (Some x) h = (x, refl)

-- An entry of the list has an item in the trie.
pub entry_at : {T : Type 0} (w : ℕ) (root : Node T) (ps : List (Net × T)) (n m : Net) → n ≡ m → list_of node_shape w root ≡ ps → IsSome (value_at ps m) → (x : T) × HasItem node_shape w 0 root n x
entry_at {T} w root ps n m e is some =
    let v = value_there (value_at ps m) some in
    let h : value_at (list_of node_shape w root) n ≡ Some v.0 = ap (value_at (list_of node_shape w root)) e ∙ ap (λ qs. value_at qs m) is ∙ v.1 in
    (v.0, (at_map node_shape w root n v.0 (sym (value_of_map w (map_of node_shape w root) n (of_width node_shape w root)) ∙ h)).1)

-- An item of the trie is the entry's value.
pub entry_value : {T : Type 0} (w : ℕ) (root : Node T) (ps : List (Net × T)) (n m : Net) (x : T) → n ≡ m → list_of node_shape w root ≡ ps → IsNet w n → HasItem node_shape w 0 root n x → value_at ps m ≡ Some x
entry_value {T} w root ps n m x e is ok at =
    sym (ap (value_at (list_of node_shape w root)) e ∙ ap (λ qs. value_at qs m) is) ∙ value_of_map w (map_of node_shape w root) n (of_width node_shape w root) ∙ map_at node_shape w root n x ok at

-- The trie with the new item is a map.
pub lent_ok : {T : Type 0} (w : ℕ) (root : Node T) (n : Net) (count : ℕ) (x y : T) → IsNet w n → MapOk node_shape w root count → HasItem node_shape w 0 root n y → MapOk node_shape w (with_below w 0 ((n.len - 0) / 5) root n x) count
lent_ok {T} w root n count x y ok was at =
    let l = lent w 0 ((n.len - 0) / 5) root n x y refl (omega arith) ok was.good was.full at in
    map_put_over {E = T} (λ e. e) node_shape w n x y root (with_below w 0 ((n.len - 0) / 5) root n x) count ok (l.puts, at) was l.good l.full

-- Its list has the new value.
pub lent_list : {T : Type 0} (w : ℕ) (root : Node T) (ps : List (Net × T)) (n m : Net) (count : ℕ) (x y : T) → n ≡ m → list_of node_shape w root ≡ ps
    → IsNet w n → MapOk node_shape w root count → HasItem node_shape w 0 root n y → list_of node_shape w (with_below w 0 ((n.len - 0) / 5) root n x)
    ≡ inserted w ps m x
lent_list {T} w root ps n m count x y e is ok was at =
    let l = lent w 0 ((n.len - 0) / 5) root n x y refl (omega arith) ok was.good was.full at in
    (put_done {E = T} (λ e. e) node_shape w n x root (with_below w 0 ((n.len - 0) / 5) root n x) (Some y) ok (l.puts, at)).list ∙ ap (λ qs. inserted w qs n x) is ∙ ap (λ k. inserted w ps k x) e
