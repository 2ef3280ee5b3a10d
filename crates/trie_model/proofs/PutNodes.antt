-- Nodes after a pair was put in: they stay good, in the form in which the code puts.
use Rattle.std.proofs.Common.{◌≡◌, ◌≢◌, ℕ, ◌+◌, ◌-◌, ◌*◌, ◌/◌, ◌^◌, ◌<◌, ◌≤◌, ◌∙◌, sym, ap, subst, suc, zero, refl, arith, List, length, Option, Some, None, inl, inr}
use Rattle.std.specs.Prelude.{Result, Ok, Err, slice_get, get_or, count_ones, ◌↔◌, ◌⊎◌}
use Rattle.trie_model.specs.Views.{net_of_bit, level_of}
use Rattle.std.specs.Int.{bit_at}
use Rattle.std.proofs.Common.{bit_and}
use Rattle.std.proofs.lemmas.Option.{slice_get_read}
use Rattle.std.proofs.lemmas.Nat.{and_mask}
use Rattle.trie_model.specs.Nets.{Net, IsNet}
use Rattle.trie_model.proofs.Places.{not_one, bit_below}
use Rattle.trie_model.specs.Spots.{bits_toward, data_bit_of, prefix_net}
use Rattle.trie_model.specs.Tries.{slot_of, NodeShape, NodeOk, Good}
use Rattle.trie_model.proofs.NodeLaws.{slot-lt, good_here, good_child}
use Rattle.trie_model.specs.Puts.{HoldsAt, PutAt, HasItem, Puts, PutIn, Gets}
use Rattle.trie_model.proofs.SlotLaws.{at_plus}
use Rattle.trie_model.proofs.PutLaws.{at_item, item_at, at_kid, SameKids, SameItems, item_puts, kid_puts, kid_keeps, kid_was}

-- ---- good nodes

-- A sound node whose children are good is good.
pub good_make : {N X : Type 0} (f : NodeShape N X) (w d : ℕ) (node : N) → NodeOk f w d node → ((i : ℕ) (child : N) → slice_get (f.children node) i ≡ Some child → (k : ℕ) → Good f w k (d + 5) child) → (k : ℕ) → Good f w k d node
unfolding Good
good_make f w d node ok child_bits zero = tt
good_make f w d node ok child_bits (suc k) = (ok, λ i child h. child_bits i child h k)

-- A good node with an item put is good.
pub item_good : {N X : Type 0} (f : NodeShape N X) (w d bit : ℕ) (value : X) (old new : N) → ((k : ℕ) → Good f w k d old) → bit < 31 → d + level_of
    bit ≤ w → PutAt bit value (f.data_bits old) (f.items old) (f.data_bits new) (f.items new) → SameKids f old new → (k : ℕ) → Good f w k d new
item_good {N} f w d bit value old new good lt short put same =
    let here = good_here f w d old good in
    good_make f w d new (record {
      data_fit = let z = not_one (f.data_bits new) 31 (λ h. high (put.bits 31 h)) in let fit = put.fit in omega arith;
      children_fit = subst (λ x. x < 2 ^ 32) (sym same.child_bits) here.children_fit;
      items = put.len;
      children = ap length same.children ∙ here.children ∙ ap count_ones (sym same.child_bits);
      short = λ b h. short_by b (put.bits b h);
      deep = λ b h. here.deep b (sym (ap (λ m. bit_at m b) same.child_bits) ∙ h);
    }) (λ i child h. good_child f w d old good i child (sym (ap (λ xs. slice_get xs i) same.children) ∙ h))
  where
    high : (31 ≡ bit) ⊎ (bit_at (f.data_bits old) 31 ≡ 1) → ⊥
    high (inl e) = omega (arith, e, lt)
    high (inr h) = let l = bit_below 31 (f.data_bits old) 31 (good_here f w d old good).data_fit h in omega (arith, l)

    short_by : (b : ℕ) → (b ≡ bit) ⊎ (bit_at (f.data_bits old) b ≡ 1) → d + level_of b ≤ w
    short_by b (inl e) = subst (λ x. d + level_of x ≤ w) (sym e) short
    short_by b (inr h) = (good_here f w d old good).short b h

-- A good node with a good child put is good.
pub kid_good : {N X : Type 0} (f : NodeShape N X) (w d c : ℕ) (kid : N) (old new : N) → ((k : ℕ) → Good f w k d old) → d + 5 ≤ w → PutAt c kid
    (f.child_bits old) (f.children old) (f.child_bits new) (f.children new) → SameItems f old new → ((k : ℕ) → Good f w k (d + 5) kid) → (k : ℕ)
    → Good f w k d new
kid_good {N} f w d c kid old new good deep put same below =
    let here = good_here f w d old good in
    good_make f w d new (record {
      data_fit = subst (λ x. x < 2 ^ 31) (sym same.data_bits) here.data_fit;
      children_fit = put.fit;
      items = ap length same.items ∙ here.items ∙ ap count_ones (sym same.data_bits);
      children = put.len;
      short = λ b h. here.short b (sym (ap (λ m. bit_at m b) same.data_bits) ∙ h);
      deep = λ b h. deep;
    }) (λ i child h. good_by child (put.items i child h))
  where
    good_by : (child : N) → (child ≡ kid) ⊎ ((j : ℕ) × (slice_get (f.children old) j ≡ Some child)) → (k : ℕ) → Good f w k (d + 5) child
    good_by child (inl e) = λ k. subst (λ z. Good f w k (d + 5) z) (sym e) (below k)
    good_by child (inr h) = good_child f w d old good h.0 child h.1

-- A node with the items and children of a good one is good.
pub same_good : {N X : Type 0} (f : NodeShape N X) (w d : ℕ) (old new : N) → ((k : ℕ) → Good f w k d old) → SameItems f old new → SameKids f old new → (k : ℕ) → Good f w k d new
same_good f w d old new good items child_bits =
    let here = good_here f w d old good in
    good_make f w d new (record {
      data_fit = subst (λ x. x < 2 ^ 31) (sym items.data_bits) here.data_fit;
      children_fit = subst (λ x. x < 2 ^ 32) (sym child_bits.child_bits) here.children_fit;
      items = ap length items.items ∙ here.items ∙ ap count_ones (sym items.data_bits);
      children = ap length child_bits.children ∙ here.children ∙ ap count_ones (sym child_bits.child_bits);
      short = λ b h. here.short b (sym (ap (λ m. bit_at m b) items.data_bits) ∙ h);
      deep = λ b h. here.deep b (sym (ap (λ m. bit_at m b) child_bits.child_bits) ∙ h);
    }) (λ i child h. good_child f w d old good i child (sym (ap (λ xs. slice_get xs i) child_bits.children) ∙ h))

-- ---- in the form of the code

-- A step on the items: from m0 and xs0 to m and xs.
pub record Turned {N X : Type 0} (f : NodeShape N X) (old new : N) (m0 : ℕ) (xs0 : List X) (m : ℕ) (xs : List X) : Type 0 where
  pub from_data_bits : m0 ≡ f.data_bits old
  pub from_items : xs0 ≡ f.items old
  pub data_bits : f.data_bits new ≡ m
  pub items : f.items new ≡ xs
  pub child_bits : f.child_bits new ≡ f.child_bits old
  pub children : f.children new ≡ f.children old

-- A step on the children.
pub record TurnedKid {N X : Type 0} (f : NodeShape N X) (old new : N) (m0 : ℕ) (xs0 : List N) (m : ℕ) (xs : List N) : Type 0 where
  pub from_child_bits : m0 ≡ f.child_bits old
  pub from_children : xs0 ≡ f.children old
  pub child_bits : f.child_bits new ≡ m
  pub children : f.children new ≡ xs
  pub data_bits : f.data_bits new ≡ f.data_bits old
  pub items : f.items new ≡ f.items old

-- What is put is put also where the bitmaps and lists are known under other names.
pub put_in : {X : Type 0} (bit : ℕ) (y : X) (m0 m0' m m' : ℕ) (xs0 xs0' xs xs' : List X) → m0 ≡ m0' → xs0 ≡ xs0' → m' ≡ m → xs' ≡ xs → PutAt bit y m0 xs0 m xs → PutAt bit y m0' xs0' m' xs'
put_in bit y m0 m0' m m' xs0 xs0' xs xs' a b c e h =
    subst (λ z. PutAt bit y z xs0' m' xs') a (subst (λ z. PutAt bit y m0 z m' xs') b (subst (λ z. PutAt bit y m0 xs0 z xs') (sym c) (subst (λ z. PutAt bit y m0 xs0 m z) (sym e) h)))

level_fits : (w d bit key len : ℕ) → len ≤ w → net_of_bit w d key bit ≡ prefix_net w key len → d + level_of bit ≤ w
level_fits w d bit key len fits e = let l = ap (λ p. p.len) e in omega (arith, l, fits)

-- A good node with an item put at its bit is good.
pub here_good : {N X : Type 0} (f : NodeShape N X) (w d bit : ℕ) (net : Net) (value : X) (old new : N) (m0 m : ℕ) (xs0 xs : List X)
    → ((k : ℕ) → Good f w k d old) → IsNet w net → bit < 31 → net_of_bit w d net.bits bit ≡ prefix_net w net.bits net.len → Turned f old new m0 xs0 m
    xs → PutAt bit value m0 xs0 m xs → (k : ℕ) → Good f w k d new
here_good f w d bit net value old new m0 m xs0 xs good ok lt is t put =
    item_good f w d bit value old new good lt (level_fits w d bit net.bits net.len ok.len_fits is)
    (put_in bit value _ _ _ _ _ _ _ _ t.from_data_bits t.from_items t.data_bits t.items put)
    (record { child_bits = t.child_bits; children = t.children })

-- A node with an item put at its bit has the item at the prefix.
pub here_puts : {N X : Type 0} (f : NodeShape N X) (w d bit : ℕ) (net : Net) (value : X) (old new : N) (m0 m : ℕ) (xs0 xs : List X) → IsNet w net → d
    ≤ net.len → net.len < d + 5 → bit ≡ data_bit_of w d net.bits net.len → Turned f old new m0 xs0 m xs → PutAt bit value m0 xs0 m xs → Puts f w d net
    value old new
here_puts f w d bit net value old new m0 m xs0 xs ok low high is t put =
    item_puts f w d bit net value old new ok low high is (put_in bit value _ _ _ _ _ _ _ _ t.from_data_bits t.from_items t.data_bits t.items put) (record { child_bits = t.child_bits; children = t.children })

-- What stood at the bit was the prefix's item.
pub here_was : {N X : Type 0} (f : NodeShape N X) (w d bit : ℕ) (net : Net) (old : N) (x : X) → d ≤ net.len → net.len < d + 5 → bit ≡ data_bit_of w d net.bits net.len → HoldsAt (f.data_bits old) (f.items old) bit x → HasItem f w d old net x
here_was f w d bit net old x low high is h = item_at f w d old net x low high (subst (λ b. HoldsAt (f.data_bits old) (f.items old) b x) is h)

-- Where the bit was clear the prefix had no item.
pub here_none : {N X : Type 0} (f : NodeShape N X) (w d bit : ℕ) (net : Net) (old : N) → d ≤ net.len → net.len < d + 5 → bit ≡ data_bit_of w d net.bits net.len → bit_at (f.data_bits old) bit ≡ 0 → (x : X) → HasItem f w d old net x → ⊥
here_none f w d bit net old low high is off x h = let s = ap (bit_at (f.data_bits old)) is ∙ (at_item f w d old net x low high h).0 in omega (arith, s, off)

-- Where a bit's test is 1 the bit is set.
pub test_on : (n i : ℕ) → bit_and (n / 2 ^ i) 1 ≡ 1 → bit_at n i ≡ 1
test_on n i h = sym (and_mask (n / 2 ^ i) 1) ∙ h

-- Where a bit's test isn't 1 the bit is clear.
pub test_off : (n i : ℕ) → bit_and (n / 2 ^ i) 1 ≢ 1 → bit_at n i ≡ 0
test_off n i h = not_one n i (λ e. h (and_mask (n / 2 ^ i) 1 ∙ e))

-- A good node with a good child put at its bit is good.
pub kid_done_good : {N X : Type 0} (f : NodeShape N X) (w d c : ℕ) (old new kid' : N) (m0 m : ℕ) (xs0 xs : List N) → ((k : ℕ) → Good f w k d old) → d
    + 5 ≤ w → TurnedKid f old new m0 xs0 m xs → PutAt c kid' m0 xs0 m xs → ((k : ℕ) → Good f w k (d + 5) kid') → (k : ℕ) → Good f w k d new
kid_done_good f w d c old new kid' m0 m xs0 xs good deep t put below =
    kid_good f w d c kid' old new good deep (put_in c kid' _ _ _ _ _ _ _ _ t.from_child_bits t.from_children t.child_bits t.children put) (record { data_bits = t.data_bits; items = t.items }) below

-- The child's result is the node's.
pub kid_result : {N X E : Type 0} (back : E → X) (f : NodeShape N X) (w d c : ℕ) (net : Net) (value : X) (old new kid kid' : N) (m0 m : ℕ)
    (xs0 xs : List N) (r : Result (Option X) E) → IsNet w net → d + 5 ≤ net.len → c ≡ bits_toward w d 5 net.bits → TurnedKid f old new m0 xs0 m xs
    → PutAt c kid' m0 xs0 m xs → ((n : Net) (x : X) → d + 5 ≤ n.len → bits_toward w d 5 n.bits ≡ c → HasItem f w d old n x ↔ HasItem f w (d + 5) kid n
    x) → PutIn back f w (d + 5) net value kid kid' r → PutIn back f w d net value old new r
kid_result back f w d c net value old new kid kid' m0 m xs0 xs (Ok None) ok deep is t put rel h = (
  kid_puts f w d c net value old new kid kid' ok deep is (put_in c kid' _ _ _ _ _ _ _ _ t.from_child_bits t.from_children t.child_bits t.children put) (record { data_bits = t.data_bits; items = t.items }) rel h.0,
  λ x a. h.1 x ((rel net x deep (sym is)).0 a),
)
kid_result back f w d c net value old new kid kid' m0 m xs0 xs (Ok (Some x)) ok deep is t put rel h = (
  kid_puts f w d c net value old new kid kid' ok deep is (put_in c kid' _ _ _ _ _ _ _ _ t.from_child_bits t.from_children t.child_bits t.children put) (record { data_bits = t.data_bits; items = t.items }) rel h.0,
  (rel net x deep (sym is)).1 h.1,
)
kid_result back f w d c net value old new kid kid' m0 m xs0 xs (Err e) ok deep is t put rel h =
    (kid_keeps f w d c net old new kid kid' ok deep is (put_in c kid' _ _ _ _ _ _ _ _ t.from_child_bits t.from_children t.child_bits t.children put) (record { data_bits = t.data_bits; items = t.items }) rel h.0, h.1)

-- The element at a set bit's slot stands at the bit.
pub held_at : {X : Type 0} (m bit i : ℕ) (xs : List X) (x : X) → bit_at m bit ≡ 1 → length xs ≡ count_ones m → i ≡ slot_of m bit → x ≡ get_or xs i x → HoldsAt m xs bit x
held_at m bit i xs x on len e is = (on, at_plus xs i (slot_of m bit) x e (slice_get_read xs (length xs) i x refl (let l = slot-lt m bit on in omega (arith, l, len, e)) is))

-- Without the child on the way, a prefix below the node has no item.
pub kid_none : {N X : Type 0} (f : NodeShape N X) (w d c : ℕ) (net : Net) (old : N) → d + 5 ≤ net.len → c ≡ bits_toward w d 5 net.bits → bit_at (f.child_bits old) c ≡ 0 → (x : X) → HasItem f w d old net x → ⊥
kid_none f w d c net old long is off x h = let s = ap (bit_at (f.child_bits old)) is ∙ (at_kid f w d old net x long h).1.0.0 in omega (arith, s, off)

-- What the child gives is what the node gives.
pub kid_gets : {N X R : Type 0} (look : R → X) (f : NodeShape N X) (w d c : ℕ) (net : Net) (old kid : N) (r : Option R) → d + 5 ≤ net.len → c
    ≡ bits_toward w d 5 net.bits → HoldsAt (f.child_bits old) (f.children old) c kid → Gets look f w (d + 5) net kid r → Gets look f w d net old r
kid_gets look f w d c net old kid None long is held h = λ x a. h x ((kid_was f w d c old kid held net x long (sym is)).0 a)
kid_gets look f w d c net old kid (Some r) long is held h = (kid_was f w d c old kid held net (look r) long (sym is)).1 h
