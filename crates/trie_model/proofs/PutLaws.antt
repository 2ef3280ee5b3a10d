-- What putting an item or a child into a node does.
use Rattle.std.proofs.Common.{◌≡◌, ◌≢◌, ℕ, ◌+◌, ◌-◌, ◌*◌, ◌/◌, ◌^◌, ◌<◌, ◌≤◌, ◌∙◌, sym, ap, subst, suc, refl, arith, List, inl, inr}
use Rattle.std.specs.Prelude.{slice_get, ◌↔◌, ◌⊎◌}
use Rattle.trie_model.specs.Views.{net_of_bit}
use Rattle.trie_model.proofs.SpotLaws.{net_back}
use Rattle.std.specs.Int.{bit_at}
use Rattle.trie_model.specs.Nets.{Net, IsNet, masked}
use Rattle.trie_model.proofs.Places.{masked_more}
use Rattle.trie_model.specs.Spots.{bits_toward, data_bit_of}
use Rattle.trie_model.specs.Tries.{slot_of, NodeShape}
use Rattle.trie_model.proofs.NodeLaws.{same_some, among_item, among_zero, among_child, child_among}
use Rattle.trie_model.proofs.RootLaws.{no_bit}
use Rattle.trie_model.specs.Puts.{HoldsAt, PutAt, HasItem, Toward, Puts, Keeps}
use Rattle.trie_model.proofs.SlotLaws.{same_or, less_or}

-- ---- levels of a node

-- An item of the node itself stands at the data bit of its prefix.
pub at_item : {N X : Type 0} (f : NodeShape N X) (w d : ℕ) (node : N) (n : Net) (x : X) → d ≤ n.len → n.len < d + 5 → HasItem f w d node n x → HoldsAt (f.data_bits node) (f.items node) (data_bit_of w d n.bits n.len) x
at_item f w d node n x low lt h = among_item f w (f.data_bits node) (f.child_bits node) d _ node n x (let z : (n.len - d) / 5 ≡ 0 = omega arith in z) h

-- What stands at the data bit of a prefix is the prefix's item.
pub item_at : {N X : Type 0} (f : NodeShape N X) (w d : ℕ) (node : N) (n : Net) (x : X) → d ≤ n.len → n.len < d + 5 → HoldsAt (f.data_bits node) (f.items node) (data_bit_of w d n.bits n.len) x → HasItem f w d node n x
item_at f w d node n x low lt h = among_zero f w (f.data_bits node) (f.child_bits node) d (data_bit_of w d n.bits n.len) _ node n x (let z : (n.len - d) / 5 ≡ 0 = omega arith in z) refl h.0 h.1

-- A length below a node is one level further from it than from its child.
pub levels : (d n : ℕ) → d + 5 ≤ n → (n - d) / 5 ≡ suc ((n - (d + 5)) / 5)
levels d n h = omega arith

-- A pair in a child.
abbrev pub InKid : {N X : Type 0} → NodeShape N X → ℕ → ℕ → N → Net → X → N → Type 0
InKid f w d node n x child = HoldsAt (f.child_bits node) (f.children node) (bits_toward w d 5 n.bits) child × HasItem f w (d + 5) child n x

-- An item below the node is in the child on the way.
pub at_kid : {N X : Type 0} (f : NodeShape N X) (w d : ℕ) (node : N) (n : Net) (x : X) → d + 5 ≤ n.len → HasItem f w d node n x → (child : N) × InKid f w d node n x child
at_kid f w d node n x long h =
    let k = among_child f w (f.data_bits node) (f.child_bits node) d _ _ node n x (levels d n.len long) h in
    (k.0, ((k.1.set, k.1.is), k.1.among))

-- An item in the child on the way is below the node.
pub kid_at : {N X : Type 0} (f : NodeShape N X) (w d : ℕ) (node : N) (n : Net) (x : X) (child : N) → d + 5 ≤ n.len → InKid f w d node n x child → HasItem f w d node n x
kid_at f w d node n x child long h = child_among f w (f.data_bits node) (f.child_bits node) d _ _ node n x child (levels d n.len long) (record { set = h.0.0; is = h.0.1; among = h.1 })

-- ---- an item is put into the node

-- What a node without its items is made of.
pub record SameKids {N X : Type 0} (f : NodeShape N X) (old new : N) : Type 0 where
  pub child_bits : f.child_bits new ≡ f.child_bits old
  pub children : f.children new ≡ f.children old

-- Both nodes have the same items.
pub record SameItems {N X : Type 0} (f : NodeShape N X) (old new : N) : Type 0 where
  pub data_bits : f.data_bits new ≡ f.data_bits old
  pub items : f.items new ≡ f.items old

holds_in : {X : Type 0} (m m' : ℕ) (xs xs' : List X) (b : ℕ) (x : X) → m' ≡ m → xs' ≡ xs → HoldsAt m' xs' b x → HoldsAt m xs b x
holds_in m m' xs xs' b x e f h = subst (λ k. HoldsAt k xs b x) e (subst (λ ys. HoldsAt m' ys b x) f h)

same_kid : {N X : Type 0} (f : NodeShape N X) (w d : ℕ) (old new : N) (n : Net) (x : X) → d + 5 ≤ n.len → f.child_bits new ≡ f.child_bits old → f.children new ≡ f.children old → HasItem f w d new n x → HasItem f w d old n x
same_kid f w d old new n x long e g h =
    let k = at_kid f w d new n x long h in
    kid_at f w d old n x k.0 long (holds_in _ _ _ _ _ k.0 e g k.1.0, k.1.1)

same_item : {N X : Type 0} (f : NodeShape N X) (w d : ℕ) (old new : N) (n : Net) (x : X) → d ≤ n.len → n.len < d + 5 → f.data_bits new ≡ f.data_bits old → f.items new ≡ f.items old → HasItem f w d new n x → HasItem f w d old n x
same_item f w d old new n x low lt e g h = item_at f w d old n x low lt (holds_in _ _ _ _ _ x e g (at_item f w d new n x low lt h))

-- A network of the node is known by its bit.
bit_known : (w d : ℕ) (net n : Net) → IsNet w net → d ≤ net.len → net.len < d + 5 → Toward w d net n → n.len < d + 5 → data_bit_of w d n.bits n.len ≡ data_bit_of w d net.bits net.len → n ≡ net
bit_known w d net n ok low high t lt e =
    sym (net_back w d net.bits n t.is_net t.low lt t.way) ∙ ap (net_of_bit w d net.bits) e ∙ net_back w d net.bits net ok low high refl

-- A node with an item put at the data bit of a prefix has that item there.
pub item_puts : {N X : Type 0} (f : NodeShape N X) (w d bit : ℕ) (net : Net) (value : X) (old new : N) → IsNet w net → d ≤ net.len → net.len < d + 5
    → bit ≡ data_bit_of w d net.bits net.len → PutAt bit value (f.data_bits old) (f.items old) (f.data_bits new) (f.items new) → SameKids f old new
    → Puts f w d net value old new
item_puts {N} {X} f w d bit net value old new ok low high is put same = λ n x t. (out_by n x t (less_or n.len (d + 5)), in_by n x t (less_or n.len (d + 5)))
  where
    apart : (n : Net) → d + 5 ≤ n.len → n ≢ net
    apart n long = λ e. let l = ap (λ p. p.len) e in omega (arith, l, long, high)

    out_bit : (n : Net) (x : X) → Toward w d net n → n.len < d + 5 → HasItem f w d new n x → (data_bit_of w d n.bits n.len ≡ bit) ⊎ (data_bit_of w d n.bits n.len ≢ bit) → (((n ≡ net) × (x ≡ value)) ⊎ ((n ≢ net) × HasItem f w d old n x))
    out_bit n x t lt h (inl e) = inl (bit_known w d net n ok low high t lt (e ∙ is), same_some x value (sym (ap (λ b. slice_get (f.items new) (slot_of (f.data_bits new) b)) (sym e) ∙ (at_item f w d new n x t.low lt h).1) ∙ put.here.1))
    out_bit n x t lt h (inr ne) = inr ((λ q. ne (ap (λ p. data_bit_of w d p.bits p.len) q ∙ sym is)), item_at f w d old n x t.low lt ((put.others _ x ne).0 (at_item f w d new n x t.low lt h)))

    out_by : (n : Net) (x : X) → Toward w d net n → (n.len < d + 5) ⊎ (d + 5 ≤ n.len) → HasItem f w d new n x → (((n ≡ net) × (x ≡ value)) ⊎ ((n ≢ net) × HasItem f w d old n x))
    out_by n x t (inl lt) h = out_bit n x t lt h (same_or _ bit)
    out_by n x t (inr long) h = inr (apart n long, same_kid f w d old new n x long same.child_bits same.children h)

    in_by : (n : Net) (x : X) → Toward w d net n → (n.len < d + 5) ⊎ (d + 5 ≤ n.len) → (((n ≡ net) × (x ≡ value)) ⊎ ((n ≢ net) × HasItem f w d old n x)) → HasItem f w d new n x
    in_by n x t (inl lt) (inl h) =
        let e : data_bit_of w d n.bits n.len ≡ bit = ap (λ p. data_bit_of w d p.bits p.len) h.0 ∙ sym is in
        item_at f w d new n x t.low lt (subst (λ b. HoldsAt (f.data_bits new) (f.items new) b x) (sym e) (subst (λ y. HoldsAt (f.data_bits new) (f.items new) bit y) (sym h.1) put.here))
    in_by n x t (inl lt) (inr h) =
        item_at f w d new n x t.low lt ((put.others _ x (λ e. h.0 (bit_known w d net n ok low high t lt (e ∙ is)))).1 (at_item f w d old n x t.low lt h.1))
    in_by n x t (inr long) (inl h) = absurd (apart n long h.0)
    in_by n x t (inr long) (inr h) = same_kid f w d new old n x long (sym same.child_bits) (sym same.children) h.1

-- ---- a child is put below the node

-- Further on the way.
toward_kid : (w d : ℕ) (net n : Net) → IsNet w net → d + 5 ≤ net.len → Toward w d net n → d + 5 ≤ n.len → bits_toward w d 5 n.bits ≡ bits_toward w d 5 net.bits → Toward w (d + 5) net n
toward_kid w d net n ok deep t long e =
    let fits : d + 5 ≤ w = let l = ok.len_fits in omega arith in
    record {
      is_net = t.is_net;
      low = long;
      way = masked_more w d n.bits fits ∙ ap (λ x. x + bits_toward w d 5 n.bits * 2 ^ (w - (d + 5))) t.way ∙ ap (λ c. masked w net.bits d + c * 2 ^ (w - (d + 5))) e ∙ sym (masked_more w d net.bits fits);
    }

-- A node whose child got an item has that item.
pub kid_puts : {N X : Type 0} (f : NodeShape N X) (w d c : ℕ) (net : Net) (value : X) (old new kid kid' : N) → IsNet w net → d + 5 ≤ net.len → c
    ≡ bits_toward w d 5 net.bits → PutAt c kid' (f.child_bits old) (f.children old) (f.child_bits new) (f.children new) → SameItems f old new
    → ((n : Net) (x : X) → d + 5 ≤ n.len → bits_toward w d 5 n.bits ≡ c → HasItem f w d old n x ↔ HasItem f w (d + 5) kid n x) → Puts f w (d + 5) net
    value kid kid' → Puts f w d net value old new
kid_puts {N} {X} f w d c net value old new kid kid' ok deep is put same was rec = λ n x t. (out_by n x t (less_or n.len (d + 5)), in_by n x t (less_or n.len (d + 5)))
  where
    apart : (n : Net) → n.len < d + 5 → n ≢ net
    apart n lt = λ e. let l = ap (λ p. p.len) e in omega (arith, l, lt, deep)

    way : (n : Net) → n ≡ net → bits_toward w d 5 n.bits ≡ c
    way n e = ap (λ p. bits_toward w d 5 p.bits) e ∙ sym is

    widen : (n : Net) (x : X) → d + 5 ≤ n.len → bits_toward w d 5 n.bits ≡ c → (((n ≡ net) × (x ≡ value)) ⊎ ((n ≢ net) × HasItem f w (d + 5) kid n x)) → (((n ≡ net) × (x ≡ value)) ⊎ ((n ≢ net) × HasItem f w d old n x))
    widen n x long e (inl h) = inl h
    widen n x long e (inr h) = inr (h.0, (was n x long e).1 h.1)

    narrow : (n : Net) (x : X) → d + 5 ≤ n.len → bits_toward w d 5 n.bits ≡ c → (((n ≡ net) × (x ≡ value)) ⊎ ((n ≢ net) × HasItem f w d old n x)) → (((n ≡ net) × (x ≡ value)) ⊎ ((n ≢ net) × HasItem f w (d + 5) kid n x))
    narrow n x long e (inl h) = inl h
    narrow n x long e (inr h) = inr (h.0, (was n x long e).0 h.1)

    out_kid : (n : Net) (x : X) → Toward w d net n → d + 5 ≤ n.len → HasItem f w d new n x → (bits_toward w d 5 n.bits ≡ c) ⊎ (bits_toward w d 5 n.bits ≢ c) → (((n ≡ net) × (x ≡ value)) ⊎ ((n ≢ net) × HasItem f w d old n x))
    out_kid n x t long h (inl e) =
        let k = at_kid f w d new n x long h in
        let same_kid' : k.0 ≡ kid' = same_some k.0 kid' (sym (ap (λ b. slice_get (f.children new) (slot_of (f.child_bits new) b)) (sym e) ∙ k.1.0.1) ∙ put.here.1) in
        widen n x long e ((rec n x (toward_kid w d net n ok deep t long (e ∙ is))).0 (subst (λ z. HasItem f w (d + 5) z n x) same_kid' k.1.1))
    out_kid n x t long h (inr ne) =
        let k = at_kid f w d new n x long h in
        inr ((λ q. ne (way n q)), kid_at f w d old n x k.0 long ((put.others _ k.0 ne).0 k.1.0, k.1.1))

    out_by : (n : Net) (x : X) → Toward w d net n → (n.len < d + 5) ⊎ (d + 5 ≤ n.len) → HasItem f w d new n x → (((n ≡ net) × (x ≡ value)) ⊎ ((n ≢ net) × HasItem f w d old n x))
    out_by n x t (inl lt) h = inr (apart n lt, same_item f w d old new n x t.low lt same.data_bits same.items h)
    out_by n x t (inr long) h = out_kid n x t long h (same_or _ c)

    in_kid : (n : Net) (x : X) → Toward w d net n → d + 5 ≤ n.len → (((n ≡ net) × (x ≡ value)) ⊎ ((n ≢ net) × HasItem f w d old n x)) → (bits_toward w d 5 n.bits ≡ c) ⊎ (bits_toward w d 5 n.bits ≢ c) → HasItem f w d new n x
    in_kid n x t long h (inl e) =
        kid_at f w d new n x kid' long (subst (λ b. HoldsAt (f.child_bits new) (f.children new) b kid') (sym e) put.here, (rec n x (toward_kid w d net n ok deep t long (e ∙ is))).1 (narrow n x long e h))
    in_kid n x t long (inl h) (inr ne) = absurd (ne (way n h.0))
    in_kid n x t long (inr h) (inr ne) =
        let k = at_kid f w d old n x long h.1 in
        kid_at f w d new n x k.0 long ((put.others _ k.0 ne).1 k.1.0, k.1.1)

    in_by : (n : Net) (x : X) → Toward w d net n → (n.len < d + 5) ⊎ (d + 5 ≤ n.len) → (((n ≡ net) × (x ≡ value)) ⊎ ((n ≢ net) × HasItem f w d old n x)) → HasItem f w d new n x
    in_by n x t (inl lt) (inl h) = absurd (apart n lt h.0)
    in_by n x t (inl lt) (inr h) = same_item f w d new old n x t.low lt (sym same.data_bits) (sym same.items) h.1
    in_by n x t (inr long) h = in_kid n x t long h (same_or _ c)

-- ---- refusal

-- A node with the same items and children keeps what it has.
pub same_keeps : {N X : Type 0} (f : NodeShape N X) (w d : ℕ) (net : Net) (old new : N) → SameItems f old new → SameKids f old new → Keeps {N = N} {X = X} f w d net old new
same_keeps {N} {X} f w d net old new items child_bits = λ n x t. (
  (λ h. by old new n x t.low items.data_bits items.items child_bits.child_bits child_bits.children (less_or n.len (d + 5)) h),
  (λ h. by new old n x t.low (sym items.data_bits) (sym items.items) (sym child_bits.child_bits) (sym child_bits.children) (less_or n.len (d + 5)) h),
)
  where
    by : (a b : N) (n : Net) (x : X) → d ≤ n.len → f.data_bits b ≡ f.data_bits a → f.items b ≡ f.items a → f.child_bits b ≡ f.child_bits a
        → f.children b ≡ f.children a → (n.len < d + 5) ⊎ (d + 5 ≤ n.len) → HasItem f w d b n x → HasItem f w d a n x
    by a b n x low e1 e2 e3 e4 (inl lt) h = same_item f w d a b n x low lt e1 e2 h
    by a b n x low e1 e2 e3 e4 (inr long) h = same_kid f w d a b n x long e3 e4 h

-- A node whose child keeps what it has keeps what it has.
pub kid_keeps : {N X : Type 0} (f : NodeShape N X) (w d c : ℕ) (net : Net) (old new kid kid' : N) → IsNet w net → d + 5 ≤ net.len → c ≡ bits_toward w
    d 5 net.bits → PutAt c kid' (f.child_bits old) (f.children old) (f.child_bits new) (f.children new) → SameItems f old new
    → ((n : Net) (x : X) → d + 5 ≤ n.len → bits_toward w d 5 n.bits ≡ c → HasItem f w d old n x ↔ HasItem f w (d + 5) kid n x) → Keeps {N = N} {X = X}
    f w (d + 5) net kid kid' → Keeps {N = N} {X = X} f w d net old new
kid_keeps {N} {X} f w d c net old new kid kid' ok deep is put same was rec = λ n x t. (out_by n x t (less_or n.len (d + 5)), in_by n x t (less_or n.len (d + 5)))
  where
    out_kid : (n : Net) (x : X) → Toward w d net n → d + 5 ≤ n.len → HasItem f w d new n x → (bits_toward w d 5 n.bits ≡ c) ⊎ (bits_toward w d 5 n.bits ≢ c) → HasItem f w d old n x
    out_kid n x t long h (inl e) =
        let k = at_kid f w d new n x long h in
        let same_kid' : k.0 ≡ kid' = same_some k.0 kid' (sym (ap (λ b. slice_get (f.children new) (slot_of (f.child_bits new) b)) (sym e) ∙ k.1.0.1) ∙ put.here.1) in
        (was n x long e).1 ((rec n x (toward_kid w d net n ok deep t long (e ∙ is))).0 (subst (λ z. HasItem f w (d + 5) z n x) same_kid' k.1.1))
    out_kid n x t long h (inr ne) =
        let k = at_kid f w d new n x long h in
        kid_at f w d old n x k.0 long ((put.others _ k.0 ne).0 k.1.0, k.1.1)

    out_by : (n : Net) (x : X) → Toward w d net n → (n.len < d + 5) ⊎ (d + 5 ≤ n.len) → HasItem f w d new n x → HasItem f w d old n x
    out_by n x t (inl lt) h = same_item f w d old new n x t.low lt same.data_bits same.items h
    out_by n x t (inr long) h = out_kid n x t long h (same_or _ c)

    in_kid : (n : Net) (x : X) → Toward w d net n → d + 5 ≤ n.len → HasItem f w d old n x → (bits_toward w d 5 n.bits ≡ c) ⊎ (bits_toward w d 5 n.bits ≢ c) → HasItem f w d new n x
    in_kid n x t long h (inl e) =
        kid_at f w d new n x kid' long (subst (λ b. HoldsAt (f.child_bits new) (f.children new) b kid') (sym e) put.here, (rec n x (toward_kid w d net n ok deep t long (e ∙ is))).1 ((was n x long e).0 h))
    in_kid n x t long h (inr ne) =
        let k = at_kid f w d old n x long h in
        kid_at f w d new n x k.0 long ((put.others _ k.0 ne).1 k.1.0, k.1.1)

    in_by : (n : Net) (x : X) → Toward w d net n → (n.len < d + 5) ⊎ (d + 5 ≤ n.len) → HasItem f w d old n x → HasItem f w d new n x
    in_by n x t (inl lt) h = same_item f w d new old n x t.low lt (sym same.data_bits) (sym same.items) h
    in_by n x t (inr long) h = in_kid n x t long h (same_or _ c)

-- The child there was.
pub kid_was : {N X : Type 0} (f : NodeShape N X) (w d c : ℕ) (old kid : N) → HoldsAt (f.child_bits old) (f.children old) c kid → (n : Net) (x : X) → d
    + 5 ≤ n.len → bits_toward w d 5 n.bits ≡ c → HasItem f w d old n x ↔ HasItem f w (d + 5) kid n x
kid_was f w d c old kid held n x long e = (
  (λ h.
      let k = at_kid f w d old n x long h in
      let same : k.0 ≡ kid = same_some k.0 kid (sym (ap (λ b. slice_get (f.children old) (slot_of (f.child_bits old) b)) (sym e) ∙ k.1.0.1) ∙ held.1) in
      subst (λ z. HasItem f w (d + 5) z n x) same k.1.1),
  (λ h. kid_at f w d old n x kid long (subst (λ b. HoldsAt (f.child_bits old) (f.children old) b kid) (sym e) held, h)),
)

-- None.
pub none_was : {N X : Type 0} (f : NodeShape N X) (w d c : ℕ) (old kid : N) → bit_at (f.child_bits old) c ≡ 0 → f.data_bits kid ≡ 0 → f.child_bits kid
    ≡ 0 → (n : Net) (x : X) → d + 5 ≤ n.len → bits_toward w d 5 n.bits ≡ c → HasItem f w d old n x ↔ HasItem f w (d + 5) kid n x
none_was f w d c old kid off a b n x long e = (
  (λ h. let k = at_kid f w d old n x long h in absurd (let s = sym (ap (bit_at (f.child_bits old)) e) ∙ k.1.0.0 in let no : ⊥ = omega (arith, s, off) in no)),
  (λ h. absurd (empty_by h (less_or n.len (d + 5 + 5)))),
)
  where
    empty_by : HasItem f w (d + 5) kid n x → (n.len < d + 5 + 5) ⊎ (d + 5 + 5 ≤ n.len) → ⊥
    empty_by h (inl lt) = no_bit _ _ a (at_item f w (d + 5) kid n x long lt h).0
    empty_by h (inr far) = no_bit _ _ b (at_kid f w (d + 5) kid n x far h).1.0.0
