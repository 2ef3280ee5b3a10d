-- Laws of nodes whose children all have something.
use Rattle.std.proofs.Common.{◌≡◌, ◌≢◌, ℕ, ◌+◌, ◌^◌, ◌<◌, ◌≤◌, ◌∙◌, sym, ap, subst, suc, zero, refl, arith, Option, Some, inl, inr}
use Rattle.std.specs.Prelude.{Result, Ok, Err, slice_get, ◌⊎◌}
use Rattle.std.specs.Result.{OnErr}
use Rattle.std.specs.Int.{bit_at}
use Rattle.std.proofs.lemmas.Nat.Bits.{bit_at-zero, bit_at-lt, same_from_bits_below}
use Rattle.trie_model.specs.Nets.{Net, IsNet}
use Rattle.trie_model.specs.Tries.{slot_of, NodeShape, Full, FullBut}
use Rattle.trie_model.specs.Puts.{HoldsAt, PutAt, TakenAt, HasItem, PutIn}
use Rattle.trie_model.proofs.NodeLaws.{same_some}
use Rattle.trie_model.proofs.SlotLaws.{less_or, same_or}
use Rattle.trie_model.proofs.PutLaws.{at_item, at_kid}

-- A node without children.
pub full_leaf : {N X : Type 0} (f : NodeShape N X) (node : N) → f.child_bits node ≡ 0 → (k : ℕ) → Full f k node
unfolding Full
full_leaf f node e zero = tt
full_leaf f node e (suc k) = λ b c on h. absurd (let z = sym on ∙ ap (λ m. bit_at m b) e ∙ bit_at-zero b in let no : ⊥ = omega arith in no)

-- The same children.
pub full_same : {N X : Type 0} (f : NodeShape N X) (old new : N) → ((k : ℕ) → Full f k old) → f.child_bits new ≡ f.child_bits old → f.children new ≡ f.children old → (k : ℕ) → Full f k new
unfolding Full
full_same f old new full e g zero = tt
full_same f old new full e g (suc k) = λ b c on h. full (suc k) b c (sym (ap (λ m. bit_at m b) e) ∙ on) (sym (ap (λ m. slice_get (f.children new) (slot_of m b)) e ∙ ap (λ xs. slice_get xs (slot_of (f.child_bits old) b)) g) ∙ h)

-- What stands at a bit has something.
pub full_child : {N X : Type 0} (f : NodeShape N X) (node : N) → ((k : ℕ) → Full f k node) → (b : ℕ) (c : N) → HoldsAt (f.child_bits node) (f.children node) b c → (0 < f.data_bits c + f.child_bits c) × ((k : ℕ) → Full f k c)
unfolding Full
full_child f node full b c h = ((full 1 b c h.0 h.1).0, λ k. (full (suc k) b c h.0 h.1).1)

-- Another child, or a new one.
pub full_put : {N X : Type 0} (f : NodeShape N X) (bit : ℕ) (kid old new : N) → PutAt bit kid (f.child_bits old) (f.children old) (f.child_bits new)
    (f.children new) → ((k : ℕ) → Full f k old) → 0 < f.data_bits kid + f.child_bits kid → ((k : ℕ) → Full f k kid) → (k : ℕ) → Full f k new
unfolding Full
full_put f bit kid old new put full some below zero = tt
full_put {N} f bit kid old new put full some below (suc k) = λ b c on h. by b c on h (same_or b bit)
  where
    by : (b : ℕ) (c : N) → bit_at (f.child_bits new) b ≡ 1 → slice_get (f.children new) (slot_of (f.child_bits new) b) ≡ Some c → (b ≡ bit) ⊎ (b ≢ bit) → (0 < f.data_bits c + f.child_bits c) × Full f k c
    by b c on h (inl e) =
        let same : kid ≡ c = same_some kid c (sym put.here.1 ∙ ap (λ z. slice_get (f.children new) (slot_of (f.child_bits new) z)) (sym e) ∙ h) in
        (subst (λ z. 0 < f.data_bits z + f.child_bits z) same some, subst (λ z. Full f k z) same (below k))
    by b c on h (inr ne) = let was = (put.others b c ne).0 (on, h) in full (suc k) b c was.0 was.1

-- A child that may have nothing.
pub full_but : {N X : Type 0} (f : NodeShape N X) (bit : ℕ) (kid old new : N) → PutAt bit kid (f.child_bits old) (f.children old) (f.child_bits new)
    (f.children new) → ((k : ℕ) → Full f k old) → ((k : ℕ) → Full f k kid) → (k : ℕ) → FullBut f bit k new
full_but {N} f bit kid old new put full below k = λ b c on h. by b c on h (same_or b bit)
  where
    by : (b : ℕ) (c : N) → bit_at (f.child_bits new) b ≡ 1 → slice_get (f.children new) (slot_of (f.child_bits new) b) ≡ Some c → (b ≡ bit) ⊎ (b ≢ bit) → ((b ≢ bit) → 0 < f.data_bits c + f.child_bits c) × Full f k c
    by b c on h (inl e) =
        let same : kid ≡ c = same_some kid c (sym put.here.1 ∙ ap (λ z. slice_get (f.children new) (slot_of (f.child_bits new) z)) (sym e) ∙ h) in
        ((λ ne. absurd (ne e)), subst (λ z. Full f k z) same (below k))
    by b c on h (inr ne) = let was = full_child f old full b c ((put.others b c ne).0 (on, h)) in ((λ q. was.0), was.1 k)

-- The child has something after all.
pub full_kept : {N X : Type 0} (f : NodeShape N X) (bit : ℕ) (kid node : N) → HoldsAt (f.child_bits node) (f.children node) bit kid → 0 < f.data_bits kid + f.child_bits kid → ((k : ℕ) → FullBut f bit k node) → (k : ℕ) → Full f k node
unfolding Full
full_kept f bit kid node held some full zero = tt
full_kept {N} f bit kid node held some full (suc k) = λ b c on h. (by b c on h (same_or b bit), (full k b c on h).1)
  where
    by : (b : ℕ) (c : N) → bit_at (f.child_bits node) b ≡ 1 → slice_get (f.children node) (slot_of (f.child_bits node) b) ≡ Some c → (b ≡ bit) ⊎ (b ≢ bit) → 0 < f.data_bits c + f.child_bits c
    by b c on h (inl e) =
        let same : kid ≡ c = same_some kid c (sym held.1 ∙ ap (λ z. slice_get (f.children node) (slot_of (f.child_bits node) z)) (sym e) ∙ h) in
        subst (λ z. 0 < f.data_bits z + f.child_bits z) same some
    by b c on h (inr ne) = (full k b c on h).0 ne

-- The child is gone.
pub full_gone : {N X : Type 0} (f : NodeShape N X) (bit : ℕ) (kid old new : N) → TakenAt bit kid (f.child_bits old) (f.children old) (f.child_bits new) (f.children new) → ((k : ℕ) → FullBut f bit k old) → (k : ℕ) → Full f k new
unfolding Full
full_gone f bit kid old new t full zero = tt
full_gone {N} f bit kid old new t full (suc k) = λ b c on h.
    let ne : b ≢ bit = λ e. let z = t.gone in let o = sym (ap (bit_at (f.child_bits new)) e) ∙ on in let no : ⊥ = omega arith in no in
    let was = (t.put.others b c ne).1 (on, h) in
    ((full k b c was.0 was.1).0 ne, (full k b c was.0 was.1).1)

nonzero : (n b : ℕ) → bit_at n b ≡ 1 → 0 < n
nonzero zero b on = absurd (let z = bit_at-zero b in let no : ⊥ = omega arith in no)
nonzero (suc n) b on = omega arith

-- A node with a pair has something.
pub some_at : {N X : Type 0} (f : NodeShape N X) (w d : ℕ) (node : N) (n : Net) (x : X) → d ≤ n.len → HasItem f w d node n x → 0 < f.data_bits node + f.child_bits node
some_at {N} {X} f w d node n x low h = by (less_or n.len (d + 5))
  where
    by : (n.len < d + 5) ⊎ (d + 5 ≤ n.len) → 0 < f.data_bits node + f.child_bits node
    by (inl lt) = let p = nonzero (f.data_bits node) _ (at_item f w d node n x low lt h).0 in omega (arith, p)
    by (inr long) = let p = nonzero (f.child_bits node) _ (at_kid f w d node n x long h).1.0.0 in omega (arith, p)

-- An insertion leaves something, or what was there.
pub some_put : {N X E : Type 0} (r : Result (Option X) E) (back : E → X) (f : NodeShape N X) (w d : ℕ) (net : Net) (value : X) (old new : N) → IsNet w
    net → d ≤ net.len → PutIn back f w d net value old new r → OnErr r (f.data_bits new ≡ f.data_bits old) → OnErr r
    (f.child_bits new ≡ f.child_bits old) → 0 < f.data_bits old + f.child_bits old → 0 < f.data_bits new + f.child_bits new
some_put (Ok was) back f w d net value old new ok low h e g some = some_at f w d new net value low ((h.0 net value (record { is_net = ok; low = low; way = refl })).1 (inl (refl, refl)))
some_put (Err x) back f w d net value old new ok low h e g some = omega (arith, e, g, some)

-- The first pair of a node aside.
pub some_new : {N X E : Type 0} (back : E → X) (f : NodeShape N X) (w d : ℕ) (net : Net) (value : X) (old new : N) (was : Option X) → IsNet w net → d
    ≤ net.len → PutIn {E = E} back f w d net value old new (Ok was) → 0 < f.data_bits new + f.child_bits new
some_new back f w d net value old new was ok low h = some_at f w d new net value low ((h.0 net value (record { is_net = ok; low = low; way = refl })).1 (inl (refl, refl)))

-- ---- a node with something has a pair

first_bit : (n k : ℕ) → ((i : ℕ) × (bit_at n i ≡ 1)) ⊎ ((i : ℕ) → i < k → bit_at n i ≡ 0)
first_bit n zero = inr (λ i lt. absurd (let no : ⊥ = omega arith in no))
first_bit n (suc k) = by (first_bit n k) (same_or (bit_at n k) 1)
  where
    by : ((i : ℕ) × (bit_at n i ≡ 1)) ⊎ ((i : ℕ) → i < k → bit_at n i ≡ 0) → (bit_at n k ≡ 1) ⊎ (bit_at n k ≢ 1) → ((i : ℕ) × (bit_at n i ≡ 1)) ⊎ ((i : ℕ) → i < suc k → bit_at n i ≡ 0)
    by (inl h) q = inl h
    by (inr h) (inl q) = inl (k, q)
    by (inr h) (inr q) = inr (λ i lt. at i lt (same_or i k))
      where
        at : (i : ℕ) → i < suc k → (i ≡ k) ⊎ (i ≢ k) → bit_at n i ≡ 0
        at i lt (inl e) = ap (bit_at n) e ∙ (let small = bit_at-lt n k in omega (arith, small, q))
        at i lt (inr ne) = h i (omega (arith, lt, ne))

-- A number above 0 has a bit that is set.
pub some_bit : (n k : ℕ) → n < 2 ^ k → 0 < n → (i : ℕ) × (bit_at n i ≡ 1)
some_bit n k fit pos = by (first_bit n k)
  where
    by : ((i : ℕ) × (bit_at n i ≡ 1)) ⊎ ((i : ℕ) → i < k → bit_at n i ≡ 0) → (i : ℕ) × (bit_at n i ≡ 1)
    by (inl h) = h
    by (inr h) = absurd (let e = same_from_bits_below k n 0 fit (omega arith) (λ i lt. h i lt ∙ sym (bit_at-zero i)) in let no : ⊥ = omega (arith, e, pos) in no)

-- A sum is above 0 where its first part isn't 0.
pub some_left : (a b : ℕ) → a ≢ 0 → 0 < a + b
some_left a b h = omega (arith, h)

-- A sum is above 0 where its second part isn't 0.
pub some_right : (a b : ℕ) → b ≢ 0 → 0 < a + b
some_right a b h = omega (arith, h)
