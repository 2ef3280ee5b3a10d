-- Laws of the map that a trie holds.
use Rattle.std.proofs.Common.{◌≡◌, ◌≢◌, ℕ, ◌+◌, ◌-◌, ◌*◌, ◌/◌, ◌^◌, ◌<◌, ◌≤◌, ◌∙◌, sym, ap, subst, suc, zero, refl, arith, Bool, true, false, cond, leb, List, Option, Some, None, inl, inr}
use Rattle.std.specs.Prelude.{slice_get, ◌⊎◌}
use Rattle.std.specs.Option.{option_and_then}
use Rattle.std.specs.Int.{bit_at}
use Rattle.std.proofs.lemmas.Bool.{eqb-true, eq-eqb, leb-true, le-leb}
use Rattle.std.proofs.lemmas.Nat.{div_below, pow_pos}
use Rattle.trie_model.specs.Nets.{Net, IsNet, covers, masked}
use Rattle.trie_model.specs.Spots.{prefix_net}
use Rattle.trie_model.specs.Views.{same_net}
use Rattle.trie_model.specs.Tries.{slot_of, NodeShape, HasItemBelow}
use Rattle.trie_model.specs.Puts.{HasItem, Toward, Puts, Keeps, Was, TakeIn}
use Rattle.trie_model.specs.Maps.{with_entry, without_entry, no_entries, at_bit, item_below, is_net, map_of}
use Rattle.trie_model.specs.Longest.{LongestIn}
use Rattle.trie_model.proofs.Places.{and_left, and_right, both_hold, elim-false, covers_len, covers_bits}
use Rattle.trie_model.proofs.SpotLaws.{lt-ltb, ltb-lt}
use Rattle.trie_model.proofs.MaskLaws.{masked_net}
use Rattle.trie_model.proofs.TrieLaws.{same_net_is, same_back}
use Rattle.trie_model.proofs.RootLaws.{no_bit}
use Rattle.trie_model.proofs.WalkLaws.{either}
use Rattle.trie_model.proofs.SlotLaws.{less_or}
use Rattle.trie_model.proofs.PutLaws.{at_item, at_kid}

-- ---- options

-- Maps with the same value for each prefix are one.
pub same_map : {X : Type 0} (m k : Net → Option X) → ((n : Net) → m n ≡ k n) → m ≡ k
same_map m k h = λ i n. h n i

not_some : {X : Type 0} (x : X) → None ≡ Some x → ⊥
not_some x e = cc

-- Two options that have the same values are one.
pub by_somes : {X : Type 0} (a b : Option X) → ((x : X) → a ≡ Some x → b ≡ Some x) → ((x : X) → b ≡ Some x → a ≡ Some x) → a ≡ b
by_somes None None p q = refl
by_somes None (Some y) p q = q y refl
by_somes (Some x) b p q = sym (p x refl)

-- An option without a value is None.
pub none_if : {X : Type 0} (a : Option X) → ((x : X) → a ≡ Some x → ⊥) → a ≡ None
none_if None h = refl
none_if (Some x) h = absurd (h x refl)

bit_some : {X : Type 0} (t : Bool) (y : Option X) (x : X) → cond t y None ≡ Some x → (t ≡ true) × (y ≡ Some x)
bit_some true y x h = (refl, h)
bit_some false y x h = absurd (not_some x h)

-- What stands at a set bit is in the list, at the bit's slot.
pub at_bit_some : {X : Type 0} (bitmap : ℕ) (xs : List X) (bit : ℕ) (x : X) → at_bit bitmap xs bit ≡ Some x → (bit_at bitmap bit ≡ 1) × (slice_get xs (slot_of bitmap bit) ≡ Some x)
at_bit_some bitmap xs bit x h = let s = bit_some _ _ x h in (eqb-true _ _ s.0, s.1)

-- What is in the list at a set bit's slot stands at the bit.
pub some_at_bit : {X : Type 0} (bitmap : ℕ) (xs : List X) (bit : ℕ) (x : X) → bit_at bitmap bit ≡ 1 → slice_get xs (slot_of bitmap bit) ≡ Some x → at_bit bitmap xs bit ≡ Some x
some_at_bit bitmap xs bit x on h = ap (λ t. cond t (slice_get xs (slot_of bitmap bit)) None) (eq-eqb _ _ on) ∙ h

then_some : {A X : Type 0} (g : A → Option X) (o : Option A) (x : X) → option_and_then g o ≡ Some x → (a : A) × ((o ≡ Some a) × (g a ≡ Some x))
then_some g None x h = absurd (not_some x h)
then_some g (Some a) x h = (a, (refl, h))

-- ---- the item of a prefix

-- What a node has at a prefix is the item that is found there.
pub item_of : {N X : Type 0} (f : NodeShape N X) (w d k : ℕ) (node : N) (n : Net) (x : X) → HasItemBelow f w (f.data_bits node) (f.child_bits node) k d node n x → item_below f w d k node n ≡ Some x
unfolding HasItemBelow item_below
item_of f w d zero node n x h = some_at_bit (f.data_bits node) (f.items node) _ x h.0 h.1
item_of f w d (suc k) node n x h =
    ap (option_and_then (λ child. item_below f w (d + 5) k child n)) (some_at_bit (f.child_bits node) (f.children node) _ h.1.0 h.0 h.1.1)
    ∙ item_of f w (d + 5) k h.1.0 n x h.1.2

-- The item that is found at a prefix is what the node has there.
pub of_item : {N X : Type 0} (f : NodeShape N X) (w d k : ℕ) (node : N) (n : Net) (x : X) → item_below f w d k node n ≡ Some x → HasItemBelow f w (f.data_bits node) (f.child_bits node) k d node n x
unfolding HasItemBelow item_below
of_item f w d zero node n x h = at_bit_some (f.data_bits node) (f.items node) _ x h
of_item f w d (suc k) node n x h =
    let t = then_some (λ child. item_below f w (d + 5) k child n) _ x h in
    let s = at_bit_some (f.child_bits node) (f.children node) _ t.0 t.1.0 in
    (s.0, (t.0, s.1, of_item f w (d + 5) k t.0 n x t.1.1))

-- What passes the test is a prefix without host bits.
pub net_is : (w : ℕ) (n : Net) → is_net w n ≡ true → IsNet w n
net_is w n h = record {
  len_fits = leb-true _ _ (and_left _ _ (and_left _ _ h));
  bits_fit = ltb-lt _ _ (and_right _ _ (and_left _ _ h));
  no_rest = eqb-true _ _ (and_right _ _ h);
}

-- A prefix without host bits passes the test.
pub is_net_of : (w : ℕ) (n : Net) → IsNet w n → is_net w n ≡ true
is_net_of w n ok = both_hold _ _ (both_hold _ _ (le-leb _ _ ok.len_fits) (lt-ltb _ _ ok.bits_fit)) (eq-eqb _ _ ok.no_rest)

-- What a trie has at a prefix is the value of its map.
pub map_at : {N X : Type 0} (f : NodeShape N X) (w : ℕ) (node : N) (n : Net) (x : X) → IsNet w n → HasItem f w 0 node n x → map_of f w node n ≡ Some x
map_at f w node n x ok h = ap (λ t. cond t (item_below f w 0 ((n.len - 0) / 5) node n) None) (is_net_of w n ok) ∙ item_of f w 0 ((n.len - 0) / 5) node n x h

-- The value of a trie's map is what it has at the prefix.
pub at_map : {N X : Type 0} (f : NodeShape N X) (w : ℕ) (node : N) (n : Net) (x : X) → map_of f w node n ≡ Some x → IsNet w n × HasItem f w 0 node n x
at_map f w node n x h = let s = bit_some _ _ x h in (net_is w n s.0, of_item f w 0 ((n.len - 0) / 5) node n x s.1)

-- ---- from the relation to the map

-- The first 0 bits of a number are 0.
pub none_masked : (w n : ℕ) → n < 2 ^ w → masked w n 0 ≡ 0
none_masked w n fit =
    let p = pow_pos w in
    let z : n / 2 ^ w < 1 = div_below n (2 ^ w) 1 p (omega arith) in
    let q : n / 2 ^ w ≡ 0 = omega arith in
    let e : w - 0 ≡ w = omega arith in
    ap (λ k. n / 2 ^ k * 2 ^ k) e ∙ ap (λ x. x * 2 ^ w) q ∙ omega arith

-- Each network lies below the root.
pub from_root : (w : ℕ) (net n : Net) → IsNet w net → IsNet w n → Toward w 0 net n
from_root w net n ok is = record {
  is_net = is;
  low = omega arith;
  way = none_masked w n.bits is.bits_fit ∙ sym (none_masked w net.bits ok.bits_fit);
}

same_or_not : (a b : Net) (t : Bool) → same_net a b ≡ t → (a ≡ b) ⊎ (same_net a b ≡ false)
same_or_not a b true h = inl (same_back a b h)
same_or_not a b false h = inr h

-- Two prefixes are one, or the test of that is false.
pub nets_or : (a b : Net) → (a ≡ b) ⊎ (same_net a b ≡ false)
nets_or a b = same_or_not a b (same_net a b) refl

not_same : (a b : Net) → same_net a b ≡ false → b ≢ a
not_same a b f = λ e. elim-false (sym f ∙ ap (same_net a) e ∙ same_net_is a a refl)

-- A trie with an item put has the map with that entry.
pub map_put : {N X : Type 0} (f : NodeShape N X) (w : ℕ) (net : Net) (value : X) (old new : N) → IsNet w net → Puts f w 0 net value old new → map_of f w new ≡ with_entry (map_of f w old) net value
map_put {N} {X} f w net value old new ok puts = same_map _ _ (λ n. at n (nets_or net n))
  where
    at : (n : Net) → (net ≡ n) ⊎ (same_net net n ≡ false) → map_of f w new n ≡ with_entry (map_of f w old) net value n
    at n (inl e) = subst (λ k. map_of f w new k ≡ with_entry (map_of f w old) net value k) e
        (map_at f w new net value ok ((puts net value (from_root w net net ok ok)).1 (inl (refl, refl))) ∙ sym (ap (λ t. cond t (Some value) (map_of f w old net)) (same_net_is net net refl)))
    at n (inr apart) = by_somes _ _
        (λ x h. let a = at_map f w new n x h in either (λ e. absurd (not_same net n apart e.0)) (λ e. map_at f w old n x a.0 e.1) ((puts n x (from_root w net n ok a.0)).0 a.1))
        (λ x h. let a = at_map f w old n x h in map_at f w new n x a.0 ((puts n x (from_root w net n ok a.0)).1 (inr (not_same net n apart, a.1))))
        ∙ sym (ap (λ t. cond t (Some value) (map_of f w old n)) apart)

-- A trie that keeps its items keeps its map.
pub map_keeps : {N X : Type 0} (f : NodeShape N X) (w : ℕ) (net : Net) (old new : N) → IsNet w net → Keeps {N = N} {X = X} f w 0 net old new → map_of f w new ≡ map_of f w old
map_keeps f w net old new ok keeps = same_map _ _ (λ n. by_somes _ _
    (λ x h. let a = at_map f w new n x h in map_at f w old n x a.0 ((keeps n x (from_root w net n ok a.0)).0 a.1))
    (λ x h. let a = at_map f w old n x h in map_at f w new n x a.0 ((keeps n x (from_root w net n ok a.0)).1 a.1)))

-- What was there is the value of the old map.
pub map_was : {N X : Type 0} (f : NodeShape N X) (w : ℕ) (net : Net) (old : N) (r : Option X) → IsNet w net → Was f w 0 net old r → r ≡ map_of f w old net
map_was f w net old None ok h = sym (none_if _ (λ x e. h x (at_map f w old net x e).1))
map_was f w net old (Some x) ok h = sym (map_at f w old net x ok h)

without_none : {X : Type 0} (m : Net → Option X) (net : Net) → m net ≡ None → m ≡ without_entry m net
without_none {X} m net e = same_map _ _ (λ n. at n (nets_or net n))
  where
    at : (n : Net) → (net ≡ n) ⊎ (same_net net n ≡ false) → m n ≡ without_entry m net n
    at n (inl q) = subst (λ k. m k ≡ without_entry m net k) q (e ∙ sym (ap (λ t. cond t None (m net)) (same_net_is net net refl)))
    at n (inr apart) = sym (ap (λ t. cond t None (m n)) apart)

-- A trie with an item taken out has the map without that entry, and the item was its value.
pub map_take : {N X : Type 0} (f : NodeShape N X) (w : ℕ) (net : Net) (old new : N) (r : Option X) → IsNet w net → TakeIn f w 0 net old new r → (r ≡ map_of f w old net) × (map_of f w new ≡ without_entry (map_of f w old) net)
map_take f w net old new None ok h =
    let none = none_if (map_of f w old net) (λ x e. h.1 x (at_map f w old net x e).1) in
    (sym none, map_keeps f w net old new ok h.0 ∙ without_none (map_of f w old) net none)
map_take {N} {X} f w net old new (Some y) ok h =
    (sym (map_at f w old net y ok ((h.0 net y (from_root w net net ok ok)).1 (inl (refl, refl)))), same_map _ _ (λ n. at n (nets_or net n)))
  where
    at : (n : Net) → (net ≡ n) ⊎ (same_net net n ≡ false) → map_of f w new n ≡ without_entry (map_of f w old) net n
    at n (inl e) = subst (λ k. map_of f w new k ≡ without_entry (map_of f w old) net k) e
        (none_if _ (λ x q. h.1 x (at_map f w new net x q).1) ∙ sym (ap (λ t. cond t None (map_of f w old net)) (same_net_is net net refl)))
    at n (inr apart) = by_somes _ _
        (λ x q. let a = at_map f w new n x q in map_at f w old n x a.0 ((h.0 n x (from_root w net n ok a.0)).1 (inr (not_same net n apart, a.1))))
        (λ x q. let a = at_map f w old n x q in either (λ e. absurd (not_same net n apart e.0)) (λ e. map_at f w new n x a.0 e.1) ((h.0 n x (from_root w net n ok a.0)).0 a.1))
        ∙ sym (ap (λ t. cond t None (map_of f w old n)) apart)

-- A node with nothing.
pub map_empty : {N X : Type 0} (f : NodeShape N X) (w : ℕ) (node : N) → f.data_bits node ≡ 0 → f.child_bits node ≡ 0 → map_of f w node ≡ no_entries {X = X}
map_empty {N} {X} f w node a b = same_map _ _ (λ n. none_if _ (λ x h. at n x (at_map f w node n x h).1 (less_or n.len 5)))
  where
    at : (n : Net) (x : X) → HasItem f w 0 node n x → (n.len < 5) ⊎ (5 ≤ n.len) → ⊥
    at n x h (inl lt) = no_bit _ _ a (at_item f w 0 node n x (omega arith) lt h).0
    at n x h (inr long) = no_bit _ _ b (at_kid f w 0 node n x long h).1.0.0

-- ---- the longest match

covered_is : (w : ℕ) (k n : Net) → covers w k n ≡ true → k ≡ prefix_net w n.bits k.len
covered_is w k n h = ap (λ b. record { bits = b; len = k.len }) (sym (covers_bits w k n h))

-- The longest prefix of a map that contains this one.
abbrev pub LongestEntry : {X R : Type 0} → ℕ → (R → Net) → (R → X) → (Net → Option X) → Net → Option R → Type 0
LongestEntry {X} w net_of look m n None = (k : Net) (x : X) → covers w k n ≡ true → m k ≡ Some x → ⊥
LongestEntry {X} w net_of look m n (Some r) = (covers w (net_of r) n ≡ true) × (m (net_of r) ≡ Some (look r)) × ((k : Net) (x : X) → covers w k n ≡ true → m k ≡ Some x → k.len ≤ (net_of r).len)

-- The longest prefix that was found is the longest entry of the map that contains the key.
pub map_longest : {N X R : Type 0} (r : Option R) (size : R → ℕ) (look : R → X) (f : NodeShape N X) (w : ℕ) (node : N) (n : Net) → IsNet w n
    → LongestIn size look f w 0 n.bits node 0 n.len r → LongestEntry w (λ s. prefix_net w n.bits (size s)) look (map_of f w node) n r
map_longest None size look f w node n ok h = λ k x c e. h k.len x (omega arith) (covers_len w k n c) (subst (λ p. HasItem f w 0 node p x) (covered_is w k n c) (at_map f w node k x e).1)
map_longest (Some r) size look f w node n ok h =
    let le : size r ≤ w = let a = h.1 in let b = ok.len_fits in omega arith in (
      both_hold (leb (size r) n.len) _ (le-leb _ _ h.1) (eq-eqb _ _ refl),
      map_at f w node _ (look r) (masked_net w (size r) n.bits le ok.bits_fit) h.2,
      λ k x c e. h.3 k.len x (omega arith) (covers_len w k n c) (subst (λ p. HasItem f w 0 node p x) (covered_is w k n c) (at_map f w node k x e).1),
    )
