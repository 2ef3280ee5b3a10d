-- What changes and look-ups of a trie are on the list of its map.
use Rattle.std.proofs.Common.{◌≡◌, ℕ, ◌+◌, ◌-◌, ◌/◌, ◌<◌, ◌≤◌, ◌∙◌, sym, ap, subst, suc, refl, arith, true, leb, List, [], ◌∷◌, length, Option, Some, None}
use Rattle.std.specs.Prelude.{Ok, Err, ◌↔◌}
use Rattle.trie_model.specs.Nets.{Net, IsNet, covers}
use Rattle.trie_model.specs.Spots.{prefix_net}
use Rattle.trie_model.specs.Tries.{NodeShape, Good, Full, HasItemBelow, ref_at}
use Rattle.trie_model.specs.Puts.{PutIn, TakeIn, Gets}
use Rattle.trie_model.specs.Walks.{Within}
use Rattle.trie_model.specs.Maps.{pairs, value_at, inserted, removed, map_of, MapOk, LongestMatch, missing, present}
use Rattle.trie_model.specs.Longest.{LongestIn}
use Rattle.trie_model.proofs.MapLaws.{none_masked, map_at, at_map, map_put, map_keeps, map_was, map_take, map_empty, map_longest, none_if}
use Rattle.std.proofs.lemmas.Bool.{le-leb, eq-eqb}
use Rattle.trie_model.proofs.Places.{both_hold}
use Rattle.trie_model.proofs.MapLists.{OfWidth, list_of_map, value_of_map, pairs_none, pairs_with, pairs_without, length_with, length_over, length_without}

-- The map of a trie has prefixes of its width alone.
pub of_width : {N X : Type 0} (f : NodeShape N X) (w : ℕ) (node : N) → OfWidth w (map_of f w node)
of_width f w node n x h = (at_map f w node n x h).0

-- The list of a trie.
abbrev pub list_of : {N X : Type 0} → NodeShape N X → ℕ → N → List (Net × X)
list_of f w node = pairs w (map_of f w node)

-- A node with nothing has no entries.
pub list_empty : {N X : Type 0} (f : NodeShape N X) (w : ℕ) (node : N) → f.data_bits node ≡ 0 → f.child_bits node ≡ 0 → list_of f w node ≡ []
list_empty f w node a b = pairs_none w (map_of f w node) (map_empty f w node a b)

-- A node with nothing is a map with no entry.
pub ok_empty : {N X : Type 0} (f : NodeShape N X) (w : ℕ) (node : N) → f.data_bits node ≡ 0 → f.child_bits node ≡ 0 → ((k : ℕ) → Good f w k 0 node) → ((k : ℕ) → Full f k node) → MapOk f w node 0
ok_empty f w node a b good full = record { good = good; full = full; counted = ap length (list_empty f w node a b) }

-- What a search finds is the value in the trie's list.
pub got : {N X R : Type 0} (r : Option R) (look : R → X) (copy : Option R → Option X) (f : NodeShape N X) (w : ℕ) (net : Net) (node : N) → copy None
    ≡ None → ((s : R) → copy (Some s) ≡ Some (look s)) → IsNet w net → Gets look f w 0 net node r → copy r ≡ value_at (list_of f w node) net
got None look copy f w net node none some ok h = none ∙ sym (none_if _ (λ x e. h x (at_map f w node net x e).1)) ∙ sym (value_of_map w (map_of f w node) net (of_width f w node))
got (Some r) look copy f w net node none some ok h = some r ∙ sym (map_at f w node net (look r) ok h) ∙ sym (value_of_map w (map_of f w node) net (of_width f w node))

-- An insertion.
pub record Inserted {N X : Type 0} (f : NodeShape N X) (w : ℕ) (net : Net) (value : X) (old new : N) (was : Option X) : Type 0 where
  pub was_is : was ≡ value_at (list_of f w old) net
  pub list : list_of f w new ≡ inserted w (list_of f w old) net value

-- After an insertion the list has the value, and what was there was its old value.
pub put_done : {N X E : Type 0} (back : E → X) (f : NodeShape N X) (w : ℕ) (net : Net) (value : X) (old new : N) (was : Option X) → IsNet w net → PutIn {E = E} back f w 0 net value old new (Ok was) → Inserted f w net value old new was
put_done back f w net value old new was ok h = record {
  was_is = map_was f w net old was ok h.1 ∙ sym (value_of_map w (map_of f w old) net (of_width f w old));
  list = ap (pairs w) (map_put f w net value old new ok h.0) ∙ pairs_with w (map_of f w old) net value ok (of_width f w old);
}

-- A map with a new entry is a map, with one entry more.
pub put_more : {N X E : Type 0} (back : E → X) (f : NodeShape N X) (w : ℕ) (net : Net) (value : X) (old new : N) (count : ℕ) → IsNet w net → PutIn
    {E = E} back f w 0 net value old new (Ok None) → MapOk f w old count → ((k : ℕ) → Good f w k 0 new) → ((k : ℕ) → Full f k new) → MapOk f w new
    (count + 1)
put_more back f w net value old new count ok h was good full = record {
  good = good;
  full = full;
  counted = ap (λ m. length (pairs w m)) (map_put f w net value old new ok h.0) ∙ length_with w (map_of f w old) net value ok (of_width f w old) (sym (map_was f w net old None ok h.1)) ∙ ap (λ x. x + 1) was.counted;
}

-- A map with another value for an entry is a map, with as many entries.
pub put_over : {N X E : Type 0} (back : E → X) (f : NodeShape N X) (w : ℕ) (net : Net) (value y : X) (old new : N) (count : ℕ) → IsNet w net → PutIn
    {E = E} back f w 0 net value old new (Ok (Some y)) → MapOk f w old count → ((k : ℕ) → Good f w k 0 new) → ((k : ℕ) → Full f k new) → MapOk f w new
    count
put_over back f w net value y old new count ok h was good full = record {
  good = good;
  full = full;
  counted = ap (λ m. length (pairs w m)) (map_put f w net value old new ok h.0) ∙ length_over w (map_of f w old) net value y ok (of_width f w old) (sym (map_was f w net old (Some y) ok h.1)) ∙ was.counted;
}

-- After a refused insertion the list is as before.
pub put_refused : {N X E : Type 0} (back : E → X) (f : NodeShape N X) (w : ℕ) (net : Net) (value : X) (old new : N) (e : E) → IsNet w net → PutIn {E = E} back f w 0 net value old new (Err e) → list_of f w new ≡ list_of f w old
put_refused back f w net value old new e ok h = ap (pairs w) (map_keeps f w net old new ok h.0)

-- After a refused insertion the map is a map, with as many entries.
pub refused_ok : {N X E : Type 0} (back : E → X) (f : NodeShape N X) (w : ℕ) (net : Net) (value : X) (old new : N) (e : E) (count : ℕ) → IsNet w net
    → PutIn {E = E} back f w 0 net value old new (Err e) → MapOk f w old count → ((k : ℕ) → Good f w k 0 new) → ((k : ℕ) → Full f k new) → MapOk f w
    new count
refused_ok back f w net value old new e count ok h was good full = record { good = good; full = full; counted = ap length (put_refused back f w net value old new e ok h) ∙ was.counted }

-- A removal.
pub record Removed {N X : Type 0} (f : NodeShape N X) (w : ℕ) (net : Net) (old new : N) (was : Option X) : Type 0 where
  pub was_is : was ≡ value_at (list_of f w old) net
  pub list : list_of f w new ≡ removed (list_of f w old) net

-- After a removal the list lacks the prefix, and what was there was its value.
pub take_done : {N X : Type 0} (f : NodeShape N X) (w : ℕ) (net : Net) (old new : N) (was : Option X) → IsNet w net → TakeIn f w 0 net old new was → Removed f w net old new was
take_done f w net old new was ok h = let m = map_take f w net old new was ok h in record {
  was_is = m.0 ∙ sym (value_of_map w (map_of f w old) net (of_width f w old));
  list = ap (pairs w) m.1 ∙ pairs_without w (map_of f w old) net (of_width f w old);
}

-- A map without one of its entries is a map, with one entry less.
pub take_less : {N X : Type 0} (f : NodeShape N X) (w : ℕ) (net : Net) (old new : N) (y : X) (count : ℕ) → IsNet w net → TakeIn f w 0 net old new
    (Some y) → MapOk f w old count → ((k : ℕ) → Good f w k 0 new) → ((k : ℕ) → Full f k new) → (0 < count) × MapOk f w new (count - 1)
take_less f w net old new y count ok h was good full =
    let m = map_take f w net old new (Some y) ok h in
    let e : suc (length (list_of f w new)) ≡ length (list_of f w old) = ap (λ z. suc (length (pairs w z))) m.1 ∙ length_without w (map_of f w old) net y (of_width f w old) (sym m.0) in
    let c = was.counted in
    ((omega (arith, e, c)), record { good = good; full = full; counted = omega (arith, e, c) })

-- After the removal of a prefix that wasn't there the map is a map, with as many entries.
pub take_none : {N X : Type 0} (f : NodeShape N X) (w : ℕ) (net : Net) (old new : N) (count : ℕ) → IsNet w net → TakeIn {X = X} f w 0 net old new None
    → MapOk f w old count → ((k : ℕ) → Good f w k 0 new) → ((k : ℕ) → Full f k new) → MapOk f w new count
take_none f w net old new count ok h was good full = record { good = good; full = full; counted = ap (λ z. length (pairs w z)) (map_keeps f w net old new ok h.0) ∙ was.counted }

-- The longest match.
pub longest_found : {N X R S : Type 0} (s : S) (r : R) (size : R → ℕ) (look : R → X) (net_of : S → Net) (value : S → X) (f : NodeShape N X) (w : ℕ)
    (node : N) (n : Net) → IsNet w n → LongestIn size look f w 0 n.bits node 0 n.len (Some r) → net_of s ≡ prefix_net w n.bits (size r) → value s
    ≡ look r → LongestMatch w net_of value (list_of f w node) n (Some s)
longest_found s r size look net_of value f w node n ok h e g =
    let l = map_longest (Some r) size look f w node n ok h in
    let is = list_of_map w (map_of f w node) (of_width f w node) in (
      subst (λ k. covers w k n ≡ true) (sym e) l.0,
      subst (λ k. Within (list_of f w node) k (value s)) (sym e) (subst (λ y. Within (list_of f w node) (prefix_net w n.bits (size r)) y) (sym g) ((is.same _ _).1 l.1)),
      λ k x c a. subst (λ z. k.len ≤ z.len) (sym e) (l.2 k x c ((is.same k x).0 a)),
    )

-- Where no prefix of the key was found, no entry of the list contains it.
pub longest_none : {N X R S : Type 0} (size : R → ℕ) (look : R → X) (net_of : S → Net) (value : S → X) (f : NodeShape N X) (w : ℕ) (node : N)
    (n : Net) → IsNet w n → LongestIn size look f w 0 n.bits node 0 n.len None → LongestMatch w net_of value (list_of f w node) n None
longest_none {N} {X} {R} {S} size look net_of value f w node n ok h = λ k x c a. map_longest {R = R} None size look f w node n ok h k x c (((list_of_map w (map_of f w node) (of_width f w node)).same k x).0 a)

-- No entries, no count.
pub none_counted : {X : Type 0} (xs : List X) (count : ℕ) → length xs ≡ count → count ≡ 0 → xs ≡ []
none_counted xs count e z = length_zero xs (e ∙ z)
  where
    length_zero : {Y : Type 0} (ys : List Y) → length ys ≡ 0 → ys ≡ []
    length_zero ys h = by ys h
      where
        by : {Y : Type 0} (zs : List Y) → length zs ≡ 0 → zs ≡ []
        by [] h = refl
        by (z ∷ zs) h = absurd (let no : ⊥ = omega arith in no)

-- ---- in the form of the code

-- After an insertion the map is a map, with the count that goes with what was there.
pub put_counted : {N X E : Type 0} (was : Option X) (back : E → X) (f : NodeShape N X) (w : ℕ) (net : Net) (value : X) (old new : N) (count : ℕ)
    → IsNet w net → PutIn {E = E} back f w 0 net value old new (Ok was) → MapOk f w old count → ((k : ℕ) → Good f w k 0 new)
    → ((k : ℕ) → Full f k new) → MapOk f w new (count + missing was)
put_counted None back f w net value old new count ok h was good full = put_more back f w net value old new count ok h was good full
put_counted {N} {X} (Some y) back f w net value old new count ok h was good full = subst (MapOk f w new) (let e : count ≡ count + 0 = omega arith in e) (put_over back f w net value y old new count ok h was good full)

-- After a removal the map is a map, with the count that goes with what was there.
pub take_counted : {N X : Type 0} (was : Option X) (f : NodeShape N X) (w : ℕ) (net : Net) (old new : N) (count : ℕ) → IsNet w net → TakeIn f w 0 net
    old new was → MapOk f w old count → ((k : ℕ) → Good f w k 0 new) → ((k : ℕ) → Full f k new) → (present was ≤ count) × MapOk f w new
    (count - present was)
take_counted None f w net old new count ok h was good full = ((omega arith), subst (MapOk f w new) (let e : count ≡ count - 0 = omega arith in e) (take_none f w net old new count ok h was good full))
take_counted (Some y) f w net old new count ok h was good full = let t = take_less f w net old new y count ok h was good full in (t.0, t.1)

-- A list is empty exactly where its count is 0.
pub empty_list : {X : Type 0} (xs : List X) (count : ℕ) → length xs ≡ count → (xs ≡ [] → count ≡ 0) × (count ≡ 0 → xs ≡ [])
empty_list xs count e = ((λ h. sym e ∙ ap length h), (λ h. none_counted xs count e h))

-- ---- the view of a whole trie

-- The root's view has the pairs of the list.
pub root_pairs : {N X : Type 0} (f : NodeShape N X) (w bits data_bits child_bits : ℕ) (node' node : N) (ps : List (Net × X)) → bits ≡ 0 → node' ≡ node
    → data_bits ≡ f.data_bits node' → child_bits ≡ f.child_bits node' → list_of f w node ≡ ps → (n : Net) (x : X) → ref_at f w
    (record { bits = bits; len = 0 }) data_bits child_bits node' n x ↔ Within ps n x
root_pairs {N} {X} f w bits data_bits child_bits node' node ps z g a b e =
    let P : ℕ → N → ℕ → ℕ → List (Net × X) → Type 0 = λ u v i j qs. (n : Net) (x : X) → ref_at f w (record { bits = u; len = 0 }) i j v n x ↔ Within qs n x in
    subst (λ u. P u node' data_bits child_bits ps) (sym z)
    (subst (λ j. P 0 node' data_bits j ps) (sym b)
    (subst (λ i. P 0 node' i (f.child_bits node') ps) (sym a)
    (subst (λ v. P 0 v (f.data_bits v) (f.child_bits v) ps) (sym g)
    (subst (λ qs. P 0 node (f.data_bits node) (f.child_bits node) qs) e at_root))))
  where
    level : (n : Net) → n.len / 5 - 0 / 5 ≡ (n.len - 0) / 5
    level n = omega arith

    at_root : (n : Net) (x : X) → ref_at f w (record { bits = 0; len = 0 }) (f.data_bits node) (f.child_bits node) node n x ↔ Within (list_of f w node) n x
    at_root n x =
        let is = list_of_map w (map_of f w node) (of_width f w node) in (
          (λ h. (is.same n x).1 (map_at f w node n x h.0 (subst (λ k. HasItemBelow f w (f.data_bits node) (f.child_bits node) k 0 node n x) (level n) h.2))),
          (λ h. let a = at_map f w node n x ((is.same n x).0 h) in (a.0, in_root n a.0, subst (λ k. HasItemBelow f w (f.data_bits node) (f.child_bits node) k 0 node n x) (sym (level n)) a.1)),
        )
      where
        in_root : (m : Net) → IsNet w m → covers w (record { bits = 0; len = 0 }) m ≡ true
        in_root m ok = both_hold (leb 0 m.len) _ (le-leb 0 m.len (omega arith)) (eq-eqb _ _ (none_masked w m.bits ok.bits_fit))
