-- Laws of the views of nodes.
use Rattle.std.proofs.Common.{◌≡◌, ◌≢◌, ℕ, ◌+◌, ◌-◌, ◌*◌, ◌/◌, ◌%◌, ◌^◌, ◌<◌, ◌≤◌, ◌∙◌, sym, ap, subst, suc, refl, arith, Bool, true, false, eqb, leb, bit_and, Some, lt_of_not-le}
use Rattle.std.specs.Prelude.{slice_get}
use Rattle.std.specs.Int.{bit_at, bit_not, w32}
use Rattle.std.proofs.lemmas.Bool.{eqb-true, eq-eqb, le-leb}
use Rattle.std.proofs.lemmas.Nat.{and_le_l}
use Rattle.std.proofs.lemmas.Nat.Bits.{bit_at_clear_same, bit_at_clear_other, bit_at_above}
use Rattle.trie_model.specs.Nets.{Net, IsNet, covers, masked}
use Rattle.trie_model.specs.Views.{depth_at, level_of, net_of_bit, data_net, child_net, same_net, IsView, TookData, TookChild, IsChild}
use Rattle.trie_model.proofs.Places.{and_left, and_right, both_hold, not_true, elim-false, depth_le, level_le, covers_len, covers_way, covers_toward, toward_covers, bit_below}
use Rattle.trie_model.specs.Spots.{bits_toward, data_bit_of, ltb}
use Rattle.trie_model.proofs.SpotLaws.{data_low, net_back, bit_back, lt-ltb, ltb-lt}
use Rattle.trie_model.proofs.Places.{depth_below}
use Rattle.trie_model.specs.Tries.{Cleared, Full, slot_of, NodeShape, HasItemBelow, Good, RefOk, ref_told}
use Rattle.trie_model.proofs.NodeLaws.{slot-lt, same_some, level_inside, data_is_net, child_is_net, covers_trans, levels_zero, levels_less, levels_suc, levels_more, among_zero, among_item, among_child, child_among, among_map, among_one, good_here, good_child, has_at}

-- ---- the laws of a view of a node

-- A view of a node keeps the laws of views.
pub ref_laws : {N X : Type 0} (f : NodeShape N X) (w : ℕ) (place : Net) (data_bits child_bits : ℕ) (node : N) → RefOk f w place data_bits child_bits node → IsView w (ref_told f w place data_bits child_bits node)
ref_laws f w place data_bits child_bits node ok =
    let d : ℕ = depth_at place.len in
    let here = good_here f w d node ok.good in
    record {
      place_ok = ok.place_ok;
      data_fit = ok.data_fit;
      children_fit = ok.children_fit;
      pairs = λ n x h. (h.0, h.1);
      one = λ n x y p q. among_one f w data_bits child_bits d (n.len / 5 - place.len / 5) node n x y p.2 q.2;
      told = λ bit lt set.
          let short = here.short bit (ok.data_sub bit set) in
          let level = level_le bit in
          let slot = slot-lt (f.data_bits node) bit (ok.data_sub bit set) in
          let at = has_at (f.items node) (slot_of (f.data_bits node) bit) (let e = here.items in omega arith) in (
            at.0,
            (
              data_is_net w place bit ok.place_ok.bits_fit lt short,
              ok.data_in bit set,
              among_zero f w data_bits child_bits d bit _ node
                  (data_net w place bit) at.0 (levels_zero place.len (d + level_of bit) (omega arith)) (bit_back w d place.bits bit lt short) set at.1,
            ),
          );
      untold = λ bit x lt h.
          let short = h.0.len_fits in
          let level = level_le bit in
          let item = among_item f w data_bits child_bits d _ node (data_net w place bit) x (levels_zero place.len (d + level_of bit) (omega arith)) h.2 in
          ap (bit_at data_bits) (sym (bit_back w d place.bits bit lt short)) ∙ item.0;
      below = λ n x h deep. (among_child f w data_bits child_bits d _ _ node n x (levels_suc place.len n.len deep) h.2).1.set;
      deep = λ bit set. here.deep bit (ok.children_sub bit set);
    }

-- ---- a bit is cleared

-- A bitmap and the complement of a bit is the bitmap without the bit.
pub cleared : (bit old : ℕ) → bit < 32 → Cleared bit old (bit_and old (bit_not w32 (1 * 2 ^ bit % 4294967296)))
cleared bit old lt = record {
  gone = bit_at_clear_same w32 old bit lt;
  kept = λ b lb ne. bit_at_clear_other w32 old bit lt b lb ne;
  less = and_le_l old (bit_not w32 (1 * 2 ^ bit % 4294967296));
}

set_low : (b n k : ℕ) → n < 2 ^ k → bit_at n b ≡ 1 → b < k
set_low b n k h e = bit_below k n b h e

-- A bit that is left was set, and isn't the cleared one.
pub clear_old : (bit old new b : ℕ) → Cleared bit old new → old < 2 ^ 32 → bit_at new b ≡ 1 → (bit_at old b ≡ 1) × (b ≢ bit)
clear_old bit old new b c fit set =
    let ne : b ≢ bit = λ e. let z = ap (bit_at new) e ∙ c.gone in let no : ⊥ = omega arith in no in
    let small : new < 2 ^ 32 = let le = c.less in omega arith in
    (sym (c.kept b (set_low b new 32 small set) ne) ∙ set, ne)

-- A bit that was set and isn't the cleared one is left.
pub clear_new : (bit old new b : ℕ) → Cleared bit old new → old < 2 ^ 32 → bit_at old b ≡ 1 → b ≢ bit → bit_at new b ≡ 1
clear_new bit old new b c fit set ne = c.kept b (set_low b old 32 fit set) ne ∙ set

-- ---- a data bit is taken

-- Prefixes that pass the test are one.
pub same_back : (a b : Net) → same_net a b ≡ true → a ≡ b
same_back a b h =
    let f : ℕ → ℕ → Net = λ x l. record { bits = x; len = l } in
    ap (λ x. f x a.len) (eqb-true _ _ (and_left _ _ h)) ∙ ap (f b.bits) (eqb-true _ _ (and_right _ _ h))

-- Prefixes that are one pass the test.
pub same_net_is : (a b : Net) → a ≡ b → same_net a b ≡ true
same_net_is a b e = both_hold (eqb a.bits b.bits) _ (eq-eqb _ _ (ap (λ n. n.bits) e)) (eq-eqb _ _ (ap (λ n. n.len) e))

-- A view of a node with a data bit cleared is the view with that pair taken out.
pub ref_took_data : {N X : Type 0} (f : NodeShape N X) (w : ℕ) (place : Net) (data_bits child_bits new bit : ℕ) (node : N) → RefOk f w place data_bits
    child_bits node → bit_at data_bits bit ≡ 1 → Cleared bit data_bits new → TookData w bit (ref_told f w place data_bits child_bits node)
    (ref_told f w place new child_bits node)
ref_took_data f w place data_bits child_bits new bit node ok set c =
    let d : ℕ = depth_at place.len in
    let here = good_here f w d node ok.good in
    let short = here.short bit (ok.data_sub bit set) in
    let lt : bit < 31 = bit_below 31 data_bits bit ok.data_fit set in
    let level = level_le bit in
    let fit : data_bits < 2 ^ 32 = let fit = ok.data_fit in omega arith in
    record {
      place = refl;
      child_bits = refl;
      at = λ n x. (
        (λ h. (
          (h.0, h.1, among_map f w new child_bits data_bits child_bits d _ node n x (λ z e. (clear_old bit data_bits new _ c fit e).0) (λ j z e. e) h.2),
          not_true _ (λ t.
              let same = same_back (data_net w place bit) n t in
              let len : d + level_of bit ≡ n.len = ap (λ p. p.len) same in
              let item = among_item f w new child_bits d _ node n x (levels_zero place.len n.len (omega arith)) h.2 in
              (clear_old bit data_bits new _ c fit item.0).1 (ap (λ p. data_bit_of w d p.bits p.len) (sym same) ∙ bit_back w d place.bits bit lt short)),
        )),
        (λ h. (
          h.0.0,
          h.0.1,
          among_map f w data_bits child_bits new child_bits d _ node n x
              (λ z e. clear_new bit data_bits new _ c fit e (λ q.
              let long = covers_len w place n h.0.1 in
              let top = depth_le place.len in
              let way = covers_way w d place n ok.place_ok.len_fits top h.0.1 in
              elim-false (sym h.1 ∙ same_net_is (data_net w place bit) n (ap (net_of_bit w d place.bits) (sym q) ∙ net_back w d place.bits n h.0.0 (omega arith) (levels_less place.len n.len z) way))))
              (λ j z e. e) h.0.2,
        )),
      );
      frugal = λ t. t;
    }

-- A view of a node with a data bit cleared may be used.
pub ref_ok_data : {N X : Type 0} (f : NodeShape N X) (w : ℕ) (place : Net) (data_bits child_bits new bit : ℕ) (node : N) → RefOk f w place data_bits child_bits node → Cleared bit data_bits new → RefOk f w place new child_bits node
ref_ok_data f w place data_bits child_bits new bit node ok c =
    let fit : data_bits < 2 ^ 32 = let fit = ok.data_fit in omega arith in
    record {
      place_ok = ok.place_ok;
      good = ok.good;
      full = ok.full;
      data_fit = let fit = ok.data_fit in let le = c.less in omega arith;
      children_fit = ok.children_fit;
      data_sub = λ b h. ok.data_sub b (clear_old bit data_bits new b c fit h).0;
      children_sub = ok.children_sub;
      data_in = λ b h. ok.data_in b (clear_old bit data_bits new b c fit h).0;
      children_in = ok.children_in;
    }

-- ---- a child is taken

bit_high : (b n : ℕ) → n < 2 ^ 32 → (b < 32 → ⊥) → bit_at n b ≡ 0
bit_high b n fit h = bit_at_above n 32 b fit (let le : 32 ≤ b = let lt : 32 < b + 1 = lt_of_not-le (λ le. h (omega arith)) in omega arith in le)

kept_by : (bit old new b : ℕ) (t : Bool) → ltb b 32 ≡ t → Cleared bit old new → old < 2 ^ 32 → b ≢ bit → bit_at new b ≡ bit_at old b
kept_by bit old new b true e c fit ne = c.kept b (ltb-lt b 32 e) ne
kept_by bit old new b false e c fit ne =
    let no : b < 32 → ⊥ = λ lt. elim-false (sym e ∙ lt-ltb b 32 lt) in
    bit_high b new (let le = c.less in omega arith) no ∙ sym (bit_high b old fit no)

-- The other bits stay as they were.
pub kept_bit : (bit old new b : ℕ) → Cleared bit old new → old < 2 ^ 32 → b ≢ bit → bit_at new b ≡ bit_at old b
kept_bit bit old new b c fit ne = kept_by bit old new b (ltb b 32) refl c fit ne

-- A pair inside a child's place.
inside_child : (w bit : ℕ) (place n : Net) → IsNet w place → depth_at place.len + 5 ≤ w → covers w place n ≡ true → covers w (child_net w place bit) n ≡ true → bits_toward w (depth_at place.len) 5 n.bits ≡ bit
inside_child w bit place n ok deep in_place in_child =
    covers_toward w bit place n deep (covers_way w (depth_at place.len) place n ok.len_fits (depth_le place.len) in_place) in_child

-- A view of a node with a child bit cleared is the view with that child taken out.
pub ref_took_child : {N X : Type 0} (f : NodeShape N X) (w : ℕ) (place : Net) (data_bits child_bits new bit : ℕ) (node : N) → RefOk f w place
    data_bits child_bits node → bit_at child_bits bit ≡ 1 → Cleared bit child_bits new → TookChild w bit
    (ref_told f w place data_bits child_bits node) (ref_told f w place data_bits new node)
ref_took_child f w place data_bits child_bits new bit node ok set c =
    let d : ℕ = depth_at place.len in
    let here = good_here f w d node ok.good in
    let deep = here.deep bit (ok.children_sub bit set) in
    record {
      place = refl;
      data_bits = refl;
      others = λ b ne. kept_bit bit child_bits new b c ok.children_fit ne;
      gone = c.gone;
      at = λ n x. (
        (λ h. (
          (h.0, h.1, among_map f w data_bits new data_bits child_bits d _ node n x (λ z e. e) (λ j z e. (clear_old bit child_bits new _ c ok.children_fit e).0) h.2),
          not_true _ (λ t.
              let long = covers_len w (child_net w place bit) n t in
              let in_child = (among_child f w data_bits new d _ _ node n x (levels_suc place.len n.len long) h.2).1 in
              (clear_old bit child_bits new _ c ok.children_fit in_child.set).1 (inside_child w bit place n ok.place_ok deep h.1 t)),
        )),
        (λ h. (
          h.0.0,
          h.0.1,
          among_map f w data_bits child_bits data_bits new d _ node n x (λ z e. e)
              (λ j z e. clear_new bit child_bits new _ c ok.children_fit e (λ q.
              let way = covers_way w d place n ok.place_ok.len_fits (depth_le place.len) h.0.1 in
              elim-false (sym h.1 ∙ ap (λ b. covers w (child_net w place b) n) (sym q) ∙ toward_covers w place n deep (levels_more place.len n.len j z) way)))
              h.0.2,
        )),
      );
      frugal = λ t. t;
    }

-- A view of a node with a child bit cleared may be used.
pub ref_ok_child : {N X : Type 0} (f : NodeShape N X) (w : ℕ) (place : Net) (data_bits child_bits new bit : ℕ) (node : N) → RefOk f w place data_bits child_bits node → Cleared bit child_bits new → RefOk f w place data_bits new node
ref_ok_child f w place data_bits child_bits new bit node ok c = record {
  place_ok = ok.place_ok;
  good = ok.good;
  full = ok.full;
  data_fit = ok.data_fit;
  children_fit = let fit = ok.children_fit in let le = c.less in omega arith;
  data_sub = ok.data_sub;
  children_sub = λ b h. ok.children_sub b (clear_old bit child_bits new b c ok.children_fit h).0;
  data_in = ok.data_in;
  children_in = λ b h. ok.children_in b (clear_old bit child_bits new b c ok.children_fit h).0;
}

-- ---- the child

-- The place of a whole node contains the prefix of each data bit.
pub data_inside : (w : ℕ) (q : Net) (b : ℕ) → IsNet w q → depth_at q.len ≡ q.len → b < 31 → q.len + level_of b ≤ w → covers w q (data_net w q b) ≡ true
data_inside w q b ok e lt fits =
    ap (λ d. covers w q (net_of_bit w d q.bits b)) e
    ∙ both_hold (leb q.len (q.len + level_of b)) _ (le-leb _ _ (omega arith)) (eq-eqb _ _ (level_inside w q.len (level_of b) q.bits (b + 1 - 2 ^ level_of b) (data_low b lt) fits ∙ ok.no_rest))

-- The place of a whole node contains each child.
pub kid_inside : (w : ℕ) (q : Net) (c : ℕ) → IsNet w q → depth_at q.len ≡ q.len → c < 32 → q.len + 5 ≤ w → covers w q (child_net w q c) ≡ true
kid_inside w q c ok e lt fits =
    ap (λ d. covers w q (record { bits = masked w q.bits d + c * 2 ^ (w - (d + 5)); len = d + 5 })) e
    ∙ both_hold (leb q.len (q.len + 5)) _ (le-leb _ _ (omega arith)) (eq-eqb _ _ (level_inside w q.len 5 q.bits c lt fits ∙ ok.no_rest))

-- What a node has it has also where depth and levels are known under other names.
pub among_at : {N X : Type 0} (f : NodeShape N X) (w data_bits child_bits d e k j : ℕ) (node : N) (n : Net) (x : X) → d ≡ e → k ≡ j → HasItemBelow f w data_bits child_bits k d node n x → HasItemBelow f w data_bits child_bits j e node n x
among_at f w data_bits child_bits d e k j node n x p q h = subst (λ i. HasItemBelow f w data_bits child_bits i e node n x) q (subst (λ i. HasItemBelow f w data_bits child_bits k i node n x) p h)

-- The view of a child may be used.
pub ref_child_ok : {N X : Type 0} (f : NodeShape N X) (w : ℕ) (place : Net) (data_bits child_bits bit : ℕ) (node child : N) → RefOk f w place
    data_bits child_bits node → bit_at child_bits bit ≡ 1 → slice_get (f.children node) (slot_of (f.child_bits node) bit) ≡ Some child → RefOk f w
    (child_net w place bit) (f.data_bits child) (f.child_bits child) child
unfolding Full
ref_child_ok f w place data_bits child_bits bit node child ok set is =
    let d : ℕ = depth_at place.len in
    let here = good_here f w d node ok.good in
    let deep = here.deep bit (ok.children_sub bit set) in
    let lt = bit_below 32 child_bits bit ok.children_fit set in
    let good = good_child f w d node ok.good _ child is in
    let there = good_here f w (d + 5) child good in
    let net = child_is_net w place bit ok.place_ok.bits_fit lt deep in
    record {
      place_ok = net;
      good = λ k. subst (λ e. Good f w k e child) (sym (depth_below place.len)) (good k);
      full = λ k. (ok.full (suc k) bit child (ok.children_sub bit set) is).1;
      data_fit = there.data_fit;
      children_fit = there.children_fit;
      data_sub = λ b h. h;
      children_sub = λ b h. h;
      data_in = λ b h. data_inside w (child_net w place bit) b net (depth_below place.len) (bit_below 31 (f.data_bits child) b there.data_fit h) (there.short b h);
      children_in = λ b h. kid_inside w (child_net w place bit) b net (depth_below place.len) (bit_below 32 (f.child_bits child) b there.children_fit h) (there.deep b h);
    }

-- The view of a child's node is the child of the view.
pub ref_is_child : {N X : Type 0} (f : NodeShape N X) (w : ℕ) (place : Net) (data_bits child_bits bit : ℕ) (node child : N) → RefOk f w place
    data_bits child_bits node → bit_at child_bits bit ≡ 1 → slice_get (f.children node) (slot_of (f.child_bits node) bit) ≡ Some child → IsChild w bit
    (ref_told f w place data_bits child_bits node) (ref_told f w (child_net w place bit) (f.data_bits child) (f.child_bits child) child)
ref_is_child f w place data_bits child_bits bit node child ok set is =
    let d : ℕ = depth_at place.len in
    let here = good_here f w d node ok.good in
    let deep = here.deep bit (ok.children_sub bit set) in
    let within = ok.children_in bit set in
    record {
      place = refl;
      at = λ n x. (
        (λ h.
            let long = covers_len w (child_net w place bit) n h.1 in
            let in_place = covers_trans w place (child_net w place bit) n deep within h.1 in
            let toward = inside_child w bit place n ok.place_ok deep in_place h.1 in (
              (
                h.0,
                in_place,
                child_among f w data_bits child_bits d _ _ node n x child (levels_suc place.len n.len long) (record {
                  set = ap (bit_at child_bits) toward ∙ set;
                  is = ap (λ b. slice_get (f.children node) (slot_of (f.child_bits node) b)) toward ∙ is;
                  among = among_at f w (f.data_bits child) (f.child_bits child) _ (d + 5) _ _ child n x (depth_below place.len) refl h.2;
                }),
              ),
              h.1,
            )),
        (λ h.
            let long = covers_len w (child_net w place bit) n h.1 in
            let toward = inside_child w bit place n ok.place_ok deep h.0.1 h.1 in
            let found = among_child f w data_bits child_bits d _ _ node n x (levels_suc place.len n.len long) h.0.2 in
            let same : found.0 ≡ child = same_some found.0 child (sym found.1.is ∙ ap (λ b. slice_get (f.children node) (slot_of (f.child_bits node) b)) toward ∙ is) in (
              h.0.0,
              h.1,
              among_at f w (f.data_bits child) (f.child_bits child) (d + 5) _ _ _ child n x (sym (depth_below place.len)) refl
                  (subst (λ c. HasItemBelow f w (f.data_bits c) (f.child_bits c) (n.len / 5 - (d + 5) / 5) (d + 5) c n x) same found.1.among),
            )),
      );
      frugal = λ t. t;
    }
