-- How a view of a node moves, the key of a child, and what the getters answer.
use Rattle.std.proofs.Common.{◌≡◌, ◌≢◌, ℕ, ◌+◌, ◌-◌, ◌*◌, ◌/◌, ◌%◌, ◌^◌, ◌<◌, ◌≤◌, ◌∙◌, sym, ap, subst, refl, arith, Bool, true, false, cond, min, bit_and, Some}
use Rattle.std.specs.Prelude.{slice_get}
use Rattle.std.specs.Int.{bit_at}
use Rattle.std.proofs.lemmas.Nat.{and_le_l}
use Rattle.std.proofs.lemmas.Nat.Bits.{bit_at_and, bit_at-lt}
use Rattle.std.proofs.Math.Nat.{mod-eq_of_lt}
use Rattle.trie_model.specs.Nets.{Net, IsNet, covers, masked}
use Rattle.trie_model.specs.Views.{depth_at, level_of, net_of_bit, data_net, child_net, IsChild, CanMove, Moved}
use Rattle.trie_model.proofs.Places.{elim-false, depth_le, level_le, covers_len, covers_way, toward_covers, bit_below, same_data_net, same_child_net}
use Rattle.trie_model.specs.Spots.{bits_toward, prefix_net, child_at}
use Rattle.trie_model.proofs.SpotLaws.{net_back, bit_back}
use Rattle.trie_model.specs.Tries.{Narrowed, slot_of, NodeShape, NodeOk, Good, RefOk, ref_at, ref_told}
use Rattle.trie_model.proofs.NodeLaws.{level_net, data_is_net, covers_trans, covers_between, levels_zero, levels_less, levels_more, among_zero, among_map, good_here}
use Rattle.trie_model.proofs.TrieLaws.{among_at, ref_child_ok, ref_is_child}

-- ---- the place moves

one_min : (x y : ℕ) → min x y ≡ 1 → x < 2 → y < 2 → (x ≡ 1) × (y ≡ 1)
one_min x y h p q = (omega arith, omega arith)

min_ones : (x y : ℕ) → x ≡ 1 → y ≡ 1 → min x y ≡ 1
min_ones x y p q = omega arith

cond_one : (t : Bool) (z : ℕ) → z ≡ cond t 1 0 → z ≡ 1 → t ≡ true
cond_one true z e h = refl
cond_one false z e h = absurd (let no : ⊥ = omega arith in no)

cond_true : (t : Bool) (z : ℕ) → z ≡ cond t 1 0 → t ≡ true → z ≡ 1
cond_true true z e h = e
cond_true false z e h = absurd (elim-false h)

-- A bitmap and a mask has the bits whose test holds.
pub narrowed : (old mask : ℕ) (keeps : ℕ → Bool) → ((b : ℕ) → bit_at old b ≡ 1 → bit_at mask b ≡ cond (keeps b) 1 0) → Narrowed old (bit_and old mask) keeps
narrowed old mask keeps is = record {
  less = and_le_l old mask;
  only = λ b h.
      let both = one_min _ _ (sym (bit_at_and old mask b) ∙ h) (bit_at-lt old b) (bit_at-lt mask b) in
      (both.0, cond_one (keeps b) _ (is b both.0) both.1);
  keep = λ b h k. bit_at_and old mask b ∙ min_ones _ _ h (cond_true (keeps b) _ (is b h) k);
}

same_fives : (a b : ℕ) → depth_at a ≡ depth_at b → a / 5 ≡ b / 5
same_fives a b h = omega arith

-- A view of a node with its bits narrowed to a place is the view moved there.
pub ref_moved : {N X : Type 0} (f : NodeShape N X) (w : ℕ) (place to : Net) (data_bits child_bits data_bits' child_bits' : ℕ) (node : N) → RefOk f w
    place data_bits child_bits node → CanMove w place to → Narrowed data_bits data_bits' (λ b. covers w to (data_net w place b)) → Narrowed child_bits
    child_bits' (λ c. covers w to (child_net w place c)) → Moved w to (ref_told f w place data_bits child_bits node)
    (ref_told f w to data_bits' child_bits' node)
ref_moved f w place to data_bits child_bits data_bits' child_bits' node ok can nm nk =
    let d : ℕ = depth_at place.len in
    let five = same_fives to.len place.len can.node in
    let top = depth_le place.len in
    record {
      place = refl;
      at = λ n x. (
        (λ h. (
          (
            h.0,
            covers_trans w place to n can.fits.len_fits can.within h.1,
            among_map f w data_bits' child_bits' data_bits child_bits d _ node n x (λ z e. (nm.only _ e).0) (λ j z e. (nk.only _ e).0)
                (among_at f w data_bits' child_bits' _ d _ _ node n x can.node (ap (λ k. n.len / 5 - k) five) h.2),
          ),
          h.1,
        )),
        (λ h.
            let long = covers_len w place n h.0.1 in
            let way = covers_way w d place n ok.place_ok.len_fits top h.0.1 in (
              h.0.0,
              h.1,
              among_at f w data_bits' child_bits' d _ _ _ node n x (sym can.node) (ap (λ k. n.len / 5 - k) (sym five))
                  (among_map f w data_bits child_bits data_bits' child_bits' d _ node n x
                  (λ z e. nm.keep _ e (ap (covers w to) (net_back w d place.bits n h.0.0 (omega arith) (levels_less place.len n.len z) way) ∙ h.1))
                  (λ j z e.
                  let deep : d + 5 ≤ n.len = levels_more place.len n.len j z in
                  let fits : d + 5 ≤ w = let l = h.0.0.len_fits in omega arith in
                  let near : to.len ≤ d + 5 = let node = can.node in omega arith in
                  nk.keep _ e (covers_between w to (child_net w place (bits_toward w d 5 n.bits)) n fits near h.1 (toward_covers w place n fits deep way)))
                  h.0.2),
            )),
      );
      frugal = λ t. t;
    }

-- A view of a node with its bits narrowed to a place may be used.
pub ref_moved_ok : {N X : Type 0} (f : NodeShape N X) (w : ℕ) (place to : Net) (data_bits child_bits data_bits' child_bits' : ℕ) (node : N) → RefOk f
    w place data_bits child_bits node → CanMove w place to → Narrowed data_bits data_bits' (λ b. covers w to (data_net w place b)) → Narrowed
    child_bits child_bits' (λ c. covers w to (child_net w place c)) → RefOk f w to data_bits' child_bits' node
ref_moved_ok f w place to data_bits child_bits data_bits' child_bits' node ok can nm nk =
    let d : ℕ = depth_at place.len in
    let way : masked w to.bits d ≡ masked w place.bits d = covers_way w d place to ok.place_ok.len_fits (depth_le place.len) can.within in
    record {
      place_ok = can.fits;
      good = λ k. subst (λ e. Good f w k e node) (sym can.node) (ok.good k);
      full = ok.full;
      data_fit = let fit = ok.data_fit in let le = nm.less in omega arith;
      children_fit = let fit = ok.children_fit in let le = nk.less in omega arith;
      data_sub = λ b h. ok.data_sub b (nm.only b h).0;
      children_sub = λ b h. ok.children_sub b (nk.only b h).0;
      data_in = λ b h. ap (covers w to) (same_data_net w b place to can.node way) ∙ (nm.only b h).1;
      children_in = λ b h. ap (covers w to) (same_child_net w b place to can.node way) ∙ (nk.only b h).1;
    }

-- ---- the key of a child

-- A key made of the first bits and some more fits its width.
pub key_fits : (w d l p c : ℕ) → p < 2 ^ w → c < 2 ^ l → d + l ≤ w → masked w p d + c * 2 ^ (w - (d + l)) < 2 ^ w
key_fits w d l p c hp hc fits = (level_net w d l p c hp hc fits).bits_fit

-- The bits that are added to a key aren't cut off by the word's size.
pub low_code : (w d l p c m : ℕ) → p < 2 ^ w → c < 2 ^ l → d + l ≤ w → 2 ^ w ≤ m → c * 2 ^ (w - (d + l)) % m ≡ c * 2 ^ (w - (d + l))
low_code w d l p c m hp hc fits le =
    let top = key_fits w d l p c hp hc fits in
    let b : c * 2 ^ (w - (d + l)) < m = omega arith in
    mod-eq_of_lt b

-- ---- what the getters answer

-- The item at a set data bit is a pair of the view.
pub ref_item : {N X : Type 0} (f : NodeShape N X) (w : ℕ) (place : Net) (data_bits child_bits bit : ℕ) (node : N) (x : X) → RefOk f w place data_bits
    child_bits node → bit_at data_bits bit ≡ 1 → slice_get (f.items node) (slot_of (f.data_bits node) bit) ≡ Some x → ref_at f w place data_bits
    child_bits node (data_net w place bit) x
ref_item f w place data_bits child_bits bit node x ok set item =
    let d : ℕ = depth_at place.len in
    let here = good_here f w d node ok.good in
    let lt : bit < 31 = bit_below 31 data_bits bit ok.data_fit set in
    let short = here.short bit (ok.data_sub bit set) in
    let level = level_le bit in (
      data_is_net w place bit ok.place_ok.bits_fit lt short,
      ok.data_in bit set,
      among_zero f w data_bits child_bits d bit _ node
          (data_net w place bit) x (levels_zero place.len (d + level_of bit) (omega arith)) (bit_back w d place.bits bit lt short) set item,
    )

-- The node of a view is sound.
pub ref_node : {N X : Type 0} (f : NodeShape N X) (w : ℕ) (place : Net) (data_bits child_bits : ℕ) (node : N) → RefOk f w place data_bits child_bits node → NodeOk f w (depth_at place.len) node
ref_node f w place data_bits child_bits node ok = good_here f w (depth_at place.len) node ok.good

-- A data bit of a view is below 32.
pub ref_bit : {N X : Type 0} (f : NodeShape N X) (w : ℕ) (place : Net) (data_bits child_bits bit : ℕ) (node : N) → RefOk f w place data_bits child_bits node → bit_at data_bits bit ≡ 1 → bit < 32
ref_bit f w place data_bits child_bits bit node ok set = let lt = bit_below 31 data_bits bit ok.data_fit set in omega arith

-- A child bit of a view is below 32.
pub ref_kid : {N X : Type 0} (f : NodeShape N X) (w : ℕ) (place : Net) (data_bits child_bits bit : ℕ) (node : N) → RefOk f w place data_bits child_bits node → bit_at child_bits bit ≡ 1 → bit < 32
ref_kid f w place data_bits child_bits bit node ok set = bit_below 32 child_bits bit ok.children_fit set

-- A view with a child bit stands above the last level.
pub ref_deep : {N X : Type 0} (f : NodeShape N X) (w : ℕ) (place : Net) (data_bits child_bits bit : ℕ) (node : N) → RefOk f w place data_bits child_bits node → bit_at child_bits bit ≡ 1 → depth_at place.len + 5 ≤ w
ref_deep f w place data_bits child_bits bit node ok set = (good_here f w (depth_at place.len) node ok.good).deep bit (ok.children_sub bit set)

-- The view at a child's place may be used.
pub ref_child : {N X : Type 0} (f : NodeShape N X) (w : ℕ) (place q : Net) (data_bits child_bits bit : ℕ) (node child : N) → RefOk f w place data_bits
    child_bits node → bit_at child_bits bit ≡ 1 → slice_get (f.children node) (slot_of (f.child_bits node) bit) ≡ Some child → q ≡ child_net w place
    bit → RefOk f w q (f.data_bits child) (f.child_bits child) child × IsChild w bit (ref_told f w place data_bits child_bits node)
    (ref_told f w q (f.data_bits child) (f.child_bits child) child)
ref_child f w place q data_bits child_bits bit node child ok set is e = (
  subst (λ p. RefOk f w p (f.data_bits child) (f.child_bits child) child) (sym e) (ref_child_ok f w place data_bits child_bits bit node child ok set is),
  subst (λ p. IsChild w bit (ref_told f w place data_bits child_bits node) (ref_told f w p (f.data_bits child) (f.child_bits child) child)) (sym e) (ref_is_child f w place data_bits child_bits bit node child ok set is),
)

-- The prefix of a place's own bits and length is the place.
pub same_place : (w : ℕ) (to : Net) → IsNet w to → prefix_net w to.bits to.len ≡ to
same_place w to ok = let g : ℕ → Net = λ x. record { bits = x; len = to.len } in ap g ok.no_rest

-- Data bits under the mask of a place are those inside the place.
pub data_narrowed : {N X : Type 0} (f : NodeShape N X) (w : ℕ) (place to : Net) (data_bits child_bits mask : ℕ) (node : N) → RefOk f w place data_bits
    child_bits node → CanMove w place to → ((b : ℕ) → b < 31 → depth_at place.len + level_of b ≤ w → bit_at mask b ≡ cond
    (covers w (prefix_net w to.bits to.len) (net_of_bit w (depth_at place.len) to.bits b)) 1 0) → Narrowed data_bits (bit_and data_bits mask)
    (λ b. covers w to (data_net w place b))
data_narrowed f w place to data_bits child_bits mask node ok can is =
    let d : ℕ = depth_at place.len in
    let here = good_here f w d node ok.good in
    let way = covers_way w d place to ok.place_ok.len_fits (depth_le place.len) can.within in
    narrowed data_bits mask (λ b. covers w to (data_net w place b)) (λ b set.
    let h : ℕ → Net = λ x. record { bits = x + (b + 1 - 2 ^ level_of b) * 2 ^ (w - (d + level_of b)); len = d + level_of b } in
    is b (bit_below 31 data_bits b ok.data_fit set) (here.short b (ok.data_sub b set))
    ∙ ap (λ p. cond (covers w p (net_of_bit w d to.bits b)) 1 0) (same_place w to can.fits)
    ∙ ap (λ x. cond (covers w to (h x)) 1 0) way)

-- Child bits under the mask of a place are those inside the place.
pub children_narrowed : {N X : Type 0} (f : NodeShape N X) (w : ℕ) (place to : Net) (data_bits child_bits mask : ℕ) (node : N) → RefOk f w place
    data_bits child_bits node → CanMove w place to
    → ((b : ℕ) → b < 32 → depth_at place.len + 5 ≤ w → bit_at mask b ≡ cond
    (covers w (prefix_net w to.bits to.len) (child_at w (depth_at place.len) to.bits b)) 1 0) → Narrowed child_bits (bit_and child_bits mask)
    (λ b. covers w to (child_net w place b))
children_narrowed f w place to data_bits child_bits mask node ok can is =
    let d : ℕ = depth_at place.len in
    let here = good_here f w d node ok.good in
    let way = covers_way w d place to ok.place_ok.len_fits (depth_le place.len) can.within in
    narrowed child_bits mask (λ b. covers w to (child_net w place b)) (λ b set.
    let h : ℕ → Net = λ x. record { bits = x + b * 2 ^ (w - (d + 5)); len = d + 5 } in
    is b (bit_below 32 child_bits b ok.children_fit set) (here.deep b (ok.children_sub b set))
    ∙ ap (λ p. cond (covers w p (child_at w d to.bits b)) 1 0) (same_place w to can.fits)
    ∙ ap (λ x. cond (covers w to (h x)) 1 0) way)
