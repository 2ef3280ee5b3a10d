-- Laws of the root, of prefixes of bits, and of views in the form of the code.
use Rattle.std.proofs.Common.{[], ◌≡◌, ℕ, ◌+◌, ◌-◌, ◌*◌, ◌^◌, ◌<◌, ◌≤◌, ◌∙◌, sym, ap, subst, suc, zero, refl, arith, List, length, Some}
use Rattle.std.specs.Prelude.{slice_get, count_ones}
use Rattle.std.specs.Int.{bit_at}
use Rattle.std.proofs.lemmas.Option.{slice_get_within}
use Rattle.std.proofs.lemmas.Nat.{pow_pos}
use Rattle.std.proofs.lemmas.Nat.Bits.{bit_at-zero}
use Rattle.std.proofs.Math.Nat.{zero-div, zero-mul}
use Rattle.trie_model.specs.Nets.{Net, IsNet, masked}
use Rattle.trie_model.specs.Views.{depth_at, level_of, net_of_bit, child_net, IsChild}
use Rattle.trie_model.proofs.Places.{bit_below}
use Rattle.trie_model.specs.Spots.{prefix_net}
use Rattle.trie_model.proofs.SpotLaws.{data_low}
use Rattle.trie_model.specs.Tries.{slot_of, NodeShape, Full, Good, RefOk, ref_told}
use Rattle.trie_model.proofs.NodeLaws.{level_net, good_here}
use Rattle.trie_model.proofs.TrieLaws.{data_inside, kid_inside}
use Rattle.trie_model.proofs.PlaceMoves.{ref_child, same_place}

-- ---- the root, and a node with nothing

no_item : {X : Type 0} (xs : List X) (i : ℕ) (x : X) → xs ≡ [] → slice_get xs i ≡ Some x → ⊥
no_item xs i x e h =
    let lt = slice_get_within xs i x h in
    let len : length xs ≡ 0 = ap length e in
    let no : ⊥ = omega arith in no

-- 0 has no set bit.
pub no_bit : (n bit : ℕ) → n ≡ 0 → bit_at n bit ≡ 1 → ⊥
no_bit n bit e h = let z = ap (λ m. bit_at m bit) e ∙ bit_at-zero bit in let no : ⊥ = omega arith in no

-- A node with nothing is good.
pub good_empty : {N X : Type 0} (f : NodeShape N X) (w d : ℕ) (node : N) → f.data_bits node ≡ 0 → f.child_bits node ≡ 0 → f.items node ≡ [] → f.children node ≡ [] → (k : ℕ) → Good f w k d node
unfolding Good lib.Count.ones
good_empty f w d node a b c e zero = tt
good_empty f w d node a b c e (suc k) = (
  record {
    data_fit = omega arith;
    children_fit = omega arith;
    items = ap length c ∙ ap count_ones (sym a);
    children = ap length e ∙ ap count_ones (sym b);
    short = λ bit h. absurd (no_bit _ bit a h);
    deep = λ bit h. absurd (no_bit _ bit b h);
  },
  λ i child h. absurd (no_item (f.children node) i child e h),
)

root_net : (w : ℕ) → IsNet w (record { bits = 0; len = 0 })
root_net w = record {
  len_fits = omega arith;
  bits_fit = pow_pos w;
  no_rest = ap (λ x. x * 2 ^ (w - 0)) (zero-div (2 ^ (w - 0))) ∙ zero-mul (2 ^ (w - 0));
}

-- The whole of a node, as a view at the node's own place.
pub ref_whole : {N X : Type 0} (f : NodeShape N X) (w : ℕ) (q : Net) (node : N) → IsNet w q → depth_at q.len ≡ q.len → ((k : ℕ) → Good f w k q.len node) → ((k : ℕ) → Full f k node) → RefOk f w q (f.data_bits node) (f.child_bits node) node
ref_whole f w q node ok e good full =
    let here = good_here f w q.len node good in
    record {
      place_ok = ok;
      good = λ k. subst (λ d. Good f w k d node) (sym e) (good k);
      full = full;
      data_fit = here.data_fit;
      children_fit = here.children_fit;
      data_sub = λ b h. h;
      children_sub = λ b h. h;
      data_in = λ b h. data_inside w q b ok e (bit_below 31 (f.data_bits node) b here.data_fit h) (here.short b h);
      children_in = λ b h. kid_inside w q b ok e (bit_below 32 (f.child_bits node) b here.children_fit h) (here.deep b h);
    }

-- The view of a whole trie may be used.
pub root_ok : {N X : Type 0} (f : NodeShape N X) (w : ℕ) (node : N) → ((k : ℕ) → Good f w k 0 node) → ((k : ℕ) → Full f k node) → RefOk f w (record { bits = 0; len = 0 }) (f.data_bits node) (f.child_bits node) node
root_ok f w node good full = ref_whole f w (record { bits = 0; len = 0 }) node (root_net w) refl good full

-- ---- the prefix of a data bit

-- The bits of a data bit after the key's are its prefix.
pub record Rebuilt (w d p bit l c : ℕ) : Type 0 where
  pub fits : c < 2 ^ w
  pub net : prefix_net w c (d + l) ≡ net_of_bit w d p bit

-- The key of a data bit, made from its parts, is that of its prefix.
pub rebuilt : (w d p bit l k c : ℕ) → p < 2 ^ w → bit < 31 → l ≡ level_of bit → k ≡ 2 ^ l → d + level_of bit ≤ w → c ≡ masked w p d + (bit + 1 - k) * 2 ^ (w - (d + l)) → Rebuilt w d p bit l c
rebuilt w d p bit l k c hp lt e hk fits is =
    let net : Net = net_of_bit w d p bit in
    let ok : IsNet w net = level_net w d (level_of bit) p (bit + 1 - 2 ^ level_of bit) hp (data_low bit lt) fits in
    let same : c ≡ net.bits = is ∙ ap (λ x. masked w p d + (bit + 1 - x) * 2 ^ (w - (d + l))) hk ∙ ap (λ x. masked w p d + (bit + 1 - 2 ^ x) * 2 ^ (w - (d + x))) e in
    record {
      fits = subst (λ x. x < 2 ^ w) (sym same) ok.bits_fit;
      net = ap (λ x. prefix_net w x (d + l)) same ∙ ap (λ x. prefix_net w net.bits (d + x)) e ∙ same_place w net ok;
    }

-- The part of a key that a data bit adds fits its level.
pub rebuilt_bits : (l bit k : ℕ) → bit < 31 → l ≡ level_of bit → k ≡ 2 ^ l → bit + 1 - k < 2 ^ l
rebuilt_bits l bit k lt e hk = subst (λ x. bit + 1 - x < 2 ^ l) (sym hk) (subst (λ x. bit + 1 - 2 ^ x < 2 ^ x) (sym e) (data_low bit lt))

-- ---- in the form of the code

-- The view of a child that was visited.
pub ref_child_at : {N X : Type 0} (f : NodeShape N X) (w : ℕ) (place q : Net) (data_bits child_bits bit m k : ℕ) (node child child' : N) → RefOk f w
    place data_bits child_bits node → bit_at child_bits bit ≡ 1 → slice_get (f.children node) (slot_of (f.child_bits node) bit) ≡ Some child → q
    ≡ child_net w place bit → child' ≡ child → m ≡ f.data_bits child' → k ≡ f.child_bits child' → RefOk f w q m k child' × IsChild w bit
    (ref_told f w place data_bits child_bits node) (ref_told f w q m k child')
ref_child_at {N} {X} f w place q data_bits child_bits bit m k node child child' ok set is e g a b =
    let P : N → ℕ → ℕ → Type 0 = λ z x y. RefOk f w q x y z × IsChild w bit (ref_told f w place data_bits child_bits node) (ref_told f w q x y z) in
    subst (λ y. P child' m y) (sym b) (subst (λ x. P child' x (f.child_bits child')) (sym a) (subst (λ z. P z (f.data_bits z) (f.child_bits z)) (sym g) (ref_child f w place q data_bits child_bits bit node child ok set is e)))

-- The view of a whole trie that was visited.
pub root_ref : {N X : Type 0} (f : NodeShape N X) (w bits m k : ℕ) (node node' : N) → ((j : ℕ) → Good f w j 0 node) → ((j : ℕ) → Full f j node) → bits
    ≡ 0 → node' ≡ node → m ≡ f.data_bits node' → k ≡ f.child_bits node' → RefOk f w (record { bits = bits; len = 0 }) m k node'
root_ref {N} f w bits m k node node' good full z g a b =
    let P : ℕ → N → ℕ → ℕ → Type 0 = λ u v x y. RefOk f w (record { bits = u; len = 0 }) x y v in
    subst (λ u. P u node' m k) (sym z) (subst (λ y. P 0 node' m y) (sym b) (subst (λ x. P 0 node' x (f.child_bits node')) (sym a) (subst (λ v. P 0 v (f.data_bits v) (f.child_bits v)) (sym g) (root_ok f w node good full))))
