-- Laws of nodes: places by popcount, networks, and the pairs that lie below.
use Rattle.std.proofs.Common.{◌≡◌, ℕ, ◌+◌, ◌-◌, ◌*◌, ◌/◌, ◌%◌, ◌^◌, ◌<◌, ◌≤◌, ◌∙◌, sym, ap, subst, suc, zero, refl, arith, true, leb, bit_and, List, length, Option, Some, None, inl, inr}
use Rattle.std.specs.Prelude.{slice_get, get_or, count_ones, ◌⊎◌}
use Rattle.std.specs.Int.{bit_at}
use Rattle.std.specs.Int.Count.{ones_cat, ones_step}
use Rattle.std.proofs.lemmas.Bool.{eq-eqb, le-leb}
use Rattle.std.proofs.lemmas.Option.{slice_get_cases}
use Rattle.std.proofs.lemmas.Nat.{pow_pos, pow-add, div_below, mod_below, div-add-mod', mul-add-lt, shl_below, div-mul-add, and_mask}
use Rattle.std.proofs.Math.Nat.{add-mul, mul_comm, mul-div_cancel, mul-le-mul_right, mod-eq_of_lt}
use Rattle.trie_model.specs.Nets.{Net, IsNet, covers, masked}
use Rattle.trie_model.specs.Views.{depth_at, level_of, data_net, child_net}
use Rattle.trie_model.proofs.Places.{both_hold, covers_len, covers_bits, covers_way}
use Rattle.trie_model.specs.Spots.{bits_toward, data_bit_of}
use Rattle.trie_model.proofs.SpotLaws.{power_split, more_by, data_low}
use Rattle.trie_model.specs.Tries.{slot_of, NodeShape, HasItemBelow, NodeOk, Good}

-- ---- places by popcount

-- The set bits of a number are those above a place and those below.
pub split : (n k : ℕ) → count_ones n ≡ count_ones (n / 2 ^ k) + count_ones (n % 2 ^ k)
split n k = ap count_ones (sym (div-add-mod' n (2 ^ k))) ∙ ones_cat k (n / 2 ^ k) (n % 2 ^ k) (mod_below n (2 ^ k) (pow_pos k))

-- The slot of a set bit is below the count of set bits.
pub slot-lt : (bitmap bit : ℕ) → bit_at bitmap bit ≡ 1 → slot_of bitmap bit < count_ones bitmap
slot-lt n k h = let e = split n k in let f = ones_step (n / 2 ^ k) in omega (arith, e, f, h)

-- `bitmap & ((1 << bit) - 1)`
pub slot_mask : (bitmap bit : ℕ) → 2 ^ bit < 2 ^ 32 → count_ones (bit_and bitmap (1 * 2 ^ bit % 4294967296 - 1)) ≡ slot_of bitmap bit
slot_mask bitmap bit h =
    let e : 1 * 2 ^ bit ≡ 2 ^ bit = omega arith in
    ap (λ x. count_ones (bit_and bitmap (x % 4294967296 - 1))) e ∙ ap (λ x. count_ones (bit_and bitmap (x - 1))) (mod-eq_of_lt h) ∙ ap count_ones (and_mask bitmap bit)

has_cases : {X : Type 0} (xs : List X) (i : ℕ) → i < length xs → (((x : X) × (i < length xs) × (slice_get xs i ≡ Some x) × (get_or xs i x ≡ x)) ⊎ ((length xs ≤ i) × (slice_get xs i ≡ None))) → (x : X) × (slice_get xs i ≡ Some x)
has_cases xs i lt (inl h) = (h.0, h.2)
has_cases xs i lt (inr h) = absurd (let le = h.0 in let no : ⊥ = omega arith in no)

some_or : {X : Type 0} → X → Option X → X
some_or d None = d
some_or d (Some x) = x

-- A Some has one value.
pub same_some : {X : Type 0} (x y : X) → Some x ≡ Some y → x ≡ y
unfolding some_or
same_some x y e = ap (some_or x) e

-- ---- networks of a node

-- A network some levels below the node's.
pub level_net : (w d l p i : ℕ) → p < 2 ^ w → i < 2 ^ l → d + l ≤ w → IsNet w (record { bits = masked w p d + i * 2 ^ (w - (d + l)); len = d + l })
level_net w d l p i hp hi fits =
    let u : ℕ = 2 ^ (w - (d + l)) in
    let r : ℕ = p / 2 ^ (w - d) in
    let q : ℕ = r * 2 ^ l + i in
    let whole : r * 2 ^ (w - d) + i * u ≡ q * u = ap (λ x. r * x + i * u) (power_split w d l fits) ∙ sym (more_by q r i u (2 ^ l) refl) in
    let top : 2 ^ w ≡ 2 ^ d * 2 ^ (w - d) = ap (λ x. 2 ^ x) (let e : w ≡ d + (w - d) = omega arith in e) ∙ pow-add 2 d (w - d) in
    let small : r < 2 ^ d = div_below p (2 ^ (w - d)) (2 ^ d) (pow_pos (w - d)) (subst (λ x. p < x) top hp) in
    let high : q < 2 ^ (d + l) = subst (λ x. q < x) (mul_comm (2 ^ l) (2 ^ d) ∙ sym (pow-add 2 d l)) (mul-add-lt r (2 ^ l) i (2 ^ d) small hi) in
    let all : q * u < 2 ^ w = subst (λ x. q * u < 2 ^ x) (let e : d + l + (w - (d + l)) ≡ w = omega arith in e) (shl_below q (d + l) (w - (d + l)) high) in
    record {
      len_fits = fits;
      bits_fit = subst (λ x. x < 2 ^ w) (sym whole) all;
      no_rest = ap (λ x. x / u * u) whole ∙ ap (λ x. x * u) (mul-div_cancel q (pow_pos (w - (d + l)))) ∙ sym whole;
    }

-- And it is below the node.
pub level_inside : (w d l p i : ℕ) → i < 2 ^ l → d + l ≤ w → masked w (masked w p d + i * 2 ^ (w - (d + l))) d ≡ masked w p d
level_inside w d l p i hi fits =
    let u : ℕ = 2 ^ (w - (d + l)) in
    let r : ℕ = p / 2 ^ (w - d) in
    let pos = pow_pos (w - (d + l)) in
    let m : (i + 1) * u ≤ 2 ^ l * u = mul-le-mul_right u (let le : i + 1 ≤ 2 ^ l = omega arith in le) in
    let e = add-mul i 1 u in
    let unit : 2 ^ (w - d) ≡ 2 ^ l * u = power_split w d l fits ∙ mul_comm u (2 ^ l) in
    let lt : i * u < 2 ^ (w - d) = omega arith in
    ap (λ x. x * 2 ^ (w - d)) (div-mul-add r (2 ^ (w - d)) (i * u) lt)

-- The prefix of a data bit has no host bits.
pub data_is_net : (w : ℕ) (place : Net) (bit : ℕ) → place.bits < 2 ^ w → bit < 31 → depth_at place.len + level_of bit ≤ w → IsNet w (data_net w place bit)
data_is_net w place bit fit lt short = level_net w (depth_at place.len) (level_of bit) place.bits (bit + 1 - 2 ^ level_of bit) fit (data_low bit lt) short

-- The place of a child has no host bits.
pub child_is_net : (w : ℕ) (place : Net) (c : ℕ) → place.bits < 2 ^ w → c < 32 → depth_at place.len + 5 ≤ w → IsNet w (child_net w place c)
child_is_net w place c fit lt deep = level_net w (depth_at place.len) 5 place.bits c fit lt deep

-- What contains a prefix contains what that one contains.
pub covers_trans : (w : ℕ) (a b c : Net) → b.len ≤ w → covers w a b ≡ true → covers w b c ≡ true → covers w a c ≡ true
covers_trans w a b c fits p q =
    let x = covers_len w a b p in
    let y = covers_len w b c q in
    both_hold (leb a.len c.len) _ (le-leb _ _ (omega arith)) (eq-eqb _ _ (covers_way w a.len b c fits x q ∙ covers_bits w a b p))

-- Of two prefixes that contain a third, the shorter contains the longer.
pub covers_between : (w : ℕ) (a b n : Net) → b.len ≤ w → a.len ≤ b.len → covers w a n ≡ true → covers w b n ≡ true → covers w a b ≡ true
covers_between w a b n fits le p q =
    both_hold (leb a.len b.len) _ (le-leb _ _ le) (eq-eqb _ _ (sym (covers_way w a.len b n fits le q) ∙ covers_bits w a n p))

-- ---- levels

-- A length of the node itself is no level below it.
pub levels_zero : (p n : ℕ) → n < depth_at p + 5 → n / 5 - p / 5 ≡ 0
levels_zero p n h = omega arith

-- A length that is no level below a node is one of the node itself.
pub levels_less : (p n : ℕ) → n / 5 - p / 5 ≡ 0 → n < depth_at p + 5
levels_less p n h = omega arith

-- A length below a node is one level further from it than from its child.
pub levels_suc : (p n : ℕ) → depth_at p + 5 ≤ n → n / 5 - p / 5 ≡ suc (n / 5 - (depth_at p + 5) / 5)
levels_suc p n h = omega arith

-- A length that is some levels below a node is below the node.
pub levels_more : (p n j : ℕ) → n / 5 - p / 5 ≡ suc j → depth_at p + 5 ≤ n
levels_more p n j h = omega arith

-- ---- pairs

-- The item at a set data bit is an item of the node itself.
pub among_zero : {N X : Type 0} (f : NodeShape N X) (w data_bits child_bits d b k : ℕ) (node : N) (n : Net) (x : X) → k ≡ 0 → data_bit_of w d n.bits
    n.len ≡ b → bit_at data_bits b ≡ 1 → slice_get (f.items node) (slot_of (f.data_bits node) b) ≡ Some x → HasItemBelow f w data_bits child_bits k d
    node n x
unfolding HasItemBelow
among_zero f w data_bits child_bits d b zero node n x z e set item =
    (ap (bit_at data_bits) e ∙ set, ap (λ i. slice_get (f.items node) (slot_of (f.data_bits node) i)) e ∙ item)
among_zero f w data_bits child_bits d b (suc k) node n x z e set item = absurd (let no : ⊥ = omega arith in no)

-- An item of the node itself stands at the data bit of its prefix.
pub among_item : {N X : Type 0} (f : NodeShape N X) (w data_bits child_bits d k : ℕ) (node : N) (n : Net) (x : X) → k ≡ 0 → HasItemBelow f w data_bits
    child_bits k d node n x → (bit_at data_bits (data_bit_of w d n.bits n.len) ≡ 1)
    × (slice_get (f.items node) (slot_of (f.data_bits node) (data_bit_of w d n.bits n.len)) ≡ Some x)
unfolding HasItemBelow
among_item f w data_bits child_bits d zero node n x z h = h
among_item f w data_bits child_bits d (suc k) node n x z h = absurd (let no : ⊥ = omega arith in no)

-- The child that a pair lies in.
pub record InChild {N X : Type 0} (f : NodeShape N X) (w child_bits d j : ℕ) (node : N) (n : Net) (x : X) (child : N) : Type 0 where
  pub set : bit_at child_bits (bits_toward w d 5 n.bits) ≡ 1
  pub is : slice_get (f.children node) (slot_of (f.child_bits node) (bits_toward w d 5 n.bits)) ≡ Some child
  pub among : HasItemBelow f w (f.data_bits child) (f.child_bits child) j (d + 5) child n x

-- An item below the node is in the child on the way.
pub among_child : {N X : Type 0} (f : NodeShape N X) (w data_bits child_bits d k j : ℕ) (node : N) (n : Net) (x : X) → k ≡ suc j → HasItemBelow f w data_bits child_bits k d node n x → (child : N) × InChild f w child_bits d j node n x child
unfolding HasItemBelow
among_child f w data_bits child_bits d zero j node n x z h = absurd (let no : ⊥ = omega arith in no)
among_child f w data_bits child_bits d (suc k) j node n x z h =
    let e : k ≡ j = omega arith in
    (h.1.0, record { set = h.0; is = h.1.1; among = subst (λ i. HasItemBelow f w (f.data_bits h.1.0) (f.child_bits h.1.0) i (d + 5) h.1.0 n x) e h.1.2 })

-- An item in the child on the way is below the node.
pub child_among : {N X : Type 0} (f : NodeShape N X) (w data_bits child_bits d k j : ℕ) (node : N) (n : Net) (x : X) (child : N) → k ≡ suc j → InChild f w child_bits d j node n x child → HasItemBelow f w data_bits child_bits k d node n x
unfolding HasItemBelow
child_among f w data_bits child_bits d zero j node n x child z h = absurd (let no : ⊥ = omega arith in no)
child_among f w data_bits child_bits d (suc k) j node n x child z h =
    let e : j ≡ k = omega arith in
    (h.set, (child, h.is, subst (λ i. HasItemBelow f w (f.data_bits child) (f.child_bits child) i (d + 5) child n x) e h.among))

-- With other bits that are set where it needs them, a node still has the item.
pub among_map : {N X : Type 0} (f : NodeShape N X) (w data_bits child_bits data_bits' child_bits' d k : ℕ) (node : N) (n : Net) (x : X)
    → (k ≡ 0 → bit_at data_bits (data_bit_of w d n.bits n.len) ≡ 1 → bit_at data_bits' (data_bit_of w d n.bits n.len) ≡ 1)
    → ((j : ℕ) → k ≡ suc j → bit_at child_bits (bits_toward w d 5 n.bits) ≡ 1 → bit_at child_bits' (bits_toward w d 5 n.bits) ≡ 1) → HasItemBelow f w
    data_bits child_bits k d node n x → HasItemBelow f w data_bits' child_bits' k d node n x
unfolding HasItemBelow
among_map f w data_bits child_bits data_bits' child_bits' d zero node n x p q h = (p refl h.0, h.1)
among_map f w data_bits child_bits data_bits' child_bits' d (suc k) node n x p q h = (q k refl h.0, h.1)

-- A node has one item for a prefix.
pub among_one : {N X : Type 0} (f : NodeShape N X) (w data_bits child_bits d k : ℕ) (node : N) (n : Net) (x y : X) → HasItemBelow f w data_bits child_bits k d node n x → HasItemBelow f w data_bits child_bits k d node n y → x ≡ y
unfolding HasItemBelow
among_one f w data_bits child_bits d zero node n x y p q = same_some x y (sym p.1 ∙ q.1)
among_one f w data_bits child_bits d (suc k) node n x y p q =
    let e : p.1.0 ≡ q.1.0 = same_some p.1.0 q.1.0 (sym p.1.1 ∙ q.1.1) in
    among_one f w (f.data_bits q.1.0) (f.child_bits q.1.0) (d + 5) k q.1.0 n x y (subst (λ c. HasItemBelow f w (f.data_bits c) (f.child_bits c) k (d + 5) c n x) e p.1.2) q.1.2

-- A good node is sound by itself.
pub good_here : {N X : Type 0} (f : NodeShape N X) (w d : ℕ) (node : N) → ((k : ℕ) → Good f w k d node) → NodeOk f w d node
unfolding Good
good_here f w d node h = (h 1).0

-- Each child of a good node is good.
pub good_child : {N X : Type 0} (f : NodeShape N X) (w d : ℕ) (node : N) → ((k : ℕ) → Good f w k d node) → (i : ℕ) (child : N) → slice_get (f.children node) i ≡ Some child → (k : ℕ) → Good f w k (d + 5) child
unfolding Good
good_child f w d node h i child e k = (h (suc k)).1 i child e

-- A list has an element at each place below its length.
pub has_at : {X : Type 0} (xs : List X) (i : ℕ) → i < length xs → (x : X) × (slice_get xs i ≡ Some x)
has_at xs i lt = has_cases xs i lt (slice_get_cases xs i).1
