-- Laws of the longest match.
use Rattle.std.proofs.Common.{◌≡◌, ◌≢◌, ℕ, ◌+◌, ◌-◌, ◌*◌, ◌/◌, ◌%◌, ◌^◌, ◌<◌, ◌≤◌, ◌∙◌, sym, ap, subst, suc, zero, refl, arith, Bool, true, false, cond, min, bit_and, Option, Some, None, inl, inr, leb}
use Rattle.std.specs.Prelude.{◌⊎◌}
use Rattle.std.specs.Int.{bit_at, w32, leading_zeros}
use Rattle.std.proofs.lemmas.Nat.{leading_top, and_le_l, pow_pos, pow-add, div_below, div-add-mod', mod_below}
use Rattle.std.proofs.Math.Nat.{zero-mul}
use Rattle.std.proofs.lemmas.Nat.Bits.{bit_at_and, bit_at-lt}
use Rattle.std.proofs.lemmas.Bool.{eq-eqb, leb-true, le-leb}
use Rattle.trie_model.specs.Nets.{covers, masked}
use Rattle.trie_model.specs.Views.{level_of, net_of_bit}
use Rattle.trie_model.specs.Spots.{bits_toward, data_bit_of, prefix_net, all_under}
use Rattle.trie_model.specs.Tries.{NodeShape, NodeOk, Good}
use Rattle.trie_model.specs.Puts.{HoldsAt, HasItem}
use Rattle.trie_model.specs.Longest.{LongestIn}
use Rattle.trie_model.proofs.Places.{both_hold, covers_len, covers_bits, masked_less, bit_below, level_le, times_cancel}
use Rattle.trie_model.proofs.SpotLaws.{bit_back, under2, if_then, by_if}
use Rattle.trie_model.proofs.MaskLaws.{data_bit_net}
use Rattle.trie_model.proofs.RootLaws.{no_bit}
use Rattle.trie_model.proofs.WalkLaws.{short_small}
use Rattle.trie_model.proofs.SlotLaws.{less_or}
use Rattle.trie_model.proofs.PutLaws.{at_item, item_at, kid_was}
use Rattle.trie_model.proofs.PutNodes.{kid_none}

-- A later bit of a node is no shorter.
level_table : all_under 31 (λ a. all_under 31 (λ b. if_then (leb a b) (leb (level_of a) (level_of b)))) ≡ true
unfolding all_under
level_table = refl

-- A later data bit of a node is no shorter.
pub level_grows : (a b : ℕ) → a < 31 → b < 31 → a ≤ b → level_of a ≤ level_of b
level_grows a b p q le = leb-true _ _ (by_if _ _ (under2 31 31 (λ a b. if_then (leb a b) (leb (level_of a) (level_of b))) level_table a b p q) (le-leb a b le))

-- The highest bit of a bitmap.
pub record Highest (m j : ℕ) : Type 0 where
  pub small : j < 32
  pub set : bit_at m j ≡ 1
  pub most : (b : ℕ) → bit_at m b ≡ 1 → b ≤ j

quotient_pos : (q k r m : ℕ) → q * k + r ≡ m → r < k → k ≤ m → 0 < q
quotient_pos zero k r m e lt le = let z = zero-mul k in omega (arith, z, e, lt, le)
quotient_pos (suc q) k r m e lt le = omega arith

top_bit : (m j : ℕ) → 2 ^ j ≤ m → m < 2 ^ suc j → bit_at m j ≡ 1
top_bit m j low high =
    let p = pow_pos j in
    let pos : 0 < m / 2 ^ j = quotient_pos (m / 2 ^ j) (2 ^ j) (m % 2 ^ j) m (div-add-mod' m (2 ^ j)) (mod_below m (2 ^ j) p) low in
    let two : m / 2 ^ j < 2 = div_below m (2 ^ j) 2 p (let e : 2 ^ suc j ≡ 2 * 2 ^ j = ap (λ x. 2 ^ x) (let s : suc j ≡ 1 + j = omega arith in s) ∙ pow-add 2 1 j in omega arith) in
    omega arith

highest_by : (m j z : ℕ) → z + suc j ≡ 32 → 2 ^ j ≤ m → m < 2 ^ suc j → Highest m (31 - z)
highest_by m j z e low high = subst (Highest m) (let q : j ≡ 31 - z = omega arith in q) (record {
  small = omega arith;
  set = top_bit m j low high;
  most = λ b on. let l = bit_below (suc j) m b high on in omega (arith, l);
})

-- The highest set bit of a word is told by its leading zeros.
pub highest : (m : ℕ) → m < 2 ^ 32 → m ≢ 0 → Highest m (31 - leading_zeros w32 m)
highest m fit ne = let top = leading_top 32 m (let pos : 0 < m = omega (arith, ne) in pos) fit in highest_by m top.0 (leading_zeros w32 m) top.1 top.2 top.3

-- ---- the node itself

-- A prefix of the node is known by its bit.
net_of_prefix : (w d n l : ℕ) → d ≤ l → l ≤ d + 4 → l ≤ w → n < 2 ^ w → net_of_bit w d n (data_bit_of w d n l) ≡ prefix_net w n l
net_of_prefix w d n l low high end fit = data_bit_net w d l n low high end fit

prefix_small : (w d n l : ℕ) → d ≤ l → l ≤ d + 4 → data_bit_of w d n l < 31
prefix_small w d n l low high = short_small w d (record { bits = n; len = l }) (omega arith)

level_of_prefix : (w d n l : ℕ) → d ≤ l → l ≤ d + 4 → l ≤ w → n < 2 ^ w → d + level_of (data_bit_of w d n l) ≡ l
level_of_prefix w d n l low high end fit = ap (λ p. p.len) (net_of_prefix w d n l low high end fit)

bit_of_prefix : (w d n l : ℕ) → d ≤ l → l ≤ d + 4 → l ≤ w → n < 2 ^ w → data_bit_of w d (masked w n l) l ≡ data_bit_of w d n l
bit_of_prefix w d n l low high end fit =
    ap (λ p. data_bit_of w d p.bits p.len) (sym (net_of_prefix w d n l low high end fit))
    ∙ bit_back w d n (data_bit_of w d n l) (prefix_small w d n l low high) (let e = level_of_prefix w d n l low high end fit in omega arith)

-- The bits of a node's prefixes that contain a key.
pub record MaskOf (w d n len mask : ℕ) : Type 0 where
  pub low : d ≤ len
  pub end : len ≤ w
  pub fit : n < 2 ^ w
  pub is : (bit : ℕ) → bit < 31 → bit_at mask bit ≡ cond (covers w (net_of_bit w d n bit) (record { bits = n; len = len })) 1 0

-- The least of 1 and 1 is 1.
pub both_one : (x y : ℕ) → x ≡ 1 → y ≡ 1 → min x y ≡ 1
both_one x y p q = omega arith

-- Two bits whose least is 1 are both 1.
pub one_both : (x y : ℕ) → min x y ≡ 1 → x < 2 → y < 2 → (x ≡ 1) × (y ≡ 1)
one_both x y h p q = (omega arith, omega arith)

-- A test whose number is 1 is true.
pub cond_is : (t : Bool) (z : ℕ) → z ≡ cond t 1 0 → z ≡ 1 → t ≡ true
cond_is true z e h = refl
cond_is false z e h = absurd (let no : ⊥ = omega arith in no)

-- A pair of the node that contains the key has its bit.
inside_set : {N X : Type 0} (f : NodeShape N X) (w d n len mask : ℕ) (node : N) → MaskOf w d n len mask → (l : ℕ) (x : X) → d ≤ l → l ≤ min len
    (d + 4) → HasItem f w d node (prefix_net w n l) x → bit_at (bit_and (f.data_bits node) mask) (data_bit_of w d n l) ≡ 1
inside_set f w d n len mask node m l x low high h =
    let le : l ≤ len = omega arith in
    let le4 : l ≤ d + 4 = omega arith in
    let end : l ≤ w = let e = m.end in omega arith in
    let held = at_item f w d node (prefix_net w n l) x low (omega arith) h in
    let bit : ℕ = data_bit_of w d n l in
    let on : bit_at (f.data_bits node) bit ≡ 1 = ap (bit_at (f.data_bits node)) (sym (bit_of_prefix w d n l low le4 end m.fit)) ∙ held.0 in
    let in_key : covers w (net_of_bit w d n bit) (record { bits = n; len = len }) ≡ true = ap (λ p. covers w p (record { bits = n; len = len }))
    (net_of_prefix w d n l low le4 end m.fit) ∙ both_hold (leb l len) _ (le-leb l len le) (eq-eqb _ _ refl) in
    bit_at_and (f.data_bits node) mask bit ∙ both_one _ _ on (m.is bit (prefix_small w d n l low le4) ∙ ap (λ t. cond t 1 0) in_key)

-- Where no data bit is in the mask, no prefix of the key has an item in the node.
pub here_nothing : {N X : Type 0} (f : NodeShape N X) (w d n len mask : ℕ) (node : N) → MaskOf w d n len mask → bit_and (f.data_bits node) mask ≡ 0
    → (l : ℕ) (x : X) → d ≤ l → l ≤ min len (d + 4) → HasItem f w d node (prefix_net w n l) x → ⊥
here_nothing f w d n len mask node m z l x low high h = no_bit _ _ z (inside_set f w d n len mask node m l x low high h)

-- The bit of the longest is one of a prefix that contains the key.
pub record Nearest (w d n len data_bits j : ℕ) : Type 0 where
  pub small : j < 31
  pub on : bit_at data_bits j ≡ 1
  pub net : net_of_bit w d n j ≡ prefix_net w n (d + level_of j)
  pub level : d + level_of j ≤ min len (d + 4)

-- The highest data bit in the mask is the longest prefix of the key in the node.
pub nearest : {N X : Type 0} (f : NodeShape N X) (w d n len mask j : ℕ) (node : N) → NodeOk f w d node → MaskOf w d n len mask → Highest (bit_and (f.data_bits node) mask) j → Nearest w d n len (f.data_bits node) j
nearest f w d n len mask j node ok m high =
    let both = one_both _ _ (sym (bit_at_and (f.data_bits node) mask j) ∙ high.set) (bit_at-lt (f.data_bits node) j) (bit_at-lt mask j) in
    let small : j < 31 = bit_below 31 (f.data_bits node) j ok.data_fit both.0 in
    let in_key = cond_is _ _ (m.is j small) both.1 in
    let le = covers_len w (net_of_bit w d n j) (record { bits = n; len = len }) in_key in
    let four = level_le j in
    record {
      small = small;
      on = both.0;
      net = ap (λ b. record { bits = b; len = d + level_of j }) (sym (covers_bits w (net_of_bit w d n j) (record { bits = n; len = len }) in_key));
      level = omega arith;
    }

-- The item of the highest data bit in the mask is that of the longest prefix of the key in the node.
pub here_longest : {N X : Type 0} (f : NodeShape N X) (w d n len mask j s : ℕ) (node : N) (x : X) → NodeOk f w d node → MaskOf w d n len mask
    → Highest (bit_and (f.data_bits node) mask) j → HoldsAt (f.data_bits node) (f.items node) j x → s ≡ d + level_of j → (d ≤ s)
    × (s ≤ min len (d + 4)) × HasItem f w d node (prefix_net w n s) x
    × ((l : ℕ) (y : X) → d ≤ l → l ≤ min len (d + 4) → HasItem f w d node (prefix_net w n l) y → l ≤ s)
here_longest {N} {X} f w d n len mask j s node x ok m high held e =
    let near = nearest f w d n len mask j node ok m high in
    let short = ok.short j near.on in
    let four = level_le j in (
      omega arith,
      (let le = near.level in omega arith),
      subst (λ k. HasItem f w d node (prefix_net w n k) x) (sym e) (item_at f w d node (prefix_net w n (d + level_of j)) x (omega arith) (omega arith)
          (subst (λ b. HoldsAt (f.data_bits node) (f.items node) b x) (sym (ap (λ p. data_bit_of w d p.bits p.len) (sym near.net) ∙ bit_back w d n j near.small short)) held)),
      λ l y low le h.
          let le4 : l ≤ d + 4 = omega arith in
          let end : l ≤ w = let q = m.end in omega arith in
          let most = high.most _ (inside_set f w d n len mask node m l y low le h) in
          let grows = level_grows (data_bit_of w d n l) j (prefix_small w d n l low le4) near.small most in
          let is = level_of_prefix w d n l low le4 end m.fit in
          omega (arith, grows, is, e),
    )

-- ---- the node and what lies below it

-- The child on the way to a prefix is that on the way to its number.
pub toward_masked : (w d l n : ℕ) → d + 5 ≤ l → l ≤ w → bits_toward w d 5 (masked w n l) ≡ bits_toward w d 5 n
toward_masked w d l n long end = ap (λ q. q % 32) (times_cancel _ _ (2 ^ (w - (d + 5))) (pow_pos (w - (d + 5))) (masked_less w l (d + 5) n end long))

-- Nothing lies below, so what the node has is the longest.
pub longest_here : {N X R : Type 0} (r : Option R) (size : R → ℕ) (look : R → X) (f : NodeShape N X) (w d n len : ℕ) (node : N) → LongestIn size look
    f w d n node d (min len (d + 4)) r → ((l : ℕ) (x : X) → d + 5 ≤ l → l ≤ len → HasItem f w d node (prefix_net w n l) x → ⊥) → LongestIn size look f
    w d n node d len r
longest_here {N} {X} {R} None size look f w d n len node h none = λ l x low le a. by l x low le a (less_or l (d + 5))
  where
    by : (l : ℕ) (x : X) → d ≤ l → l ≤ len → HasItem f w d node (prefix_net w n l) x → (l < d + 5) ⊎ (d + 5 ≤ l) → ⊥
    by l x low le a (inl lt) = h l x low (omega arith) a
    by l x low le a (inr long) = none l x long le a
longest_here {N} {X} {R} (Some r) size look f w d n len node h none = (h.0, (let le = h.1 in omega arith), h.2, λ l x low le a. by l x low le a (less_or l (d + 5)))
  where
    by : (l : ℕ) (x : X) → d ≤ l → l ≤ len → HasItem f w d node (prefix_net w n l) x → (l < d + 5) ⊎ (d + 5 ≤ l) → l ≤ size r
    by l x low le a (inl lt) = h.3 l x low (omega arith) a
    by l x low le a (inr long) = absurd (none l x long le a)

-- A key that ends in the node has no longer prefixes.
pub none_short : {N X : Type 0} (f : NodeShape N X) (w d n len : ℕ) (node : N) → len - d < 5 → (l : ℕ) (x : X) → d + 5 ≤ l → l ≤ len → HasItem f w d node (prefix_net w n l) x → ⊥
none_short f w d n len node lt l x long le a = omega (arith, lt, long, le)

-- Without the child on the way, no prefix of the key has an item below the node.
pub none_child : {N X : Type 0} (f : NodeShape N X) (w d n len c : ℕ) (node : N) → len ≤ w → c ≡ bits_toward w d 5 n → bit_at (f.child_bits node) c ≡ 0 → (l : ℕ) (x : X) → d + 5 ≤ l → l ≤ len → HasItem f w d node (prefix_net w n l) x → ⊥
none_child f w d n len c node end is off l x long le a = kid_none f w d c (prefix_net w n l) node long (is ∙ sym (toward_masked w d l n long (omega arith))) off x a

-- Where no prefix of the key has an item in the child on the way, none has one below the node.
pub none_below : {N X R : Type 0} (size : R → ℕ) (look : R → X) (f : NodeShape N X) (w d n len c : ℕ) (node child : N) → len ≤ w → c ≡ bits_toward w d
    5 n → HoldsAt (f.child_bits node) (f.children node) c child → LongestIn size look f w (d + 5) n child (d + 5) len None → (l : ℕ) (x : X) → d + 5
    ≤ l → l ≤ len → HasItem f w d node (prefix_net w n l) x → ⊥
none_below size look f w d n len c node child end is held h l x long le a =
    h l x long le ((kid_was f w d c node child held (prefix_net w n l) x long (toward_masked w d l n long (omega arith) ∙ sym is)).0 a)

-- The longest prefix found in the child on the way is the longest in the node.
pub longest_below : {N X R : Type 0} (size : R → ℕ) (look : R → X) (f : NodeShape N X) (w d n len c : ℕ) (node child : N) (r : R) → len ≤ w → c
    ≡ bits_toward w d 5 n → HoldsAt (f.child_bits node) (f.children node) c child → LongestIn size look f w (d + 5) n child (d + 5) len (Some r)
    → LongestIn size look f w d n node d len (Some r)
longest_below {N} {X} {R} size look f w d n len c node child r end is held h =
    let low = h.0 in
    let high = h.1 in
    ((omega arith), high, (kid_was f w d c node child held (prefix_net w n (size r)) (look r) low (toward_masked w d (size r) n low (omega arith) ∙ sym is)).1 h.2, λ l x le to a. by l x le to a (less_or l (d + 5)))
  where
    by : (l : ℕ) (x : X) → d ≤ l → l ≤ len → HasItem f w d node (prefix_net w n l) x → (l < d + 5) ⊎ (d + 5 ≤ l) → l ≤ size r
    by l x le to a (inl lt) = let low = h.0 in omega arith
    by l x le to a (inr long) = h.3 l x long to ((kid_was f w d c node child held (prefix_net w n l) x long (toward_masked w d l n long (omega arith) ∙ sym is)).0 a)

-- `31 - inside.leading_zeros()`
pub high_bit_of : (data_bits mask r : ℕ) → data_bits < 2 ^ 31 → r ≡ data_bits → bit_and r mask ≢ 0 → Highest (bit_and data_bits mask) (31 - leading_zeros w32 (bit_and r mask))
high_bit_of data_bits mask r fit is ne =
    subst (λ x. Highest (bit_and x mask) (31 - leading_zeros w32 (bit_and r mask))) is (highest (bit_and r mask) (let le = and_le_l r mask in let f : r < 2 ^ 31 = subst (λ x. x < 2 ^ 31) (sym is) fit in omega arith) ne)

-- What equals a good node is good.
pub good_there : {N X : Type 0} (f : NodeShape N X) (w d : ℕ) (a b : N) → b ≡ a → ((k : ℕ) → Good f w k d a) → (k : ℕ) → Good f w k d b
good_there f w d a b e g k = subst (λ z. Good f w k d z) (sym e) (g k)
