-- A walk that starts at a prefix: what its levels have still to give.
use Rattle.std.proofs.Common.{◌≡◌, ◌≢◌, ℕ, ◌+◌, ◌-◌, ◌*◌, ◌/◌, ◌^◌, ◌<◌, ◌≤◌, ◌∙◌, sym, ap, subst, arith, Bool, true, false, cond, leb, bit_and, List, [], ◌∷◌, ◌++◌, length, inl, inr}
use Rattle.std.specs.Prelude.{◌⊎◌, ◌↔◌, Result, Ok, Err, OnOk}
use Rattle.std.specs.Int.{bit_at}
use Rattle.std.proofs.lemmas.Bool.{le-leb, eq-eqb}
use Rattle.std.proofs.lemmas.Nat.{pow_pos, pow-add, and_mask}
use Rattle.std.proofs.lemmas.Nat.Bits.{bit_at-lt}
use Rattle.std.proofs.Math.Nat.{add-mul, div-mul-le_self, lt-div-mul-add, mul-le-mul_right, mul-div_cancel, mul_assoc, mul_comm}
use Rattle.trie_model.specs.Nets.{Net, IsNet, covers, masked}
use Rattle.trie_model.specs.Spots.{rank_at, bits_toward, spot_of, data_bit_of, next_spot, order_key}
use Rattle.trie_model.specs.Views.{ViewValue, IsView, TookChild, IsChild, depth_at, data_net, child_net}
use Rattle.trie_model.specs.Walks.{Left, LevelOk, WalkOk, Roomy, From, rest}
use Rattle.trie_model.proofs.Places.{both_hold, depth_le, covers_len, covers_bits, covers_way, toward_covers}
use Rattle.trie_model.proofs.SpotLaws.{net_back}
use Rattle.trie_model.proofs.SpotOrder.{in_spot, spot_order, InSpot, lower_bits, lower_len}
use Rattle.trie_model.proofs.SlotLaws.{less_or, same_or}
use Rattle.trie_model.proofs.WalkLaws.{either, left_top, left_under, left_cases, sorted_push, pair_spot, rank_less, rank_next, spot_short, spot_long, spot_data, spot_child_pair, short_small}
use Rattle.trie_model.proofs.WalkSteps.{each_push, by_covers}
use Rattle.trie_model.proofs.WorkLaws.{rank_more}
use Rattle.trie_model.proofs.RoomLaws.{Below}

-- ---- the spot of the prefix

-- A prefix inside a view's place, and the spot on the way to it.
pub record Way {X : Type 0} (w : ℕ) (t : ViewValue X) (net : Net) (h : ℕ) : Type 0 where
  pub ok : IsView w t
  pub net_ok : IsNet w net
  pub inside : covers w t.place net ≡ true
  pub spot : spot_of w (depth_at t.place.len) net ≡ h

net_spot : {X : Type 0} (w : ℕ) (t : ViewValue X) (net : Net) (h : ℕ) → Way w t net h → InSpot w (depth_at t.place.len) net h
net_spot w t net h way =
    let long = covers_len w t.place net way.inside in
    let top = depth_le t.place.len in
    subst (InSpot w (depth_at t.place.len) net) way.spot (in_spot w (depth_at t.place.len) net way.net_ok (omega (arith, long, top)))

same_bits : {X : Type 0} (w : ℕ) (t : ViewValue X) (net : Net) (h : ℕ) → Way w t net h → (n : Net) (x : X) → t.at n x → masked w n.bits (depth_at t.place.len) ≡ masked w net.bits (depth_at t.place.len)
same_bits w t net h way n x a =
    let top = depth_le t.place.len in
    let fits = way.ok.place_ok.len_fits in
    covers_way w (depth_at t.place.len) t.place n fits top (way.ok.pairs n x a).1 ∙ sym (covers_way w (depth_at t.place.len) t.place net fits top way.inside)

-- A pair of an earlier spot comes before the prefix.
pub earlier : {X : Type 0} (w : ℕ) (t : ViewValue X) (net : Net) (h : ℕ) → Way w t net h → (n : Net) (x : X) → t.at n x → rank_at (spot_of w (depth_at t.place.len) n) < rank_at h → order_key w n < order_key w net
earlier w t net h way n x a lt = spot_order w (depth_at t.place.len) (spot_of w (depth_at t.place.len) n) h n net (way.ok.pairs n x a).0.len_fits (same_bits w t net h way n x a) (pair_spot w t way.ok n x a) (net_spot w t net h way) lt

-- A pair of a later spot comes after it.
pub later : {X : Type 0} (w : ℕ) (t : ViewValue X) (net : Net) (h : ℕ) → Way w t net h → (n : Net) (x : X) → t.at n x → rank_at h < rank_at (spot_of w (depth_at t.place.len) n) → order_key w net < order_key w n
later w t net h way n x a lt = spot_order w (depth_at t.place.len) h (spot_of w (depth_at t.place.len) n) net n way.net_ok.len_fits (sym (same_bits w t net h way n x a)) (net_spot w t net h way) (pair_spot w t way.ok n x a) lt

from_more : (w : ℕ) (inclusive : Bool) (net n : Net) → order_key w net < order_key w n → From w inclusive net n
from_more w true net n lt = omega (arith, lt)
from_more w false net n lt = omega (arith, lt)

from_least : (w : ℕ) (inclusive : Bool) (net n : Net) → From w inclusive net n → order_key w n < order_key w net → ⊥
from_least w true net n f lt = omega (arith, f, lt)
from_least w false net n f lt = omega (arith, f, lt)

-- The pairs after the prefix's spot, where none of them stands at it.
pub from_behind : {X : Type 0} (w : ℕ) (inclusive : Bool) (t : ViewValue X) (net : Net) (h : ℕ) → Way w t net h → (n : Net) (x : X) → t.at n x → h
    ≢ spot_of w (depth_at t.place.len) n → (rank_at (next_spot h) ≤ rank_at (spot_of w (depth_at t.place.len) n)) ↔ From w inclusive net n
from_behind {X} w inclusive t net h way n x a ne = (
  (λ le. let more = rank_more h s.positive s.small in from_more w inclusive net n (later w t net h way n x a (omega (arith, le, more)))),
  (λ f. either (λ lt. absurd (from_least w inclusive net n f (earlier w t net h way n x a lt)))
      (λ le. rank_next h (spot_of w (depth_at t.place.len) n) s.positive s.small k.positive k.small le ne)
      (less_or (rank_at (spot_of w (depth_at t.place.len) n)) (rank_at h))),
)
  where
    s : InSpot w (depth_at t.place.len) net h
    s = net_spot w t net h way

    k : InSpot w (depth_at t.place.len) n (spot_of w (depth_at t.place.len) n)
    k = pair_spot w t way.ok n x a

-- ---- the node that has the prefix

one_net : {X : Type 0} (w : ℕ) (t : ViewValue X) (net : Net) (bit : ℕ) → Way w t net (bit + 1) → bit < 31 → net.len < depth_at t.place.len + 5 → bit
    ≡ data_bit_of w (depth_at t.place.len) net.bits net.len → (n : Net) (x : X) → t.at n x → bit + 1 ≡ spot_of w (depth_at t.place.len) n → n ≡ net
one_net w t net bit way lt short is n x a e =
    let d : ℕ = depth_at t.place.len in
    let long = covers_len w t.place net way.inside in
    let top = depth_le t.place.len in
    sym (spot_data w t way.ok bit lt n x a (sym e)).0
    ∙ ap (λ b. data_net w t.place b) is
    ∙ net_back w d t.place.bits net way.net_ok (omega (arith, long, top)) short (covers_way w d t.place net way.ok.place_ok.len_fits top way.inside)

-- From the spot of a prefix on, or after it, a view has exactly its pairs from that prefix on, or after it.
pub from_bit : {X : Type 0} (w : ℕ) (inclusive : Bool) (t : ViewValue X) (net : Net) (bit h : ℕ) → IsView w t → IsNet w net → covers w t.place net
    ≡ true → net.len < depth_at t.place.len + 5 → bit ≡ data_bit_of w (depth_at t.place.len) net.bits net.len → h ≡ cond inclusive (bit + 1)
    (next_spot (bit + 1)) → (n : Net) (x : X) → (rest w t h).at n x ↔ (t.at n x × From w inclusive net n)
from_bit {X} w inclusive t net bit h ok net_ok inside short is at n x = subst (λ z. (rest w t z).at n x ↔ (t.at n x × From w inclusive net n)) (sym at) (by inclusive)
  where
    small : bit < 31
    small = subst (λ b. b < 31) (sym is) (short_small w (depth_at t.place.len) net short)

    way : Way w t net (bit + 1)
    way = record { ok = ok; net_ok = net_ok; inside = inside; spot = spot_short w (depth_at t.place.len) net short ∙ ap (λ b. b + 1) (sym is) }

    here : t.at n x → rank_at (bit + 1) ≤ rank_at (spot_of w (depth_at t.place.len) n) → (bit + 1 ≡ spot_of w (depth_at t.place.len) n) ⊎ (bit + 1 ≢ spot_of w (depth_at t.place.len) n) → order_key w net < order_key w n + 1
    here a le (inl e) = let o = ap (order_key w) (one_net w t net bit way small short is n x a e) in omega (arith, o)
    here a le (inr ne) = let s = net_spot w t net (bit + 1) way in let k = pair_spot w t ok n x a in
        let lt = later w t net (bit + 1) way n x a (rank_less (bit + 1) (spot_of w (depth_at t.place.len) n) s.positive s.small k.positive k.small le
        ne) in omega (arith, lt)

    not_here : t.at n x → order_key w net < order_key w n + 0 → bit + 1 ≢ spot_of w (depth_at t.place.len) n
    not_here a f = λ e. let o = ap (order_key w) (one_net w t net bit way small short is n x a e) in omega (arith, o, f)

    not_at : t.at n x → rank_at (next_spot (bit + 1)) ≤ rank_at (spot_of w (depth_at t.place.len) n) → bit + 1 ≢ spot_of w (depth_at t.place.len) n
    not_at a le = λ e. let s = net_spot w t net (bit + 1) way in let more = rank_more (bit + 1) s.positive s.small in let g = ap rank_at e in omega (arith, le, more, g)

    by : (inclusive : Bool) → (rest w t (cond inclusive (bit + 1) (next_spot (bit + 1)))).at n x ↔ (t.at n x × From w inclusive net n)
    by true = (
      (λ a. (a.0, here a.0 a.1 (same_or (bit + 1) (spot_of w (depth_at t.place.len) n)))),
      (λ a. (a.0, either (λ lt. absurd (let b = earlier w t net (bit + 1) way n x a.0 lt in let f = a.1 in let no : ⊥ = omega (arith, b, f) in no)) (λ le. le) (less_or (rank_at (spot_of w (depth_at t.place.len) n)) (rank_at (bit + 1))))),
    )
    by false = (
      (λ a. (a.0, (from_behind w false t net (bit + 1) way n x a.0 (not_at a.0 a.1)).0 a.1)),
      (λ a. (a.0, (from_behind w false t net (bit + 1) way n x a.0 (not_here a.0 a.1)).1 a.1)),
    )

-- ---- a node above it

-- The way to the prefix goes through this child.
pub record Through {X : Type 0} (w : ℕ) (t : ViewValue X) (net : Net) (c : ℕ) : Type 0 where
  pub ok : IsView w t
  pub net_ok : IsNet w net
  pub inside : covers w t.place net ≡ true
  pub deep : depth_at t.place.len + 5 ≤ net.len
  pub toward : c ≡ bits_toward w (depth_at t.place.len) 5 net.bits

through_way : {X : Type 0} (w : ℕ) (t : ViewValue X) (net : Net) (c : ℕ) → Through w t net c → Way w t net (32 + c)
through_way w t net c go = record { ok = go.ok; net_ok = go.net_ok; inside = go.inside; spot = spot_long w (depth_at t.place.len) net go.deep ∙ ap (λ b. 32 + b) (sym go.toward) }

-- The child on the way to a prefix contains the prefix.
pub child_inside : {X : Type 0} (w : ℕ) (t : ViewValue X) (net : Net) (c : ℕ) → Through w t net c → covers w (child_net w t.place c) net ≡ true
child_inside w t net c go =
    let d : ℕ = depth_at t.place.len in
    let l = go.net_ok.len_fits in
    let deep = go.deep in
    ap (λ b. covers w (child_net w t.place b) net) go.toward ∙ toward_covers w t.place net (omega (arith, l, deep)) deep (covers_way w d t.place net go.ok.place_ok.len_fits (depth_le t.place.len) go.inside)

in_child : {X : Type 0} (w : ℕ) (t : ViewValue X) (net : Net) (c : ℕ) → Through w t net c → (n : Net) (x : X) → t.at n x → 32 + c ≡ spot_of w (depth_at t.place.len) n → covers w (child_net w t.place c) n ≡ true
in_child w t net c go n x a e =
    let d : ℕ = depth_at t.place.len in
    let there = spot_child_pair w t go.ok c n x a (sym e) in
    let l = go.net_ok.len_fits in
    let deep = go.deep in
    ap (λ b. covers w (child_net w t.place b) n) (sym there.1) ∙ toward_covers w t.place n (omega (arith, l, deep)) there.0 (covers_way w d t.place n go.ok.place_ok.len_fits (depth_le t.place.len) (go.ok.pairs n x a).1)

-- Without the child all that is left stands after it.
pub from_gap : {X : Type 0} (w : ℕ) (inclusive : Bool) (t : ViewValue X) (net : Net) (c : ℕ) → Through w t net c → (bit_at t.child_bits c ≡ 1 → ⊥)
    → (n : Net) (x : X) → (rest w t (next_spot (32 + c))).at n x ↔ (t.at n x × From w inclusive net n)
from_gap {X} w inclusive t net c go unset n x = ((λ a. (a.0, (behind a.0).0 a.1)), (λ a. (a.0, (behind a.0).1 a.1)))
  where
    behind : t.at n x → (rank_at (next_spot (32 + c)) ≤ rank_at (spot_of w (depth_at t.place.len) n)) ↔ From w inclusive net n
    behind a = from_behind w inclusive t net (32 + c) (through_way w t net c go) n x a (λ e.
        let there = spot_child_pair w t go.ok c n x a (sym e) in
        unset (subst (λ b. bit_at t.child_bits b ≡ 1) there.1 (go.ok.below n x a there.0)))

-- With it, what comes from the prefix on is the child's part, and what stands after it.
pub from_split : {X : Type 0} (w : ℕ) (inclusive : Bool) (t u v : ViewValue X) (net : Net) (c : ℕ) → Through w t net c → TookChild w c t u → IsChild w
    c t v → (n : Net) (x : X) → (t.at n x × From w inclusive net n) ↔ ((v.at n x × From w inclusive net n) ⊎ (rest w u (next_spot (32 + c))).at n x)
from_split {X} w inclusive t u v net c go took is n x = (
  (λ a. by_covers (covers w (child_net w t.place c) n)
      (λ y. inl ((is.at n x).1 (a.0, y), a.1))
      (λ f. inr ((took.at n x).1 (a.0, f), at_place ((behind a.0 f).1 a.1)))),
  (λ a. either (λ h. (((is.at n x).0 h.0).0, h.1)) (λ h. let was = (took.at n x).0 h.0 in (was.0, (behind was.0 was.1).0 (place_at h.1))) a),
)
  where
    behind : t.at n x → covers w (child_net w t.place c) n ≡ false → (rank_at (next_spot (32 + c)) ≤ rank_at (spot_of w (depth_at t.place.len) n)) ↔ From w inclusive net n
    behind a f = from_behind w inclusive t net (32 + c) (through_way w t net c go) n x a (λ e. let t' : false ≡ true = sym f ∙ in_child w t net c go n x a e in cc)

    at_place : rank_at (next_spot (32 + c)) ≤ rank_at (spot_of w (depth_at t.place.len) n) → rank_at (next_spot (32 + c)) ≤ rank_at (spot_of w (depth_at u.place.len) n)
    at_place le = subst (λ p. rank_at (next_spot (32 + c)) ≤ rank_at (spot_of w (depth_at p.len) n)) (sym took.place) le

    place_at : rank_at (next_spot (32 + c)) ≤ rank_at (spot_of w (depth_at u.place.len) n) → rank_at (next_spot (32 + c)) ≤ rank_at (spot_of w (depth_at t.place.len) n)
    place_at le = subst (λ p. rank_at (next_spot (32 + c)) ≤ rank_at (spot_of w (depth_at p.len) n)) took.place le

-- ---- a prefix outside the place

-- A shorter prefix has no bits past a longer length either.
masked_longer : (w l k n : ℕ) → l ≤ k → k ≤ w → masked w n l ≡ n → masked w n k ≡ n
masked_longer w l k n le fits e =
    let u : ℕ = 2 ^ (w - k) in
    let v : ℕ = 2 ^ (k - l) in
    let q : ℕ = n / 2 ^ (w - l) in
    let whole : q * v * u ≡ n = mul_assoc q v u ∙ ap (λ x. q * x) (mul_comm v u ∙ sym (pow-add 2 (w - k) (k - l)) ∙ ap (λ x. 2 ^ x) (let j : w - k + (k - l) ≡ w - l = omega arith in j)) ∙ e in
    ap (λ x. x / u * u) (sym whole) ∙ ap (λ x. x * u) (mul-div_cancel (q * v) (pow_pos (w - k))) ∙ whole

-- The prefix comes before all pairs of the place.
pub all_behind : {X : Type 0} (w : ℕ) (inclusive : Bool) (t : ViewValue X) (net : Net) → IsView w t → IsNet w net → (covers w t.place net ≡ true → ⊥) → net.bits ≤ t.place.bits → (n : Net) (x : X) → t.at n x → From w inclusive net n
all_behind {X} w inclusive t net ok net_ok outside le n x a = from_more w inclusive net n (by (less_or net.bits n.bits))
  where
    at_least : t.place.bits ≤ n.bits
    at_least = let m = div-mul-le_self n.bits (2 ^ (w - t.place.len)) in let e = covers_bits w t.place n (ok.pairs n x a).1 in omega (arith, m, e)

    by : (net.bits < n.bits) ⊎ (n.bits ≤ net.bits) → order_key w net < order_key w n
    by (inl lt) = lower_bits w net n net_ok.len_fits lt
    by (inr ge) =
        let same : net.bits ≡ t.place.bits = let m = at_least in omega (arith, m, ge, le) in
        let short : net.len < t.place.len = either (λ lt. lt)
        (λ long. absurd (outside (both_hold (leb t.place.len net.len) _ (le-leb _ _ long)
        (eq-eqb _ _ (ap (λ b. masked w b t.place.len) same ∙ ok.place_ok.no_rest))))) (less_or net.len t.place.len) in
        let long = covers_len w t.place n (ok.pairs n x a).1 in
        lower_len w net n (let m = at_least in omega (arith, m, le)) (omega (arith, short, long))

-- Or after them.
pub none_behind : {X : Type 0} (w : ℕ) (inclusive : Bool) (t : ViewValue X) (net : Net) → IsView w t → IsNet w net → (covers w t.place net ≡ true → ⊥) → t.place.bits < net.bits → (n : Net) (x : X) → t.at n x → From w inclusive net n → ⊥
none_behind {X} w inclusive t net ok net_ok outside lt n x a f =
    from_least w inclusive net n f (lower_bits w n net (ok.pairs n x a).0.len_fits bits)
  where
    apart : net.bits / 2 ^ (w - t.place.len) ≢ n.bits / 2 ^ (w - t.place.len)
    apart = λ e.
        let way : masked w net.bits t.place.len ≡ t.place.bits = ap (λ q. q * 2 ^ (w - t.place.len)) e ∙ covers_bits w t.place n (ok.pairs n x a).1 in
        either
        (λ short. let same = sym (masked_longer w net.len t.place.len net.bits (let le : net.len ≤ t.place.len = omega (arith, short) in le) ok.place_ok.len_fits net_ok.no_rest) ∙ way in omega (arith, same, lt))
        (λ long. outside (both_hold (leb t.place.len net.len) _ (le-leb _ _ long) (eq-eqb _ _ way)))
        (less_or net.len t.place.len)

    bits : n.bits < net.bits
    bits = by (less_or (n.bits / 2 ^ (w - t.place.len)) (net.bits / 2 ^ (w - t.place.len)))
      where
        by : (n.bits / 2 ^ (w - t.place.len) < net.bits / 2 ^ (w - t.place.len)) ⊎ (net.bits / 2 ^ (w - t.place.len) ≤ n.bits / 2 ^ (w - t.place.len)) → n.bits < net.bits
        by (inl more) =
            let top : n.bits < n.bits / 2 ^ (w - t.place.len) * 2 ^ (w - t.place.len) + 2 ^ (w - t.place.len) = lt-div-mul-add (pow_pos (w - t.place.len)) in
            let low = div-mul-le_self net.bits (2 ^ (w - t.place.len)) in
            let m = mul-le-mul_right {m = n.bits / 2 ^ (w - t.place.len) + 1} {n = net.bits / 2 ^ (w - t.place.len)} (2 ^ (w - t.place.len)) (omega (arith, more)) in
            let e = add-mul (n.bits / 2 ^ (w - t.place.len)) 1 (2 ^ (w - t.place.len)) in
            omega (arith, top, low, m, e)
        by (inr less) = absurd (
            let smaller : net.bits / 2 ^ (w - t.place.len) + 1 ≤ n.bits / 2 ^ (w - t.place.len) = let ne = apart in omega (arith, less, ne) in
            let top : net.bits < net.bits / 2 ^ (w - t.place.len) * 2 ^ (w - t.place.len) + 2 ^ (w - t.place.len) = lt-div-mul-add (pow_pos (w - t.place.len)) in
            let m = mul-le-mul_right {m = net.bits / 2 ^ (w - t.place.len) + 1} {n = n.bits / 2 ^ (w - t.place.len)} (2 ^ (w - t.place.len)) smaller in
            let e = add-mul (net.bits / 2 ^ (w - t.place.len)) 1 (2 ^ (w - t.place.len)) in
            let way = covers_bits w t.place n (ok.pairs n x a).1 in
            let no : ⊥ = omega (arith, top, m, e, way, lt) in no)

-- ---- a level on the stack

-- A stack with a level pushed whose pairs come first may be walked on, and gives them too.
pub pushed : {L X : Type 0} (good : L → Type 0) (tell : L → ViewValue X) (spot : L → ℕ) (w : ℕ) (old new : List L) (l : L) → new ≡ old ++ l ∷ []
    → WalkOk good tell spot w old → LevelOk good tell spot w l
    → ((n m : Net) (x y : X) → (tell l).at n x → Left tell old m y → order_key w n < order_key w m) → WalkOk good tell spot w new
    × ((n : Net) (x : X) → Left tell new n x ↔ ((tell l).at n x ⊎ Left tell old n x))
pushed {L} {X} good tell spot w old new l e ok level first =
    subst (λ ls. WalkOk good tell spot w ls × ((n : Net) (x : X) → Left tell ls n x ↔ ((tell l).at n x ⊎ Left tell old n x))) (sym e) (
      record { each = each_push good tell spot w old l ok.each level; sorted = sorted_push w tell old l ok.sorted first },
      λ n x. (
        (λ h. either (λ a. inr a) (λ a. inl a) (left_cases tell old l n x h)),
        (λ h. either (λ a. left_top tell old l n x a) (λ a. left_under tell old l n x a) h),
      ),
    )

-- The room for a level that isn't on the stack yet.
pub room_below : {L X : Type 0} (w : ℕ) (tell : L → ViewValue X) (ls : List L) (l : L) (capacity : ℕ) → IsView w (tell l) → Roomy w tell ls capacity → 5 * length ls ≤ (tell l).place.len → Below w tell ls l capacity
room_below w tell ls l capacity view room deep =
    let fits = view.place_ok.len_fits in
    let r = room.room in
    record { roomy = room; deep = deep; fits = fits; space = omega (arith, deep, fits, r) }

-- ---- in the form of the code

-- The depth of a view's node is at most the length of what its place contains.
pub low_depth : {X : Type 0} (w : ℕ) (t : ViewValue X) (net : Net) (depth : ℕ) → depth ≡ depth_at t.place.len → covers w t.place net ≡ true → depth ≤ net.len
low_depth w t net depth e inside = let long = covers_len w t.place net inside in let top = depth_le t.place.len in omega (arith, e, long, top)

-- A bit whose test is 0 isn't set.
pub unset_clash : (n m i : ℕ) → n ≡ m → bit_and (n / 2 ^ i) 1 ≡ 0 → bit_at m i ≡ 1 → ⊥
unset_clash n m i e h s = let off = sym (and_mask (n / 2 ^ i) 1) ∙ h in let on = ap (λ x. bit_at x i) e ∙ s in omega (arith, off, on)

-- A bit whose test isn't 0 is set.
pub set_is : (n m i : ℕ) → n ≡ m → bit_and (n / 2 ^ i) 1 ≢ 0 → bit_at m i ≡ 1
set_is n m i e h = sym (ap (λ x. bit_at x i) e) ∙ (let small = bit_at-lt n i in let ne : bit_at n i ≢ 0 = λ z. h (and_mask (n / 2 ^ i) 1 ∙ z) in let one : bit_at n i ≡ 1 = omega (arith, small, ne) in one)

-- A prefix whose bits are the first of another contains it.
pub lies : (w p l k j f : ℕ) → f ≡ masked w k l → l ≤ j → f ≤ p → p ≤ f → covers w (record { bits = p; len = l }) (record { bits = k; len = j }) ≡ true
lies w p l k j f e le a b = both_hold (leb l j) _ (le-leb l j le) (eq-eqb _ _ (sym e ∙ (let same : f ≡ p = omega (arith, a, b) in same)))

-- The bits of a prefix are the first of what it contains.
pub lies_back : (w p l k j f : ℕ) → f ≡ masked w k l → covers w (record { bits = p; len = l }) (record { bits = k; len = j }) ≡ true → (f ≤ p) × (p ≤ f)
lies_back w p l k j f e h = let same = covers_bits w (record { bits = p; len = l }) (record { bits = k; len = j }) h in (omega (arith, same, e), omega (arith, same, e))

-- What follows from a fact holds where that fact does, after an Ok.
pub ok_map : {T E : Type 0} {P Q : Type 0} (r : Result T E) → (P → Q) → OnOk r P → OnOk r Q
ok_map (Ok x) f h = f h
ok_map (Err e) f h = h
