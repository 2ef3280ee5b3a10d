-- The search for the longest pair that contains a prefix, node by node.
use Rattle.std.proofs.Common.{◌≡◌, ℕ, ◌+◌, ◌-◌, ◌*◌, ◌/◌, ◌<◌, ◌≤◌, ◌∙◌, sym, ap, subst, refl, arith, true, Option, Some, None, inl, inr}
use Rattle.std.specs.Prelude.{◌↔◌, ◌⊎◌}
use Rattle.std.specs.Int.{bit_at}
use Rattle.std.proofs.Math.Nat.{mul-le-mul_left}
use Rattle.trie_model.specs.Nets.{Net, covers}
use Rattle.trie_model.specs.Views.{depth_at, child_net, child_toward, data_net, ViewValue, IsView, IsChild, TookData}
use Rattle.trie_model.proofs.Places.{not_true, covers_len, covers_way, covers_toward, depth_le, level_le}
use Rattle.trie_model.proofs.NodeLaws.{covers_trans, covers_between}
use Rattle.view_model.specs.CoveringUnion.{Longest, InNode, pair_value}
use Rattle.view_model.specs.LongestMatch.{LongestMatchOf, KeepsBelow, Matching}
use Rattle.view_model.proofs.Bits.{one-zero, either, lt_cases}
use Rattle.view_model.proofs.LongestLaws.{longest_same}
use Rattle.view_model.proofs.SideMoves.{net_eq}
use Rattle.view_model.proofs.FindLaws.{child_over}

-- ---- one more node

some_none : {X : Type 0} (x : X) → None ≡ Some x → ⊥
some_none x e = cc

-- The longest of the longer pairs, else of the shorter ones, is the longest of all.
pub longest_more : {Y : Type 0} (w : ℕ) (S C : Net → Y → Type 0) (n : Net) (low : Option (Net × Y)) →
    ((m k : Net) (y z : Y) → S m y → C k z → m.len ≤ k.len) → Longest w S None n low → (l : Option (Net × Y)) → Longest w C low n l →
    Longest w (λ m y. S m y ⊎ C m y) None n l
longest_more w S C n low short s None h =
    let k = subst (Longest w S None n) h.1 s in
    ((λ m y p over. either (λ a. k.0 m y a over) (λ b. h.0 m y b over) p), refl)
longest_more w S C n low short s (Some p) (inl h) = inl (inr h.0, h.1, λ m y q over. either (λ a. short m p.0 y p.1 a h.0) (λ b. h.2 m y b over) q)
longest_more {Y} w S C n low short s (Some p) (inr h) = from (subst (Longest w S None n) h.1 s)
  where
    from : Longest w S None n (Some p) → Longest w (λ m y. S m y ⊎ C m y) None n (Some p)
    from (inl k) = inl (inl k.0, k.1, λ m y q over. either (λ a. k.2 m y a over) (λ b. absurd (h.0 m y b over)) q)
    from (inr k) = absurd (some_none p k.1)

-- At the start all of the view is searched.
pub matching_start : {X : Type 0} (w depth : ℕ) (net : Net) (t u : ViewValue X) → covers w t.place net ≡ true → KeepsBelow depth t u → Matching w depth net t u
matching_start w depth net t u c k = record {
  inside = subst (λ p. covers w p net ≡ true) (sym k.place) c;
  rest = λ m x deep over. k.at m x deep;
  frugal = k.frugal;
}

-- In the child on the way, and after the child's own pair was taken.
pub matching_child : {X : Type 0} (w bit depth : ℕ) (net : Net) (t u c v : ViewValue X) → IsView w u → net.len ≤ w → depth ≡ depth_at u.place.len →
    depth + 5 ≤ net.len → bit ≡ child_toward w (depth_at u.place.len) net.bits → Matching w depth net t u → IsChild w bit u c →
    KeepsBelow (depth + 5) c v → Matching w (depth + 5) net t v
matching_child w bit depth net t u c v ok fits d deep toward m is keeps =
    let over = child_over w bit net u ok m.inside (subst (λ k. k + 5 ≤ net.len) d deep) fits toward in
    record {
      inside = subst (λ p. covers w p net ≡ true) (sym (keeps.place ∙ is.place)) over;
      rest = λ k x long in_k.
          let less : depth + 5 ≤ k.len = omega (arith, long) in
          let le = covers_len w k net in_k in
          let in_child = covers_between w (child_net w u.place bit) k net (omega (arith, le, fits)) (omega (arith, less, d)) over in_k in (
            (λ h. (m.rest k x less in_k).0 ((is.at k x).0 ((keeps.at k x long).0 h)).0),
            (λ h. (keeps.at k x long).1 ((is.at k x).1 ((m.rest k x less in_k).1 h, in_child))),
          );
      frugal = λ h. keeps.frugal (is.frugal (m.frugal h));
    }

-- The longest of the nodes so far, and of the child's own pairs.
pub longest_step : {V X : Type 0} (w bit depth : ℕ) (net : Net) (tell : V → ViewValue X) (v0 c : V) (u : ViewValue X) (low l : Option (Net × X)) →
    IsView w (tell v0) → IsView w u → net.len ≤ w → depth ≡ depth_at u.place.len → depth + 5 ≤ net.len →
    bit ≡ child_toward w (depth_at u.place.len) net.bits → Matching w depth net (tell v0) u → IsChild w bit u (tell c) →
    Longest w (InNode tell (Some v0) depth) None net low → Longest w (InNode tell (Some c) (depth + 5)) low net l →
    Longest w (InNode tell (Some v0) (depth + 5)) None net l
longest_step {V} {X} w bit depth net tell v0 c u low l ok0 ok fits d deep toward m is s h =
    longest_same w (λ k y. InNode tell (Some v0) depth k y ⊎ InNode tell (Some c) (depth + 5) k y) (InNode tell (Some v0) (depth + 5)) None net same l
    (longest_more w (InNode tell (Some v0) depth) (InNode tell (Some c) (depth + 5)) net low short s l h)
  where
    over : covers w (child_net w u.place bit) net ≡ true
    over = child_over w bit net u ok m.inside (subst (λ k. k + 5 ≤ net.len) d deep) fits toward

    long : (k : Net) (x : X) → (tell c).at k x → depth + 5 ≤ k.len
    long k x h = let le = covers_len w (child_net w u.place bit) k ((is.at k x).0 h).1 in omega (arith, le, d)

    short : (k j : Net) (x y : X) → InNode tell (Some v0) depth k x → InNode tell (Some c) (depth + 5) j y → k.len ≤ j.len
    short k j x y p q = let lt = p.0 in let ge = long j y q.1 in omega (arith, lt, ge)

    same : (k : Net) (x : X) → covers w k net ≡ true → (InNode tell (Some v0) depth k x ⊎ InNode tell (Some c) (depth + 5) k x) ↔
        InNode tell (Some v0) (depth + 5) k x
    same k x in_k = (
      either
          (λ a. ((let lt = a.0 in omega (arith, lt)), a.1))
          (λ b. (b.0, (m.rest k x (long k x b.1) in_k).0 ((is.at k x).0 b.1).0)),
      (λ h. either
          (λ lt. inl (lt, h.1))
          (λ ge.
          let le = covers_len w k net in_k in
          inr (
            h.0,
            (is.at k x).1 (
              (m.rest k x ge in_k).1 h.1,
              covers_between w (child_net w u.place bit) k net (omega (arith, le, fits)) (omega (arith, ge, d)) over in_k,
            ),
          ))
          (lt_cases k.len (depth + 5))),
    )

-- ---- the end

-- No longer pair contains the prefix.
pub record NoLonger {X : Type 0} (w depth : ℕ) (net : Net) (t : ViewValue X) : Type 0 where
  pub short : (m : Net) (x : X) → t.at m x → covers w m net ≡ true → m.len < depth + 5

-- Where the prefix ends in the node.
pub ends_here : {X : Type 0} (w depth : ℕ) (net : Net) (t : ViewValue X) → net.len < depth + 5 → NoLonger w depth net t
ends_here w depth net t lt = record { short = λ m x h over. let le = covers_len w m net over in omega (arith, le, lt) }

-- Where the child on the way is missing.
pub ends_above : {X : Type 0} (w bit depth : ℕ) (net : Net) (t u : ViewValue X) → IsView w u → net.len ≤ w → depth ≡ depth_at u.place.len →
    depth + 5 ≤ net.len → bit ≡ child_toward w (depth_at u.place.len) net.bits → bit_at u.child_bits bit ≡ 0 → Matching w depth net t u → NoLonger w depth net t
ends_above w bit depth net t u ok fits d deep toward off m = record {
  short = λ k x h in_k.
      either
      (λ lt. lt)
      (λ ge.
      let over = child_over w bit net u ok m.inside (subst (λ j. j + 5 ≤ net.len) d deep) fits toward in
      let le = covers_len w k net in_k in
      let at = (m.rest k x ge in_k).1 h in
      let in_child = covers_between w (child_net w u.place bit) k net (omega (arith, le, fits)) (omega (arith, ge, d)) over in_k in
      let way = covers_way w (depth_at u.place.len) u.place k ok.place_ok.len_fits (depth_le u.place.len) (ok.pairs k x at).1 in
      absurd (one-zero _ (subst (λ b. bit_at u.child_bits b ≡ 1) (covers_toward w bit u.place k (omega (
        arith,
        deep,
        fits,
        d,
      )) way in_child) (ok.below k x at (subst (λ j. j + 5 ≤ k.len) d ge))) off))
      (lt_cases k.len (depth + 5));
}

-- The longest pair of the nodes is the longest of the view.
pub longest_end : {V P T X : Type 0} (w depth : ℕ) (net : Net) (tell : V → ViewValue X) (v : V) (net_of : P → Net) (item : T → X) →
    NoLonger w depth net (tell v) → (l : Option (P × T)) → Longest w (InNode tell (Some v) depth) None net (pair_value net_of item l) →
    LongestMatchOf w net_of item (tell v) net l
longest_end w depth net tell v net_of item end None h = λ m x at over. h.0 m x (end.short m x at over, at) over
longest_end w depth net tell v net_of item end (Some p) (inl h) = (h.0.1, h.1, λ m x at over. h.2 m x (end.short m x at over, at) over)
longest_end w depth net tell v net_of item end (Some p) (inr h) = absurd (some_none (net_of p.0, item p.1) h.1)

-- No pair contains a prefix outside of the place.
pub none_outside : {P T X : Type 0} (w : ℕ) (net : Net) (t : ViewValue X) (net_of : P → Net) (item : T → X) → IsView w t → net.len ≤ w →
    (covers w t.place net ≡ true → ⊥) → LongestMatchOf w net_of item t net None
none_outside w net t net_of item ok fits out = λ m x at over. let le = covers_len w m net over in
    out (covers_trans w t.place m net (omega (arith, le, fits)) (ok.pairs m x at).1 over)

-- Taking a pair of the node keeps what is below.
pub keeps_took : {X : Type 0} (w bit depth : ℕ) (t u : ViewValue X) → depth ≡ depth_at t.place.len → TookData w bit t u → KeepsBelow depth t u
keeps_took w bit depth t u d took = record {
  place = took.place;
  child_bits = took.child_bits;
  at = λ n x deep. (
    (λ h. ((took.at n x).0 h).0),
    (λ h. (took.at n x).1 (
      h,
      not_true _ (λ e. let q = ap (λ p. p.len) (net_eq (data_net w t.place bit) n e) in let l = level_le bit in let no' : ⊥ =
          omega (arith, q, l, deep, d) in no'),
    )),
  );
  frugal = took.frugal;
}

-- What wasn't touched keeps all.
pub keeps_all : {X : Type 0} (depth : ℕ) (t : ViewValue X) → KeepsBelow depth t t
keeps_all depth t = record { place = refl; child_bits = refl; at = λ n x deep. ((λ h. h), (λ h. h)); frugal = λ h. h }

-- ---- the cost

-- One step more costs as much once more.
pub cost_step : (cost a b c start depth : ℕ) → start ≤ depth → b ≤ a + cost * ((depth - start) / 5) → c ≤ b + cost → c ≤ a + cost * ((depth + 5 - start) / 5)
cost_step cost a b c start depth low p q =
    let e : (depth + 5 - start) / 5 ≡ (depth - start) / 5 + 1 = omega (arith, low) in
    rw e (grind (arith, p, q))

-- A shorter way costs no more.
pub cost_less : (cost a b start depth len : ℕ) → depth ≤ len → b ≤ a + cost * ((depth - start) / 5) → b ≤ a + cost * ((len - start) / 5)
cost_less cost a b start depth len le p =
    let e : (depth - start) / 5 ≤ (len - start) / 5 = omega (arith, le) in
    let m = mul-le-mul_left cost e in
    grind (arith, p, m)

-- No step costs nothing.
pub cost_none : (a cost k : ℕ) → a ≤ a + cost * k
cost_none a cost k = grind arith
