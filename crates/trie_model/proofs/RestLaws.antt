-- What a level of a walk has still to give: the pairs of its view from a spot on.
use Rattle.std.proofs.Common.{◌≡◌, ◌≢◌, ℕ, ◌+◌, ◌-◌, ◌^◌, ◌<◌, ◌≤◌, ◌∙◌, sym, ap, subst, refl, arith, Bool, true, false, cond, not, ◌&&◌, eqb, leb, min, bit_and, inl, inr}
use Rattle.std.specs.Prelude.{◌⊎◌, ◌↔◌}
use Rattle.std.specs.Int.{bit_at}
use Rattle.std.proofs.lemmas.Bool.{eqb-true, leb-true, le-leb}
use Rattle.std.proofs.lemmas.Nat.{and_le_l}
use Rattle.std.proofs.lemmas.Nat.Bits.{bit_at_and, bit_at-lt, bit_at_above}
use Rattle.trie_model.specs.Nets.{Net, covers}
use Rattle.trie_model.specs.Spots.{rank_at, spot_of, next_spot, all_under, ltb}
use Rattle.trie_model.specs.Views.{ViewValue, IsView, TookData, TookChild, IsChild, depth_at, data_net, child_net, child_toward}
use Rattle.trie_model.specs.Walks.{Ahead, bits_where, data_from, children_from, rest}
use Rattle.trie_model.proofs.Places.{and_left, and_right, elim-false, depth_le, level_le, bit_below, covers_len, covers_way, covers_toward, toward_covers}
use Rattle.trie_model.proofs.SpotLaws.{under, under2, if_then, by_if, ltb-lt, bit_back}
use Rattle.trie_model.proofs.LongestLaws.{one_both, both_one, cond_is}
use Rattle.trie_model.proofs.TrieLaws.{same_net_is}
use Rattle.trie_model.proofs.SlotLaws.{less_or}
use Rattle.trie_model.proofs.WalkLaws.{pair_spot, rank_next, spot_short, spot_long, spot_data, spot_child_pair, unset_data, unset_child}
use Rattle.trie_model.proofs.WorkLaws.{rank_more}

-- ---- bits from a spot on

data_table : all_under 65 (λ h. all_under 31 (λ b. eqb (bit_at (data_from h) b) (cond (leb (rank_at h) (rank_at (b + 1))) 1 0))) ≡ true
unfolding all_under bits_where data_from
data_table = refl

data_from_bit : (h b : ℕ) → h ≤ 64 → b < 31 → bit_at (data_from h) b ≡ cond (leb (rank_at h) (rank_at (b + 1))) 1 0
data_from_bit h b p q = eqb-true _ _ (under2 65 31 (λ h b. eqb (bit_at (data_from h) b) (cond (leb (rank_at h) (rank_at (b + 1))) 1 0)) data_table h b (omega arith) q)

child_table : all_under 65 (λ h. all_under 32 (λ c. eqb (bit_at (children_from h) c) (cond (leb (rank_at h) (rank_at (32 + c))) 1 0))) ≡ true
unfolding all_under bits_where children_from
child_table = refl

children_from_bit : (h c : ℕ) → h ≤ 64 → c < 32 → bit_at (children_from h) c ≡ cond (leb (rank_at h) (rank_at (32 + c))) 1 0
children_from_bit h c p q = eqb-true _ _ (under2 65 32 (λ h c. eqb (bit_at (children_from h) c) (cond (leb (rank_at h) (rank_at (32 + c))) 1 0)) child_table h c (omega arith) q)

-- Past a data bit the children are the same, and past a child the data bits.
same_children : all_under 31 (λ b. eqb (children_from (next_spot (b + 1))) (children_from (b + 1))) ≡ true
unfolding all_under bits_where children_from
same_children = refl

same_data : all_under 32 (λ c. eqb (data_from (next_spot (32 + c))) (data_from (32 + c))) ≡ true
unfolding all_under bits_where data_from
same_data = refl

other_children : all_under 32 (λ c. ltb (children_from (32 + c)) (2 ^ 32) && ltb (children_from (next_spot (32 + c))) (2 ^ 32) && all_under 32
    (λ b. if_then (not (eqb b c)) (eqb (bit_at (children_from (next_spot (32 + c))) b) (bit_at (children_from (32 + c)) b)))) ≡ true
unfolding all_under bits_where children_from
other_children = refl

other_row : (c : ℕ) → c < 32 → (ltb (children_from (32 + c)) (2 ^ 32) && ltb (children_from (next_spot (32 + c))) (2 ^ 32) && all_under 32
    (λ b. if_then (not (eqb b c)) (eqb (bit_at (children_from (next_spot (32 + c))) b) (bit_at (children_from (32 + c)) b)))) ≡ true
other_row c lt = under 32 (λ c. ltb (children_from (32 + c)) (2 ^ 32) && ltb (children_from (next_spot (32 + c))) (2 ^ 32) && all_under 32
    (λ b. if_then (not (eqb b c)) (eqb (bit_at (children_from (next_spot (32 + c))) b) (bit_at (children_from (32 + c)) b)))) other_children c lt

not_same : (b c : ℕ) (t : Bool) → eqb b c ≡ t → b ≢ c → not t ≡ true
not_same b c true e ne = absurd (ne (eqb-true b c e))
not_same b c false e ne = refl

other_child : (c b : ℕ) → c < 32 → b ≢ c → bit_at (children_from (next_spot (32 + c))) b ≡ bit_at (children_from (32 + c)) b
other_child c b lt ne = by (less_or b 32)
  where
    by : (b < 32) ⊎ (32 ≤ b) → bit_at (children_from (next_spot (32 + c))) b ≡ bit_at (children_from (32 + c)) b
    by (inl small) = eqb-true _ _ (by_if _ _ (under 32
        (λ b. if_then (not (eqb b c)) (eqb (bit_at (children_from (next_spot (32 + c))) b) (bit_at (children_from (32 + c)) b)))
        (and_right _ _ (other_row c lt)) b small) (not_same b c (eqb b c) refl ne))
    by (inr high) = bit_at_above (children_from (next_spot (32 + c))) 32 b (ltb-lt _ _ (and_right _ _ (and_left _ _ (other_row c lt)))) high ∙ sym
        (bit_at_above (children_from (32 + c)) 32 b (ltb-lt _ _ (and_left _ _ (and_left _ _ (other_row c lt)))) high)

both_bits : (m k b : ℕ) → bit_at (bit_and m k) b ≡ 1 → (bit_at m b ≡ 1) × (bit_at k b ≡ 1)
both_bits m k b h = one_both _ _ (sym (bit_at_and m k b) ∙ h) (bit_at-lt m b) (bit_at-lt k b)

and_bits : (m k b : ℕ) → bit_at m b ≡ 1 → bit_at k b ≡ 1 → bit_at (bit_and m k) b ≡ 1
and_bits m k b p q = bit_at_and m k b ∙ both_one _ _ p q

-- The spot of a data bit's pair is that of the bit.
bit_spot : {X : Type 0} (w : ℕ) (t : ViewValue X) → IsView w t → (bit : ℕ) (x : X) → bit < 31 → t.at (data_net w t.place bit) x → spot_of w (depth_at t.place.len) (data_net w t.place bit) ≡ bit + 1
bit_spot w t ok bit x lt p =
    let d : ℕ = depth_at t.place.len in
    let level = level_le bit in
    spot_short w d (data_net w t.place bit) (omega arith) ∙ ap (λ b. b + 1) (bit_back w d t.place.bits bit lt (ok.pairs (data_net w t.place bit) x p).0.len_fits)

-- ---- the pairs from a spot on are a view

-- What is left of a view from a spot on keeps the laws of views.
pub rest_view : {X : Type 0} (w : ℕ) (t : ViewValue X) (h : ℕ) → h ≤ 64 → IsView w t → IsView w (rest w t h)
rest_view w t h le ok =
    let d : ℕ = depth_at t.place.len in
    record {
      place_ok = ok.place_ok;
      data_fit = let fit = ok.data_fit in let less = and_le_l t.data_bits (data_from h) in omega arith;
      children_fit = let fit = ok.children_fit in let less = and_le_l t.child_bits (children_from h) in omega arith;
      pairs = λ n x a. ok.pairs n x a.0;
      one = λ n x y a b. ok.one n x y a.0 b.0;
      told = λ bit lt set.
          let both = both_bits t.data_bits (data_from h) bit set in
          let has = ok.told bit lt both.0 in
          (has.0, (has.1, subst (λ k. rank_at h ≤ rank_at k) (sym (bit_spot w t ok bit has.0 lt has.1)) (leb-true _ _ (cond_is _ _ (data_from_bit h bit le lt) both.1))));
      untold = λ bit x lt a. and_bits t.data_bits (data_from h) bit (ok.untold bit x lt a.0) (data_from_bit h bit le lt ∙ ap (λ b. cond b 1 0) (le-leb _ _ (subst (λ k. rank_at h ≤ rank_at k) (bit_spot w t ok bit x lt a.0) a.1)));
      below = λ n x a long.
          let set = ok.below n x a.0 long in
          let c : ℕ = child_toward w d n.bits in
          and_bits t.child_bits (children_from h) c set (children_from_bit h c le (bit_below 32 t.child_bits c ok.children_fit set) ∙ ap (λ b. cond b 1 0) (le-leb _ _ (subst (λ k. rank_at h ≤ rank_at k) (spot_long w d n long) a.1)));
      deep = λ bit set. ok.deep bit (both_bits t.child_bits (children_from h) bit set).0;
    }

-- Nothing that is left from a spot on lies before it.
pub rest_ahead : {X : Type 0} (w : ℕ) (t : ViewValue X) (h : ℕ) → Ahead w (rest w t h) h
unfolding Ahead
rest_ahead w t h n x a = a.1

-- From the first spot on all is left.
pub rest_start : {X : Type 0} (w : ℕ) (t : ViewValue X) (n : Net) (x : X) → (rest w t 1).at n x ↔ t.at n x
rest_start w t n x = ((λ a. a.0), (λ a. (a, (let le : 0 ≤ rank_at (spot_of w (depth_at t.place.len) n) = omega arith in le))))

-- ---- one spot on

-- The item at a spot is left from that spot on.
pub rest_item : {X : Type 0} (w : ℕ) (t : ViewValue X) (h bit : ℕ) (x : X) → IsView w t → h ≡ bit + 1 → bit < 31 → t.at (data_net w t.place bit) x → (rest w t h).at (data_net w t.place bit) x
rest_item w t h bit x ok e lt a = (a, (let s = ap rank_at (bit_spot w t ok bit x lt a) in let g = ap rank_at e in omega (arith, s, g)))

-- With the item at a spot taken, the rest is what is left from the next spot on.
pub rest_data : {X : Type 0} (w : ℕ) (t u : ViewValue X) (h bit : ℕ) → IsView w t → h ≡ bit + 1 → bit < 31 → TookData w bit t u → TookData w bit (rest w t h) (rest w u (next_spot h))
rest_data {X} w t u h bit ok e lt took = record {
  place = took.place;
  child_bits = ap (λ m. bit_and m (children_from (next_spot h))) took.child_bits ∙ ap (bit_and t.child_bits)
      (ap (λ k. children_from (next_spot k)) e ∙ eqb-true _ _
      (under 31 (λ b. eqb (children_from (next_spot (b + 1))) (children_from (b + 1))) same_children bit lt) ∙ ap children_from (sym e));
  at = λ n x. (
    (λ a. let was = (took.at n x).0 a.0 in let more = rank_more h (omega (arith, e)) (omega (arith, e, lt)) in let le = at_place n a.1 in ((was.0, omega (arith, more, le)), was.1)),
    (λ a. (
      (took.at n x).1 (a.0.0, a.1),
      place_at n (rank_next h (spot_of w (depth_at t.place.len) n) (omega (arith, e)) (omega (arith, e, lt)) (pair_spot w t ok n x a.0.0).positive (pair_spot w t ok n x a.0.0).small a.0.1
          (λ q. elim-false (sym a.1 ∙ same_net_is (data_net w t.place bit) n (spot_data w t ok bit lt n x a.0.0 (sym q ∙ e)).0))),
    )),
  );
  frugal = took.frugal;
}
  where
    at_place : (n : Net) → rank_at (next_spot h) ≤ rank_at (spot_of w (depth_at u.place.len) n) → rank_at (next_spot h) ≤ rank_at (spot_of w (depth_at t.place.len) n)
    at_place n le = subst (λ p. rank_at (next_spot h) ≤ rank_at (spot_of w (depth_at p.len) n)) took.place le

    place_at : (n : Net) → rank_at (next_spot h) ≤ rank_at (spot_of w (depth_at t.place.len) n) → rank_at (next_spot h) ≤ rank_at (spot_of w (depth_at u.place.len) n)
    place_at n le = subst (λ p. rank_at (next_spot h) ≤ rank_at (spot_of w (depth_at p.len) n)) (sym took.place) le

-- With the child at a spot taken, the rest is what is left from the next spot on.
pub rest_took : {X : Type 0} (w : ℕ) (t u : ViewValue X) (h c : ℕ) → IsView w t → h ≡ 32 + c → c < 32 → bit_at t.child_bits c ≡ 1 → TookChild w c t u → TookChild w c (rest w t h) (rest w u (next_spot h))
rest_took {X} w t u h c ok e lt set took = record {
  place = took.place;
  data_bits = ap (λ m. bit_and m (data_from (next_spot h))) took.data_bits ∙ ap (bit_and t.data_bits)
      (ap (λ k. data_from (next_spot k)) e ∙ eqb-true _ _ (under 32 (λ c. eqb (data_from (next_spot (32 + c))) (data_from (32 + c))) same_data c lt)
      ∙ ap data_from (sym e));
  others = λ b ne. bit_at_and u.child_bits (children_from (next_spot h)) b ∙ ap (λ z. min z (bit_at (children_from (next_spot h)) b))
      (took.others b ne) ∙ ap (min (bit_at t.child_bits b))
      (ap (λ k. bit_at (children_from (next_spot k)) b) e ∙ other_child c b lt ne ∙ ap (λ k. bit_at (children_from k) b) (sym e)) ∙ sym
      (bit_at_and t.child_bits (children_from h) b);
  gone = bit_at_and u.child_bits (children_from (next_spot h)) c ∙ ap (λ z. min z (bit_at (children_from (next_spot h)) c)) took.gone ∙ omega arith;
  at = λ n x. (
    (λ a. let was = (took.at n x).0 a.0 in let more = rank_more h (omega (arith, e)) (omega (arith, e, lt)) in let le = at_place n a.1 in ((was.0, omega (arith, more, le)), was.1)),
    (λ a. (
      (took.at n x).1 (a.0.0, a.1),
      place_at n (rank_next h (spot_of w (depth_at t.place.len) n) (omega (arith, e)) (omega (arith, e, lt)) (pair_spot w t ok n x a.0.0).positive (pair_spot w t ok n x a.0.0).small a.0.1
          (λ q.
          let d : ℕ = depth_at t.place.len in
          let in_child = spot_child_pair w t ok c n x a.0.0 (sym q ∙ e) in
          let way = covers_way w d t.place n ok.place_ok.len_fits (depth_le t.place.len) (ok.pairs n x a.0.0).1 in
          elim-false (sym a.1 ∙ ap (λ b. covers w (child_net w t.place b) n) (sym in_child.1) ∙ toward_covers w t.place n (ok.deep c set) in_child.0 way))),
    )),
  );
  frugal = took.frugal;
}
  where
    at_place : (n : Net) → rank_at (next_spot h) ≤ rank_at (spot_of w (depth_at u.place.len) n) → rank_at (next_spot h) ≤ rank_at (spot_of w (depth_at t.place.len) n)
    at_place n le = subst (λ p. rank_at (next_spot h) ≤ rank_at (spot_of w (depth_at p.len) n)) took.place le

    place_at : (n : Net) → rank_at (next_spot h) ≤ rank_at (spot_of w (depth_at t.place.len) n) → rank_at (next_spot h) ≤ rank_at (spot_of w (depth_at u.place.len) n)
    place_at n le = subst (λ p. rank_at (next_spot h) ≤ rank_at (spot_of w (depth_at p.len) n)) (sym took.place) le

-- The child at a spot is a child of what is left from that spot on.
pub rest_child : {X : Type 0} (w : ℕ) (t v : ViewValue X) (h c : ℕ) → IsView w t → h ≡ 32 + c → bit_at t.child_bits c ≡ 1 → IsChild w c t v → IsChild w c (rest w t h) (rest w v 1)
rest_child w t v h c ok e set is =
    let d : ℕ = depth_at t.place.len in
    record {
      place = is.place;
      at = λ n x. (
        (λ a.
            let was = (is.at n x).0 a.0 in
            let long = covers_len w (child_net w t.place c) n was.1 in
            let way = covers_way w d t.place n ok.place_ok.len_fits (depth_le t.place.len) (ok.pairs n x was.0).1 in
            let spot = spot_long w d n long ∙ ap (λ b. 32 + b) (covers_toward w c t.place n (ok.deep c set) way was.1) ∙ sym e in
            ((was.0, (let s = ap rank_at spot in omega (arith, s))), was.1)),
        (λ a. ((is.at n x).1 (a.0.0, a.1), (let le : 0 ≤ rank_at (spot_of w (depth_at v.place.len) n) = omega arith in le))),
      );
      frugal = is.frugal;
    }

-- ---- in the form of the code

-- The child bit at a spot is set in what is left from that spot on.
pub rest_set : (m h c : ℕ) → h ≡ 32 + c → c < 32 → bit_at m c ≡ 1 → bit_at (bit_and m (children_from h)) c ≡ 1
rest_set m h c e lt set = and_bits m (children_from h) c set (children_from_bit h c (omega (arith, e, lt)) lt ∙ ap (λ b. cond b 1 0) (le-leb _ _ (let g = ap rank_at e in omega (arith, g))))

-- A step that takes the item of a spot takes it from what is left.
pub on_data : {X : Type 0} (w : ℕ) (t u : ViewValue X) (h r bit : ℕ) → IsView w t → h ≡ bit + 1 → bit < 31 → r ≡ next_spot h → TookData w bit t u → TookData w bit (rest w t h) (rest w u r)
on_data w t u h r bit ok e lt g took = subst (λ k. TookData w bit (rest w t h) (rest w u k)) (sym g) (rest_data w t u h bit ok e lt took)

-- A step that takes the child of a spot takes it from what is left.
pub on_took : {X : Type 0} (w : ℕ) (t u : ViewValue X) (h r c : ℕ) → IsView w t → h ≡ 32 + c → c < 32 → bit_at t.child_bits c ≡ 1 → r ≡ next_spot h → TookChild w c t u → TookChild w c (rest w t h) (rest w u r)
on_took w t u h r c ok e lt set g took = subst (λ k. TookChild w c (rest w t h) (rest w u k)) (sym g) (rest_took w t u h c ok e lt set took)
