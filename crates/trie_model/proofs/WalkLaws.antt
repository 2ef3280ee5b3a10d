-- The walk over a view: a stack of views, each with the spot that it has come to.
use Rattle.std.proofs.Common.{◌≡◌, ◌≢◌, ℕ, ◌+◌, ◌-◌, ◌/◌, ◌^◌, ◌<◌, ◌≤◌, ◌∙◌, sym, ap, subst, refl, arith, Bool, true, false, cond, not, ◌&&◌, eqb, leb, List, [], ◌∷◌, ◌++◌, length, inl, inr, lt_of_not-le}
use Rattle.std.specs.Prelude.{◌⊎◌}
use Rattle.std.specs.Int.{bit_at}
use Rattle.std.proofs.lemmas.Bool.{eqb-true, leb-true, le-leb}
use Rattle.std.proofs.lemmas.Nat.{pow_pos, mod_below}
use Rattle.trie_model.proofs.TrieLaws.{same_net_is}
use Rattle.trie_model.specs.Walks.{Left, Sorted, Ahead}
use Rattle.trie_model.specs.Nets.{Net, covers, masked}
use Rattle.trie_model.specs.Views.{depth_at, net_of_bit, data_net, child_net, ViewValue, IsView, TookData, TookChild, IsChild}
use Rattle.trie_model.proofs.Places.{and_left, and_right, both_hold, elim-false, depth_le, level_le, covers_len, covers_way, covers_toward, toward_covers}
use Rattle.trie_model.specs.Spots.{rank_at, bits_toward, spot_of, data_bit_of, all_under, ltb, order_key, next_spot}
use Rattle.trie_model.proofs.SpotLaws.{under, under2, if_then, by_if, lt-ltb, ltb-lt, net_back, bit_back}
use Rattle.trie_model.proofs.SpotOrder.{not_less_le, InSpot, in_spot, spot_order}

-- The pairs of the top level are left.
pub left_top : {L X : Type 0} (tell : L → ViewValue X) (ls : List L) (l : L) (n : Net) (x : X) → (tell l).at n x → Left tell (ls ++ l ∷ []) n x
unfolding Left
left_top tell [] l n x h = inl h
left_top tell (a ∷ tail) l n x h = inr (left_top tell tail l n x h)

-- The pairs of the levels below the top are left.
pub left_under : {L X : Type 0} (tell : L → ViewValue X) (ls : List L) (l : L) (n : Net) (x : X) → Left tell ls n x → Left tell (ls ++ l ∷ []) n x
unfolding Left
left_under tell [] l n x h = absurd h
left_under tell (a ∷ tail) l n x (inl h) = inl h
left_under tell (a ∷ tail) l n x (inr h) = inr (left_under tell tail l n x h)

higher : {L X : Type 0} (tell : L → ViewValue X) (tail : List L) (a l : L) (n : Net) (x : X) → Left tell tail n x ⊎ (tell l).at n x → Left tell (a ∷ tail) n x ⊎ (tell l).at n x
unfolding Left
higher tell tail a l n x (inl k) = inl (inr k)
higher tell tail a l n x (inr k) = inr k

-- What is left is in a level below the top, or in the top.
pub left_cases : {L X : Type 0} (tell : L → ViewValue X) (ls : List L) (l : L) (n : Net) (x : X) → Left tell (ls ++ l ∷ []) n x → Left tell ls n x ⊎ (tell l).at n x
unfolding Left
left_cases tell [] l n x (inl h) = inr h
left_cases tell [] l n x (inr h) = absurd h
left_cases tell (a ∷ tail) l n x (inl h) = inl (inl h)
left_cases tell (a ∷ tail) l n x (inr h) = higher tell tail a l n x (left_cases tell tail l n x h)

-- ---- a stack with one view more

-- What follows from each of two facts follows where one of them holds.
pub either : {A B C : Type 0} → (A → C) → (B → C) → A ⊎ B → C
either f g (inl a) = f a
either f g (inr b) = g b

-- A sorted stack stays sorted with a level whose pairs come first.
pub sorted_push : {L X : Type 0} (w : ℕ) (tell : L → ViewValue X) (ls : List L) (l : L) → Sorted w tell ls → ((n m : Net) (x y : X) → (tell l).at n x → Left tell ls m y → order_key w n < order_key w m) → Sorted w tell (ls ++ l ∷ [])
unfolding Left Sorted
sorted_push w tell [] l s h = ((λ n m x y p q. absurd p), tt)
sorted_push w tell (a ∷ tail) l s h = (
  (λ n m x y p q. either (λ k. s.0 n m x y k q) (λ k. h n m x y k (inl q)) (left_cases tell tail l n x p)),
  sorted_push w tell tail l s.1 (λ n m x y p q. h n m x y p (inr q)),
)

-- The levels below the top of a sorted stack are sorted.
pub sorted_under : {L X : Type 0} (w : ℕ) (tell : L → ViewValue X) (ls : List L) (l : L) → Sorted w tell (ls ++ l ∷ []) → Sorted w tell ls
unfolding Sorted
sorted_under w tell [] l s = tt
sorted_under w tell (a ∷ tail) l s = ((λ n m x y p q. s.0 n m x y (left_under tell tail l n x p) q), sorted_under w tell tail l s.1)

-- The pairs of a sorted stack's top come before all others.
pub sorted_top : {L X : Type 0} (w : ℕ) (tell : L → ViewValue X) (ls : List L) (l : L) → Sorted w tell (ls ++ l ∷ []) → (n m : Net) (x y : X) → (tell l).at n x → Left tell ls m y → order_key w n < order_key w m
unfolding Left Sorted
sorted_top w tell [] l s n m x y p q = absurd q
sorted_top w tell (a ∷ tail) l s n m x y p (inl q) = s.0 n m x y (left_top tell tail l n x p) q
sorted_top w tell (a ∷ tail) l s n m x y p (inr q) = sorted_top w tell tail l s.1 n m x y p q

-- ---- the spots of a view's pairs

-- Each pair of a view lies in the spot of its prefix.
pub pair_spot : {X : Type 0} (w : ℕ) (t : ViewValue X) → IsView w t → (n : Net) (x : X) → t.at n x → InSpot w (depth_at t.place.len) n (spot_of w (depth_at t.place.len) n)
pair_spot w t ok n x h =
    let p = ok.pairs n x h in
    let long = covers_len w t.place n p.1 in
    let top = depth_le t.place.len in
    in_spot w (depth_at t.place.len) n p.0 (omega arith)

-- The pairs of a view agree in the bits above its node.
pub same_node : {X : Type 0} (w : ℕ) (t : ViewValue X) → IsView w t → (n m : Net) (x y : X) → t.at n x → t.at m y → masked w n.bits (depth_at t.place.len) ≡ masked w m.bits (depth_at t.place.len)
same_node w t ok n m x y p q =
    let top = depth_le t.place.len in
    covers_way w (depth_at t.place.len) t.place n ok.place_ok.len_fits top (ok.pairs n x p).1 ∙ sym (covers_way w (depth_at t.place.len) t.place m ok.place_ok.len_fits top (ok.pairs m y q).1)

gap_table : all_under 64 (λ h. all_under 64 (λ k. if_then (ltb 0 h && ltb 0 k && leb (rank_at h) (rank_at k) && not (eqb h k)) (ltb (rank_at h) (rank_at k) && leb (rank_at (next_spot h)) (rank_at k)))) ≡ true
unfolding all_under
gap_table = refl

end_table : all_under 64 (λ h. ltb (rank_at h) (rank_at 64)) ≡ true
unfolding all_under
end_table = refl

not_eqb : (h k : ℕ) (t : Bool) → eqb h k ≡ t → h ≢ k → not t ≡ true
not_eqb h k true e ne = absurd (ne (eqb-true h k e))
not_eqb h k false e ne = refl

gap_row : (h k : ℕ) → 1 ≤ h → h < 64 → 1 ≤ k → k < 64 → rank_at h ≤ rank_at k → h ≢ k → (ltb (rank_at h) (rank_at k) && leb (rank_at (next_spot h)) (rank_at k)) ≡ true
gap_row h k ph hh pk hk le ne =
    by_if _ _ (under2 64 64 (λ h k. if_then (ltb 0 h && ltb 0 k && leb (rank_at h) (rank_at k) && not (eqb h k)) (ltb (rank_at h) (rank_at k) && leb (rank_at (next_spot h)) (rank_at k))) gap_table h k hh hk)
    (both_hold _ _ (both_hold _ _ (both_hold _ _ (lt-ltb 0 h ph) (lt-ltb 0 k pk)) (le-leb _ _ le)) (not_eqb h k (eqb h k) refl ne))

-- Of two different spots one comes first.
pub rank_less : (h k : ℕ) → 1 ≤ h → h < 64 → 1 ≤ k → k < 64 → rank_at h ≤ rank_at k → h ≢ k → rank_at h < rank_at k
rank_less h k ph hh pk hk le ne = ltb-lt _ _ (and_left _ _ (gap_row h k ph hh pk hk le ne))

-- After a spot comes the next one.
pub rank_next : (h k : ℕ) → 1 ≤ h → h < 64 → 1 ≤ k → k < 64 → rank_at h ≤ rank_at k → h ≢ k → rank_at (next_spot h) ≤ rank_at k
rank_next h k ph hh pk hk le ne = leb-true _ _ (and_right _ _ (gap_row h k ph hh pk hk le ne))

-- At the end nothing is left.
pub ahead_end : {X : Type 0} (w : ℕ) (t : ViewValue X) → IsView w t → Ahead w t 64 → (n : Net) (x : X) → t.at n x → ⊥
unfolding Ahead
ahead_end w t ok a n x h =
    let s = pair_spot w t ok n x h in
    let lt = ltb-lt _ _ (under 64 (λ h. ltb (rank_at h) (rank_at 64)) end_table (spot_of w (depth_at t.place.len) n) s.small) in
    let le = a n x h in
    let no : ⊥ = omega arith in no

-- The pairs of one spot are gone.
pub ahead_next : {X : Type 0} (w h : ℕ) (t u : ViewValue X) → IsView w t → Ahead w t h → 1 ≤ h → h < 64 → u.place ≡ t.place → ((n : Net) (x : X) → u.at n x → t.at n x × (spot_of w (depth_at t.place.len) n ≢ h)) → Ahead w u (next_spot h)
unfolding Ahead
ahead_next w h t u ok a ph hh e rest n x k =
    let p = rest n x k in
    let s = pair_spot w t ok n x p.0 in
    subst (λ place. rank_at (next_spot h) ≤ rank_at (spot_of w (depth_at place.len) n)) (sym e)
    (rank_next h (spot_of w (depth_at t.place.len) n) ph hh s.positive s.small (a n x p.0) (λ q. p.1 (sym q)))

-- A pair of the spot comes before every pair of a later one.
pub spot_before : {X : Type 0} (w h : ℕ) (t : ViewValue X) → IsView w t → Ahead w t h → 1 ≤ h → h < 64 → (n m : Net) (x y : X) → t.at n x → spot_of w
    (depth_at t.place.len) n ≡ h → t.at m y → spot_of w (depth_at t.place.len) m ≢ h → order_key w n < order_key w m
unfolding Ahead
spot_before w h t ok a ph hh n m x y p e q ne =
    let d : ℕ = depth_at t.place.len in
    let sn = pair_spot w t ok n x p in
    let sm = pair_spot w t ok m y q in
    let lt = rank_less h (spot_of w d m) ph hh sm.positive sm.small (a m y q) (λ k. ne (sym k)) in
    spot_order w d (spot_of w d n) (spot_of w d m) n m (ok.pairs n x p).0.len_fits (same_node w t ok n m x y p q) sn sm (subst (λ k. rank_at k < rank_at (spot_of w d m)) (sym e) lt)

-- ---- the spot of a data bit and of a child

spot_by : (w d : ℕ) (n : Net) (b : Bool) → leb (d + 5) n.len ≡ b → n.len < d + 5 → cond b (32 + bits_toward w d 5 n.bits) (2 ^ (n.len - d) + bits_toward w d (n.len - d) n.bits) ≡ data_bit_of w d n.bits n.len + 1
spot_by w d n true e lt = absurd (let le = leb-true _ _ e in let no : ⊥ = omega arith in no)
spot_by w d n false e lt = let pos = pow_pos (n.len - d) in omega arith

-- The spot of a prefix of the node itself is that of its data bit.
pub spot_short : (w d : ℕ) (n : Net) → n.len < d + 5 → spot_of w d n ≡ data_bit_of w d n.bits n.len + 1
spot_short w d n lt = spot_by w d n (leb (d + 5) n.len) refl lt

-- The spot of a prefix below the node is that of the child on the way.
pub spot_long : (w d : ℕ) (n : Net) → d + 5 ≤ n.len → spot_of w d n ≡ 32 + bits_toward w d 5 n.bits
spot_long w d n le = ap (λ b. cond b (32 + bits_toward w d 5 n.bits) (2 ^ (n.len - d) + bits_toward w d (n.len - d) n.bits)) (le-leb _ _ le)

top_table : all_under 5 (λ l. leb (2 ^ l) 16) ≡ true
unfolding all_under
top_table = refl

level_top : (l : ℕ) → l < 5 → 2 ^ l ≤ 16
level_top l h = leb-true _ _ (under 5 (λ l. leb (2 ^ l) 16) top_table l h)

-- The data bit of a prefix of the node itself is below 31.
pub short_small : (w d : ℕ) (n : Net) → n.len < d + 5 → data_bit_of w d n.bits n.len < 31
short_small w d n lt =
    let l : ℕ = n.len - d in
    let small = mod_below (n.bits / 2 ^ (w - (d + l))) (2 ^ l) (pow_pos l) in
    let top = level_top l (omega arith) in
    omega arith

-- The pair of a data bit's spot.
pub spot_data : {X : Type 0} (w : ℕ) (t : ViewValue X) → IsView w t → (bit : ℕ) → bit < 31 → (n : Net) (x : X) → t.at n x → spot_of w (depth_at t.place.len) n ≡ bit + 1 → (data_net w t.place bit ≡ n) × (n.len < depth_at t.place.len + 5)
spot_data w t ok bit lt n x h e =
    let d : ℕ = depth_at t.place.len in
    let p = ok.pairs n x h in
    let long = covers_len w t.place n p.1 in
    let top = depth_le t.place.len in
    let short : n.len < d + 5 = lt_of_not-le (λ le. let s = spot_long w d n le in let no : ⊥ = omega arith in no) in
    let is : data_bit_of w d n.bits n.len ≡ bit = let s = spot_short w d n short in omega arith in
    let way = covers_way w d t.place n ok.place_ok.len_fits top p.1 in
    (ap (net_of_bit w d t.place.bits) (sym is) ∙ net_back w d t.place.bits n p.0 (omega arith) short way, short)

-- The pairs of a child's spot.
pub spot_child_pair : {X : Type 0} (w : ℕ) (t : ViewValue X) → IsView w t → (c : ℕ) (n : Net) (x : X) → t.at n x → spot_of w (depth_at t.place.len) n
    ≡ 32 + c → (depth_at t.place.len + 5 ≤ n.len) × (bits_toward w (depth_at t.place.len) 5 n.bits ≡ c)
spot_child_pair w t ok c n x h e =
    let d : ℕ = depth_at t.place.len in
    let long : d + 5 ≤ n.len = not_less_le _ _ (λ lt. let s = spot_short w d n lt in let m = short_small w d n lt in let no : ⊥ = omega arith in no) in
    (long, (let s = spot_long w d n long in omega arith))

-- Where the data bit of a spot is clear, nothing lies before the next spot.
pub unset_data : {X : Type 0} (w h bit : ℕ) (t : ViewValue X) → IsView w t → Ahead w t h → h ≡ bit + 1 → bit < 31 → (bit_at t.data_bits bit ≡ 1 → ⊥) → Ahead w t (next_spot h)
unset_data w h bit t ok a e lt unset =
    ahead_next w h t t ok a (omega arith) (omega arith) refl
    (λ n x p. (p, λ q. unset (ok.untold bit x lt (subst (λ m. t.at m x) (sym (spot_data w t ok bit lt n x p (q ∙ e)).0) p))))

-- Where the child bit of a spot is clear, nothing lies before the next spot.
pub unset_child : {X : Type 0} (w h c : ℕ) (t : ViewValue X) → IsView w t → Ahead w t h → h ≡ 32 + c → c < 32 → (bit_at t.child_bits c ≡ 1 → ⊥) → Ahead w t (next_spot h)
unset_child w h c t ok a e lt unset =
    ahead_next w h t t ok a (omega arith) (omega arith) refl
    (λ n x p. (
      p,
      λ q.
          let in_child = spot_child_pair w t ok c n x p (q ∙ e) in
          unset (subst (λ b. bit_at t.child_bits b ≡ 1) in_child.1 (ok.below n x p in_child.0)),
    ))

-- ---- the item of a data bit is the first

-- The pair at a spot comes before the rest of the view.
pub data_first : {X : Type 0} (w h bit : ℕ) (t u : ViewValue X) → IsView w t → Ahead w t h → h ≡ bit + 1 → bit < 31 → TookData w bit t u → (m : Net)
    (x y : X) → t.at (data_net w t.place bit) x → u.at m y → order_key w (data_net w t.place bit) < order_key w m
data_first w h bit t u ok a e lt took m x y p q =
    let d : ℕ = depth_at t.place.len in
    let was = (took.at m y).0 q in
    let n = data_net w t.place bit in
    let level = level_le bit in
    let spot : spot_of w d n ≡ h = spot_short w d n (omega arith) ∙ ap (λ b. b + 1) (bit_back w d t.place.bits bit lt (ok.pairs n x p).0.len_fits) ∙ sym e in
    spot_before w h t ok a (omega arith) (omega arith) n m x y p spot was.0
    (λ k. elim-false (sym was.1 ∙ same_net_is n m (spot_data w t ok bit lt m y was.0 (k ∙ e)).0))

-- ---- a child's pairs come before what stays

-- The pairs of the child at a spot come before the rest of the view.
pub child_first : {X : Type 0} (w h c : ℕ) (t u child : ViewValue X) → IsView w t → Ahead w t h → h ≡ 32 + c → c < 32 → bit_at t.child_bits c ≡ 1
    → IsChild w c t child → TookChild w c t u → (n m : Net) (x y : X) → child.at n x → u.at m y → order_key w n < order_key w m
child_first w h c t u child ok a e lt set is took n m x y p q =
    let d : ℕ = depth_at t.place.len in
    let in_child = (is.at n x).0 p in
    let was = (took.at m y).0 q in
    let deep = ok.deep c set in
    let long = covers_len w (child_net w t.place c) n in_child.1 in
    let way_n = covers_way w d t.place n ok.place_ok.len_fits (depth_le t.place.len) (ok.pairs n x in_child.0).1 in
    let toward = covers_toward w c t.place n deep way_n in_child.1 in
    let spot : spot_of w d n ≡ h = spot_long w d n long ∙ ap (λ b. 32 + b) toward ∙ sym e in
    let way_m = covers_way w d t.place m ok.place_ok.len_fits (depth_le t.place.len) (ok.pairs m y was.0).1 in
    spot_before w h t ok a (omega arith) (omega arith) n m x y in_child.0 spot was.0
    (λ k.
    let there = spot_child_pair w t ok c m y was.0 (k ∙ e) in
    elim-false (sym was.1 ∙ ap (λ b. covers w (child_net w t.place b) m) (sym there.1) ∙ toward_covers w t.place m deep there.0 way_m))

-- An empty stack has nothing left.
pub nothing_left : {L X : Type 0} (tell : L → ViewValue X) (ls : List L) → length ls ≡ 0 → (n : Net) (x : X) → Left tell ls n x → ⊥
unfolding Left
nothing_left tell [] e n x h = h
nothing_left tell (l ∷ ls) e n x h = let no : ⊥ = omega arith in no
