-- A walk ends: each move leaves less to do.
use Rattle.std.proofs.Common.{◌≡◌, ℕ, ◌+◌, ◌-◌, ◌*◌, ◌/◌, ◌^◌, ◌<◌, ◌≤◌, ◌∙◌, ap, refl, arith, true, ◌&&◌, List, [], ◌∷◌, ◌++◌}
use Rattle.std.specs.Int.{bit_at}
use Rattle.std.proofs.lemmas.Nat.{pow_pos, pow-add}
use Rattle.std.proofs.Math.Nat.{mul-le-mul_right, add-mul}
use Rattle.trie_model.specs.Spots.{rank_at, next_spot, all_under, ltb}
use Rattle.trie_model.specs.Views.{ViewValue, IsView, depth_at, child_net}
use Rattle.trie_model.specs.Walks.{level_work, work}
use Rattle.trie_model.proofs.Places.{and_left, and_right, depth_below}
use Rattle.trie_model.proofs.SpotLaws.{under, if_then, by_if, lt-ltb, ltb-lt}

-- The work of a stack is that of the levels below the top and that of the top.
pub work-append : {L X : Type 0} (w : ℕ) (tell : L → ViewValue X) (spot : L → ℕ) (ls : List L) (l : L) → work w tell spot (ls ++ l ∷ []) ≡ work w tell spot ls + level_work w tell spot l
unfolding work
work-append w tell spot [] l = omega arith
work-append w tell spot (a ∷ ls) l = let e = work-append w tell spot ls l in omega (arith, e)

-- The walk goes on to a later spot.
rank_table : all_under 64 (λ h. if_then (ltb 0 h) (ltb (rank_at h) (rank_at (next_spot h)) && ltb (rank_at (next_spot h)) 198)) ≡ true
unfolding all_under
rank_table = refl

rank_row : (h : ℕ) → 1 ≤ h → h < 64 → (ltb (rank_at h) (rank_at (next_spot h)) && ltb (rank_at (next_spot h)) 198) ≡ true
rank_row h p q = by_if _ _ (under 64 (λ h. if_then (ltb 0 h) (ltb (rank_at h) (rank_at (next_spot h)) && ltb (rank_at (next_spot h)) 198)) rank_table h q) (lt-ltb 0 h (omega arith))

-- The next spot comes later.
pub rank_more : (h : ℕ) → 1 ≤ h → h < 64 → rank_at h < rank_at (next_spot h)
rank_more h p q = ltb-lt _ _ (and_left _ _ (rank_row h p q))

rank_small : (h : ℕ) → 1 ≤ h → h < 64 → rank_at (next_spot h) < 198
rank_small h p q = ltb-lt _ _ (and_right _ _ (rank_row h p q))

fall : (r r' p : ℕ) → r < r' → r' < 198 → (197 - r') * p + p ≤ (197 - r) * p
fall r r' p lt top =
    let e : (197 - r' + 1) * p ≡ (197 - r') * p + 1 * p = add-mul (197 - r') 1 p in
    let le = mul-le-mul_right {m = 197 - r' + 1} {n = 197 - r} p (let q : 197 - r' + 1 ≤ 197 - r = omega arith in q) in
    omega (arith, e, le)

-- An empty stack has no work.
pub work_none : {L X : Type 0} (w : ℕ) (tell : L → ViewValue X) (spot : L → ℕ) (ls : List L) → ls ≡ [] → work w tell spot ls ≡ 0
unfolding work
work_none w tell spot ls e = ap (work w tell spot) e

-- A stack without its top has less work.
pub work_popped : {L X : Type 0} (w : ℕ) (tell : L → ViewValue X) (spot : L → ℕ) (old ls : List L) (l : L) → old ≡ ls ++ l ∷ [] → work w tell spot ls < work w tell spot old
unfolding level_work
work_popped w tell spot old ls l e = let a = ap (work w tell spot) e ∙ work-append w tell spot ls l in omega (arith, a)

-- The weight of a level's spot.
weight : ℕ → ℕ → ℕ
weight w len = 2 ^ (8 * ((w - depth_at len) / 5 + 1))

level_is : {L X : Type 0} (w : ℕ) (tell : L → ViewValue X) (spot : L → ℕ) (l : L) → level_work w tell spot l ≡ (197 - rank_at (spot l)) * weight w (tell l).place.len + 1
unfolding level_work weight
level_is w tell spot l = refl

weight_pos : (w len : ℕ) → 0 < weight w len
unfolding weight
weight_pos w len = pow_pos (8 * ((w - depth_at len) / 5 + 1))

-- A level more is a weight of 256.
weight_down : (w len c : ℕ) → depth_at len + 5 ≤ w → c ≡ depth_at len + 5 → weight w len ≡ 256 * weight w c
unfolding weight
weight_down w len c fits e =
    let d : depth_at c ≡ depth_at len + 5 = ap depth_at e ∙ depth_below len in
    let k : (w - depth_at len) / 5 ≡ (w - depth_at c) / 5 + 1 = omega (arith, d, fits) in
    ap (λ x. 2 ^ x) (let q : 8 * ((w - depth_at len) / 5 + 1) ≡ 8 + 8 * ((w - depth_at c) / 5 + 1) = omega (arith, k) in q) ∙ pow-add 2 8 (8 * ((w - depth_at c) / 5 + 1))

-- The same place, a later spot.
less_on : {L X : Type 0} (w : ℕ) (tell : L → ViewValue X) (spot : L → ℕ) (l u : L) → 1 ≤ spot l → spot l < 64 → spot u ≡ next_spot (spot l)
    → (tell u).place ≡ (tell l).place → level_work w tell spot u + weight w (tell l).place.len ≤ level_work w tell spot l
less_on w tell spot l u first last next place =
    let f = fall (rank_at (spot l)) (rank_at (next_spot (spot l))) (weight w (tell l).place.len) (rank_more (spot l) first last) (rank_small (spot l) first last) in
    let is = level_is w tell spot u ∙ ap (λ s. (197 - rank_at s) * weight w (tell u).place.len + 1) next ∙ ap (λ n. (197 - rank_at (next_spot (spot l))) * weight w n.len + 1) place in
    let was = level_is w tell spot l in
    omega (arith, is, was, f)

-- A stack whose top moved on by a spot has less work.
pub work_on : {L X : Type 0} (w : ℕ) (tell : L → ViewValue X) (spot : L → ℕ) (old new ls : List L) (l u : L) → old ≡ ls ++ l ∷ [] → new ≡ ls ++ u ∷ []
    → 1 ≤ spot l → spot l < 64 → spot u ≡ next_spot (spot l) → (tell u).place ≡ (tell l).place → work w tell spot new < work w tell spot old
work_on w tell spot old new ls l u e f first last next place =
    let a = ap (work w tell spot) e ∙ work-append w tell spot ls l in
    let b = ap (work w tell spot) f ∙ work-append w tell spot ls u in
    let less = less_on w tell spot l u first last next place in
    let pos = weight_pos w (tell l).place.len in
    omega (arith, a, b, less, pos)

-- A stack whose top moved on by a spot, with the child there pushed, has less work.
pub work_down : {L X : Type 0} (w : ℕ) (tell : L → ViewValue X) (spot : L → ℕ) (old mid new ls : List L) (l u c : L) (bit : ℕ) → old ≡ ls ++ l ∷ []
    → mid ≡ ls ++ u ∷ [] → new ≡ mid ++ c ∷ [] → IsView w (tell l) → bit_at (tell l).child_bits bit ≡ 1 → 1 ≤ spot l → spot l < 64 → spot u
    ≡ next_spot (spot l) → spot c ≡ 1 → (tell u).place ≡ (tell l).place → (tell c).place ≡ child_net w (tell l).place bit → work w tell spot new
    < work w tell spot old
work_down w tell spot old mid new ls l u c bit e f g view set first last next one place child =
    let a = ap (work w tell spot) e ∙ work-append w tell spot ls l in
    let b = ap (work w tell spot) f ∙ work-append w tell spot ls u in
    let d = ap (work w tell spot) g ∙ work-append w tell spot mid c in
    let less = less_on w tell spot l u first last next place in
    let deep = view.deep bit set in
    let down = weight_down w (tell l).place.len (tell c).place.len deep (ap (λ n. n.len) child) in
    let pos = weight_pos w (tell c).place.len in
    let is = level_is w tell spot c ∙ ap (λ s. (197 - rank_at s) * weight w (tell c).place.len + 1) one in
    omega (arith, a, b, d, less, down, pos, is)
