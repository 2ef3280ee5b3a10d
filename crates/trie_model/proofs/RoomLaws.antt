-- The room that a walk needs is there from the start, and a walk over frugal views takes no memory.
use Rattle.std.proofs.Common.{◌≡◌, ℕ, ◌+◌, ◌*◌, ◌/◌, ◌<◌, ◌≤◌, ◌∙◌, sym, ap, subst, refl, arith, List, [], ◌∷◌, ◌++◌, length}
use Rattle.std.specs.Prelude.{IsTrue}
use Rattle.std.specs.Int.{bit_at}
use Rattle.trie_model.specs.Views.{ViewValue, IsView, child_net}
use Rattle.trie_model.specs.Walks.{EachFrom, Roomy, AllFrugal}

-- A fact of each level holds of those below the top and of the top.
pub each_split : {L : Type 0} (Q : ℕ → L → Type 0) (i : ℕ) (ls : List L) (l : L) → EachFrom Q i (ls ++ l ∷ []) → EachFrom Q i ls × Q (i + length ls) l
unfolding EachFrom
each_split Q i [] l h = (tt, subst (λ k. Q k l) (let e : i ≡ i + 0 = omega arith in e) h.0)
each_split Q i (a ∷ ls) l h = let r = each_split Q (i + 1) ls l h.1 in ((h.0, r.0), subst (λ k. Q k l) (omega arith) r.1)

-- A fact of the levels below the top and of the top holds of each.
pub each_join : {L : Type 0} (Q : ℕ → L → Type 0) (i : ℕ) (ls : List L) (l : L) → EachFrom Q i ls → Q (i + length ls) l → EachFrom Q i (ls ++ l ∷ [])
unfolding EachFrom
each_join Q i [] l h q = (subst (λ k. Q k l) (let e : i + 0 ≡ i = omega arith in e) q, tt)
each_join Q i (a ∷ ls) l h q = (h.0, each_join Q (i + 1) ls l h.1 (subst (λ k. Q k l) (omega arith) q))

-- A stack with a level more is one longer.
pub length_more : {L : Type 0} (ls : List L) (l : L) → length (ls ++ l ∷ []) ≡ length ls + 1
length_more [] l = refl
length_more (a ∷ ls) l = let e = length_more ls l in omega (arith, e)

-- What is left when the top is taken, and what is known of the top.
pub record Below {L X : Type 0} (w : ℕ) (tell : L → ViewValue X) (ls : List L) (l : L) (capacity : ℕ) : Type 0 where
  pub roomy : Roomy w tell ls capacity
  pub deep : 5 * length ls ≤ (tell l).place.len
  pub fits : (tell l).place.len ≤ w
  pub space : length ls < capacity

-- Below the top of a stack with room there is room for the top.
pub below_top : {L X : Type 0} (w : ℕ) (tell : L → ViewValue X) (old ls : List L) (l : L) (capacity c : ℕ) → old ≡ ls ++ l ∷ [] → c ≡ capacity → IsView w (tell l) → Roomy w tell old capacity → Below w tell ls l c
below_top w tell old ls l capacity c e g view room =
    let both = each_split (λ i k. 5 * i ≤ (tell k).place.len) 0 ls l (subst (EachFrom (λ i k. 5 * i ≤ (tell k).place.len) 0) e room.deeper) in
    let top : 5 * length ls ≤ (tell l).place.len = let b = both.1 in omega (arith, b) in
    let fits = view.place_ok.len_fits in
    let r = room.room in
    record {
      roomy = record { room = omega arith; deeper = both.0 };
      deep = top;
      fits = fits;
      space = omega (arith, top, fits, r, g);
    }

-- The top again, at the same place.
pub room_on : {L X : Type 0} (w : ℕ) (tell : L → ViewValue X) (new ls : List L) (l u : L) (capacity c : ℕ) → Below w tell ls l capacity → new ≡ ls ++ u ∷ [] → capacity ≤ c → (tell u).place ≡ (tell l).place → Roomy w tell new c
room_on w tell new ls l u capacity c below e le place =
    let deep : 5 * (0 + length ls) ≤ (tell u).place.len = let d = below.deep in let p = ap (λ n. n.len) place in omega (arith, d, p) in
    let r = below.roomy.room in
    record {
      room = omega arith;
      deeper = subst (EachFrom (λ i k. 5 * i ≤ (tell k).place.len) 0) (sym e) (each_join (λ i k. 5 * i ≤ (tell k).place.len) 0 ls u below.roomy.deeper deep);
    }

-- The child's level has room.
pub room_for_child : {L X : Type 0} (w : ℕ) (tell : L → ViewValue X) (mid ls : List L) (l u : L) (bit capacity c : ℕ) → Below w tell ls l capacity
    → IsView w (tell l) → bit_at (tell l).child_bits bit ≡ 1 → mid ≡ ls ++ u ∷ [] → capacity ≤ c → length mid < c
room_for_child w tell mid ls l u bit capacity c below view set e le =
    let n = ap length e ∙ length_more ls u in
    let deep = view.deep bit set in
    let d = below.deep in
    let r = below.roomy.room in
    omega (arith, n, deep, d, r)

-- A stack with the top's child pushed has room.
pub room_down : {L X : Type 0} (w : ℕ) (tell : L → ViewValue X) (mid new ls : List L) (l u k : L) (bit capacity c c' : ℕ) → Below w tell ls l capacity
    → mid ≡ ls ++ u ∷ [] → new ≡ mid ++ k ∷ [] → capacity ≤ c → c ≤ c' → (tell u).place ≡ (tell l).place → (tell k).place ≡ child_net w (tell l).place
    bit → Roomy w tell new c'
room_down w tell mid new ls l u k bit capacity c c' below e g le le' place child =
    let on = room_on w tell mid ls l u capacity c below e le place in
    let n = ap length e ∙ length_more ls u in
    let d = below.deep in
    let p = ap (λ m. m.len) child in
    let deep : 5 * (0 + length mid) ≤ (tell k).place.len = omega (arith, n, d, p) in
    let r = on.room in
    record {
      room = omega arith;
      deeper = subst (EachFrom (λ i z. 5 * i ≤ (tell z).place.len) 0) (sym g) (each_join (λ i z. 5 * i ≤ (tell z).place.len) 0 mid k on.deeper deep);
    }

-- One view at the start.
pub room_one : {L X : Type 0} (w : ℕ) (tell : L → ViewValue X) (ls : List L) (l : L) (capacity : ℕ) → w / 5 + 1 ≤ capacity → ls ≡ l ∷ [] → Roomy w tell ls capacity
unfolding EachFrom
room_one w tell ls l capacity le e = record { room = le; deeper = subst (EachFrom (λ i k. 5 * i ≤ (tell k).place.len) 0) (sym e) (omega arith, tt) }

-- An empty stack with enough capacity has room.
pub room_none : {L X : Type 0} (w : ℕ) (tell : L → ViewValue X) (ls : List L) (capacity : ℕ) → w / 5 + 1 ≤ capacity → ls ≡ [] → Roomy w tell ls capacity
unfolding EachFrom
room_none w tell ls capacity le e = record { room = le; deeper = subst (EachFrom (λ i k. 5 * i ≤ (tell k).place.len) 0) (sym e) tt }

-- ---- frugal views

-- Of a frugal stack the levels below the top are frugal, and so is the top.
pub frugal_split : {L X : Type 0} (tell : L → ViewValue X) (old ls : List L) (l : L) → old ≡ ls ++ l ∷ [] → AllFrugal tell old → AllFrugal tell ls × IsTrue (tell l).frugal
frugal_split tell old ls l e all = each_split (λ i k. IsTrue (tell k).frugal) 0 ls l (subst (AllFrugal tell) e all)

-- A frugal stack with a frugal level more is frugal.
pub frugal_push : {L X : Type 0} (tell : L → ViewValue X) (new ls : List L) (u : L) → new ≡ ls ++ u ∷ [] → AllFrugal tell ls → IsTrue (tell u).frugal → AllFrugal tell new
frugal_push tell new ls u e all f = subst (AllFrugal tell) (sym e) (each_join (λ i k. IsTrue (tell k).frugal) 0 ls u all f)

-- An empty stack is frugal.
pub frugal_none : {L X : Type 0} (tell : L → ViewValue X) (ls : List L) → ls ≡ [] → AllFrugal tell ls
unfolding EachFrom
frugal_none tell ls e = subst (AllFrugal tell) (sym e) tt

-- A stack of one frugal level is frugal.
pub frugal_one : {L X : Type 0} (tell : L → ViewValue X) (ls : List L) (l : L) → ls ≡ l ∷ [] → IsTrue (tell l).frugal → AllFrugal tell ls
unfolding EachFrom
frugal_one tell ls l e f = subst (AllFrugal tell) (sym e) (f, tt)
