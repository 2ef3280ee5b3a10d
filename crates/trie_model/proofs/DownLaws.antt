-- A walk that starts at a prefix: the way down to it.
use Rattle.std.proofs.Common.{◌≡◌, ℕ, ◌+◌, ◌*◌, ◌<◌, ◌≤◌, ◌∙◌, sym, ap, subst, refl, arith, Bool, true, List, [], ◌∷◌, ◌++◌, length, inl, inr}
use Rattle.std.specs.Prelude.{◌⊎◌, ◌↔◌, IsTrue}
use Rattle.std.specs.Int.{bit_at}
use Rattle.trie_model.specs.Nets.{Net, covers}
use Rattle.trie_model.specs.Spots.{next_spot, order_key}
use Rattle.trie_model.specs.Views.{ViewValue, IsView, TookChild, IsChild}
use Rattle.trie_model.specs.Walks.{Left, LevelOk, WalkOk, Roomy, AllFrugal, From, rest}
use Rattle.trie_model.proofs.Places.{bit_below}
use Rattle.trie_model.proofs.WalkLaws.{either, child_first}
use Rattle.trie_model.proofs.RoomLaws.{room_on, frugal_push, length_more}
use Rattle.trie_model.proofs.RestLaws.{rest_view, rest_ahead, rest_start, rest_took, rest_child, rest_set}
use Rattle.trie_model.proofs.StartLaws.{Through, child_inside, from_split, pushed, room_below}

-- Where a walk that goes down to a prefix has come to: a view whose place contains it, over a stack of later pairs.
pub record Down {L X : Type 0} (good : L → Type 0) (tell plain : L → ViewValue X) (spot : L → ℕ) (w : ℕ) (inclusive : Bool) (net : Net) (t0 : ViewValue X) (ls0 : List L) (t : ViewValue X) (ls : List L) (capacity : ℕ) : Type 0 where
  pub inside : covers w t.place net ≡ true
  pub stack : WalkOk good tell spot w ls
  pub first : (n m : Net) (x y : X) → t.at n x → Left tell ls m y → order_key w n < order_key w m
  pub room : Roomy w plain ls capacity
  pub deep : 5 * length ls ≤ t.place.len
  pub left : (n : Net) (x : X) → ((t.at n x × From w inclusive net n) ⊎ Left tell ls n x) ↔ ((t0.at n x × From w inclusive net n) ⊎ Left tell ls0 n x)
  pub frugal : IsTrue t0.frugal → IsTrue t.frugal
  pub stays : AllFrugal plain ls0 → IsTrue t0.frugal → AllFrugal plain ls

-- A level that is put on the stack.
pub record Pushes {L X : Type 0} (good : L → Type 0) (tell plain : L → ViewValue X) (spot : L → ℕ) (w : ℕ) (t : ViewValue X) (ls new : List L) (l : L) (capacity c : ℕ) : Type 0 where
  pub is : new ≡ ls ++ l ∷ []
  pub grows : capacity ≤ c
  pub level : LevelOk good tell spot w l
  pub view : IsView w (plain l)
  pub place : (plain l).place ≡ t.place
  pub frugal : IsTrue t.frugal → IsTrue (plain l).frugal
  pub less : (n : Net) (x : X) → (tell l).at n x → t.at n x

-- The stack at the end.
pub record Ended {L X : Type 0} (good : L → Type 0) (tell plain : L → ViewValue X) (spot : L → ℕ) (w : ℕ) (inclusive : Bool) (net : Net) (t0 : ViewValue X) (ls0 new : List L) (c : ℕ) : Type 0 where
  pub stack : WalkOk good tell spot w new
  pub left : (n : Net) (x : X) → Left tell new n x ↔ ((t0.at n x × From w inclusive net n) ⊎ Left tell ls0 n x)
  pub room : Roomy w plain new c
  pub stays : AllFrugal plain ls0 → IsTrue t0.frugal → AllFrugal plain new

stacked : {L X : Type 0} (good : L → Type 0) (tell plain : L → ViewValue X) (spot : L → ℕ) (w : ℕ) (inclusive : Bool) (net : Net) (t0 t : ViewValue X)
    (ls0 ls new : List L) (l : L) (capacity c : ℕ) → Down good tell plain spot w inclusive net t0 ls0 t ls capacity → Pushes good tell plain spot w t
    ls new l capacity c → WalkOk good tell spot w new × ((n : Net) (x : X) → Left tell new n x ↔ ((tell l).at n x ⊎ Left tell ls n x))
stacked good tell plain spot w inclusive net t0 t ls0 ls new l capacity c d p = pushed good tell spot w ls new l p.is d.stack p.level (λ n m x y h k. d.first n m x y (p.less n x h) k)

roomy : {L X : Type 0} (good : L → Type 0) (tell plain : L → ViewValue X) (spot : L → ℕ) (w : ℕ) (inclusive : Bool) (net : Net) (t0 t : ViewValue X)
    (ls0 ls new : List L) (l : L) (capacity c : ℕ) → Down good tell plain spot w inclusive net t0 ls0 t ls capacity → Pushes good tell plain spot w t
    ls new l capacity c → Roomy w plain new c
roomy good tell plain spot w inclusive net t0 t ls0 ls new l capacity c d p =
    room_on w plain new ls l l capacity c (room_below w plain ls l capacity p.view d.room (let deep = d.deep in let e = ap (λ n. n.len) p.place in omega (arith, deep, e))) p.is p.grows refl

-- The last level of a way down ends it: the stack gives what the view has from the prefix on.
pub down_end : {L X : Type 0} (good : L → Type 0) (tell plain : L → ViewValue X) (spot : L → ℕ) (w : ℕ) (inclusive : Bool) (net : Net)
    (t0 t : ViewValue X) (ls0 ls new : List L) (l : L) (capacity c : ℕ) → Down good tell plain spot w inclusive net t0 ls0 t ls capacity → Pushes good
    tell plain spot w t ls new l capacity c → ((n : Net) (x : X) → (tell l).at n x ↔ (t.at n x × From w inclusive net n)) → Ended good tell plain spot
    w inclusive net t0 ls0 new c
down_end good tell plain spot w inclusive net t0 t ls0 ls new l capacity c d p at =
    let s = stacked good tell plain spot w inclusive net t0 t ls0 ls new l capacity c d p in
    record {
      stack = s.0;
      left = λ n x. (
        (λ h. (d.left n x).0 (either (λ a. inl ((at n x).0 a)) (λ a. inr a) ((s.1 n x).0 h))),
        (λ h. (s.1 n x).1 (either (λ a. inl ((at n x).1 a)) (λ a. inr a) ((d.left n x).1 h))),
      );
      room = roomy good tell plain spot w inclusive net t0 t ls0 ls new l capacity c d p;
      stays = λ all f. frugal_push plain new ls l p.is (d.stays all f) (p.frugal (d.frugal f));
    }

-- With a level pushed and its child entered, the way down goes on.
pub down_next : {L X : Type 0} (good : L → Type 0) (tell plain : L → ViewValue X) (spot : L → ℕ) (w : ℕ) (inclusive : Bool) (net : Net)
    (t0 t u v : ViewValue X) (ls0 ls new : List L) (l : L) (bit capacity c : ℕ) → Down good tell plain spot w inclusive net t0 ls0 t ls capacity
    → Pushes good tell plain spot w t ls new l capacity c → Through w t net bit → bit_at t.child_bits bit ≡ 1 → TookChild w bit t u → IsChild w bit t
    v → ((n : Net) (x : X) → (tell l).at n x ↔ (rest w u (next_spot (32 + bit))).at n x) → Down good tell plain spot w inclusive net t0 ls0 v new c
down_next {L} {X} good tell plain spot w inclusive net t0 t u v ls0 ls new l bit capacity c d p go set took is at =
    let s = stacked good tell plain spot w inclusive net t0 t ls0 ls new l capacity c d p in
    record {
      inside = subst (λ q. covers w q net ≡ true) (sym is.place) (child_inside w t net bit go);
      stack = s.0;
      first = λ n m x y a b. either (λ k. before n m x y a ((at m y).0 k)) (λ k. d.first n m x y ((is.at n x).0 a).0 k) ((s.1 m y).0 b);
      room = roomy good tell plain spot w inclusive net t0 t ls0 ls new l capacity c d p;
      deep = (let e = ap length p.is ∙ length_more ls l in let q = ap (λ n. n.len) is.place in let deep = d.deep in omega (arith, e, q, deep));
      left = λ n x.
          let cut = from_split w inclusive t u v net bit go took is n x in (
            (λ h. (d.left n x).0 (either (λ a. inl (cut.1 (inl a))) (λ a. either (λ k. inl (cut.1 (inr ((at n x).0 k)))) (λ k. inr k) ((s.1 n x).0 a)) h)),
            (λ h. either (λ a. either (λ k. inl k) (λ k. inr ((s.1 n x).1 (inl ((at n x).1 k)))) (cut.0 a)) (λ a. inr ((s.1 n x).1 (inr a))) ((d.left n x).1 h)),
          );
      frugal = λ f. is.frugal (d.frugal f);
      stays = λ all f. frugal_push plain new ls l p.is (d.stays all f) (p.frugal (d.frugal f));
    }
  where
    small : bit < 32
    small = bit_below 32 t.child_bits bit go.ok.children_fit set

    before : (n m : Net) (x y : X) → v.at n x → (rest w u (next_spot (32 + bit))).at m y → order_key w n < order_key w m
    before n m x y a b = child_first w (32 + bit) bit (rest w t (32 + bit)) (rest w u (next_spot (32 + bit))) (rest w v 1)
        (rest_view w t (32 + bit) (let lt = small in omega (arith, lt)) go.ok) (rest_ahead w t (32 + bit)) refl small set'
        (rest_child w t v (32 + bit) bit go.ok refl set is) (rest_took w t u (32 + bit) bit go.ok refl small set took) n m x y
        ((rest_start w v n x).1 a) b
      where
        set' : bit_at (rest w t (32 + bit)).child_bits bit ≡ 1
        set' = rest_set t.child_bits (32 + bit) bit refl small set

-- There is room for a level.
pub down_space : {L X : Type 0} (good : L → Type 0) (tell plain : L → ViewValue X) (spot : L → ℕ) (w : ℕ) (inclusive : Bool) (net : Net)
    (t0 t : ViewValue X) (ls0 ls : List L) (capacity : ℕ) → Down good tell plain spot w inclusive net t0 ls0 t ls capacity → IsView w t → length ls
    < capacity
down_space good tell plain spot w inclusive net t0 t ls0 ls capacity d ok = let r = d.room.room in let deep = d.deep in let fits = ok.place_ok.len_fits in omega (arith, r, deep, fits)
