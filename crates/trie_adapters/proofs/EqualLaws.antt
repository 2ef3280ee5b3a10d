-- Two walks side by side.
use Rattle.std.proofs.Common.{◌≡◌, ℕ, sym, subst, refl, arith, Bool, true, false, List, inl, inr}
use Rattle.std.specs.Prelude.{◌⊎◌, ◌↔◌, IsTrue}
use Rattle.trie_model.specs.Nets.{Net}
use Rattle.trie_model.specs.Views.{ViewValue, IsView, SamePairs, same_net}
use Rattle.trie_model.specs.Walks.{Left, Gives}
use Rattle.trie_model.proofs.MapLaws.{nets_or}
use Rattle.trie_model.proofs.Places.{elim-false}
use Rattle.trie_adapters.specs.Equal.{Accepts, AnswersByBoth, HaveSameKeys, AreEqualBy}

-- A prefix has one item.
abbrev pub HasOneItem : {X : Type 0} → (Net → X → Type 0) → Type 0
HasOneItem {X} at = (n : Net) (x y : X) → at n x → at n y → x ≡ y

-- Some pairs are pairs of a view.
abbrev pub ComeFrom : {X : Type 0} → (Net → X → Type 0) → ViewValue X → Type 0
ComeFrom {X} at t = (n : Net) (x : X) → at n x → t.at n x

-- Of a view's pairs a prefix has one.
pub one_item : {X : Type 0} (w : ℕ) (t : ViewValue X) (at : Net → X → Type 0) → IsView w t → ComeFrom at t → HasOneItem at
one_item w t at ok from n x y h k = ok.one n x y (from n x h) (from n y k)

-- What is left after a pair was given still comes from the view.
pub still_from : {L X : Type 0} (w : ℕ) (tell : L → ViewValue X) (old new : List L) (n : Net) (x : X) (t : ViewValue X) → Gives w tell old new n x
    → ComeFrom (Left tell old) t → ComeFrom (Left tell new) t
still_from w tell old new n x t gives from k y h = from k y ((gives.others k y).0 h).0

-- Once the same prefix was given on both sides, and its items are accepted, the rest decides.
pub equal_more : {L M X Y : Type 0} (w : ℕ) (tell : L → ViewValue X) (look : M → ViewValue Y) (accepts : X → Y → Type 0) (old new : List L)
    (old' new' : List M) (n : Net) (x : X) (y : Y)
    → HasOneItem (Left tell old) → HasOneItem (Left look old') → Gives w tell old new n x → Gives w look old' new' n y → accepts x y
    → AreEqualBy accepts (Left tell old) (Left look old') ↔ AreEqualBy accepts (Left tell new) (Left look new')
equal_more {L} {M} {X} {Y} w tell look accepts old new old' new' n x y one one' ga gb pass = (
  λ e. (
    λ k. (
      (λ h. let o = (ga.others k h.0).0 h.1 in let r = (e.0 k).0 (h.0, o.0) in (r.0, (gb.others k r.0).1 (r.1, o.1))),
      (λ h. let o = (gb.others k h.0).0 h.1 in let r = (e.0 k).1 (h.0, o.0) in (r.0, (ga.others k r.0).1 (r.1, o.1))),
    ),
    λ k a b h h'. e.1 k a b ((ga.others k a).0 h).0 ((gb.others k b).0 h').0,
  ),
  λ e. (λ k. ((λ h. there e k h (nets_or n k)), (λ h. back e k h (nets_or n k))), λ k a b h h'. items e k a b h h' (nets_or n k)),
)
  where
    there : AreEqualBy accepts (Left tell new) (Left look new') → (k : Net) → (z : X) × Left tell old k z → (n ≡ k) ⊎ (same_net n k ≡ false)
        → (z : Y) × Left look old' k z
    there e k h (inl same) = (y, subst (λ q. Left look old' q y) same gb.had)
    there e k h (inr f) = let r = (e.0 k).0 (h.0, (ga.others k h.0).1 (h.1, f)) in (r.0, ((gb.others k r.0).0 r.1).0)

    back : AreEqualBy accepts (Left tell new) (Left look new') → (k : Net) → (z : Y) × Left look old' k z → (n ≡ k) ⊎ (same_net n k ≡ false)
        → (z : X) × Left tell old k z
    back e k h (inl same) = (x, subst (λ q. Left tell old q x) same ga.had)
    back e k h (inr f) = let r = (e.0 k).1 (h.0, (gb.others k h.0).1 (h.1, f)) in (r.0, ((ga.others k r.0).0 r.1).0)

    items : AreEqualBy accepts (Left tell new) (Left look new') → (k : Net) (a : X) (b : Y) → Left tell old k a → Left look old' k b
        → (n ≡ k) ⊎ (same_net n k ≡ false) → accepts a b
    items e k a b h h' (inl same) =
        let left : x ≡ a = one k x a (subst (λ q. Left tell old q x) same ga.had) h in
        let right : y ≡ b = one' k y b (subst (λ q. Left look old' q y) same gb.had) h' in
        subst (λ z. accepts a z) right (subst (λ z. accepts z y) left pass)
    items e k a b h h' (inr f) = e.1 k a b ((ga.others k a).1 (h, f)) ((gb.others k b).1 (h', f))

-- Where the first prefixes of both sides differ, so do the prefixes.
pub keys_differ : {L M X Y : Type 0} (w : ℕ) (tell : L → ViewValue X) (look : M → ViewValue Y) (old new : List L) (old' new' : List M)
    (n m : Net) (x : X) (y : Y)
    → Gives w tell old new n x → Gives w look old' new' m y → (n ≡ m → ⊥) → HaveSameKeys (Left tell old) (Left look old') → ⊥
keys_differ {L} {M} {X} {Y} w tell look old new old' new' n m x y ga gb differ same =
    let r = (same n).0 (x, ga.had) in
    let after = gb.least n r.0 ((gb.others n r.0).1 (r.1, apart (nets_or m n))) in
    let s = (same m).1 (y, gb.had) in
    let before = ga.least m s.0 ((ga.others m s.0).1 (s.1, apart' (nets_or n m))) in
    omega (arith, after, before)
  where
    apart : (m ≡ n) ⊎ (same_net m n ≡ false) → same_net m n ≡ false
    apart (inl e) = absurd (differ (sym e))
    apart (inr f) = f

    apart' : (n ≡ m) ⊎ (same_net n m ≡ false) → same_net n m ≡ false
    apart' (inl e) = absurd (differ e)
    apart' (inr f) = f

-- Nothing equals nothing.
pub both_end : {X Y : Type 0} (accepts : X → Y → Type 0) (at : Net → X → Type 0) (bt : Net → Y → Type 0) → ((n : Net) (x : X) → at n x → ⊥)
    → ((n : Net) (y : Y) → bt n y → ⊥) → AreEqualBy accepts at bt
both_end accepts at bt left right = ((λ n. ((λ h. absurd (left n h.0 h.1)), (λ h. absurd (right n h.0 h.1)))), (λ n x y h k. absurd (left n x h)))

-- Views with the same pairs are equal to the same.
pub same_equal : {X Y : Type 0} (accepts : X → Y → Type 0) (at at' : Net → X → Type 0) (bt bt' : Net → Y → Type 0) → SamePairs at at'
    → SamePairs bt bt' → AreEqualBy accepts at bt → AreEqualBy accepts at' bt'
same_equal accepts at at' bt bt' f g e = (
  λ n. (
    (λ h. let r = (e.0 n).0 (h.0, (f n h.0).1 h.1) in (r.0, (g n r.0).0 r.1)),
    (λ h. let r = (e.0 n).1 (h.0, (g n h.0).1 h.1) in (r.0, (f n r.0).0 r.1)),
  ),
  λ n x y h k. e.1 n x y ((f n x).1 h) ((g n y).1 k),
)

-- ---- answers

-- False tells that something isn't so.
pub tells_false : {E : Type 0} → (E → ⊥) → IsTrue false ↔ E
tells_false wrong = ((λ f. absurd (elim-false f)), (λ e. absurd (wrong e)))

-- True tells that something is so.
pub tells_true : {E : Type 0} → E → IsTrue true ↔ E
tells_true e = ((λ t. e), (λ x. refl))

-- Where an answer is false, the function doesn't accept.
pub not_accepted : {S T X Y : Type 0} (item : S → X) (other : T → Y) (post : S → T → Bool → Type 0) (s : S) (t : T) → AnswersByBoth item other post
    → post s t false → Accepts item other post (item s) (other t) → ⊥
not_accepted item other post s t answers here passes = elim-false (answers s passes.0 t passes.1.0 false true (sym passes.1.1) (sym passes.1.2) here passes.1.3)

-- A function that answers true of everything accepts all items.
pub all_pass : {S T X Y : Type 0} (item : S → X) (other : T → Y) (post : S → T → Bool → Type 0) → ((x : X) → (s : S) × (item s ≡ x))
    → ((y : Y) → (t : T) × (other t ≡ y)) → ((s : S) (t : T) → post s t true) → (x : X) (y : Y) → Accepts item other post x y
all_pass item other post onto onto' pass x y = let s = onto x in let t = onto' y in (s.0, (t.0, s.1, t.1, pass s.0 t.0))
