-- Laws of the list of a map's pairs, and of its length.
use Rattle.std.proofs.Common.{◌≡◌, ◌≢◌, ℕ, ◌+◌, ◌*◌, ◌/◌, ◌^◌, ◌<◌, ◌≤◌, ◌∙◌, sym, ap, subst, suc, refl, arith, Bool, true, false, cond, List, [], ◌∷◌, ◌++◌, length, Option, Some, None, inl, inr, lt_of_not-le}
use Rattle.std.specs.Prelude.{◌⊎◌, ◌↔◌}
use Rattle.std.proofs.lemmas.Nat.{div-mul-add}
use Rattle.trie_model.specs.Nets.{Net}
use Rattle.trie_model.specs.Spots.{order_key, ltb}
use Rattle.trie_model.specs.Views.{same_net}
use Rattle.trie_model.specs.Walks.{Within, Ascends, IsListOf}
use Rattle.trie_model.specs.Maps.{with_entry, without_entry, Entry, put_pair, removed}
use Rattle.trie_model.proofs.Places.{elim-false}
use Rattle.trie_model.proofs.SpotLaws.{lt-ltb, ltb-lt}
use Rattle.trie_model.proofs.TrieLaws.{same_net_is, same_back}
use Rattle.trie_model.proofs.NodeLaws.{same_some}
use Rattle.trie_model.proofs.WalkLaws.{either}
use Rattle.trie_model.proofs.MapLaws.{nets_or}

-- ---- the order of prefixes

key_bits : (w : ℕ) (a : Net) → a.len ≤ w → order_key w a / (w + 1) ≡ a.bits
key_bits w a h = div-mul-add a.bits (w + 1) a.len (omega arith)

-- Two prefixes of one rank are one.
pub order_apart : (w : ℕ) (a b : Net) → a.len ≤ w → b.len ≤ w → order_key w a ≡ order_key w b → a ≡ b
order_apart w a b ha hb e =
    let bits : a.bits ≡ b.bits = sym (key_bits w a ha) ∙ ap (λ k. k / (w + 1)) e ∙ key_bits w b hb in
    let top : a.bits * (w + 1) ≡ b.bits * (w + 1) = ap (λ x. x * (w + 1)) bits in
    let len : a.len ≡ b.len = omega (arith, e, top) in
    ap (λ x. record { bits = x; len = a.len }) bits ∙ ap (λ x. record { bits = b.bits; len = x }) len

-- ---- a pair more

abbrev Same : {X : Type 0} → Net → X → Net → X → Type 0
Same n x k y = (n ≡ k) × (x ≡ y)

out_put : {X : Type 0} (w : ℕ) (n : Net) (x : X) (p : Net × X) (ps qs : List (Net × X)) (k : Net) (y : X) (t : Bool)
    → (Within qs k y → Same n x k y ⊎ Within ps k y) → Within (cond t ((n, x) ∷ (p ∷ ps)) (p ∷ qs)) k y → Same n x k y ⊎ Within (p ∷ ps) k y
unfolding Within
out_put w n x p ps qs k y true h a = a
out_put w n x p ps qs k y false h a = either (λ e. inr (inl e)) (λ e. either (λ z. inl z) (λ z. inr (inr z)) (h e)) a

in_put : {X : Type 0} (w : ℕ) (n : Net) (x : X) (p : Net × X) (ps qs : List (Net × X)) (k : Net) (y : X) (t : Bool)
    → (Same n x k y ⊎ Within ps k y → Within qs k y) → Same n x k y ⊎ Within (p ∷ ps) k y → Within (cond t ((n, x) ∷ (p ∷ ps)) (p ∷ qs)) k y
unfolding Within
in_put w n x p ps qs k y true h a = a
in_put w n x p ps qs k y false h a = either (λ e. inr (h (inl e))) (λ e. either (λ z. inl z) (λ z. inr (h (inr z))) e) a

-- A list with a pair more has that pair and its old ones.
pub within_put : {X : Type 0} (w : ℕ) (n : Net) (x : X) (ps : List (Net × X)) (k : Net) (y : X) → Within (put_pair w n x ps) k y ↔ (Same n x k y ⊎ Within ps k y)
unfolding Within put_pair
within_put w n x [] k y = ((λ h. h), (λ h. h))
within_put w n x (p ∷ ps) k y = (
  out_put w n x p ps (put_pair w n x ps) k y (ltb (order_key w n) (order_key w p.0)) (within_put w n x ps k y).0,
  in_put w n x p ps (put_pair w n x ps) k y (ltb (order_key w n) (order_key w p.0)) (within_put w n x ps k y).1,
)

length_by : {X : Type 0} (t : Bool) (a b : List X) (k : ℕ) → length a ≡ k → length b ≡ k → length (cond t a b) ≡ k
length_by true a b k p q = p
length_by false a b k p q = q

-- A list with a pair more is one longer.
pub length_put : {X : Type 0} (w : ℕ) (n : Net) (x : X) (ps : List (Net × X)) → length (put_pair w n x ps) ≡ suc (length ps)
unfolding put_pair
length_put w n x [] = refl
length_put w n x (p ∷ ps) = length_by (ltb (order_key w n) (order_key w p.0)) ((n, x) ∷ (p ∷ ps)) (p ∷ put_pair w n x ps) (suc (suc (length ps))) refl (ap suc (length_put w n x ps))

ascends_by : {X : Type 0} (w : ℕ) (n : Net) (x : X) (p : Net × X) (ps qs : List (Net × X)) (t : Bool) → ltb (order_key w n) (order_key w p.0) ≡ t
    → Ascends w (p ∷ ps) → (p.0 ≢ n) → p.0.len ≤ w → n.len ≤ w → ((k : Net) (y : X) → Within qs k y → Same n x k y ⊎ Within ps k y) → Ascends w qs
    → Ascends w (cond t ((n, x) ∷ (p ∷ ps)) (p ∷ qs))
unfolding Within Ascends
ascends_by w n x p ps qs true e up ne hp hn out more =
    let lt = ltb-lt _ _ e in
    ((λ k y h. either (λ z. subst (λ a. order_key w n < order_key w a) z.0 lt) (λ z. let far = up.0 k y z in omega (arith, lt, far)) h), up)
ascends_by w n x p ps qs false e up ne hp hn out more =
    let le : order_key w p.0 ≤ order_key w n = by_not (order_key w n) (order_key w p.0) e in
    let lt : order_key w p.0 < order_key w n = strictly _ _ le (λ z. ne (order_apart w p.0 n hp hn z)) in
    ((λ k y h. either (λ z. subst (λ a. order_key w p.0 < order_key w a) z.0 lt) (λ z. up.0 k y z) (out k y h)), more)
  where
    by_not : (a b : ℕ) → ltb a b ≡ false → b ≤ a
    by_not a b f = let ge : b < a + 1 = lt_of_not-le (λ le. elim-false (sym f ∙ lt-ltb a b (let l : a < b = omega arith in l))) in omega arith

    strictly : (a b : ℕ) → a ≤ b → (a ≡ b → ⊥) → a < b
    strictly a b le ne' = let apart : a ≢ b = ne' in omega (arith, apart)

-- An ascending list stays ascending with a pair whose prefix it doesn't have.
pub ascends_put : {X : Type 0} (w : ℕ) (n : Net) (x : X) (ps : List (Net × X)) → n.len ≤ w → Ascends w ps → ((k : Net) (y : X) → Within ps k y → (k.len ≤ w) × (k ≢ n)) → Ascends w (put_pair w n x ps)
unfolding Within Ascends put_pair
ascends_put w n x [] fits up fresh = ((λ k y h. absurd h), tt)
ascends_put w n x (p ∷ ps) fits up fresh =
    let head = fresh p.0 p.1 (inl (refl, refl)) in
    ascends_by w n x p ps (put_pair w n x ps) (ltb (order_key w n) (order_key w p.0)) refl up head.1 head.0 fits (λ k y. (within_put w n x ps k y).0) (ascends_put w n x ps fits up.1 (λ k y h. fresh k y (inr h)))

-- ---- a pair less

later : {X : Type 0} (w : ℕ) (n : Net) (ps : List (Net × X)) → ((k : Net) (y : X) → Within ps k y → order_key w n < order_key w k) → (k : Net) (y : X) → Within ps k y → same_net n k ≡ false
later w n ps far k y h = by (nets_or n k)
  where
    by : (n ≡ k) ⊎ (same_net n k ≡ false) → same_net n k ≡ false
    by (inl e) = absurd (let l = far k y h in let z = ap (order_key w) e in let no : ⊥ = omega (arith, l, z) in no)
    by (inr f) = f

drop_by : {X : Type 0} (w : ℕ) (n : Net) (p : Net × X) (ps qs : List (Net × X)) (k : Net) (y : X) (t : Bool) → same_net n p.0 ≡ t → Ascends w (p ∷ ps)
    → (Within qs k y ↔ ((same_net n k ≡ false) × Within ps k y)) → Within (cond t ps (p ∷ qs)) k y ↔ ((same_net n k ≡ false) × Within (p ∷ ps) k y)
unfolding Within Ascends
drop_by {X} w n p ps qs k y true e up rec =
    let is : n ≡ p.0 = same_back n p.0 e in (
      (λ h. (later w n ps (λ j z q. subst (λ a. order_key w a < order_key w j) (sym is) (up.0 j z q)) k y h, inr h)),
      (λ h. either (λ z. absurd (elim-false (sym h.0 ∙ same_net_is n k (is ∙ z.0)))) (λ z. z) h.1),
    )
drop_by w n p ps qs k y false e up rec = (
  (λ h. either (λ z. (sym (ap (same_net n) z.0) ∙ e, inl z)) (λ z. ((rec.0 z).0, inr (rec.0 z).1)) h),
  (λ h. either (λ z. inl z) (λ z. inr (rec.1 (h.0, z))) h.1),
)

-- A list without a prefix has the pairs of the other prefixes.
pub within_drop : {X : Type 0} (w : ℕ) (n : Net) (ps : List (Net × X)) → Ascends w ps → (k : Net) (y : X) → Within (removed ps n) k y ↔ ((same_net n k ≡ false) × Within ps k y)
unfolding Within Ascends removed
within_drop w n [] up k y = ((λ h. absurd h), (λ h. h.1))
within_drop w n (p ∷ ps) up k y = drop_by w n p ps (removed ps n) k y (same_net n p.0) refl up (within_drop w n ps up.1 k y)

ascends_less : {X : Type 0} (w : ℕ) (p : Net × X) (ps qs : List (Net × X)) (t : Bool) → Ascends w (p ∷ ps) → ((k : Net) (y : X) → Within qs k y → Within ps k y) → Ascends w qs → Ascends w (cond t ps (p ∷ qs))
unfolding Within Ascends
ascends_less w p ps qs true up sub more = up.1
ascends_less w p ps qs false up sub more = ((λ k y h. up.0 k y (sub k y h)), more)

-- An ascending list stays ascending without a prefix.
pub ascends_drop : {X : Type 0} (w : ℕ) (n : Net) (ps : List (Net × X)) → Ascends w ps → Ascends w (removed ps n)
unfolding Within Ascends removed
ascends_drop w n [] up = tt
ascends_drop w n (p ∷ ps) up = ascends_less w p ps (removed ps n) (same_net n p.0) up (λ k y h. ((within_drop w n ps up.1 k y).0 h).1) (ascends_drop w n ps up.1)

less_by : {X : Type 0} (n : Net) (p : Net × X) (ps qs : List (Net × X)) (y : X) (t : Bool) → same_net n p.0 ≡ t → Within (p ∷ ps) n y → (Within ps n y → suc (length qs) ≡ length ps) → suc (length (cond t ps (p ∷ qs))) ≡ length (p ∷ ps)
unfolding Within
less_by n p ps qs y true e h rec = refl
less_by n p ps qs y false e h rec = either (λ z. absurd (elim-false (sym e ∙ same_net_is n p.0 (sym z.0)))) (λ z. ap suc (rec z)) h

-- A list without one of its prefixes is one shorter.
pub length_drop : {X : Type 0} (n : Net) (ps : List (Net × X)) (y : X) → Within ps n y → suc (length (removed ps n)) ≡ length ps
unfolding Within removed
length_drop n [] y h = absurd h
length_drop n (p ∷ ps) y h = less_by n p ps (removed ps n) y (same_net n p.0) refl h (λ z. length_drop n ps y z)

-- ---- the count of a map

-- A pair more changes nothing elsewhere.
pub with_other : {X : Type 0} (m : Net → Option X) (n k : Net) (x : X) → same_net n k ≡ false → with_entry m n x k ≡ m k
with_other m n k x f = ap (λ t. cond t (Some x) (m k)) f

with_same : {X : Type 0} (m : Net → Option X) (n k : Net) (x : X) → n ≡ k → with_entry m n x k ≡ Some x
with_same m n k x e = ap (λ t. cond t (Some x) (m k)) (same_net_is n k e)

-- A pair less changes nothing elsewhere.
pub without_other : {X : Type 0} (m : Net → Option X) (n k : Net) → same_net n k ≡ false → without_entry m n k ≡ m k
without_other m n k f = ap (λ t. cond t None (m k)) f

-- What was taken out isn't there.
pub without_same : {X : Type 0} (m : Net → Option X) (n k : Net) → n ≡ k → without_entry m n k ≡ None
without_same m n k e = ap (λ t. cond t None (m k)) (same_net_is n k e)

-- None is no value.
pub none_some : {X : Type 0} (x : X) → None ≡ Some x → ⊥
none_some x e = cc

-- The list of the map without an entry.
pub list_without : {X : Type 0} (w : ℕ) (m : Net → Option X) (n : Net) (ps : List (Net × X)) → IsListOf w (Entry m) ps → IsListOf w (Entry (without_entry m n)) (removed ps n)
list_without {X} w m n ps is = record {
  ascends = ascends_drop w n ps is.ascends;
  same = λ k y. (
    (λ h. let d = (within_drop w n ps is.ascends k y).0 h in without_other m n k d.0 ∙ (is.same k y).0 d.1),
    (λ h. back k y h (nets_or n k)),
  );
}
  where
    back : (k : Net) (y : X) → Entry (without_entry m n) k y → (n ≡ k) ⊎ (same_net n k ≡ false) → Within (removed ps n) k y
    back k y h (inl e) = absurd (none_some y (sym (without_same m n k e) ∙ h))
    back k y h (inr f) = (within_drop w n ps is.ascends k y).1 (f, (is.same k y).1 (sym (without_other m n k f) ∙ h))

-- The list of the map with an entry, from that of the map without it.
pub list_with : {X : Type 0} (w : ℕ) (m m0 : Net → Option X) (n : Net) (x : X) (ps : List (Net × X)) → n.len ≤ w
    → ((k : Net) (y : X) → m0 k ≡ Some y → k.len ≤ w) → ((k : Net) → same_net n k ≡ false → m0 k ≡ m k) → m0 n ≡ None → IsListOf w (Entry m0) ps
    → IsListOf w (Entry (with_entry m n x)) (put_pair w n x ps)
list_with {X} w m m0 n x ps fits nets others none is = record {
  ascends = ascends_put w n x ps fits is.ascends (λ k y h. let a = (is.same k y).0 h in (nets k y a, λ e. none_some y (sym none ∙ ap m0 (sym e) ∙ a)));
  same = λ k y. (
    (λ h. either (λ z. with_same m n k x z.0 ∙ ap Some z.1) (λ z. out k y z (nets_or n k)) ((within_put w n x ps k y).0 h)),
    (λ h. (within_put w n x ps k y).1 (back k y h (nets_or n k))),
  );
}
  where
    out : (k : Net) (y : X) → Within ps k y → (n ≡ k) ⊎ (same_net n k ≡ false) → with_entry m n x k ≡ Some y
    out k y h (inl e) = absurd (none_some y (sym none ∙ ap m0 e ∙ (is.same k y).0 h))
    out k y h (inr f) = with_other m n k x f ∙ sym (others k f) ∙ (is.same k y).0 h

    back : (k : Net) (y : X) → with_entry m n x k ≡ Some y → (n ≡ k) ⊎ (same_net n k ≡ false) → Same n x k y ⊎ Within ps k y
    back k y h (inl e) = inl (e, same_some x y (sym (with_same m n k x e) ∙ h))
    back k y h (inr f) = inr ((is.same k y).1 (others k f ∙ sym (with_other m n k x f) ∙ h))

nothing_by : {X : Type 0} (n : Net) (p : Net × X) (ps qs : List (Net × X)) (t : Bool) → same_net n p.0 ≡ t → (((p.0 ≡ n) × (p.1 ≡ p.1)) → ⊥) → qs ≡ ps → cond t ps (p ∷ qs) ≡ p ∷ ps
nothing_by n p ps qs true e never h = absurd (never (sym (same_back n p.0 e), refl))
nothing_by n p ps qs false e never h = ap (λ zs. p ∷ zs) h

-- Removing a prefix that a list doesn't have leaves it as it is.
pub nothing_removed : {X : Type 0} (ps : List (Net × X)) (n : Net) → ((y : X) → Within ps n y → ⊥) → removed ps n ≡ ps
unfolding Within removed
nothing_removed [] n none = refl
nothing_removed (p ∷ ps) n none = nothing_by n p ps (removed ps n) (same_net n p.0) refl (λ e. none p.1 (inl e)) (nothing_removed ps n (λ y h. none y (inr h)))
