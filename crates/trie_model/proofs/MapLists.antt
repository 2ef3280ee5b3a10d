-- The list of a map: that it is one, what changes do to it, and the value of a prefix in it.
use Rattle.std.proofs.Common.{◌≡◌, ◌≢◌, ℕ, ◌+◌, ◌*◌, ◌/◌, ◌^◌, ◌<◌, ◌≤◌, ◌∙◌, sym, ap, subst, suc, zero, refl, arith, Bool, true, false, cond, List, [], ◌∷◌, ◌++◌, length, Option, Some, None, inl, inr, lt_of_not-le}
use Rattle.std.specs.Prelude.{◌⊎◌, ◌↔◌}
use Rattle.std.proofs.lemmas.Nat.{div-add-mod', mod_below, mul-add-lt}
use Rattle.std.proofs.Math.Nat.{mul_comm}
use Rattle.std.proofs.lemmas.Bool.{le-leb, eq-eqb}
use Rattle.trie_model.proofs.SlotLaws.{less_or}
use Rattle.trie_model.specs.Nets.{Net, IsNet, masked, covers}
use Rattle.trie_model.specs.Spots.{order_key, ltb}
use Rattle.trie_model.specs.Views.{same_net}
use Rattle.trie_model.specs.Walks.{Within, Ascends, IsListOf}
use Rattle.trie_model.specs.Maps.{with_entry, without_entry, no_entries, Entry, net_at, pair_if, pairs_under, pairs, value_at, removed, inserted}
use Rattle.trie_model.proofs.Places.{elim-false, both_hold, covers_len, covers_bits}
use Rattle.trie_model.proofs.SpotLaws.{lt-ltb, ltb-lt}
use Rattle.trie_model.proofs.TrieLaws.{same_net_is, same_back}
use Rattle.trie_model.proofs.NodeLaws.{same_some}
use Rattle.trie_model.proofs.WalkLaws.{either}
use Rattle.trie_model.proofs.MapLaws.{nets_or, by_somes}
use Rattle.trie_model.proofs.CountLaws.{order_apart, length_put, length_drop, with_other, without_other, without_same, none_some, list_without, list_with, nothing_removed}

-- ---- one list

-- Pairs with the same prefix and the same value are one.
pub pair_of : {X : Type 0} (p q : Net × X) → p.0 ≡ q.0 → p.1 ≡ q.1 → p ≡ q
pair_of p q e f = λ i. (e i, f i)

-- Two lists in order with the same pairs are one.
pub one_list : {X : Type 0} (w : ℕ) (ps qs : List (Net × X)) → Ascends w ps → Ascends w qs → ((n : Net) (x : X) → Within ps n x → Within qs n x) → ((n : Net) (x : X) → Within qs n x → Within ps n x) → ps ≡ qs
unfolding Within Ascends
one_list w [] [] up down to from = refl
one_list w [] (q ∷ qs) up down to from = absurd (from q.0 q.1 (inl (refl, refl)))
one_list w (p ∷ ps) [] up down to from = absurd (to p.0 p.1 (inl (refl, refl)))
one_list {X} w (p ∷ ps) (q ∷ qs) up down to from =
    let same : p ≡ q = heads (to p.0 p.1 (inl (refl, refl))) (from q.0 q.1 (inl (refl, refl))) in
    ap (λ z. z ∷ ps) same ∙ ap (λ zs. q ∷ zs) (one_list w ps qs up.1 down.1
    (λ n x h. either (λ z. absurd (let l = up.0 n x h in let e = ap (λ r. order_key w r.0) same in let g = ap (order_key w) z.0 in let no : ⊥ = omega (arith, l, e, g) in no)) (λ z. z) (to n x (inr h)))
    (λ n x h. either (λ z. absurd (let l = down.0 n x h in let e = ap (λ r. order_key w r.0) same in let g = ap (order_key w) z.0 in let no : ⊥ = omega (arith, l, e, g) in no)) (λ z. z) (from n x (inr h))))
  where
    heads : ((q.0 ≡ p.0) × (q.1 ≡ p.1)) ⊎ Within qs p.0 p.1 → ((p.0 ≡ q.0) × (p.1 ≡ q.1)) ⊎ Within ps q.0 q.1 → p ≡ q
    heads (inl e) b = pair_of p q (sym e.0) (sym e.1)
    heads (inr h) (inl e) = pair_of p q e.0 e.1
    heads (inr h) (inr k) = absurd (let a = down.0 p.0 p.1 h in let b = up.0 q.0 q.1 k in let no : ⊥ = omega (arith, a, b) in no)

-- A relation has one list in order.
pub unique : {X : Type 0} (w : ℕ) (at : Net → X → Type 0) (ps qs : List (Net × X)) → IsListOf w at ps → IsListOf w at qs → ps ≡ qs
unique w at ps qs a b = one_list w ps qs a.ascends b.ascends (λ n x h. (b.same n x).1 ((a.same n x).0 h)) (λ n x h. (a.same n x).1 ((b.same n x).0 h))

-- ---- the list of a map

rank_at_net : (w rank : ℕ) → order_key w (net_at w rank) ≡ rank
rank_at_net w rank = div-add-mod' rank (w + 1)

net_of_rank : (w : ℕ) (n : Net) → n.len ≤ w → net_at w (order_key w n) ≡ n
net_of_rank w n h = order_apart w (net_at w (order_key w n)) n (let l = mod_below (order_key w n) (w + 1) (let p : 0 < w + 1 = omega arith in p) in omega arith) h (rank_at_net w (order_key w n))

out_end : {X : Type 0} (ps : List (Net × X)) (k : Net) (o : Option X) (n : Net) (x : X) → Within (ps ++ pair_if k o) n x → Within ps n x ⊎ ((k ≡ n) × (o ≡ Some x))
unfolding Within
out_end [] k None n x h = absurd h
out_end [] k (Some y) n x h = either (λ e. inr (e.0, ap Some e.1)) (λ z. absurd z) h
out_end (p ∷ ps) k o n x h = either (λ e. inl (inl e)) (λ z. either (λ e. inl (inr e)) (λ e. inr e) (out_end ps k o n x z)) h

in_end : {X : Type 0} (ps : List (Net × X)) (k : Net) (o : Option X) (n : Net) (x : X) → Within ps n x ⊎ ((k ≡ n) × (o ≡ Some x)) → Within (ps ++ pair_if k o) n x
unfolding Within
in_end [] k None n x h = either (λ z. absurd z) (λ e. absurd (none_some x e.1)) h
in_end [] k (Some y) n x h = either (λ z. absurd z) (λ e. inl (e.0, same_some y x e.1)) h
in_end (p ∷ ps) k o n x h = either (λ z. either (λ e. inl e) (λ e. inr (in_end ps k o n x (inl e))) z) (λ e. inr (in_end ps k o n x (inr e))) h

ascends_end : {X : Type 0} (w : ℕ) (ps : List (Net × X)) (k : Net) (o : Option X) → Ascends w ps → ((n : Net) (x : X) → Within ps n x → order_key w n < order_key w k) → Ascends w (ps ++ pair_if k o)
unfolding Within Ascends
ascends_end w [] k None up below = tt
ascends_end w [] k (Some y) up below = ((λ n x h. absurd h), tt)
ascends_end w (p ∷ ps) k o up below = (
  (λ n x h. either (λ z. up.0 n x z) (λ e. subst (λ z. order_key w p.0 < order_key w z) e.0 (below p.0 p.1 (inl (refl, refl)))) (out_end ps k o n x h)),
  ascends_end w ps k o up.1 (λ n x h. below n x (inr h)),
)

-- Each pair under a rank is an entry of the map, and its key is below the rank.
pub pairs_are : {X : Type 0} (w : ℕ) (m : Net → Option X) (rank : ℕ) (n : Net) (x : X) → Within (pairs_under w m rank) n x → (m n ≡ Some x) × (order_key w n < rank)
unfolding Within pairs_under
pairs_are w m zero n x h = absurd h
pairs_are w m (suc rank) n x h =
    let r = rank_at_net w rank in
    either (λ z. let a = pairs_are w m rank n x z in (a.0, (let l = a.1 in omega arith)))
    (λ e. (subst (λ k. m k ≡ Some x) e.0 e.1, (let g = ap (order_key w) e.0 in omega (arith, g, r))))
    (out_end (pairs_under w m rank) (net_at w rank) (m (net_at w rank)) n x h)

less_or_same : (a b : ℕ) → a < suc b → (a ≡ b) ⊎ (a < b)
less_or_same a b h = by (ltb a b) refl
  where
    by : (t : Bool) → ltb a b ≡ t → (a ≡ b) ⊎ (a < b)
    by true e = inr (ltb-lt a b e)
    by false e = inl (let ge : b < a + 1 = lt_of_not-le (λ le. elim-false (sym e ∙ lt-ltb a b (let l : a < b = omega arith in l))) in omega (arith, ge, h))

-- Each entry of the map whose key is below a rank is a pair under it.
pub are_pairs : {X : Type 0} (w : ℕ) (m : Net → Option X) (rank : ℕ) (n : Net) (x : X) → n.len ≤ w → m n ≡ Some x → order_key w n < rank → Within (pairs_under w m rank) n x
unfolding Within pairs_under
are_pairs w m zero n x fits is lt = absurd (let no : ⊥ = omega arith in no)
are_pairs w m (suc rank) n x fits is lt = in_end (pairs_under w m rank) (net_at w rank) (m (net_at w rank)) n x (either
    (λ e. let k : net_at w rank ≡ n = ap (net_at w) (sym e) ∙ net_of_rank w n fits in inr (k, ap m k ∙ is))
    (λ l. inl (are_pairs w m rank n x fits is l))
    (less_or_same (order_key w n) rank lt))

pairs_ascend : {X : Type 0} (w : ℕ) (m : Net → Option X) (rank : ℕ) → Ascends w (pairs_under w m rank)
unfolding Ascends pairs_under
pairs_ascend w m zero = tt
pairs_ascend w m (suc rank) = ascends_end w (pairs_under w m rank) (net_at w rank) (m (net_at w rank)) (pairs_ascend w m rank) (λ n x h. let l = (pairs_are w m rank n x h).1 in let r = rank_at_net w rank in omega (arith, l, r))

rank_below : (w : ℕ) (n : Net) → IsNet w n → order_key w n < 2 ^ w * (w + 1)
rank_below w n ok = subst (λ x. order_key w n < x) (mul_comm (w + 1) (2 ^ w)) (mul-add-lt n.bits (w + 1) n.len (2 ^ w) ok.bits_fit (let l = ok.len_fits in omega arith))

-- Every entry is one of a prefix of this width.
abbrev pub OfWidth : {X : Type 0} → ℕ → (Net → Option X) → Type 0
OfWidth {X} w m = (n : Net) (x : X) → m n ≡ Some x → IsNet w n

-- The pairs of a map are the list of its entries in order.
pub list_of_map : {X : Type 0} (w : ℕ) (m : Net → Option X) → OfWidth w m → IsListOf w (Entry m) (pairs w m)
unfolding pairs
list_of_map w m nets = record {
  ascends = pairs_ascend w m (2 ^ w * (w + 1));
  same = λ n x. ((λ h. (pairs_are w m _ n x h).0), (λ h. are_pairs w m _ n x (nets n x h).len_fits h (rank_below w n (nets n x h))));
}

-- ---- changes

-- The map with no entry has no pairs.
pub pairs_none : {X : Type 0} (w : ℕ) (m : Net → Option X) → m ≡ no_entries → pairs w m ≡ []
unfolding Within Ascends
pairs_none {X} w m e = unique w (Entry m) (pairs w m) [] (list_of_map w m (λ n x h. absurd (none n x h))) (record { ascends = tt; same = λ n x. ((λ h. absurd h), (λ h. none n x h)) })
  where
    none : (n : Net) (x : X) → m n ≡ Some x → ⊥
    none n x h = none_some x (sym (ap (λ f. f n) e) ∙ h)

-- The pairs without a prefix are the list of the map without it.
pub removed_list : {X : Type 0} (w : ℕ) (m : Net → Option X) (n : Net) → OfWidth w m → IsListOf w (Entry (without_entry m n)) (removed (pairs w m) n)
removed_list w m n nets = list_without w m n (pairs w m) (list_of_map w m nets)

without_width : {X : Type 0} (w : ℕ) (m : Net → Option X) (n : Net) → OfWidth w m → OfWidth w (without_entry m n)
without_width {X} w m n nets k y h = by (nets_or n k)
  where
    by : (n ≡ k) ⊎ (same_net n k ≡ false) → IsNet w k
    by (inl e) = absurd (none_some y (sym (without_same m n k e) ∙ h))
    by (inr f) = nets k y (sym (without_other m n k f) ∙ h)

with_width : {X : Type 0} (w : ℕ) (m : Net → Option X) (n : Net) (x : X) → IsNet w n → OfWidth w m → OfWidth w (with_entry m n x)
with_width {X} w m n x ok nets k y h = by (nets_or n k)
  where
    by : (n ≡ k) ⊎ (same_net n k ≡ false) → IsNet w k
    by (inl e) = subst (IsNet w) e ok
    by (inr f) = nets k y (sym (with_other m n k x f) ∙ h)

-- The pairs of a map without a prefix are its pairs with that prefix removed.
pub pairs_without : {X : Type 0} (w : ℕ) (m : Net → Option X) (n : Net) → OfWidth w m → pairs w (without_entry m n) ≡ removed (pairs w m) n
pairs_without w m n nets = unique w _ _ _ (list_of_map w (without_entry m n) (without_width w m n nets)) (removed_list w m n nets)

-- The pairs of a map with a value for a prefix are its pairs with that value inserted.
pub pairs_with : {X : Type 0} (w : ℕ) (m : Net → Option X) (n : Net) (x : X) → IsNet w n → OfWidth w m → pairs w (with_entry m n x) ≡ inserted w (pairs w m) n x
pairs_with w m n x ok nets = unique w _ _ _ (list_of_map w (with_entry m n x) (with_width w m n x ok nets))
    (list_with w m (without_entry m n) n x (removed (pairs w m) n) ok.len_fits (λ k y h. (without_width w m n nets k y h).len_fits) (λ k f. without_other m n k f) (without_same m n n refl) (removed_list w m n nets))

-- ---- the value in the list

value_by : {X : Type 0} (n : Net) (p : Net × X) (o : Option X) (x : X) (t : Bool) → same_net n p.0 ≡ t → (o ≡ Some x → Within [] n x ⊎ (o ≡ Some x)) → cond t (Some p.1) o ≡ Some x → ((p.0 ≡ n) × (p.1 ≡ x)) ⊎ (o ≡ Some x)
value_by n p o x true e k h = inl (sym (same_back n p.0 e), same_some p.1 x h)
value_by n p o x false e k h = inr h

-- The value of a prefix in a list is in a pair of it.
pub value_within : {X : Type 0} (ps : List (Net × X)) (n : Net) (x : X) → value_at ps n ≡ Some x → Within ps n x
unfolding value_at Within
value_within [] n x h = absurd (none_some x h)
value_within (p ∷ ps) n x h = either (λ e. inl e) (λ e. inr (value_within ps n x e)) (value_by n p (value_at ps n) x (same_net n p.0) refl (λ e. inr e) h)

later_none : {X : Type 0} (w : ℕ) (p : Net × X) (ps : List (Net × X)) (n : Net) (x : X) → Ascends w (p ∷ ps) → Within ps n x → same_net n p.0 ≡ false
unfolding Ascends
later_none w p ps n x up h = by (nets_or n p.0)
  where
    by : (n ≡ p.0) ⊎ (same_net n p.0 ≡ false) → same_net n p.0 ≡ false
    by (inl e) = absurd (let l = up.0 n x h in let g = ap (order_key w) e in let no : ⊥ = omega (arith, l, g) in no)
    by (inr f) = f

-- In an ascending list the value of a prefix is that of its pair.
pub within_value : {X : Type 0} (w : ℕ) (ps : List (Net × X)) (n : Net) (x : X) → Ascends w ps → Within ps n x → value_at ps n ≡ Some x
unfolding value_at Within Ascends
within_value w [] n x up h = absurd h
within_value w (p ∷ ps) n x up h = either
    (λ e. ap (λ t. cond t (Some p.1) (value_at ps n)) (same_net_is n p.0 (sym e.0)) ∙ ap Some e.1)
    (λ z. ap (λ t. cond t (Some p.1) (value_at ps n)) (later_none w p ps n x up z) ∙ within_value w ps n x up.1 z) h

-- The list tells the map.
pub value_of_map : {X : Type 0} (w : ℕ) (m : Net → Option X) (n : Net) → OfWidth w m → value_at (pairs w m) n ≡ m n
value_of_map w m n nets = let is = list_of_map w m nets in
    by_somes _ _ (λ x h. (is.same n x).0 (value_within (pairs w m) n x h)) (λ x h. within_value w (pairs w m) n x is.ascends ((is.same n x).1 h))

-- ---- lengths

-- A map with a value for a new prefix has one pair more.
pub length_with : {X : Type 0} (w : ℕ) (m : Net → Option X) (n : Net) (x : X) → IsNet w n → OfWidth w m → m n ≡ None → length (pairs w (with_entry m n x)) ≡ length (pairs w m) + 1
length_with w m n x ok nets none =
    ap length (pairs_with w m n x ok nets) ∙ length_put w n x (removed (pairs w m) n)
    ∙ (let e = ap length (nothing_removed (pairs w m) n (λ y h. none_some y (sym none ∙ ((list_of_map w m nets).same n y).0 h))) in omega (arith, e))

-- A map with another value for a prefix that it has has as many pairs.
pub length_over : {X : Type 0} (w : ℕ) (m : Net → Option X) (n : Net) (x y : X) → IsNet w n → OfWidth w m → m n ≡ Some y → length (pairs w (with_entry m n x)) ≡ length (pairs w m)
length_over w m n x y ok nets is =
    ap length (pairs_with w m n x ok nets) ∙ length_put w n x (removed (pairs w m) n) ∙ length_drop n (pairs w m) y (((list_of_map w m nets).same n y).1 is)

-- A map without a prefix that it had has one pair less.
pub length_without : {X : Type 0} (w : ℕ) (m : Net → Option X) (n : Net) (y : X) → OfWidth w m → m n ≡ Some y → suc (length (pairs w (without_entry m n))) ≡ length (pairs w m)
length_without w m n y nets is = ap (λ ps. suc (length ps)) (pairs_without w m n nets) ∙ length_drop n (pairs w m) y (((list_of_map w m nets).same n y).1 is)

-- ---- laws of prefixes

lower_bits : (w : ℕ) (a b : Net) → a.len ≤ w → a.bits < b.bits → order_key w a < order_key w b
lower_bits w a b h lt = mul-add-lt-lower a.bits (w + 1) a.len b.bits lt (omega arith) b.len
  where
    mul-add-lt-lower : (x u r y : ℕ) → x < y → r < u → (s : ℕ) → x * u + r < y * u + s
    mul-add-lt-lower x u r y lt' small s = let m = mul-add-lt x u r y lt' small in let e = mul_comm u y in omega (arith, m, e)

-- Keys are in the order of bits and then of lengths.
pub order_is : (w : ℕ) (a b : Net) → a.len ≤ w → b.len ≤ w → (order_key w a < order_key w b) ↔ ((a.bits < b.bits) ⊎ ((a.bits ≡ b.bits) × (a.len < b.len)))
order_is w a b ha hb = (out_by (less_or a.bits b.bits), λ h. either (λ lt. lower_bits w a b ha lt) (λ s. let e : a.bits * (w + 1) ≡ b.bits * (w + 1) = ap (λ x. x * (w + 1)) s.0 in let l = s.1 in omega arith) h)
  where
    same_bits : a.bits ≡ b.bits → order_key w a < order_key w b → (a.bits ≡ b.bits) × (a.len < b.len)
    same_bits e lt = let g : a.bits * (w + 1) ≡ b.bits * (w + 1) = ap (λ x. x * (w + 1)) e in (e, omega (arith, g, lt))

    out_by : (a.bits < b.bits) ⊎ (b.bits ≤ a.bits) → order_key w a < order_key w b → (a.bits < b.bits) ⊎ ((a.bits ≡ b.bits) × (a.len < b.len))
    out_by (inl l) lt = inl l
    out_by (inr le) lt = inr (by (less_or b.bits a.bits))
      where
        by : (b.bits < a.bits) ⊎ (a.bits ≤ b.bits) → (a.bits ≡ b.bits) × (a.len < b.len)
        by (inl far) = absurd (let k = lower_bits w b a hb far in let no : ⊥ = omega (arith, k, lt) in no)
        by (inr ge) = same_bits (let e : a.bits ≡ b.bits = omega (arith, le, ge) in e) lt

-- A prefix without host bits contains itself.
pub covers_same : (w : ℕ) (a : Net) → masked w a.bits a.len ≡ a.bits → covers w a a ≡ true
covers_same w a e = both_hold _ _ (le-leb a.len a.len (omega arith)) (eq-eqb _ _ e)

-- Two prefixes without host bits that contain each other are one.
pub covers_both : (w : ℕ) (a b : Net) → masked w b.bits b.len ≡ b.bits → covers w a b ≡ true → covers w b a ≡ true → a ≡ b
covers_both w a b e p q =
    let x = covers_len w a b p in
    let y = covers_len w b a q in
    let len : a.len ≡ b.len = omega arith in
    let bits : a.bits ≡ b.bits = sym (covers_bits w a b p) ∙ ap (masked w b.bits) len ∙ e in
    λ i. record { bits = bits i; len = len i }
