-- What the calls of a filtered view leave.
use Rattle.std.proofs.Common.{◌≡◌, ◌≢◌, ℕ, zero, suc, ◌+◌, ◌<◌, ◌≤◌, ◌^◌, ◌-◌, ◌*◌, ◌∙◌, sym, ap, subst, refl}
use Rattle.std.proofs.Common.{arith, true, false, cond, List, [], ◌∷◌, Option, inl, inr}
use Rattle.std.specs.Prelude.{◌⊎◌, slice_get, slice_set, bit_and, Result, Ok, Err, IfOk}
use Rattle.std.specs.Result.{OnOk}
use Rattle.std.specs.Int.{bit_at}
use Rattle.trie_model.specs.Nets.{Net, covers}
use Rattle.trie_model.specs.Spots.{prefix_net}
use Rattle.trie_model.specs.Views.{ViewValue, IsView, HasAtBit, TookData, TookChild, IsChild, CanMove, Moved, data_net}
use Rattle.trie_model.specs.Views.{child_net, depth_at, level_of, net_of_bit, same_net}
use Rattle.trie_model.specs.Tries.{Cleared, Narrowed}
use Rattle.trie_model.proofs.Places.{bit_below, covers_len, covers_way, depth_le, not_true, same_data_net, elim-false}
use Rattle.trie_model.proofs.TrieLaws.{same_net_is, same_back, clear_old, clear_new}
use Rattle.trie_model.proofs.PlaceMoves.{narrowed, same_place}
use Rattle.trie_adapters.specs.FilterLaws.{net_bit_one, data_short, no_pair, no_bits}
use Rattle.trie_adapters.specs.Filtered.{accepted, IsKept, HasKept, filtered, KeepsItems, Filters}

-- ---- a getter of an item

-- Another place of a list keeps its item.
pub set_other : {A : Type 0} (xs : List A) (i b : ℕ) (y : A) → b ≢ i → slice_get (slice_set xs i y) b ≡ slice_get xs b
set_other [] i b y ne = refl
set_other (x ∷ xs) zero zero y ne = absurd (ne refl)
set_other (x ∷ xs) zero (suc b) y ne = refl
set_other (x ∷ xs) (suc i) zero y ne = refl
set_other (x ∷ xs) (suc i) (suc b) y ne = set_other xs i b y (λ e. ne (ap suc e))

-- The item that is kept for a bit is the item of the bit.
pub kept_data : {T X : Type 0} (item : T → X) (accepts : Net → X → Type 0) (w bits : ℕ) (kept : List (Option T)) (t : ViewValue X) (bit : ℕ) (x : T)
    → bit_at bits bit ≡ 1 → IsKept kept bit x → HasAtBit w bit (filtered item accepts w bits kept t) (item x)
kept_data item accepts w bits kept t bit x set here = inl (bit, (x, set, refl, here, refl))

-- Without a bit the others are kept.
pub keeps_others : {T X : Type 0} (w bits bits' : ℕ) (kept kept' : List (Option T)) (t : ViewValue X) (bit : ℕ) → KeepsItems w bits kept t
    → bits < 2 ^ 32 → Cleared bit bits bits' → ((b : ℕ) → b ≢ bit → slice_get kept' b ≡ slice_get kept b) → KeepsItems w bits' kept' t
keeps_others w bits bits' kept kept' t bit keeps fit clear same = record {
  fit = (let le = clear.less in let lt = keeps.fit in omega (arith, le, lt));
  short = λ b set. keeps.short b (clear_old bit bits bits' b clear fit set).0;
  inside = λ b set. keeps.inside b (clear_old bit bits bits' b clear fit set).0;
  some = λ b set. let old = clear_old bit bits bits' b clear fit set in let s = keeps.some b old.0 in (s.0, same b old.1 ∙ s.1);
  spent = keeps.spent;
}

-- What is left after the item of a bit was taken.
pub took_kept : {T X : Type 0} (item : T → X) (accepts : Net → X → Type 0) (w bits bits' : ℕ) (kept kept' : List (Option T)) (t : ViewValue X)
    (bit : ℕ) → IsView w t → KeepsItems w bits kept t → bits < 2 ^ 32 → bit_at bits bit ≡ 1 → Cleared bit bits bits'
    → ((b : ℕ) → b ≢ bit → slice_get kept' b ≡ slice_get kept b) → TookData w bit (filtered item accepts w bits kept t) (filtered item accepts w bits' kept' t)
took_kept {T} {X} item accepts w bits bits' kept kept' t bit ok keeps fit set clear same = record {
  place = refl;
  child_bits = refl;
  at = λ n x. (forth n x, (λ h. back n x h.0 h.1));
  frugal = λ f. f;
}
  where
    small : (b : ℕ) → bit_at bits b ≡ 1 → b < 31
    small b h = bit_below 31 bits b keeps.fit h

    forth : (n : Net) (x : X) → HasKept item w t.place bits' kept' n x ⊎ accepted accepts t n x
        → (HasKept item w t.place bits kept n x ⊎ accepted accepts t n x) × (same_net (data_net w t.place bit) n ≡ false)
    forth n x (inl k) =
        let old = clear_old bit bits bits' k.0 clear fit k.1.1 in (
          inl (k.0, (k.1.0, old.0, k.1.2, sym (same k.0 old.1) ∙ k.1.3, k.1.4)),
          not_true _ (λ is. old.1 (sym (net_bit_one w t.place bit k.0 (small bit set) (small k.0 old.0) (keeps.short bit set) (keeps.short k.0 old.0)
              (same_back _ n is ∙ sym k.1.2)))),
        )
    forth n x (inr h) = (inr h, not_true _ (λ is. no_pair w t ok keeps.spent bit x (small bit set) (subst (λ q. t.at q x) (sym (same_back _ n is)) h.0)))

    back : (n : Net) (x : X) → HasKept item w t.place bits kept n x ⊎ accepted accepts t n x → same_net (data_net w t.place bit) n ≡ false
        → HasKept item w t.place bits' kept' n x ⊎ accepted accepts t n x
    back n x (inl k) other =
        let ne : k.0 ≢ bit = λ e. elim-false (sym other ∙ same_net_is _ n (ap (data_net w t.place) (sym e) ∙ k.1.2)) in
        inl (k.0, (k.1.0, clear_new bit bits bits' k.0 clear fit k.1.1 ne, k.1.2, same k.0 ne ∙ k.1.3, k.1.4))
    back n x (inr h) other = inr h

-- ---- a getter of a child

-- A kept pair lies in no child.
pub kept_outside : {T X : Type 0} (item : T → X) (w bits : ℕ) (kept : List (Option T)) (place : Net) (n : Net) (x : X) (bit : ℕ)
    → HasKept item w place bits kept n x → covers w (child_net w place bit) n ≡ true → ⊥
kept_outside item w bits kept place n x bit k inside =
    let short = data_short w place k.0 in
    let len : (data_net w place k.0).len ≡ n.len = ap (λ q. q.len) k.1.2 in
    let long = covers_len w (child_net w place bit) n inside in
    omega (arith, short, len, long)

-- The child of a filtered view is the child, filtered.
pub filtered_child : {T X : Type 0} (item : T → X) (accepts : Net → X → Type 0) (w bits bit : ℕ) (kept : List (Option T)) (t c u : ViewValue X)
    → IsChild w bit t c → Filters accepts c u → IsChild w bit (filtered item accepts w bits kept t) u
filtered_child {T} {X} item accepts w bits bit kept t c u child filters = record {
  place = filters.place ∙ child.place;
  at = λ n x. (
    (λ h. let a = (filters.at n x).0 h in let b = (child.at n x).0 a.0 in (inr (b.0, a.1), b.1)),
    (λ h. (filters.at n x).1 (below n x h.0 h.1)),
  );
  frugal = λ f. absurd (elim-false f);
}
  where
    below : (n : Net) (x : X) → HasKept item w t.place bits kept n x ⊎ accepted accepts t n x → covers w (child_net w t.place bit) n ≡ true
        → accepted accepts c n x
    below n x (inl k) inside = absurd (kept_outside item w bits kept t.place n x bit k inside)
    below n x (inr h) inside = ((child.at n x).1 (h.0, inside), h.1)

-- The items are kept while children are taken out.
pub keeps_children : {T X : Type 0} (w bits bit : ℕ) (kept : List (Option T)) (t u : ViewValue X) → KeepsItems w bits kept t → TookChild w bit t u
    → KeepsItems w bits kept u
keeps_children w bits bit kept t u keeps took = record {
  fit = keeps.fit;
  short = λ b set. subst (λ p. depth_at p.len + level_of b ≤ w) (sym took.place) (keeps.short b set);
  inside = λ b set. subst (λ p. covers w p (data_net w p b) ≡ true) (sym took.place) (keeps.inside b set);
  some = keeps.some;
  spent = took.data_bits ∙ keeps.spent;
}

-- What is left after a child was taken.
pub took_filtered : {T X : Type 0} (item : T → X) (accepts : Net → X → Type 0) (w bits bit : ℕ) (kept : List (Option T)) (t u : ViewValue X)
    → TookChild w bit t u → TookChild w bit (filtered item accepts w bits kept t) (filtered item accepts w bits kept u)
took_filtered {T} {X} item accepts w bits bit kept t u took = record {
  place = took.place;
  data_bits = refl;
  others = took.others;
  gone = took.gone;
  at = λ n x. (forth n x, (λ h. back n x h.0 h.1));
  frugal = λ f. f;
}
  where
    forth : (n : Net) (x : X) → HasKept item w u.place bits kept n x ⊎ accepted accepts u n x
        → (HasKept item w t.place bits kept n x ⊎ accepted accepts t n x) × (covers w (child_net w t.place bit) n ≡ false)
    forth n x (inl k) = let l = subst (λ p. HasKept item w p bits kept n x) took.place k in
        (inl l, not_true _ (λ is. kept_outside item w bits kept t.place n x bit l is))
    forth n x (inr h) = let o = (took.at n x).0 h.0 in (inr (o.0, h.1), o.1)

    back : (n : Net) (x : X) → HasKept item w t.place bits kept n x ⊎ accepted accepts t n x → covers w (child_net w t.place bit) n ≡ false
        → HasKept item w u.place bits kept n x ⊎ accepted accepts u n x
    back n x (inl k) outside = inl (subst (λ p. HasKept item w p bits kept n x) (sym took.place) k)
    back n x (inr h) outside = inr ((took.at n x).1 (h.0, outside), h.1)

-- ---- another place

-- The prefixes of data bits are the same at another place of the node.
pub data_moved : {X : Type 0} (w : ℕ) (t : ViewValue X) (to : Net) (b : ℕ) → IsView w t → CanMove w t.place to → data_net w to b ≡ data_net w t.place b
data_moved w t to b ok can =
    same_data_net w b t.place to can.node (covers_way w (depth_at t.place.len) t.place to ok.place_ok.len_fits (depth_le t.place.len) can.within)

-- Data bits under the mask of a place are those inside the place.
pub bits_moved : {X : Type 0} (w bits mask : ℕ) (t : ViewValue X) (to : Net) → IsView w t → CanMove w t.place to → bits < 2 ^ 31
    → ((b : ℕ) → bit_at bits b ≡ 1 → depth_at t.place.len + level_of b ≤ w)
    → ((b : ℕ) → b < 31 → depth_at t.place.len + level_of b ≤ w
    → bit_at mask b ≡ cond (covers w (prefix_net w to.bits to.len) (net_of_bit w (depth_at t.place.len) to.bits b)) 1 0)
    → Narrowed bits (bit_and bits mask) (λ b. covers w to (data_net w t.place b))
bits_moved w bits mask t to ok can fit short is =
    let d : ℕ = depth_at t.place.len in
    let way = covers_way w d t.place to ok.place_ok.len_fits (depth_le t.place.len) can.within in
    narrowed bits mask (λ b. covers w to (data_net w t.place b)) (λ b set.
    let h : ℕ → Net = λ x. record { bits = x + (b + 1 - 2 ^ level_of b) * 2 ^ (w - (d + level_of b)); len = d + level_of b } in
    is b (bit_below 31 bits b fit set) (short b set)
    ∙ ap (λ p. cond (covers w p (net_of_bit w d to.bits b)) 1 0) (same_place w to can.fits)
    ∙ ap (λ x. cond (covers w to (h x)) 1 0) way)

-- A filtered view moves with its view, and its bits are narrowed.
pub filtered_moved : {T X : Type 0} (item : T → X) (accepts : Net → X → Type 0) (w bits bits' : ℕ) (kept : List (Option T)) (t u : ViewValue X)
    (to : Net) → IsView w t → CanMove w t.place to → Moved w to t u
    → Narrowed bits bits' (λ b. covers w to (data_net w t.place b)) → Moved w to (filtered item accepts w bits kept t) (filtered item accepts w bits' kept u)
filtered_moved {T} {X} item accepts w bits bits' kept t u to ok can moved narrow = record {
  place = moved.place;
  at = λ n x. (forth n x, (λ h. back n x h.0 h.1));
  frugal = λ f. f;
}
  where
    nets : (b : ℕ) → data_net w u.place b ≡ data_net w t.place b
    nets b = ap (λ p. data_net w p b) moved.place ∙ data_moved w t to b ok can

    forth : (n : Net) (x : X) → HasKept item w u.place bits' kept n x ⊎ accepted accepts u n x
        → (HasKept item w t.place bits kept n x ⊎ accepted accepts t n x) × (covers w to n ≡ true)
    forth n x (inl k) =
        let old = narrow.only k.0 k.1.1 in
        let net : data_net w t.place k.0 ≡ n = sym (nets k.0) ∙ k.1.2 in
        (inl (k.0, (k.1.0, old.0, net, k.1.3, k.1.4)), subst (λ q. covers w to q ≡ true) net old.1)
    forth n x (inr h) = let o = (moved.at n x).0 h.0 in (inr (o.0, h.1), o.1)

    back : (n : Net) (x : X) → HasKept item w t.place bits kept n x ⊎ accepted accepts t n x → covers w to n ≡ true
        → HasKept item w u.place bits' kept n x ⊎ accepted accepts u n x
    back n x (inl k) inside =
        let set = narrow.keep k.0 k.1.1 (subst (λ q. covers w to q ≡ true) (sym k.1.2) inside) in
        inl (k.0, (k.1.0, set, nets k.0 ∙ k.1.2, k.1.3, k.1.4))
    back n x (inr h) inside = inr ((moved.at n x).1 (h.0, inside), h.1)

-- The items are kept at another place of the node.
pub keeps_moved : {T X : Type 0} (w bits bits' : ℕ) (kept : List (Option T)) (t u : ViewValue X) (to : Net) → IsView w t → IsView w u
    → KeepsItems w bits kept t → CanMove w t.place to → Moved w to t u
    → Narrowed bits bits' (λ b. covers w to (data_net w t.place b)) → KeepsItems w bits' kept u
keeps_moved w bits bits' kept t u to ok ok' keeps can moved narrow =
    let nets : (b : ℕ) → data_net w u.place b ≡ data_net w t.place b = λ b. ap (λ p. data_net w p b) moved.place ∙ data_moved w t to b ok can in
    record {
      fit = (let le = narrow.less in let lt = keeps.fit in omega (arith, le, lt));
      short = λ b set. subst (λ d. d + level_of b ≤ w) (sym (ap (λ p. depth_at p.len) moved.place ∙ can.node)) (keeps.short b (narrow.only b set).0);
      inside = λ b set. subst (λ p. covers w p (data_net w u.place b) ≡ true) (sym moved.place)
          (subst (λ q. covers w to q ≡ true) (sym (nets b)) (narrow.only b set).1);
      some = λ b set. keeps.some b (narrow.only b set).0;
      spent = no_bits w u ok' (λ b x small h. no_pair w t ok keeps.spent b x small (subst (λ q. t.at q x) (nets b) ((moved.at _ x).0 h).0));
    }

-- ---- results

-- What follows from two facts of an Ok holds of it.
pub if_ok_both : {T E : Type 0} {P Q R : T → Type 0} (r : Result T E) → ((x : T) → P x → Q x → R x) → IfOk r P → IfOk r Q → IfOk r R
if_ok_both (Ok x) f h k = f x h k
if_ok_both (Err e) f h k = tt

-- What holds anyway holds on an Ok.
pub on_any_ok : {T E P : Type 0} (r : Result T E) → P → OnOk r P
on_any_ok (Ok x) h = h
on_any_ok (Err e) h = tt
