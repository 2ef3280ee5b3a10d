-- The items of a node are taken one after the other, and the accepted ones are kept.
use Rattle.std.proofs.Common.{◌≡◌, ◌≢◌, ℕ, zero, suc, ◌+◌, ◌<◌, ◌≤◌, ◌^◌, ◌*◌, ◌%◌, ◌∙◌, sym, ap, subst, refl, arith, Bool, true, false}
use Rattle.std.proofs.Common.{List, [], ◌∷◌, ◌++◌, length, Option, Some, None, inl, inr, length-append}
use Rattle.std.specs.Prelude.{◌⊎◌, slice_get, bit_or, is_some}
use Rattle.std.specs.Int.{bit_at}
use Rattle.std.specs.Borrow.{Bor}
use Rattle.std.proofs.lemmas.Nat.{or_lt, pow_below}
use Rattle.std.proofs.Math.Nat.{pow-le-pow_right}
use Rattle.trie_model.specs.Nets.{Net, covers}
use Rattle.trie_model.specs.Puts.{OneBit}
use Rattle.trie_model.specs.Views.{ViewValue, IsView, TookData, data_net, depth_at, level_of, same_net}
use Rattle.trie_model.proofs.FullLaws.{some_bit}
use Rattle.trie_model.proofs.MapLaws.{nets_or}
use Rattle.trie_model.proofs.NodeLaws.{same_some}
use Rattle.trie_model.proofs.Places.{bit_below, not_one, elim-false}
use Rattle.trie_model.proofs.RootLaws.{no_bit}
use Rattle.trie_model.proofs.SlotLaws.{less_or, one_bit}
use Rattle.trie_model.proofs.TrieLaws.{same_net_is}
use Rattle.trie_adapters.specs.Filtered.{AcceptsPair, AnswersByPair, accepted, IsKept, HasKept, filtered, Filters, KeepsItems, TakesAccepted, KeepsBelow}

-- ---- one bit of the view

-- After an item was taken its bit is gone.
pub bit_gone : {X : Type 0} (w bit : ℕ) (t u : ViewValue X) → IsView w u → TookData w bit t u → bit < 31 → bit_at u.data_bits bit ≡ 0
bit_gone w bit t u ok took small = not_one u.data_bits bit (λ set.
    let h = ok.told bit small set in
    let o = (took.at _ h.0).0 h.1 in
    elim-false (sym o.1 ∙ same_net_is _ _ (ap (λ p. data_net w p bit) (sym took.place))))

-- No bit is set by it.
pub bits_stay : {X : Type 0} (w bit : ℕ) (t u : ViewValue X) → IsView w t → IsView w u → TookData w bit t u → (b : ℕ) → bit_at t.data_bits b ≡ 0
    → bit_at u.data_bits b ≡ 0
bits_stay w bit t u ok ok' took b off = not_one u.data_bits b (λ set.
    let small = bit_below 31 u.data_bits b ok'.data_fit set in
    let h = ok'.told b small set in
    let o = (took.at _ h.0).0 h.1 in
    let on = ok.untold b h.0 small (subst (λ p. t.at (data_net w p b) h.0) took.place o.0) in
    omega (arith, on, off))

-- A bit that isn't set has nothing to take.
pub takes_nothing : {T X : Type 0} (item : T → X) (accepts : Net → X → Type 0) (w bit : ℕ) (t : ViewValue X) → bit_at t.data_bits bit ≡ 0
    → TakesAccepted item accepts w bit t t None
takes_nothing item accepts w bit t off = record {
  place = refl;
  gone = off;
  others = λ b h. h;
  at = λ n x. ((λ h. inr h), (λ h. from h));
  short = λ x e. absurd (let no : ⊥ = cc in no);
  inside = λ x e. absurd (let no : ⊥ = cc in no);
}
  where
    from : {A : Type 0} → ⊥ ⊎ A → A
    from (inl h) = absurd h
    from (inr h) = h

-- The item was taken, and the function accepts it.
pub takes_item : {T X : Type 0} (item : T → X) (accepts : Net → X → Type 0) (w bit : ℕ) (t u : ViewValue X) (x : T) → IsView w t → IsView w u
    → TookData w bit t u → bit < 31 → t.at (data_net w t.place bit) (item x)
    → accepts (data_net w t.place bit) (item x) → TakesAccepted item accepts w bit t u (Some x)
takes_item {T} {X} item accepts w bit t u x ok ok' took small here accepts_it = record {
  place = took.place;
  gone = bit_gone w bit t u ok' took small;
  others = bits_stay w bit t u ok ok' took;
  at = λ n y. ((λ h. forth n y h (nets_or (data_net w t.place bit) n)), back n y);
  short = λ y e. (ok.pairs _ _ here).0.len_fits;
  inside = λ y e. (ok.pairs _ _ here).1;
}
  where
    forth : (n : Net) (y : X) → accepted accepts t n y → (data_net w t.place bit ≡ n) ⊎ (same_net (data_net w t.place bit) n ≡ false)
        → ((data_net w t.place bit ≡ n) × (item x ≡ y)) ⊎ accepted accepts u n y
    forth n y h (inl e) = inl (e, ok.one n (item x) y (subst (λ q. t.at q (item x)) e here) h.0)
    forth n y h (inr f) = inr ((took.at n y).1 (h.0, f), h.1)

    back : (n : Net) (y : X) → ((data_net w t.place bit ≡ n) × (item x ≡ y)) ⊎ accepted accepts u n y → accepted accepts t n y
    back n y (inl e) = (
      subst (λ z. t.at n z) e.1 (subst (λ q. t.at q (item x)) e.0 here),
      subst (λ z. accepts n z) e.1 (subst (λ q. accepts q (item x)) e.0 accepts_it),
    )
    back n y (inr h) = (((took.at n y).0 h.0).0, h.1)

-- The item was taken, and the function doesn't accept it.
pub takes_none : {T X : Type 0} (item : T → X) (accepts : Net → X → Type 0) (w bit : ℕ) (t u : ViewValue X) (x : X) → IsView w t → IsView w u
    → TookData w bit t u → bit < 31 → t.at (data_net w t.place bit) x
    → (accepts (data_net w t.place bit) x → ⊥) → TakesAccepted item accepts w bit t u None
takes_none {T} {X} item accepts w bit t u x ok ok' took small here no_pass = record {
  place = took.place;
  gone = bit_gone w bit t u ok' took small;
  others = bits_stay w bit t u ok ok' took;
  at = λ n y. ((λ h. forth n y h (nets_or (data_net w t.place bit) n)), back n y);
  short = λ y e. absurd (let no : ⊥ = cc in no);
  inside = λ y e. absurd (let no : ⊥ = cc in no);
}
  where
    forth : (n : Net) (y : X) → accepted accepts t n y → (data_net w t.place bit ≡ n) ⊎ (same_net (data_net w t.place bit) n ≡ false)
        → ⊥ ⊎ accepted accepts u n y
    forth n y h (inl e) =
        let same : y ≡ x = ok.one n y x h.0 (subst (λ q. t.at q x) e here) in
        absurd (no_pass (subst (λ q. accepts q x) (sym e) (subst (λ z. accepts n z) same h.1)))
    forth n y h (inr f) = inr ((took.at n y).1 (h.0, f), h.1)

    back : (n : Net) (y : X) → ⊥ ⊎ accepted accepts u n y → accepted accepts t n y
    back n y (inl h) = absurd h
    back n y (inr h) = (((took.at n y).0 h.0).0, h.1)

-- What a function answers false of it doesn't accept.
pub rejects : {P T X : Type 0} (net : P → Net) (raw : P → ℕ) (item : T → X) (post : P → Bor T → Bool → Type 0) (p : P) (r : Bor T) (n : Net)
    → ((p q : P) → (net p).len ≡ (net q).len → raw p ≡ raw q → p ≡ q)
    → AnswersByPair item post → net p ≡ n → raw p ≡ (net p).bits → post p r false → AcceptsPair net raw item post n (item r.now) → ⊥
rejects {P} {T} {X} net raw item post p r n one answers is plain false_here passes =
    let same : passes.0 ≡ p = one passes.0 p (ap (λ q. q.len) (passes.1.1 ∙ sym is)) (passes.1.2 ∙ ap (λ q. q.bits) (sym is) ∙ sym plain) in
    elim-false (answers p r passes.1.0 false true (sym passes.1.3) false_here (subst (λ q. post q passes.1.0 true) same passes.1.4))

-- ---- the bits one after the other

kept_front : {A : Type 0} (xs : List A) (y z : A) (b : ℕ) → slice_get xs b ≡ Some z → slice_get (xs ++ y ∷ []) b ≡ Some z
kept_front [] y z b e = absurd (let none : None ≡ Some z = e in let no : ⊥ = cc in no)
kept_front (x ∷ xs) y z zero e = e
kept_front (x ∷ xs) y z (suc b) e = kept_front xs y z b e

kept_last : {A : Type 0} (xs : List A) (y : A) → slice_get (xs ++ y ∷ []) (length xs) ≡ Some y
kept_last [] y = refl
kept_last (x ∷ xs) y = kept_last xs y

kept_back : {A : Type 0} (xs : List A) (y z : A) (b : ℕ) → b < length xs → slice_get (xs ++ y ∷ []) b ≡ Some z → slice_get xs b ≡ Some z
kept_back [] y z b lt e = absurd (let no : ⊥ = omega (arith, lt) in no)
kept_back (x ∷ xs) y z zero lt e = e
kept_back (x ∷ xs) y z (suc b) lt e = kept_back xs y z b (omega (arith, lt)) e

-- At the start nothing was taken.
pub keeps_nothing : {T X : Type 0} (item : T → X) (accepts : Net → X → Type 0) (w : ℕ) (kept : List (Option T)) (t : ViewValue X) → kept ≡ []
    → KeepsBelow item accepts w 0 0 kept t t
keeps_nothing {T} {X} item accepts w kept t e = record {
  place = refl;
  low = omega arith;
  count = ap length e;
  fit = omega arith;
  below = λ b lt. absurd (let no : ⊥ = omega (arith, lt) in no);
  short = λ b set. absurd (no_bit 0 b refl set);
  inside = λ b set. absurd (no_bit 0 b refl set);
  some = λ b set. absurd (no_bit 0 b refl set);
  at = λ n x. ((λ h. inr h), from n x);
}
  where
    from : (n : Net) (x : X) → HasKept item w t.place 0 kept n x ⊎ accepted accepts t n x → accepted accepts t n x
    from n x (inl k) = absurd (no_bit 0 k.0 refl k.1.1)
    from n x (inr h) = h

-- Where some bit is left, it isn't one of those that were taken.
pub bit_left : {T X : Type 0} (item : T → X) (accepts : Net → X → Type 0) (w bit bits : ℕ) (kept : List (Option T)) (t u : ViewValue X) → IsView w u
    → KeepsBelow item accepts w bit bits kept t u → u.data_bits ≢ 0 → bit < 31
bit_left item accepts w bit bits kept t u ok so some =
    let b = some_bit u.data_bits 31 ok.data_fit (omega (arith, some)) in
    let small = bit_below 31 u.data_bits b.0 ok.data_fit b.1 in
    by b.0 small b.1 (less_or b.0 bit)
  where
    by : (b : ℕ) → b < 31 → bit_at u.data_bits b ≡ 1 → (b < bit) ⊎ (bit ≤ b) → bit < 31
    by b small set (inl lt) = absurd (let off = so.below b lt in let no : ⊥ = omega (arith, off, set) in no)
    by b small set (inr le) = omega (arith, small, le)

-- One bit more was taken, with nothing to keep.
pub keeps_next : {T X : Type 0} (item : T → X) (accepts : Net → X → Type 0) (w bit bits : ℕ) (kept kept' : List (Option T)) (t u v : ViewValue X)
    → KeepsBelow item accepts w bit bits kept t u → TakesAccepted item accepts w bit u v None
    → bit < 31 → kept' ≡ kept ++ None ∷ [] → KeepsBelow item accepts w (bit + 1) bits kept' t v
keeps_next {T} {X} item accepts w bit bits kept kept' t u v so takes small e = record {
  place = takes.place ∙ so.place;
  low = omega (arith, small);
  count = ap length e ∙ length-append kept (None ∷ []) ∙ ap (λ k. k + 1) so.count;
  fit = (let next : bit ≤ bit + 1 = omega arith in let more : 2 ^ bit ≤ 2 ^ (bit + 1) = pow-le-pow_right (omega arith) next in let lt = so.fit in
      omega (arith, more, lt));
  below = λ b lt. under b lt (less_or b bit);
  short = so.short;
  inside = so.inside;
  some = λ b set. let s = so.some b set in (s.0, subst (λ zs. IsKept zs b s.0) (sym e) (kept_front kept None (Some s.0) b s.1));
  at = λ n x. ((λ h. forth n x ((so.at n x).0 h)), (λ h. (so.at n x).1 (back n x h)));
}
  where
    under : (b : ℕ) → b < bit + 1 → (b < bit) ⊎ (bit ≤ b) → bit_at v.data_bits b ≡ 0
    under b lt (inl less) = takes.others b (so.below b less)
    under b lt (inr le) = let same : b ≡ bit = omega (arith, lt, le) in ap (bit_at v.data_bits) same ∙ takes.gone

    forth : (n : Net) (x : X) → HasKept item w t.place bits kept n x ⊎ accepted accepts u n x → HasKept item w t.place bits kept' n x ⊎ accepted accepts v n x
    forth n x (inl k) = inl (k.0, (k.1.0, k.1.1, k.1.2, subst (λ zs. IsKept zs k.0 k.1.0) (sym e) (kept_front kept None (Some k.1.0) k.0 k.1.3), k.1.4))
    forth n x (inr h) = by ((takes.at n x).0 h)
      where
        by : ⊥ ⊎ accepted accepts v n x → HasKept item w t.place bits kept' n x ⊎ accepted accepts v n x
        by (inl f) = absurd f
        by (inr g) = inr g

    back : (n : Net) (x : X) → HasKept item w t.place bits kept' n x ⊎ accepted accepts v n x → HasKept item w t.place bits kept n x ⊎ accepted accepts u n x
    back n x (inl k) =
        let lt = bit_below bit bits k.0 so.fit k.1.1 in
        inl (
          k.0,
          (
            k.1.0,
            k.1.1,
            k.1.2,
            kept_back kept None (Some k.1.0) k.0 (subst (λ z. k.0 < z) (sym so.count) lt)
                (subst (λ zs. IsKept zs k.0 k.1.0) e k.1.3),
            k.1.4,
          ),
        )
    back n x (inr h) = inr ((takes.at n x).1 (inr h))

-- One bit more was taken, and its item is kept.
pub keeps_more : {T X : Type 0} (item : T → X) (accepts : Net → X → Type 0) (w bit bits bits' : ℕ) (kept kept' : List (Option T))
    (t u v : ViewValue X) (x : T) → KeepsBelow item accepts w bit bits kept t u
    → TakesAccepted item accepts w bit u v (Some x) → bit < 31 → bits' ≡ bit_or bits (1 * 2 ^ bit % 4294967296) → kept' ≡ kept ++ Some x ∷ []
    → KeepsBelow item accepts w (bit + 1) bits' kept' t v
keeps_more {T} {X} item accepts w bit bits bits' kept kept' t u v x so takes small is e = record {
  place = takes.place ∙ so.place;
  low = omega (arith, small);
  count = ap length e ∙ length-append kept (Some x ∷ []) ∙ ap (λ k. k + 1) so.count;
  fit = room;
  below = λ b lt. under b lt (less_or b bit);
  short = λ b set. subst (λ p. depth_at p.len + level_of b ≤ w) so.place (shorter b set (less_or b bit));
  inside = λ b set. insider b set (less_or b bit);
  some = λ b set. has b set (less_or b bit);
  at = λ n y. ((λ h. forth n y ((so.at n y).0 h)), (λ h. (so.at n y).1 (back n y h)));
}
  where
    more : 2 ^ bit < 2 ^ (bit + 1)
    more = pow_below bit (bit + 1) (omega arith)

    wide : bits < 2 ^ 32
    wide = let low : bit ≤ 32 = omega (arith, small) in let le : 2 ^ bit ≤ 2 ^ 32 = pow-le-pow_right (omega arith) low in
        let lt = so.fit in omega (arith, le, lt)

    off : bit_at bits bit ≡ 0
    off = not_one bits bit (λ set. let lt = bit_below bit bits bit so.fit set in omega (arith, lt))

    one : OneBit bit bits bits'
    one = subst (OneBit bit bits) (sym is) (one_bit bit bits (omega (arith, small)) wide off)

    room : bits' < 2 ^ (bit + 1)
    room = subst (λ m. m < 2 ^ (bit + 1)) (sym is) (or_lt (bit + 1) bits (1 * 2 ^ bit % 4294967296) (let lt = so.fit in omega (arith, lt, more))
        (let lt = more in omega (arith, lt)))

    last : (b : ℕ) → bit_at bits' b ≡ 1 → bit ≤ b → b ≡ bit
    last b set le = let lt = bit_below (bit + 1) bits' b room set in omega (arith, lt, le)

    was_set : (b : ℕ) → bit_at bits' b ≡ 1 → b < bit → bit_at bits b ≡ 1
    was_set b set lt = sym (one.kept b (λ same. let no : ⊥ = omega (arith, lt, same) in no)) ∙ set

    under : (b : ℕ) → b < bit + 1 → (b < bit) ⊎ (bit ≤ b) → bit_at v.data_bits b ≡ 0
    under b lt (inl less) = takes.others b (so.below b less)
    under b lt (inr le) = let same : b ≡ bit = omega (arith, lt, le) in ap (bit_at v.data_bits) same ∙ takes.gone

    shorter : (b : ℕ) → bit_at bits' b ≡ 1 → (b < bit) ⊎ (bit ≤ b) → depth_at u.place.len + level_of b ≤ w
    shorter b set (inl lt) = subst (λ p. depth_at p.len + level_of b ≤ w) (sym so.place) (so.short b (was_set b set lt))
    shorter b set (inr le) = subst (λ c. depth_at u.place.len + level_of c ≤ w) (sym (last b set le)) (takes.short x refl)

    insider : (b : ℕ) → bit_at bits' b ≡ 1 → (b < bit) ⊎ (bit ≤ b) → covers w t.place (data_net w t.place b) ≡ true
    insider b set (inl lt) = so.inside b (was_set b set lt)
    insider b set (inr le) = subst (λ p. covers w p (data_net w p b) ≡ true) so.place
        (subst (λ c. covers w u.place (data_net w u.place c) ≡ true) (sym (last b set le)) (takes.inside x refl))

    here : IsKept kept' bit x
    here = subst (λ zs. IsKept zs bit x) (sym e) (subst (λ b. IsKept (kept ++ Some x ∷ []) b x) so.count (kept_last kept (Some x)))

    has : (b : ℕ) → bit_at bits' b ≡ 1 → (b < bit) ⊎ (bit ≤ b) → (y : T) × IsKept kept' b y
    has b set (inl lt) = let s = so.some b (was_set b set lt) in (s.0, subst (λ zs. IsKept zs b s.0) (sym e) (kept_front kept (Some x) (Some s.0) b s.1))
    has b set (inr le) = (x, subst (λ c. IsKept kept' c x) (sym (last b set le)) here)

    forth : (n : Net) (y : X) → HasKept item w t.place bits kept n y ⊎ accepted accepts u n y → HasKept item w t.place bits' kept' n y ⊎ accepted accepts v n y
    forth n y (inl k) =
        let lt = bit_below bit bits k.0 so.fit k.1.1 in
        let set = one.kept k.0 (λ same. let no : ⊥ = omega (arith, lt, same) in no) ∙ k.1.1 in
        inl (k.0, (k.1.0, set, k.1.2, subst (λ zs. IsKept zs k.0 k.1.0) (sym e) (kept_front kept (Some x) (Some k.1.0) k.0 k.1.3), k.1.4))
    forth n y (inr h) = by ((takes.at n y).0 h)
      where
        by : ((data_net w u.place bit ≡ n) × (item x ≡ y)) ⊎ accepted accepts v n y → HasKept item w t.place bits' kept' n y ⊎ accepted accepts v n y
        by (inl f) = inl (bit, (x, one.on, subst (λ p. data_net w p bit ≡ n) so.place f.0, here, f.1))
        by (inr g) = inr g

    split : (n : Net) (y : X) (k : HasKept item w t.place bits' kept' n y) → (k.0 < bit) ⊎ (bit ≤ k.0)
        → HasKept item w t.place bits kept n y ⊎ accepted accepts u n y
    split n y k (inl lt) =
        inl (
          k.0,
          (
            k.1.0,
            was_set k.0 k.1.1 lt,
            k.1.2,
            kept_back kept (Some x) (Some k.1.0) k.0 (subst (λ z. k.0 < z) (sym so.count) lt)
                (subst (λ zs. IsKept zs k.0 k.1.0) e k.1.3),
            k.1.4,
          ),
        )
    split n y k (inr le) =
        let at_bit = last k.0 k.1.1 le in
        let same : k.1.0 ≡ x = same_some k.1.0 x (same_some (Some k.1.0) (Some x) (sym (subst (λ b. IsKept kept' b k.1.0) at_bit k.1.3) ∙ here)) in
        inr ((takes.at n y).1 (inl (
          subst (λ p. data_net w p bit ≡ n) (sym so.place) (subst (λ b. data_net w t.place b ≡ n) at_bit k.1.2),
          ap item (sym same) ∙ k.1.4,
        )))

    back : (n : Net) (y : X) → HasKept item w t.place bits' kept' n y ⊎ accepted accepts v n y → HasKept item w t.place bits kept n y ⊎ accepted accepts u n y
    back n y (inl k) = split n y k (less_or k.0 bit)
    back n y (inr h) = inr ((takes.at n y).1 (inr h))

-- Where no bit is left, the items are kept.
pub all_kept : {T X : Type 0} (item : T → X) (accepts : Net → X → Type 0) (w bit bits : ℕ) (kept : List (Option T)) (t u : ViewValue X)
    → KeepsBelow item accepts w bit bits kept t u → u.data_bits ≡ 0 → KeepsItems w bits kept u
all_kept item accepts w bit bits kept t u so spent = record {
  fit = (let le : 2 ^ bit ≤ 2 ^ 31 = pow-le-pow_right (omega arith) so.low in let lt = so.fit in omega (arith, le, lt));
  short = λ b set. subst (λ p. depth_at p.len + level_of b ≤ w) (sym so.place) (so.short b set);
  inside = λ b set. subst (λ p. covers w p (data_net w p b) ≡ true) (sym so.place) (so.inside b set);
  some = so.some;
  spent = spent;
}

-- The view with its kept items has the accepted pairs.
pub all_filtered : {T X : Type 0} (item : T → X) (accepts : Net → X → Type 0) (w bit bits : ℕ) (kept : List (Option T)) (t u : ViewValue X)
    → KeepsBelow item accepts w bit bits kept t u → Filters accepts t (filtered item accepts w bits kept u)
all_filtered {T} {X} item accepts w bit bits kept t u so = record {
  place = so.place;
  at = λ n x. ((λ h. (so.at n x).1 (forth n x h)), (λ h. back n x ((so.at n x).0 h)));
}
  where
    forth : (n : Net) (x : X) → HasKept item w u.place bits kept n x ⊎ accepted accepts u n x → HasKept item w t.place bits kept n x ⊎ accepted accepts u n x
    forth n x (inl k) = inl (subst (λ p. HasKept item w p bits kept n x) so.place k)
    forth n x (inr h) = inr h

    back : (n : Net) (x : X) → HasKept item w t.place bits kept n x ⊎ accepted accepts u n x → HasKept item w u.place bits kept n x ⊎ accepted accepts u n x
    back n x (inl k) = inl (subst (λ p. HasKept item w p bits kept n x) (sym so.place) k)
    back n x (inr h) = inr h

-- What a function answers true of it accepts.
pub accepts_here : {P T X : Type 0} (net : P → Net) (raw : P → ℕ) (item : T → X) (post : P → Bor T → Bool → Type 0) (p : P) (r : Bor T) (b : Bool)
    (n : Net) → net p ≡ n → raw p ≡ (net p).bits → b ≡ true → post p r b → AcceptsPair net raw item post n (item r.now)
accepts_here net raw item post p r b n is plain e here = (p, (r, is, plain ∙ ap (λ q. q.bits) is, refl, subst (post p r) e here))

-- What a function answers false of it rejects.
pub rejects_here : {P T X : Type 0} (net : P → Net) (raw : P → ℕ) (item : T → X) (post : P → Bor T → Bool → Type 0) (p : P) (r : Bor T) (b : Bool)
    (n : Net) → ((p q : P) → (net p).len ≡ (net q).len → raw p ≡ raw q → p ≡ q)
    → AnswersByPair item post → net p ≡ n → raw p ≡ (net p).bits → b ≡ false → post p r b → AcceptsPair net raw item post n (item r.now) → ⊥
rejects_here net raw item post p r b n one answers is plain e here = rejects net raw item post p r n one answers is plain (subst (post p r) e here)

-- One bit more was taken.
pub keeps_by : {T X : Type 0} (item : T → X) (accepts : Net → X → Type 0) (w bit bits bits' : ℕ) (kept kept' : List (Option T)) (t u v : ViewValue X)
    (answer : Option T) (b : Bool) → KeepsBelow item accepts w bit bits kept t u
    → TakesAccepted item accepts w bit u v answer → bit < 31 → b ≡ is_some answer → (b ≡ true → bits' ≡ bit_or bits (1 * 2 ^ bit % 4294967296))
    → (b ≡ false → bits' ≡ bits) → kept' ≡ kept ++ answer ∷ []
    → KeepsBelow item accepts w (bit + 1) bits' kept' t v
keeps_by item accepts w bit bits bits' kept kept' t u v None b so takes small is on off e =
    subst (λ m. KeepsBelow item accepts w (bit + 1) m kept' t v) (sym (off is)) (keeps_next item accepts w bit bits kept kept' t u v so takes small e)
keeps_by item accepts w bit bits bits' kept kept' t u v (Some x) b so takes small is on off e =
    keeps_more item accepts w bit bits bits' kept kept' t u v x so takes small (on is) e
