-- What taking an item or a child out of a node does.
use Rattle.std.proofs.Common.{◌≡◌, ◌≢◌, ℕ, ◌+◌, ◌-◌, ◌^◌, ◌<◌, ◌≤◌, ◌∙◌, sym, ap, subst, refl, arith, List, length, Option, Some, None, inl, inr}
use Rattle.std.specs.Prelude.{slice_get, get_or, count_ones, ◌⊎◌}
use Rattle.std.specs.List.{remove}
use Rattle.std.proofs.Math.ListN.{set}
use Rattle.std.proofs.lemmas.List.{get_or-set_other, length-set}
use Rattle.std.specs.Int.{bit_at}
use Rattle.std.proofs.lemmas.Option.{slice_get_within, slice_get_read, get_or_from_slice_get}
use Rattle.std.proofs.lemmas.List.Edits.{length-remove, get_or-remove_below, get_or-remove_above}
use Rattle.trie_model.specs.Nets.{Net, IsNet}
use Rattle.trie_model.proofs.Places.{not_one, bit_below}
use Rattle.trie_model.specs.Spots.{bits_toward, data_bit_of}
use Rattle.trie_model.specs.Tries.{slot_of, NodeShape, Good}
use Rattle.trie_model.specs.Tries.{Cleared}
use Rattle.trie_model.proofs.NodeLaws.{slot-lt, same_some, good_here, good_child}
use Rattle.trie_model.proofs.TrieLaws.{kept_bit}
use Rattle.trie_model.specs.Puts.{TakenAt, HoldsAt, OneBit, PutAt, HasItem, Toward, Keeps, TakeIn}
use Rattle.trie_model.proofs.SlotLaws.{same_or, less_or, slots_low, ones_more, slots_high, slot_later, at_plus, put_over}
use Rattle.trie_model.proofs.PutLaws.{SameKids, SameItems, item_puts, kid_puts, kid_keeps, kid_was, none_was}
use Rattle.trie_model.proofs.PutNodes.{good_make, here_none, held_at}

-- ---- a bit and its item are taken away: the old ones are the new ones with this one put

rem_below : {X : Type 0} (xs : List X) (i k : ℕ) (x : X) → i < length xs → k < i → slice_get xs k ≡ Some x → slice_get (remove xs i) k ≡ Some x
rem_below xs i k x lt le h = let l = length-remove xs i lt in slice_get_read (remove xs i) (length (remove xs i)) k x refl (omega (arith, l, lt, le)) (sym (get_or-remove_below xs i x k le lt ∙ get_or_from_slice_get xs k x x h))

rem_above : {X : Type 0} (xs : List X) (i k : ℕ) (x : X) → i < length xs → i ≤ k → slice_get xs (k + 1) ≡ Some x → slice_get (remove xs i) k ≡ Some x
rem_above xs i k x lt le h = let l = length-remove xs i lt in let w = slice_get_within xs (k + 1) x h in
    slice_get_read (remove xs i) (length (remove xs i)) k x refl (omega (arith, l, w))
    (sym (get_or-remove_above xs i x k le lt ∙ get_or_from_slice_get xs (k + 1) x x h))

rem_below_back : {X : Type 0} (xs : List X) (i k : ℕ) (x : X) → i < length xs → k < i → slice_get (remove xs i) k ≡ Some x → slice_get xs k ≡ Some x
rem_below_back xs i k x lt le h = slice_get_read xs (length xs) k x refl (omega (arith, lt, le)) (sym (get_or_from_slice_get (remove xs i) k x x h) ∙ get_or-remove_below xs i x k le lt)

rem_above_back : {X : Type 0} (xs : List X) (i k : ℕ) (x : X) → i < length xs → i ≤ k → slice_get (remove xs i) k ≡ Some x → slice_get xs (k + 1) ≡ Some x
rem_above_back xs i k x lt le h = let l = length-remove xs i lt in let w = slice_get_within (remove xs i) k x h in
    slice_get_read xs (length xs) (k + 1) x refl (omega (arith, l, w))
    (sym (get_or_from_slice_get (remove xs i) k x x h) ∙ get_or-remove_above xs i x k le lt)

-- Removing at the slot of a set bit takes its element out.
pub take_old : {X : Type 0} (bit m m' : ℕ) (xs : List X) (y : X) → OneBit bit m' m → length xs ≡ count_ones m → HoldsAt m xs bit y → TakenAt bit y m xs m' (remove xs (slot_of m bit))
take_old {X} bit m m' xs y o len held = record {
  put = record {
    here = held;
    others = λ b x ne. (
      (λ h. (sym (o.kept b ne) ∙ h.0, out_by b x ne (less_or b bit) h.0 h.1)),
      (λ h. (o.kept b ne ∙ h.0, in_by b x ne (less_or b bit) h.0 h.1)),
    );
    len = len;
    bits = λ b h. bits_by b h (same_or b bit);
    items = λ j x h. items_by j x h (less_or j (slot_of m bit));
    fit = o.fit';
  };
  gone = o.off;
  len = (let l = length-remove xs (slot_of m bit) lt in let a = ones_more bit m' m o in omega (arith, l, a, len));
  fit = o.fit;
  bits = λ b h. kept_by b h (same_or b bit);
  items = λ j x h. left_by j x h (less_or j (slot_of m bit));
}
  where
    lt : slot_of m bit < length xs
    lt = let l = slot-lt m bit held.0 in omega (arith, l, len)

    kept_by : (b : ℕ) → bit_at m' b ≡ 1 → (b ≡ bit) ⊎ (b ≢ bit) → bit_at m b ≡ 1
    kept_by b h (inl e) = ap (bit_at m) e ∙ held.0
    kept_by b h (inr ne) = o.kept b ne ∙ h

    left_by : (j : ℕ) (x : X) → slice_get (remove xs (slot_of m bit)) j ≡ Some x → (j < slot_of m bit) ⊎ (slot_of m bit ≤ j) → (k : ℕ) × (slice_get xs k ≡ Some x)
    left_by j x h (inl l) = (j, rem_below_back xs (slot_of m bit) j x lt l h)
    left_by j x h (inr l) = (j + 1, rem_above_back xs (slot_of m bit) j x lt l h)

    out_by : (b : ℕ) (x : X) → b ≢ bit → (b < bit) ⊎ (bit ≤ b) → bit_at m b ≡ 1 → slice_get xs (slot_of m b) ≡ Some x → slice_get (remove xs (slot_of m bit)) (slot_of m' b) ≡ Some x
    out_by b x ne (inl l) set h =
        at_plus _ _ _ x (slots_low bit m' m b o (omega (arith, l))) (rem_below xs (slot_of m bit) (slot_of m b) x lt (slot_later m b bit l set) h)
    out_by b x ne (inr ge) set h =
        let l : bit < b = omega (arith, ge, ne) in
        let e : slot_of m b ≡ slot_of m' b + 1 = let s = slots_high bit m' m b o l in omega (arith, s) in
        let later = slot_later m bit b l held.0 in
        rem_above xs (slot_of m bit) (slot_of m' b) x lt (omega (arith, later, e)) (at_plus _ _ _ x e h)

    in_by : (b : ℕ) (x : X) → b ≢ bit → (b < bit) ⊎ (bit ≤ b) → bit_at m' b ≡ 1 → slice_get (remove xs (slot_of m bit)) (slot_of m' b) ≡ Some x → slice_get xs (slot_of m b) ≡ Some x
    in_by b x ne (inl l) set h =
        let e = slots_low bit m' m b o (omega (arith, l)) in
        let later = slot_later m b bit l (o.kept b ne ∙ set) in
        at_plus _ _ _ x (sym e) (rem_below_back xs (slot_of m bit) (slot_of m' b) x lt (omega (arith, later, e)) h)
    in_by b x ne (inr ge) set h =
        let l : bit < b = omega (arith, ge, ne) in
        let e : slot_of m' b + 1 ≡ slot_of m b = let s = slots_high bit m' m b o l in omega (arith, s) in
        let later = slot_later m bit b l held.0 in
        at_plus _ _ _ x e (rem_above_back xs (slot_of m bit) (slot_of m' b) x lt (omega (arith, later, e)) h)

    bits_by : (b : ℕ) → bit_at m b ≡ 1 → (b ≡ bit) ⊎ (b ≢ bit) → (b ≡ bit) ⊎ (bit_at m' b ≡ 1)
    bits_by b h (inl e) = inl e
    bits_by b h (inr ne) = inr (sym (o.kept b ne) ∙ h)

    items_at : (j : ℕ) (x : X) → slice_get xs j ≡ Some x → (slot_of m bit ≤ j) → (j ≡ slot_of m bit) ⊎ (j ≢ slot_of m bit) → (x ≡ y) ⊎ ((k : ℕ) × (slice_get (remove xs (slot_of m bit)) k ≡ Some x))
    items_at j x h ge (inl e) = inl (same_some x y (sym (at_plus _ _ _ x e h) ∙ held.1))
    items_at j x h ge (inr ne) =
        let e : j ≡ (j - 1) + 1 = omega (arith, ge, ne) in
        inr (j - 1, rem_above xs (slot_of m bit) (j - 1) x lt (omega (arith, ge, ne)) (at_plus _ _ _ x e h))

    items_by : (j : ℕ) (x : X) → slice_get xs j ≡ Some x → (j < slot_of m bit) ⊎ (slot_of m bit ≤ j) → (x ≡ y) ⊎ ((k : ℕ) × (slice_get (remove xs (slot_of m bit)) k ≡ Some x))
    items_by j x h (inl l) = inr (j, rem_below xs (slot_of m bit) j x lt l h)
    items_by j x h (inr ge) = items_at j x h ge (same_or j (slot_of m bit))

-- The same where list and place are known under other names.
pub take_old_at : {X : Type 0} (bit m m' i : ℕ) (xs zs : List X) (y : X) → OneBit bit m' m → length xs ≡ count_ones m → bit_at m bit ≡ 1 → zs ≡ remove xs i → i ≡ slot_of m bit → y ≡ get_or xs i y → TakenAt bit y m xs m' zs
take_old_at bit m m' i xs zs y o len on e f is = subst (λ ys. TakenAt bit y m xs m' ys) (sym (e ∙ ap (remove xs) f)) (take_old bit m m' xs y o len (held_at m bit i xs y on len f is))

-- The node keeps its form without the item.
pub item_good_back : {N X : Type 0} (f : NodeShape N X) (w d bit : ℕ) (y : X) (old new : N) → ((k : ℕ) → Good f w k d old) → TakenAt bit y
    (f.data_bits old) (f.items old) (f.data_bits new) (f.items new) → SameKids f old new → (k : ℕ) → Good f w k d new
item_good_back f w d bit y old new good t same =
    let here = good_here f w d old good in
    good_make f w d new (record {
      data_fit = let z = not_one (f.data_bits new) 31 (λ h. let l = bit_below 31 (f.data_bits old) 31 here.data_fit (t.bits 31 h) in let no : ⊥ = omega (arith, l) in no) in let fit = t.fit in omega arith;
      children_fit = subst (λ x. x < 2 ^ 32) (sym same.child_bits) here.children_fit;
      items = t.len;
      children = ap length same.children ∙ here.children ∙ ap count_ones (sym same.child_bits);
      short = λ b h. here.short b (t.bits b h);
      deep = λ b h. here.deep b (sym (ap (λ m. bit_at m b) same.child_bits) ∙ h);
    }) (λ i child h. good_child f w d old good i child (sym (ap (λ xs. slice_get xs i) same.children) ∙ h))

-- Or without a child.
pub kid_good_back : {N X : Type 0} (f : NodeShape N X) (w d c : ℕ) (kid old new : N) → ((k : ℕ) → Good f w k d old) → TakenAt c kid (f.child_bits old)
    (f.children old) (f.child_bits new) (f.children new) → SameItems f old new → (k : ℕ) → Good f w k d new
kid_good_back f w d c kid old new good t same =
    let here = good_here f w d old good in
    good_make f w d new (record {
      data_fit = subst (λ x. x < 2 ^ 31) (sym same.data_bits) here.data_fit;
      children_fit = t.fit;
      items = ap length same.items ∙ here.items ∙ ap count_ones (sym same.data_bits);
      children = t.len;
      short = λ b h. here.short b (sym (ap (λ m. bit_at m b) same.data_bits) ∙ h);
      deep = λ b h. here.deep b (t.bits b h);
    }) (λ i child h. let j = t.items i child h in good_child f w d old good j.0 child j.1)

-- The pairs without the item.
pub item_takes : {N X : Type 0} (f : NodeShape N X) (w d bit : ℕ) (net : Net) (y : X) (old new : N) → IsNet w net → d ≤ net.len → net.len < d + 5
    → bit ≡ data_bit_of w d net.bits net.len → TakenAt bit y (f.data_bits old) (f.items old) (f.data_bits new) (f.items new) → SameKids f old new
    → TakeIn f w d net old new (Some y)
item_takes f w d bit net y old new ok low high is t same =
    (item_puts f w d bit net y new old ok low high is t.put (record { child_bits = sym same.child_bits; children = sym same.children }), here_none f w d bit net new low high is t.gone)

-- A bitmap with a set bit cleared has one bit less.
pub clear_bit : (bit m m' : ℕ) → Cleared bit m m' → m < 2 ^ 32 → bit_at m bit ≡ 1 → OneBit bit m' m
clear_bit bit m m' c fit on = record {
  off = c.gone;
  on = on;
  kept = λ b ne. sym (kept_bit bit m m' b c fit ne);
  fit = let le = c.less in omega arith;
  fit' = fit;
}

-- Setting another element at a set bit can be undone.
pub put_over_back : {X : Type 0} (bit m i : ℕ) (xs zs : List X) (y x0 : X) → m < 2 ^ 32 → length xs ≡ count_ones m → HoldsAt m xs bit x0 → zs ≡ set xs i y → i ≡ slot_of m bit → PutAt bit x0 m zs m xs
put_over_back {X} bit m i xs zs y x0 fit len held e f =
    let over = put_over bit m i xs zs y fit held.0 len e f in
    record {
      here = held;
      others = λ b x ne. ((over.others b x ne).1, (over.others b x ne).0);
      len = len;
      bits = λ b h. inr h;
      items = λ j x h. items_by j x h (same_or j i);
      fit = fit;
    }
  where
    items_by : (j : ℕ) (x : X) → slice_get xs j ≡ Some x → (j ≡ i) ⊎ (j ≢ i) → (x ≡ x0) ⊎ ((k : ℕ) × (slice_get zs k ≡ Some x))
    items_by j x h (inl q) = inl (same_some x x0 (sym (at_plus xs j (slot_of m bit) x (q ∙ f) h) ∙ held.1))
    items_by j x h (inr ne) = inr (
      j,
      subst (λ ys. slice_get ys j ≡ Some x) (sym e)
          (slice_get_read (set xs i y) (length xs) j x (sym (length-set xs i y)) (slice_get_within xs j x h)
          (sym (get_or-set_other xs i j y x ne ∙ get_or_from_slice_get xs j x x h))),
    )

-- The child's removal is the node's.
pub kid_taken : {N X : Type 0} (f : NodeShape N X) (w d c : ℕ) (net : Net) (old new kid kid' : N) (r : Option X) → IsNet w net → d + 5 ≤ net.len → c
    ≡ bits_toward w d 5 net.bits → HoldsAt (f.child_bits old) (f.children old) c kid → PutAt c kid' (f.child_bits old) (f.children old)
    (f.child_bits new) (f.children new) → PutAt c kid (f.child_bits new) (f.children new) (f.child_bits old) (f.children old) → SameItems f old new
    → TakeIn f w (d + 5) net kid kid' r → TakeIn f w d net old new r
kid_taken f w d c net old new kid kid' None ok deep is held put back same h =
    (kid_keeps f w d c net old new kid kid' ok deep is put same (kid_was f w d c old kid held) h.0, λ x a. h.1 x ((kid_was f w d c old kid held net x deep (sym is)).0 a))
kid_taken f w d c net old new kid kid' (Some x) ok deep is held put back same h = (
  kid_puts f w d c net x new old kid' kid ok deep is back (record { data_bits = sym same.data_bits; items = sym same.items })
      (kid_was f w d c new kid' put.here) h.0,
  λ y a. h.1 y ((kid_was f w d c new kid' put.here net y deep (sym is)).0 a),
)

-- A child with nothing is dropped.
pub drop_keeps : {N X : Type 0} (f : NodeShape N X) (w d c : ℕ) (net : Net) (old new kid : N) → IsNet w net → d + 5 ≤ net.len → c ≡ bits_toward w d 5
    net.bits → TakenAt c kid (f.child_bits old) (f.children old) (f.child_bits new) (f.children new) → SameItems f old new → f.data_bits kid ≡ 0
    → f.child_bits kid ≡ 0 → Keeps {N = N} {X = X} f w d net old new
drop_keeps f w d c net old new kid ok deep is t same a b = λ n x to.
    let k = kid_keeps f w d c net new old kid kid ok deep is t.put (record { data_bits = sym same.data_bits; items = sym same.items }) (none_was f w d c new kid t.gone a b) (λ m y u. ((λ h. h), (λ h. h))) n x to in
    (k.1, k.0)

-- What is kept after an item was taken out keeps that it was taken out.
pub take_then : {N X : Type 0} (f : NodeShape N X) (w d : ℕ) (net : Net) (old mid new : N) (r : Option X) → Toward w d net net → TakeIn f w d net old mid r → Keeps {N = N} {X = X} f w d net mid new → TakeIn f w d net old new r
take_then f w d net old mid new None own h k =
    ((λ n x t. ((λ a. (h.0 n x t).0 ((k n x t).0 a)), (λ a. (k n x t).1 ((h.0 n x t).1 a)))), h.1)
take_then {N} {X} f w d net old mid new (Some y) own h k =
    ((λ n x t. ((λ a. out_by n x t ((h.0 n x t).0 a)), (λ a. (h.0 n x t).1 (in_by n x t a)))), λ z a. h.1 z ((k net z own).0 a))
  where
    out_by : (n : Net) (x : X) → Toward w d net n → (((n ≡ net) × (x ≡ y)) ⊎ ((n ≢ net) × HasItem f w d mid n x)) → (((n ≡ net) × (x ≡ y)) ⊎ ((n ≢ net) × HasItem f w d new n x))
    out_by n x t (inl e) = inl e
    out_by n x t (inr e) = inr (e.0, (k n x t).1 e.1)

    in_by : (n : Net) (x : X) → Toward w d net n → (((n ≡ net) × (x ≡ y)) ⊎ ((n ≢ net) × HasItem f w d new n x)) → (((n ≡ net) × (x ≡ y)) ⊎ ((n ≢ net) × HasItem f w d mid n x))
    in_by n x t (inl e) = inl e
    in_by n x t (inr e) = inr (e.0, (k n x t).0 e.1)

-- What is taken out is taken out also where the new bitmap and list are known under other names.
pub taken_in : {X : Type 0} (bit : ℕ) (y : X) (m0 m m' : ℕ) (xs0 xs xs' : List X) → m' ≡ m → xs' ≡ xs → TakenAt bit y m0 xs0 m xs → TakenAt bit y m0 xs0 m' xs'
taken_in bit y m0 m m' xs0 xs xs' e f h = subst (λ z. TakenAt bit y m0 xs0 z xs') (sym e) (subst (λ z. TakenAt bit y m0 xs0 m z) (sym f) h)

-- A node that has no item at a prefix is the node without it.
pub keeps_none : {N X : Type 0} (f : NodeShape N X) (w d : ℕ) (net : Net) (node : N) → ((x : X) → HasItem f w d node net x → ⊥) → TakeIn {N = N} {X = X} f w d net node node None
keeps_none f w d net node h = ((λ n x t. ((λ a. a), (λ a. a))), h)

-- A node without a child that has nothing keeps what it has on the way to it.
pub drop_keeps_at : {N X : Type 0} (f : NodeShape N X) (w d c : ℕ) (net : Net) (old new gone kid : N) → HoldsAt (f.child_bits old) (f.children old) c
    kid → IsNet w net → d + 5 ≤ net.len → c ≡ bits_toward w d 5 net.bits → TakenAt c gone (f.child_bits old) (f.children old) (f.child_bits new)
    (f.children new) → SameItems f old new → f.data_bits kid ≡ 0 → f.child_bits kid ≡ 0 → Keeps {N = N} {X = X} f w d net old new
drop_keeps_at f w d c net old new gone kid held ok deep is t same a b =
    let e : gone ≡ kid = same_some gone kid (sym t.put.here.1 ∙ held.1) in
    drop_keeps f w d c net old new gone ok deep is t same (ap f.data_bits e ∙ a) (ap f.child_bits e ∙ b)
