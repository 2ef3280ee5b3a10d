-- The map of what is awaited, and the list that it stands for.
use Rattle.std.proofs.Common.{◌≡◌, ◌≢◌, ◌+◌, ◌<◌, ◌≤◌, ◌==◌, ◌++◌, ◌↔◌, ℕ, true, false, not, cond, List, [], ◌∷◌, length, take, Option, Some, None, IsSome, IfSome, refl, sym, ◌∙◌, subst, ap, arith, length-append}
use Rattle.std.proofs.lemmas.List.{length-map, map-append, take-append-le, take_all}
use Rattle.std.specs.List.{AllByRecursion}
use Rattle.std.specs.List.Sorted.{IsStrictlySortedBy}
use Rattle.std.specs.declared.cmp.Ordering.TheVariants.{Less, Greater}
use Rattle.std.specs.Ordering.{nat_cmp, is_eq}
use Rattle.std.specs.BTreeMap.{insert_entry, is_at}
use Rattle.std.specs.Map.{keys_of, lookup, remove_entry}
use Rattle.std.proofs.lemmas.Bool.Decides.{nat_tests}
use Rattle.std.proofs.lemmas.Map.Keys.{sorted_head, sorted_tail}
use Rattle.session_model.specs.declared.awaited.Awaited.{Awaited}
use Rattle.session_model.specs.Awaited.{first_awaiting}
use Rattle.proto_core.specs.declared.pending.Pending.{Pending}
use Rattle.proto_core.specs.Numbers.{IsAscending, without}
use Rattle.proto_core.specs.Pending.{awaited_of, listed}

below_from_less : (a b : ℕ) → nat_cmp a b ≡ Less → a < b
below_from_less a b h = grind (arith, nat_tests)

greater_from_below : (a b : ℕ) → b < a → nat_cmp a b ≡ Greater
greater_from_below a b h = grind (arith, nat_tests)

is_eq-nat_cmp : (a b : ℕ) → is_eq (nat_cmp a b) ≡ (b == a)
is_eq-nat_cmp a b = grind (arith, nat_tests)

-- A number above another is not that number.
pub apart_from_below : (a b : ℕ) → a < b → (b == a) ≡ false
apart_from_below a b h = grind (arith, nat_tests)

-- Numbers that pass the test are equal.
pub same_number : (a b : ℕ) → (a == b) ≡ true → a ≡ b
same_number a b h = grind (arith, nat_tests)

module _ {M : Type 0} where
  -- Numbers above one aren't that one.
  pub without-above : (n : ℕ) (ws : List (Awaited M)) → AllByRecursion (λ (w : Awaited M). n < w.number) ws → without n ws ≡ ws
  without-above n [] h = refl
  without-above n (w ∷ ws) h =
      let apart : (w.number == n) ≡ false = apart_from_below n w.number h.0 in
      rw apart (ap (λ vs. w ∷ vs) (without-above n ws h.1))

  -- Nothing is found under a number that all others are above.
  pub none_above : (n p : ℕ) (ws : List (Awaited M)) → AllByRecursion (λ (w : Awaited M). n < w.number) ws → first_awaiting n p ws ≡ None
  none_above n p [] h = refl
  none_above n p (w ∷ ws) h =
      let apart : (w.number == n) ≡ false = apart_from_below n w.number h.0 in
      rw apart (none_above n p ws h.1)

  above_first : (k : ℕ) (es : List (ℕ × Pending M)) → AllByRecursion (λ y. nat_cmp k y ≡ Less) (keys_of es) → AllByRecursion (λ (w : Awaited M). k < w.number) (listed es)
  above_first k [] h = tt
  above_first k (e ∷ es) h = (below_from_less k e.0 h.0, above_first k es h.1)

  -- The keys of a map ascend.
  pub ascending : (es : List (ℕ × Pending M)) → IsStrictlySortedBy nat_cmp (keys_of es) → IsAscending (listed es)
  ascending [] h = tt
  ascending (e ∷ es) h = (above_first e.0 es (sorted_head nat_cmp e.0 (keys_of es) h), ascending es (sorted_tail nat_cmp e.0 (keys_of es) h))

  -- A key above all goes to the end.
  pub listed-insert_entry : (es : List (ℕ × Pending M)) (k : ℕ) (v : Pending M) → AllByRecursion (λ (w : Awaited M). w.number < k) (listed es)
      → listed (insert_entry nat_cmp es k v) ≡ listed es ++ awaited_of (k, v) ∷ []
  listed-insert_entry [] k v h = refl
  listed-insert_entry (e ∷ es) k v h = rw (greater_from_below k e.0 h.0) (ap (λ ws. awaited_of e ∷ ws) (listed-insert_entry es k v h.1))

  -- A removal takes out all that a number awaits.
  pub listed-remove_entry : (es : List (ℕ × Pending M)) (k : ℕ) → IsAscending (listed es) → listed (remove_entry (is_at (nat_cmp k)) es) ≡ without k (listed es)
  listed-remove_entry [] k h = refl
  listed-remove_entry (e ∷ es) k h =
      rw (is_eq-nat_cmp k e.0) (elim (e.0 == k) as (λ b. (e.0 == k) ≡ b
      → listed (cond b es (e ∷ remove_entry (is_at (nat_cmp k)) es)) ≡ cond (not b) (awaited_of e ∷ without k (listed es)) (without k (listed es))) [
        | true ↦ λ is. sym (subst (λ m. without m (listed es) ≡ listed es) (same_number e.0 k is) (without-above e.0 (listed es) h.0))
        | false ↦ λ is. ap (λ ws. awaited_of e ∷ ws) (listed-remove_entry es k h.1)
      ] refl)

  -- What a look-up by number finds, if it came to the port.
  abbrev pub found : ℕ → Option (Pending M) → ℕ → Option (Awaited M)
  found n None p = None
  found n (Some v) p = cond (v.port == p) (Some (awaited_of (n, v))) None

  -- The look-up by number, and then the test of the port.
  pub first_awaiting-listed : (es : List (ℕ × Pending M)) (n p : ℕ) → IsAscending (listed es) → first_awaiting n p (listed es) ≡ found n (lookup (is_at (nat_cmp n)) es) p
  first_awaiting-listed [] n p h = refl
  first_awaiting-listed (e ∷ es) n p h =
      rw (is_eq-nat_cmp n e.0) (elim (e.0 == n) as (λ b. (e.0 == n) ≡ b
      → first_awaiting n p (awaited_of e ∷ listed es) ≡ found n (cond b (Some e.1) (lookup (is_at (nat_cmp n)) es)) p) [
        | true ↦ λ is.
            let none : first_awaiting n p (listed es) ≡ None = subst (λ m. first_awaiting m p (listed es) ≡ None) (same_number e.0 n is) (none_above e.0 p (listed es) h.0) in
            rw (is, none) (elim (e.1.port == p) as (λ b. cond b (Some (awaited_of e)) None ≡ cond b (Some (awaited_of (n, e.1))) None) [
              | true ↦ ap (λ m. Some (awaited_of (m, e.1))) (same_number e.0 n is)
              | false ↦ refl
            ])
        | false ↦ λ is. rw is (first_awaiting-listed es n p h.1)
      ] refl)

  -- ---- what calls of the map give
  -- Nothing is found where the map has no entry.
  pub found_none : (es : List (ℕ × Pending M)) (n p : ℕ) (now : List (Awaited M)) → IsAscending (listed es) → listed es ≡ now → None ≡ lookup (is_at (nat_cmp n)) es → None ≡ first_awaiting n p now
  found_none es n p now h view e = ap (λ o. found n o p) e ∙ (sym (first_awaiting-listed es n p h) ∙ ap (first_awaiting n p) view)

  -- Nothing is found where the entry has another port.
  pub found_elsewhere : (es : List (ℕ × Pending M)) (n p : ℕ) (now : List (Awaited M)) (v : Pending M) → IsAscending (listed es) → listed es ≡ now → Some v ≡ lookup (is_at (nat_cmp n)) es
      → v.port ≢ p → None ≡ first_awaiting n p now
  found_elsewhere es n p now v h view e other =
      let apart : (v.port == p) ≡ false = grind (arith, nat_tests) in
      ap (λ b. cond b (Some (awaited_of (n, v))) None) (sym apart) ∙ (ap (λ o. found n o p) e ∙ (sym (first_awaiting-listed es n p h) ∙ ap (first_awaiting n p) view))

  -- The entry is found where it has the port.
  pub found_here : (es : List (ℕ × Pending M)) (n p : ℕ) (now : List (Awaited M)) (v : Pending M) → IsAscending (listed es) → listed es ≡ now → Some v ≡ lookup (is_at (nat_cmp n)) es
      → v.port ≡ p → Some (record { number = n; port = p; stream = v.tag; acks = v.acks }) ≡ first_awaiting n p now
  found_here es n p now v h view e here =
      let same : (v.port == p) ≡ true = grind (arith, nat_tests) in
      ap (λ q. Some (record { number = n; port = q; stream = v.tag; acks = v.acks })) (sym here)
      ∙ (ap (λ b. cond b (Some (awaited_of (n, v))) None) (sym same) ∙ (ap (λ o. found n o p) e ∙ (sym (first_awaiting-listed es n p h) ∙ ap (first_awaiting n p) view)))

  -- An entry under a number above all others goes to the end.
  pub noted_last : (es fs : List (ℕ × Pending M)) (k : ℕ) (v : Pending M) (now : List (Awaited M)) → listed es ≡ now → AllByRecursion (λ (w : Awaited M). w.number < k) now
      → fs ≡ insert_entry nat_cmp es k v → listed fs ≡ now ++ awaited_of (k, v) ∷ []
  noted_last es fs k v now view below e =
      ap listed e ∙ (listed-insert_entry es k v (subst (λ ws. AllByRecursion (λ (w : Awaited M). w.number < k) ws) (sym view) below) ∙ ap (λ ws. ws ++ awaited_of (k, v) ∷ []) view)

  -- A removal takes out what a number awaits.
  pub removed : (es fs : List (ℕ × Pending M)) (k : ℕ) (now : List (Awaited M)) → listed es ≡ now → IsAscending (listed es)
      → fs ≡ remove_entry (is_at (nat_cmp k)) es → listed fs ≡ without k now
  removed es fs k now view h e = ap listed e ∙ (listed-remove_entry es k h ∙ ap (without k) view)

  -- Without its greatest entry the map has the same first entries.
  pub popped : (es fs : List (ℕ × Pending M)) (r : Option (ℕ × Pending M)) (n : ℕ) → (IsSome r ↔ (0 < length es)) → IfSome r (λ p. es ≡ fs ++ p ∷ []) → n < length es
      → take n (listed fs) ≡ take n (listed es)
  popped es fs None n some last h = let never : IsSome {T = ℕ × Pending M} None = some.1 (omega arith) in cc
  popped es fs (Some p) n some last h =
      let len : length es ≡ length fs + 1 = ap length last ∙ length-append fs (p ∷ []) in
      let fits : n ≤ length (listed fs) = rw (length-map fs awaited_of) (omega arith) in
      sym (rw (last, map-append awaited_of fs (p ∷ []), take-append-le n (listed fs) (awaited_of p ∷ []) fits))

  -- A map that is no longer than a count is its own first entries.
  pub none_left : (es : List (ℕ × Pending M)) (n : ℕ) → length es ≤ n → listed es ≡ take n (listed es)
  none_left es n h = sym (take_all n (listed es) (rw (length-map es awaited_of) h))
