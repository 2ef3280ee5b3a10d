-- A walk passes empty spots, and takes what stands at the first other one.
use Rattle.std.proofs.Common.{◌≡◌, ℕ, ◌+◌, ◌-◌, ◌*◌, ◌/◌, ◌^◌, ◌<◌, ◌≤◌, ◌∙◌, sym, ap, subst, refl, arith, Bool, true, false, leb, eqb, List, [], ◌∷◌, ◌++◌, inl, inr}
use Rattle.std.specs.Prelude.{◌⊎◌, ◌↔◌, length, slice_index_or, slice_set, suc, take}
use Rattle.std.proofs.lemmas.List.{drop_all, set-get_or, set_split}
use Rattle.std.specs.Int.{bit_at}
use Rattle.std.proofs.lemmas.Bool.{eqb-true, eq-eqb, leb-true}
use Rattle.std.proofs.lemmas.Nat.Bits.{bit_at-zero}
use Rattle.std.proofs.Math.Nat.{mul-le-mul_right}
use Rattle.trie_model.specs.Nets.{Net}
use Rattle.trie_model.specs.Spots.{all_under, next_spot, rank_at, spot_of}
use Rattle.trie_model.specs.Views.{ViewValue, IsView, IsChild, depth_at}
use Rattle.trie_model.specs.Walks.{Left, Gives, LevelOk, WalkOk, level_work, rest, work}
use Rattle.trie_model.proofs.Places.{elim-false}
use Rattle.trie_model.proofs.SlotLaws.{less_or}
use Rattle.trie_model.proofs.SpotLaws.{under}
use Rattle.trie_model.proofs.WalkLaws.{pair_spot, rank_next, spot_data, spot_child_pair}
use Rattle.trie_model.proofs.WorkLaws.{rank_more, work-append, work_on, work_down, work_popped}
use Rattle.trie_model.proofs.RestLaws.{rest_view, rest_ahead, rest_item, rest_child, rest_set, on_data, on_took}
use Rattle.trie_model.proofs.WalkSteps.{gives_from}
use Rattle.trie_model.proofs.Levels.{top_of, popped, went_on, gave, went_down}
use Rattle.trie_map.specs.declared.walk.Level.{Level}
use Rattle.trie_map.specs.Moves.{IsClearAt, LevelPassesTo, PassesTo, TakesChild, TakesItem}

-- ---- spots

-- At first no spot was passed.
pub passes_none : (data_bits child_bits h : ℕ) → PassesTo data_bits child_bits h h
passes_none data_bits child_bits h = record {
  later = omega arith;
  clear = λ k p q le lt. absurd (let no : ⊥ = omega (arith, le, lt) in no);
}

-- One empty spot more was passed.
pub passes_on : (data_bits child_bits h at : ℕ) → 1 ≤ at → at < 64 → PassesTo data_bits child_bits h at → IsClearAt data_bits child_bits at → PassesTo data_bits child_bits h (next_spot at)
passes_on data_bits child_bits h at p q so here = record {
  later = let le = so.later in let more = rank_more at p q in omega (arith, le, more);
  clear = λ k pk qk le lt. by k pk qk le lt (less_or (rank_at k) (rank_at at));
}
  where
    same : (k : ℕ) → 1 ≤ k → k < 64 → rank_at k < rank_at (next_spot at) → rank_at at ≤ rank_at k → (b : Bool) → eqb at k ≡ b → IsClearAt data_bits child_bits k
    same k pk qk lt ge true e = subst (IsClearAt data_bits child_bits) (eqb-true at k e) here
    same k pk qk lt ge false e = absurd (let le = rank_next at k p q pk qk ge (λ z. elim-false (sym e ∙ eq-eqb at k z)) in let no : ⊥ = omega (arith, le, lt) in no)

    by : (k : ℕ) → 1 ≤ k → k < 64 → rank_at h ≤ rank_at k → rank_at k < rank_at (next_spot at) → (rank_at k < rank_at at) ⊎ (rank_at at ≤ rank_at k) → IsClearAt data_bits child_bits k
    by k pk qk le lt (inl less) = so.clear k pk qk le less
    by k pk qk le lt (inr ge) = same k pk qk lt ge (eqb at k) refl

last_table : all_under 65 (λ h. leb (rank_at h) (rank_at 64)) ≡ true
unfolding all_under
last_table = refl

unset : (n b : ℕ) → n ≡ 0 → bit_at n b ≡ 1 → ⊥
unset n b z s = let e = ap (λ m. bit_at m b) z ∙ bit_at-zero b in omega (arith, e, s)

-- Where no bit is set, all spots were passed.
pub passes_all : (data_bits child_bits h : ℕ) → h ≤ 64 → data_bits ≡ 0 → child_bits ≡ 0 → PassesTo data_bits child_bits h 64
passes_all data_bits child_bits h le d c = record {
  later = leb-true _ _ (under 65 (λ h. leb (rank_at h) (rank_at 64)) last_table h (omega (arith, le)));
  clear = λ k p q a b. ((λ lt s. unset data_bits (k - 1) d s), (λ ge s. unset child_bits (k - 32) c s));
}

-- The same of a level, by the bits that its view told.
pub level_passes : {V X : Type 0} (tell : V → ViewValue X) (l : Level V) (data_bits child_bits spot at : ℕ) → data_bits ≡ (tell l.view).data_bits
    → child_bits ≡ (tell l.view).child_bits → spot ≡ at → PassesTo data_bits child_bits l.spot spot → LevelPassesTo tell l at
level_passes tell l data_bits child_bits spot at d c e so =
    subst (LevelPassesTo tell l) e (subst (λ b. PassesTo (tell l.view).data_bits b l.spot spot) c (subst (λ b. PassesTo b child_bits l.spot spot) d so))

-- ---- a view

-- A pair's spot isn't empty.
pair_set : {X : Type 0} (w : ℕ) (t : ViewValue X) → IsView w t → (n : Net) (x : X) → t.at n x → IsClearAt t.data_bits t.child_bits (spot_of w (depth_at t.place.len) n) → ⊥
pair_set w t ok n x p clear = by (less_or s 32)
  where
    s : ℕ
    s = spot_of w (depth_at t.place.len) n

    by : (s < 32) ⊎ (32 ≤ s) → ⊥
    by (inl lt) =
        let at = pair_spot w t ok n x p in
        let pos = at.positive in
        let small : s - 1 < 31 = omega (arith, lt, pos) in
        let is : s ≡ s - 1 + 1 = omega (arith, pos) in
        clear.0 lt (ok.untold (s - 1) x small (subst (λ m. t.at m x) (sym (spot_data w t ok (s - 1) small n x p is).0) p))
    by (inr ge) =
        let is : s ≡ 32 + (s - 32) = omega (arith, ge) in
        let in_child = spot_child_pair w t ok (s - 32) n x p is in
        clear.1 ge (subst (λ b. bit_at t.child_bits b ≡ 1) in_child.1 (ok.below n x p in_child.0))

-- Past empty spots the same is left.
pub rest_passed : {X : Type 0} (w : ℕ) (t : ViewValue X) (h r : ℕ) → IsView w t → PassesTo t.data_bits t.child_bits h r → (n : Net) (x : X) → (rest w t r).at n x ↔ (rest w t h).at n x
rest_passed {X} w t h r ok so n x = (
  (λ a. (a.0, (let le = so.later in let m = a.1 in omega (arith, le, m)))),
  (λ a. (a.0, by a (less_or (rank_at s) (rank_at r)))),
)
  where
    s : ℕ
    s = spot_of w (depth_at t.place.len) n

    by : (rest w t h).at n x → (rank_at s < rank_at r) ⊎ (rank_at r ≤ rank_at s) → rank_at r ≤ rank_at s
    by a (inl lt) = let at = pair_spot w t ok n x a.0 in absurd (pair_set w t ok n x a.0 (so.clear s at.positive at.small a.1 lt))
    by a (inr le) = le

-- ---- the last level

-- What isn't more than 0 is 0.
pub not_more : (n : ℕ) → (0 < n → ⊥) → n ≡ 0
not_more n none = by (less_or 0 n)
  where
    by : (0 < n) ⊎ (n ≤ 0) → n ≡ 0
    by (inl lt) = absurd (none lt)
    by (inr le) = omega (arith, le)

-- A list by its last, and with another in its place.
pub record LastOf {L : Type 0} (xs : List L) (n : ℕ) (l : L) : Type 0 where
  pub was : xs ≡ take (n - 1) xs ++ l ∷ []
  pub set : (u : L) → slice_set xs (n - 1) u ≡ take (n - 1) xs ++ u ∷ []

-- What a list has last, it is with.
pub last_of : {L : Type 0} (xs : List L) (n : ℕ) (l : L) → length xs ≡ n → 0 < n → l ≡ slice_index_or xs (n - 1) l → LastOf xs n l
last_of {L} xs n l len pos is = record {
  was = sym (set-get_or xs (n - 1) l) ∙ ap (λ z. slice_set xs (n - 1) z) (sym is) ∙ set l;
  set = set;
}
  where
    set : (u : L) → slice_set xs (n - 1) u ≡ take (n - 1) xs ++ u ∷ []
    set u = set_split xs (n - 1) u (omega (arith, len, pos)) ∙ ap (λ z. take (n - 1) xs ++ u ∷ z) (drop_all (suc (n - 1)) xs (omega (arith, len, pos)))

-- ---- a stack

-- A level of a stack at a spot may be walked on.
pub level_at : {V X : Type 0} (valid : V → Type 0) (tell : V → ViewValue X) (w : ℕ) → ((v : V) → valid v → IsView w (tell v)) → (l : Level V) → valid
    l.view → 1 ≤ l.spot → l.spot ≤ 64 → LevelOk (λ k. valid k.view) (λ k. rest w (tell k.view) k.spot) (λ k. k.spot) w l
level_at valid tell w laws l usable first last = record {
  usable = usable;
  view = rest_view w (tell l.view) l.spot last (laws l.view usable);
  first = first;
  last = last;
  ahead = rest_ahead w (tell l.view) l.spot;
}

-- A stack whose top passed empty spots gives the same pairs, and may be walked on.
pub top_passed : {V X : Type 0} (valid : V → Type 0) (tell : V → ViewValue X) (w : ℕ) → ((v : V) → valid v → IsView w (tell v)) → (old ls : List
    (Level V)) (l : Level V) (spot : ℕ) → old ≡ ls ++ l ∷ [] → WalkOk (λ k. valid k.view) (λ k. rest w (tell k.view) k.spot) (λ k. k.spot) w old → 1
    ≤ spot → spot ≤ 64 → LevelPassesTo tell l spot → WalkOk (λ k. valid k.view) (λ k. rest w (tell k.view) k.spot) (λ k. k.spot) w
    (ls ++ record { view = l.view; spot = spot } ∷ []) × ((n : Net) (x : X) → Left (λ k. rest w (tell k.view) k.spot)
    (ls ++ record { view = l.view; spot = spot } ∷ []) n x ↔ Left (λ k. rest w (tell k.view) k.spot) old n x)
top_passed valid tell w laws old ls l spot e ok first last so =
    let top = top_of (λ k. valid k.view) (λ k. rest w (tell k.view) k.spot) (λ k. k.spot) w old ls l e ok in
    went_on (λ k. valid k.view) (λ k. rest w (tell k.view) k.spot) (λ k. k.spot) w old _ ls l _ e refl ok
    (level_at valid tell w laws (record { view = l.view; spot = spot }) top.usable first last)
    (rest_passed w (tell l.view) l.spot spot (laws l.view top.usable) so)

work_passed : {V X : Type 0} (tell : V → ViewValue X) (w : ℕ) (old ls : List (Level V)) (l : Level V) (spot : ℕ) → old ≡ ls ++ l ∷ [] → rank_at l.spot
    ≤ rank_at spot → work w (λ k. tell k.view) (λ k. k.spot) (ls ++ record { view = l.view; spot = spot } ∷ []) ≤ work w (λ k. tell k.view)
    (λ k. k.spot) old
unfolding level_work
work_passed tell w old ls l spot e le =
    let a = ap (work w (λ k. tell k.view) (λ k. k.spot)) e ∙ work-append w (λ k. tell k.view) (λ k. k.spot) ls l in
    let b = work-append w (λ k. tell k.view) (λ k. k.spot) ls (record { view = l.view; spot = spot }) in
    let p : ℕ = 2 ^ (8 * ((w - depth_at (tell l.view).place.len) / 5 + 1)) in
    let less = mul-le-mul_right {m = 197 - rank_at spot} {n = 197 - rank_at l.spot} p (let q : 197 - rank_at spot ≤ 197 - rank_at l.spot = omega (arith, le) in q) in
    omega (arith, a, b, less)

-- What a stack is after a move.
pub record Moved {V X : Type 0} (valid : V → Type 0) (tell : V → ViewValue X) (w : ℕ) (old new : List (Level V)) : Type 0 where
  pub usable : WalkOk (λ k. valid k.view) (λ k. rest w (tell k.view) k.spot) (λ k. k.spot) w new
  pub less : work w (λ k. tell k.view) (λ k. k.spot) new < work w (λ k. tell k.view) (λ k. k.spot) old

-- A stack whose top has nothing any more gives the same pairs without it.
pub top_done : {V X : Type 0} (valid : V → Type 0) (tell : V → ViewValue X) (w : ℕ) → ((v : V) → valid v → IsView w (tell v)) → (old new ls : List
    (Level V)) (l : Level V) → old ≡ ls ++ l ∷ [] → new ≡ ls → WalkOk (λ k. valid k.view) (λ k. rest w (tell k.view) k.spot) (λ k. k.spot) w old
    → LevelPassesTo tell l 64 → Moved valid tell w old new × ((n : Net) (x : X) → Left (λ k. rest w (tell k.view) k.spot) new n x ↔ Left
    (λ k. rest w (tell k.view) k.spot) old n x)
top_done {V} {X} valid tell w laws old new ls l e f ok so =
    let pass = top_passed valid tell w laws old ls l 64 e ok (omega arith) (omega arith) so in
    let off = popped (λ k. valid k.view) (λ k. rest w (tell k.view) k.spot) (λ k. k.spot) w _ ls (record { view = l.view; spot = 64 }) refl pass.0 refl in
    subst (λ z. Moved valid tell w old z × ((n : Net) (x : X) → Left (λ k. rest w (tell k.view) k.spot) z n x ↔ Left (λ k. rest w (tell k.view) k.spot)
    old n x)) (sym f) (
      record { usable = off.0; less = work_popped w (λ k. tell k.view) (λ k. k.spot) old ls l e },
      λ n x. ((λ h. (pass.1 n x).0 ((off.1 n x).0 h)), (λ h. (off.1 n x).1 ((pass.1 n x).1 h))),
    )

-- A stack whose top gave its first pair gives that pair first, and then the rest.
pub top_gave : {V X : Type 0} (valid : V → Type 0) (tell : V → ViewValue X) (w : ℕ) → ((v : V) → valid v → IsView w (tell v)) → (old new ls : List
    (Level V)) (l u : Level V) (net : Net) (x : X) (bit : ℕ) → old ≡ ls ++ l ∷ [] → new ≡ ls ++ u ∷ [] → WalkOk (λ k. valid k.view)
    (λ k. rest w (tell k.view) k.spot) (λ k. k.spot) w old → TakesItem tell w l u net x bit → valid u.view → 1 ≤ u.spot → u.spot ≤ 64 → Moved valid
    tell w old new × Gives w (λ k. rest w (tell k.view) k.spot) old new net x
top_gave valid tell w laws old new ls l u net x bit e f ok took usable first last =
    let top = top_of (λ k. valid k.view) (λ k. rest w (tell k.view) k.spot) (λ k. k.spot) w old ls l e ok in
    let view = laws l.view top.usable in
    let small = took.small in
    let m : Level _ = record { view = l.view; spot = bit + 1 } in
    let pass = top_passed valid tell w laws old ls l (bit + 1) e ok (omega arith) (omega (arith, small)) took.passed in
    let gives = gave (λ k. valid k.view) (λ k. rest w (tell k.view) k.spot) (λ k. k.spot) w _ new ls m u bit x refl f pass.0
    (level_at valid tell w laws u usable first last) small refl (rest_item w (tell l.view) (bit + 1) bit x view refl small took.pair)
    (on_data w (tell l.view) (tell u.view) (bit + 1) u.spot bit view refl small took.next took.took) in
    let on = work_on w (λ k. tell k.view) (λ k. k.spot) _ new ls m u refl f (omega arith) (omega (arith, small)) took.next took.took.place in
    let le = work_passed tell w old ls l (bit + 1) e took.passed.later in (
      record { usable = gives.0; less = omega (arith, on, le) },
      subst (λ z. Gives w (λ k. rest w (tell k.view) k.spot) old new z x) (sym took.at) (gives_from w (λ k. rest w (tell k.view) k.spot) old _ new _ x pass.1 gives.1),
    )

-- A stack whose top gave its first child gives the same pairs with the child on it.
pub top_child : {V X : Type 0} (valid : V → Type 0) (tell : V → ViewValue X) (w : ℕ) → ((v : V) → valid v → IsView w (tell v)) → (old mid new ls :
    List (Level V)) (l u c : Level V) (bit : ℕ) → old ≡ ls ++ l ∷ [] → mid ≡ ls ++ u ∷ [] → new ≡ mid ++ c ∷ [] → WalkOk (λ k. valid k.view)
    (λ k. rest w (tell k.view) k.spot) (λ k. k.spot) w old → TakesChild valid tell w l u c.view bit → valid u.view → 1 ≤ u.spot → u.spot ≤ 64
    → c.spot ≡ 1 → Moved valid tell w old new × ((n : Net) (x : X) → Left (λ k. rest w (tell k.view) k.spot) new n x ↔ Left
    (λ k. rest w (tell k.view) k.spot) old n x)
top_child valid tell w laws old mid new ls l u c bit e f g ok took usable first last one =
    let top = top_of (λ k. valid k.view) (λ k. rest w (tell k.view) k.spot) (λ k. k.spot) w old ls l e ok in
    let view = laws l.view top.usable in
    let small = took.small in
    let m : Level _ = record { view = l.view; spot = 32 + bit } in
    let pass = top_passed valid tell w laws old ls l (32 + bit) e ok (omega arith) (omega (arith, small)) took.passed in
    let down = went_down (λ k. valid k.view) (λ k. rest w (tell k.view) k.spot) (λ k. k.spot) w _ mid new ls m u c bit refl f g pass.0
    (level_at valid tell w laws u usable first last) (level_at valid tell w laws c took.usable (omega (arith, one)) (omega (arith, one))) small refl
    (rest_set _ (32 + bit) bit refl small took.set)
    (subst (λ s. IsChild w bit (rest w (tell l.view) (32 + bit)) (rest w (tell c.view) s)) (sym one) (rest_child w (tell l.view) (tell c.view) (32 + bit) bit view refl took.set took.is))
    (on_took w (tell l.view) (tell u.view) (32 + bit) u.spot bit view refl small took.set took.next took.took) in
    let on = work_down w (λ k. tell k.view) (λ k. k.spot) _ mid new ls m u c bit refl f g view took.set (omega arith) (omega (arith, small)) took.next one
    took.took.place took.is.place in
    let le = work_passed tell w old ls l (32 + bit) e took.passed.later in (
      record { usable = down.0; less = omega (arith, on, le) },
      λ n x. ((λ h. (pass.1 n x).0 ((down.1 n x).0 h)), (λ h. (down.1 n x).1 ((pass.1 n x).1 h))),
    )
