-- The fold fold_frames_below a cut, one frame at a time; and each byte list has one cut.
use Rattle.std.proofs.Common.{◌≡◌, ◌+◌, ◌≤◌, ◌<◌, ◌&&◌, ◌⊎◌, ℕ, zero, suc, Bool, true, false, cond, List, [], ◌∷◌, ◌++◌, length, take, drop, flat_map, get_or, refl, sym, subst, inl, inr, ◌∙◌, ap, arith, nat_le, append_assoc}
use Rattle.std.proofs.lemmas.Bool.Decides.{nat_tests}
use Rattle.std.proofs.lemmas.List.{length-drop, length-append, length-take-le, take-append-drop, get_or-take}
use Rattle.std.proofs.Math.ListN.{get_or-append}
use Rattle.std.proofs.Math.Seq.{take-append_seam, drop-append_seam}
use Rattle.std.specs.List.{AllByRecursion}
use Rattle.nl_core.specs.Numbers.{u32_at}
use Rattle.nl_core.specs.Frames.{length_at, IsFrame}
use Rattle.session_model.specs.Cut.{BeginsNone, IsCut, begins, after_front, fold_frames_below, fold_frames, frames_of, rest_of}

length_at-take : (n : ℕ) (bytes : List ℕ) → 4 ≤ n → length_at (take n bytes) ≡ length_at bytes
unfolding u32_at
length_at-take n bytes h =
    let same : (i : ℕ) → i < 4 → get_or (take n bytes) i 0 ≡ get_or bytes i 0 = λ i l. get_or-take n bytes i 0 (omega (arith, h, l)) in
    rw (same 0 (omega arith), same 1 (omega arith), same 2 (omega arith), same 3 (omega arith)) refl

length_at-append : (frame more : List ℕ) → 4 ≤ length frame → length_at (frame ++ more) ≡ length_at frame
unfolding u32_at
length_at-append frame more h =
    let same : (i : ℕ) → i < 4 → get_or (frame ++ more) i 0 ≡ get_or frame i 0 = λ i l. get_or-append frame more 0 i (omega (arith, h, l)) in
    rw (same 0 (omega arith), same 1 (omega arith), same 2 (omega arith), same 3 (omega arith)) refl

-- A frame is no longer than the bytes that it begins, and has at least sixteen.
pub begun : (bytes : List ℕ) → begins bytes ≡ true → (16 ≤ (length_at bytes)) × (length_at bytes ≤ length bytes)
begun bytes h = tests (nat_le 16 (length bytes)) (nat_le 16 (length_at bytes)) (nat_le (length_at bytes) (length bytes)) refl refl h
  where
    tests : (a b c : Bool) → nat_le 16 (length_at bytes) ≡ b → nat_le (length_at bytes) (length bytes) ≡ c → ((a && b) && c) ≡ true
        → (16 ≤ (length_at bytes)) × (length_at bytes ≤ length bytes)
    tests true true true k l h = (grind (arith, nat_tests), grind (arith, nat_tests))
    tests true true false k l h = cc
    tests true false c k l h = cc
    tests false b c k l h = cc

-- What follows a frame has at least sixteen bytes less.
pub shorter : (bytes : List ℕ) → begins bytes ≡ true → length (after_front bytes) + 16 ≤ length bytes
shorter bytes h = let b = begun bytes h in let d = length-drop (length_at bytes) bytes in omega (arith, b.0, b.1, d)

module _ {X : Type 0} (f : List ℕ → X → X) (r : List ℕ → X) where
  of_nothing : (m : ℕ) → fold_frames_below f r m [] ≡ r []
  of_nothing zero = refl
  of_nothing (suc m) = refl

  enough : (n m : ℕ) (bytes : List ℕ) → length bytes ≤ n → length bytes ≤ m → fold_frames_below f r n bytes ≡ fold_frames_below f r m bytes
  enough zero m [] h k = sym (of_nothing m)
  enough zero m (b ∷ bytes) h k = grind (arith)
  enough (suc n) zero [] h k = refl
  enough (suc n) zero (b ∷ bytes) h k = grind (arith)
  enough (suc n) (suc m) bytes h k =
      elim (begins bytes) as (λ b. begins bytes ≡ b
      → cond b (f bytes (fold_frames_below f r n (after_front bytes))) (r bytes)
      ≡ cond b (f bytes (fold_frames_below f r m (after_front bytes))) (r bytes)) [
        | true ↦ λ is. let s = shorter bytes is in ap (f bytes) (enough n m (after_front bytes) (omega (arith, s, h)) (omega (arith, s, k)))
        | false ↦ λ is. refl
      ] refl

  -- A frame, and then the rest of the cut.
  pub one_frame : (bytes : List ℕ) → begins bytes ≡ true → fold_frames f r bytes ≡ f bytes (fold_frames f r (after_front bytes))
  one_frame bytes is =
      let s = shorter bytes is in
      enough (length bytes) (suc (length bytes)) bytes (omega arith) (omega arith)
      ∙ ap (λ b. cond b (f bytes (fold_frames_below f r (length bytes) (after_front bytes))) (r bytes)) is
      ∙ ap (f bytes) (enough (length bytes) (length (after_front bytes)) (after_front bytes) (omega (arith, s)) (omega arith))

  -- Where no frame begins, the rest.
  pub no_frame : (bytes : List ℕ) → begins bytes ≡ false → fold_frames f r bytes ≡ r bytes
  no_frame bytes is =
      enough (length bytes) (suc (length bytes)) bytes (omega arith) (omega arith)
      ∙ ap (λ b. cond b (f bytes (fold_frames_below f r (length bytes) (after_front bytes))) (r bytes)) is

-- Bytes begin a frame exactly where the three tests hold.
begins_by : (bytes : List ℕ) → 16 ≤ length bytes → 16 ≤ (length_at bytes) → length_at bytes ≤ length bytes → begins bytes ≡ true
begins_by bytes h k l =
    let a : nat_le 16 (length bytes) ≡ true = grind (arith, nat_tests) in
    let b : nat_le 16 (length_at bytes) ≡ true = grind (arith, nat_tests) in
    let c : nat_le (length_at bytes) (length bytes) ≡ true = grind (arith, nat_tests) in
    ap (λ t. (t && nat_le 16 (length_at bytes)) && nat_le (length_at bytes) (length bytes)) a
    ∙ ap (λ t. (true && t) && nat_le (length_at bytes) (length bytes)) b
    ∙ c

tests_fail : (n l : ℕ) → ((nat_le 16 n && nat_le 16 l) && nat_le l n) ≡ false → (n < 16) ⊎ (l < 16) ⊎ (n < l)
tests_fail n l h = by (nat_le 16 n) (nat_le 16 l) (nat_le l n) refl refl refl h
  where
    by : (a b c : Bool) → nat_le 16 n ≡ a → nat_le 16 l ≡ b → nat_le l n ≡ c → ((a && b) && c) ≡ false → (n < 16) ⊎ (l < 16) ⊎ (n < l)
    by false b c x y z e = inl (grind (arith, nat_tests))
    by true false c x y z e = inr (inl (grind (arith, nat_tests)))
    by true true false x y z e = inr (inr (grind (arith, nat_tests)))
    by true true true x y z e = inl (let u : true ≡ false = e in grind (arith, nat_tests, u))

-- Bytes that begin no frame fail one of the three tests.
pub begins_not : (bytes : List ℕ) → BeginsNone bytes → begins bytes ≡ false
begins_not bytes h = by (nat_le 16 (length bytes)) (nat_le 16 (length_at bytes)) (nat_le (length_at bytes) (length bytes)) refl refl refl h
  where
    by : (a b c : Bool) → nat_le 16 (length bytes) ≡ a → nat_le 16 (length_at bytes) ≡ b → nat_le (length_at bytes) (length bytes) ≡ c
        → BeginsNone bytes → ((a && b) && c) ≡ false
    by false b c x y z e = refl
    by true false c x y z e = refl
    by true true false x y z e = refl
    by true true true x y z (inl e) = grind (arith, nat_tests)
    by true true true x y z (inr (inl e)) = grind (arith, nat_tests)
    by true true true x y z (inr (inr e)) = grind (arith, nat_tests)

-- What bytes begin with is a frame.
pub front_frame : (bytes : List ℕ) → begins bytes ≡ true → IsFrame (take (length_at bytes) bytes)
front_frame bytes is =
    let b = begun bytes is in
    let n = length-take-le (length_at bytes) bytes b.1 in
    let t = length_at-take (length_at bytes) bytes (let x = b.0 in omega (arith, x)) in
    record { header = (let x = b.0 in omega (arith, x, n)); whole = t ∙ sym n }

no_more : (bytes : List ℕ) → begins bytes ≡ false → IsCut bytes (frames_of bytes) (rest_of bytes)
no_more bytes is =
    let f = no_frame (λ b fs. take (length_at b) b ∷ fs) (λ b. []) bytes is in
    let r = no_frame (λ b r. r) (λ b. b) bytes is in
    subst (λ (fs : List (List ℕ)). IsCut bytes fs (rest_of bytes)) (sym f) (subst (λ (r : List ℕ). IsCut bytes [] r) (sym r)
    (record { whole = refl; each = tt; rest_begins = tests_fail (length bytes) (length_at bytes) is }))

one_more : (bytes : List ℕ) → begins bytes ≡ true → IsCut (after_front bytes) (frames_of (after_front bytes)) (rest_of (after_front bytes))
    → IsCut bytes (frames_of bytes) (rest_of bytes)
one_more bytes is c =
    let f = one_frame (λ b fs. take (length_at b) b ∷ fs) (λ b. []) bytes is in
    let r = one_frame (λ b r. r) (λ b. b) bytes is in
    subst (λ (fs : List (List ℕ)). IsCut bytes fs (rest_of bytes)) (sym f)
    (subst (λ (r : List ℕ). IsCut bytes (take (length_at bytes) bytes ∷ frames_of (after_front bytes)) r) (sym r)
    (record {
      whole = sym (take-append-drop (length_at bytes) bytes) ∙ ap (λ (b : List ℕ). take (length_at bytes) bytes ++ b) c.whole
          ∙ sym (append_assoc (take (length_at bytes) bytes) (flat_map (λ frame. frame) (frames_of (after_front bytes))) (rest_of (after_front bytes)));
      each = (front_frame bytes is, c.each);
      rest_begins = c.rest_begins;
    }))

is_cut_within : (n : ℕ) (bytes : List ℕ) → length bytes ≤ n → IsCut bytes (frames_of bytes) (rest_of bytes)
is_cut_within zero [] le = no_more [] refl
is_cut_within zero (b ∷ bytes) le = grind (arith)
is_cut_within (suc n) bytes le = elim (begins bytes) as (λ b. begins bytes ≡ b → IsCut bytes (frames_of bytes) (rest_of bytes)) [
  | true ↦ λ is. let s = shorter bytes is in one_more bytes is (is_cut_within n (after_front bytes) (omega (arith, s, le)))
  | false ↦ λ is. no_more bytes is
] refl

-- The frames and the rest that the definitions give are a cut.
pub is_cut : (bytes : List ℕ) → IsCut bytes (frames_of bytes) (rest_of bytes)
is_cut bytes = is_cut_within (length bytes) bytes (omega arith)

-- A frame in front of bytes begins them.
pub begins_with : (frame more : List ℕ) → IsFrame frame → (length_at (frame ++ more) ≡ length frame) × (begins (frame ++ more) ≡ true)
begins_with frame more h =
    let t = length_at-append frame more (let x = h.header in omega (arith, x)) in
    let l : length_at (frame ++ more) ≡ length frame = t ∙ h.whole in
    let n : length (frame ++ more) ≡ length frame + length more = length-append frame more in
    (l, begins_by (frame ++ more) (let x = h.header in omega (arith, x, n)) (let x = h.header in omega (arith, x, l)) (omega (arith, n, l)))

only_within : (frames : List (List ℕ)) (rest : List ℕ) → AllByRecursion IsFrame frames → BeginsNone rest
    → (frames_of (flat_map (λ frame. frame) frames ++ rest) ≡ frames) × (rest_of (flat_map (λ frame. frame) frames ++ rest) ≡ rest)
only_within [] rest a n =
    let is = begins_not rest n in
    (no_frame (λ b fs. take (length_at b) b ∷ fs) (λ b. []) rest is, no_frame (λ b r. r) (λ b. b) rest is)
only_within (frame ∷ frames) rest a n =
    let more = flat_map (λ frame. frame) frames ++ rest in
    let b = begins_with frame more a.0 in
    let later = only_within frames rest a.1 n in
    let same : flat_map (λ frame. frame) (frame ∷ frames) ++ rest ≡ frame ++ more = append_assoc frame (flat_map (λ frame. frame) frames) rest in
    let front : take (length_at (frame ++ more)) (frame ++ more) ≡ frame = ap (λ (k : ℕ). take k (frame ++ more)) b.0 ∙ take-append_seam frame more in
    let back : after_front (frame ++ more) ≡ more = ap (λ (k : ℕ). drop k (frame ++ more)) b.0 ∙ drop-append_seam frame more in (
      ap frames_of same ∙ one_frame (λ b fs. take (length_at b) b ∷ fs) (λ b. []) (frame ++ more) b.1
          ∙ ap (λ (f : List ℕ). f ∷ frames_of (after_front (frame ++ more))) front ∙ ap (λ (m : List ℕ). frame ∷ frames_of m) back
          ∙ ap (λ fs. frame ∷ fs) later.0,
      ap rest_of same ∙ one_frame (λ b r. r) (λ b. b) (frame ++ more) b.1 ∙ ap rest_of back ∙ later.1,
    )

-- Each byte list has exactly one cut.
pub only_cut : (bytes : List ℕ) (frames : List (List ℕ)) (rest : List ℕ) → IsCut bytes frames rest
    → (frames_of bytes ≡ frames) × (rest_of bytes ≡ rest)
only_cut bytes frames rest c = let o = only_within frames rest c.each c.rest_begins in (ap frames_of c.whole ∙ o.0, ap rest_of c.whole ∙ o.1)
