-- What is awaited: numbers rise, streams are those of batches, and a message ends at most one number.
use Rattle.std.proofs.Common.{◌≡◌, ◌+◌, ◌<◌, ◌≤◌, ◌==◌, ◌&&◌, ◌||◌, ℕ, suc, Bool, true, false, not, cond, List, [], ◌∷◌, ◌++◌, length, Some, is_some, refl, sym, ◌∙◌, ap, subst, arith, zero-add}
use Rattle.std.specs.List.{filter, list_any, AllByRecursion}
use Rattle.std.proofs.lemmas.Bool.Decides.{nat_tests}
use Rattle.session_model.specs.declared.awaited.Awaited.{Awaited}
use Rattle.session_model.specs.Events.{Event, Sent, Came, Unread, Leftover, Overran, Shut, Other, Asked, Arrival}
use Rattle.session_model.specs.Flags.{asks_ack}
use Rattle.session_model.specs.Awaited.{awaited, awaited_from, awaited_frame, awaited_frames, newly_awaited, frames_sent, batches_sent, batch_count, is_ended, answers, is_last, first_awaiting, after_arrival}
use Rattle.session_model.specs.Streams.{is_open, is_shut}
use Rattle.session_laws.specs.Counts.{awaited_in, open_count, if_any}

-- Numbers rise from above a bound.
abbrev pub RisesFrom : ℕ → List (Awaited ℕ) → Type 0
RisesFrom low [] = Unit {0}
RisesFrom low (w ∷ ws) = (low < w.number) × RisesFrom w.number ws

abbrev AreUpTo : ℕ → List (Awaited ℕ) → Type 0
AreUpTo high ws = AllByRecursion (λ (w : Awaited ℕ). w.number ≤ high) ws

-- Streams are of the first n batches.
abbrev pub AreOf : ℕ → List (Awaited ℕ) → Type 0
AreOf n ws = AllByRecursion (λ (w : Awaited ℕ). (0 < w.stream) × (w.stream ≤ n)) ws

-- What holds of two lists holds of both together.
pub all_append : {X : Type 0} (P : X → Type 0) (xs ys : List X) → AllByRecursion P xs → AllByRecursion P ys → AllByRecursion P (xs ++ ys)
all_append P [] ys h k = k
all_append P (x ∷ xs) ys h k = (h.0, all_append P xs ys h.1 k)

all_filter : {X : Type 0} (P : X → Type 0) (p : X → Bool) (xs : List X) → AllByRecursion P xs → AllByRecursion P (filter p xs)
all_filter P p [] h = tt
all_filter P p (x ∷ xs) h = elim (p x) as (λ b. AllByRecursion P (cond b (x ∷ filter p xs) (filter p xs))) [
  | true ↦ (h.0, all_filter P p xs h.1)
  | false ↦ all_filter P p xs h.1
]

-- ---- numbers rise

rises_weaker : (low high : ℕ) (ws : List (Awaited ℕ)) → low ≤ high → RisesFrom high ws → RisesFrom low ws
rises_weaker low high [] h r = tt
rises_weaker low high (w ∷ ws) h r = (omega (arith, h, r.0), r.1)

rises_filter : (p : Awaited ℕ → Bool) (low : ℕ) (ws : List (Awaited ℕ)) → RisesFrom low ws → RisesFrom low (filter p ws)
rises_filter p low [] r = tt
rises_filter p low (w ∷ ws) r = elim (p w) as (λ b. RisesFrom low (cond b (w ∷ filter p ws) (filter p ws))) [
  | true ↦ (r.0, rises_filter p w.number ws r.1)
  | false ↦ rises_weaker low w.number (filter p ws) (omega (arith, r.0)) (rises_filter p w.number ws r.1)
]

rises_join : (low mid : ℕ) (ws vs : List (Awaited ℕ)) → RisesFrom low ws → AreUpTo mid ws → low ≤ mid
    → RisesFrom mid vs → RisesFrom low (ws ++ vs)
rises_join low mid [] vs r k h v = rises_weaker low mid vs h v
rises_join low mid (w ∷ ws) vs r k h v = (r.0, rises_join w.number mid ws vs r.1 k.1 k.0 v)

up_weaker : (low high : ℕ) (ws : List (Awaited ℕ)) → low ≤ high → AreUpTo low ws → AreUpTo high ws
up_weaker low high [] h k = tt
up_weaker low high (w ∷ ws) h k = (omega (arith, h, k.0), up_weaker low high ws h k.1)

one_rises : (last stream port : ℕ) (a : Asked) (b : Bool)
    → let w : Awaited ℕ = record { number = last + 1; port = port; stream = stream; acks = asks_ack a.header } in
    RisesFrom last (cond b (w ∷ []) []) × AreUpTo (last + 1) (cond b (w ∷ []) [])
one_rises last stream port a true = ((omega arith, tt), (omega arith, tt))
one_rises last stream port a false = (tt, tt)

frames_rise : (last stream port : ℕ) (frames : List Asked)
    → RisesFrom last (awaited_frames last stream port frames) × AreUpTo (last + length frames) (awaited_frames last stream port frames)
frames_rise last stream port [] = (tt, tt)
frames_rise last stream port (a ∷ frames) =
    let one = one_rises last stream port a a.awaits in
    let more = frames_rise (last + 1) stream port frames in
    let up : (last + 1) + length frames ≤ last + length (a ∷ frames) = omega arith in
    let here : last + 1 ≤ last + length (a ∷ frames) = omega arith in (
      rises_join last (last + 1) (awaited_frame (last + 1) stream port a) (awaited_frames (last + 1) stream port frames) one.0 one.1 (omega arith) more.0,
      all_append (λ (w : Awaited ℕ). w.number ≤ last + length (a ∷ frames))
          (awaited_frame (last + 1) stream port a) (awaited_frames (last + 1) stream port frames)
          (up_weaker (last + 1) (last + length (a ∷ frames)) (awaited_frame (last + 1) stream port a) here one.1)
          (up_weaker ((last + 1) + length frames) (last + length (a ∷ frames)) (awaited_frames (last + 1) stream port frames) up more.1),
    )

newly_rises : {M : Type 0} (last b : ℕ) (e : Event M)
    → RisesFrom last (newly_awaited last b e) × AreUpTo (last + frames_sent e) (newly_awaited last b e)
newly_rises last b (Sent to frames) = frames_rise last (b + 1) to.port frames
newly_rises last b (Came m source) = (tt, tt)
newly_rises last b (Unread kind number source) = (tt, tt)
newly_rises last b (Leftover count source) = (tt, tt)
newly_rises last b Overran = (tt, tt)
newly_rises last b Shut = (tt, tt)
newly_rises last b (Other aside) = (tt, tt)

-- The numbers that are awaited after events rise.
pub awaited_rises : {M : Type 0} (last b : ℕ) (es : List (Event M)) → RisesFrom last (awaited_from last b es)
awaited_rises last b [] = tt
awaited_rises last b (e ∷ es) =
    let new = newly_rises last b e in
    rises_join last (last + frames_sent e) (filter (λ w. not (is_ended es w)) (newly_awaited last b e))
    (awaited_from (last + frames_sent e) (b + batches_sent e) es)
    (rises_filter (λ w. not (is_ended es w)) last (newly_awaited last b e) new.0)
    (all_filter (λ (w : Awaited ℕ). w.number ≤ last + frames_sent e) (λ w. not (is_ended es w)) (newly_awaited last b e) new.1)
    (omega arith) (awaited_rises (last + frames_sent e) (b + batches_sent e) es)

-- ---- streams are those of batches

counts_up : {M : Type 0} (b : ℕ) (es : List (Event M)) → b ≤ batch_count b es
counts_up b [] = omega arith
counts_up b (e ∷ es) = let h = counts_up (b + batches_sent e) es in omega (arith, h)

frames_of_batch : (n last stream port : ℕ) (frames : List Asked) → 0 < stream → stream ≤ n → AreOf n (awaited_frames last stream port frames)
frames_of_batch n last stream port [] p h = tt
frames_of_batch n last stream port (a ∷ frames) p h =
    all_append (λ (w : Awaited ℕ). (0 < w.stream)
    × (w.stream ≤ n)) (awaited_frame (last + 1) stream port a) (awaited_frames (last + 1) stream port frames)
    (one a.awaits) (frames_of_batch n (last + 1) stream port frames p h)
  where
    one : (b : Bool) → AreOf n (cond b (record { number = last + 1; port = port; stream = stream; acks = asks_ack a.header } ∷ []) [])
    one true = ((p, h), tt)
    one false = tt

newly_of : {M : Type 0} (n last b : ℕ) (e : Event M) → b + batches_sent e ≤ n → AreOf n (newly_awaited last b e)
newly_of n last b (Sent to frames) h = frames_of_batch n last (b + 1) to.port frames (omega arith) h
newly_of n last b (Came m source) h = tt
newly_of n last b (Unread kind number source) h = tt
newly_of n last b (Leftover count source) h = tt
newly_of n last b Overran h = tt
newly_of n last b Shut h = tt
newly_of n last b (Other aside) h = tt

-- No stream is awaited that no batch has asked for.
pub awaited_of : {M : Type 0} (last b : ℕ) (es : List (Event M)) → AreOf (batch_count b es) (awaited_from last b es)
awaited_of last b [] = tt
awaited_of last b (e ∷ es) =
    let mine = newly_awaited last b e in
    let later = awaited_from (last + frames_sent e) (b + batches_sent e) es in
    let Of = λ (w : Awaited ℕ). (0 < w.stream) × (w.stream ≤ batch_count b (e ∷ es)) in
    all_append Of (filter (λ w. not (is_ended es w)) mine) later
    (all_filter Of (λ w. not (is_ended es w)) mine
    (newly_of (batch_count (b + batches_sent e) es) last b e (counts_up (b + batches_sent e) es)))
    (awaited_of (last + frames_sent e) (b + batches_sent e) es)

-- ---- counts

abbrev of_stream : ℕ → List (Awaited ℕ) → List (Awaited ℕ)
of_stream k ws = filter (λ (v : Awaited ℕ). v.stream == k) ws

-- One number more counts at its own stream.
pub awaited_in-cons : (k : ℕ) (w : Awaited ℕ) (ws : List (Awaited ℕ)) → awaited_in k (w ∷ ws) ≡ cond (w.stream == k) 1 0 + awaited_in k ws
awaited_in-cons k w ws = elim (w.stream == k) as (λ b. length (cond b (w ∷ of_stream k ws) (of_stream k ws)) ≡ cond b 1 0 + awaited_in k ws) [
  | true ↦ plus1 (awaited_in k ws)
  | false ↦ sym (zero-add (awaited_in k ws))
]
  where
    plus1 : (n : ℕ) → suc n ≡ 1 + n
    plus1 n = omega arith

-- The counts of two lists add up.
pub awaited_in-append : (k : ℕ) (ws vs : List (Awaited ℕ)) → awaited_in k (ws ++ vs) ≡ awaited_in k ws + awaited_in k vs
awaited_in-append k [] vs = sym (zero-add (awaited_in k vs))
awaited_in-append k (w ∷ ws) vs =
    awaited_in-cons k w (ws ++ vs) ∙ ap (λ n. cond (w.stream == k) 1 0 + n) (awaited_in-append k ws vs)
    ∙ plus (cond (w.stream == k) 1 0) (awaited_in k ws) (awaited_in k vs) ∙ ap (λ n. n + awaited_in k vs) (sym (awaited_in-cons k w ws))
  where
    plus : (a b c : ℕ) → a + (b + c) ≡ (a + b) + c
    plus a b c = omega arith

apart : (a k : ℕ) → a ≤ k → (b : ℕ) → k < b → (a == b) ≡ false
apart a k h b l = grind (arith, nat_tests)

-- No later stream is awaited.
pub none_later : (k n : ℕ) (ws : List (Awaited ℕ)) → n < k → AreOf n ws → awaited_in k ws ≡ 0
none_later k n [] h s = refl
none_later k n (w ∷ ws) h s = awaited_in-cons k w ws ∙ ap (λ b. cond b 1 0 + awaited_in k ws) (apart w.stream n s.0.1 k h)
    ∙ ap (λ c. 0 + c) (none_later k n ws h s.1)

-- A stream that is awaited is one of the first n.
pub some_within : (k n : ℕ) (ws : List (Awaited ℕ)) → AreOf n ws → list_any (λ (w : Awaited ℕ). w.stream == k) ws ≡ true → (0 < k) × (k ≤ n)
some_within k n [] s e = cc
some_within k n (w ∷ ws) s e = by (some_within k n ws s.1) (w.stream == k) refl e
  where
    by : (list_any (λ (v : Awaited ℕ). v.stream == k) ws ≡ true → (0 < k) × (k ≤ n)) → (b : Bool) → (w.stream == k) ≡ b
        → (b || list_any (λ (v : Awaited ℕ). v.stream == k) ws) ≡ true → (0 < k) × (k ≤ n)
    by ih true is f = let same : w.stream ≡ k = grind (arith, nat_tests) in (subst (λ j. 0 < j) same s.0.0, subst (λ j. j ≤ n) same s.0.1)
    by ih false is f = ih f

any_counts : (k : ℕ) (ws : List (Awaited ℕ)) → list_any (λ (w : Awaited ℕ). w.stream == k) ws ≡ is_some (if_any (awaited_in k ws))
any_counts k [] = refl
any_counts k (w ∷ ws) = by (any_counts k ws) (w.stream == k) refl
  where
    by : list_any (λ (v : Awaited ℕ). v.stream == k) ws ≡ is_some (if_any (awaited_in k ws)) → (b : Bool) → (w.stream == k) ≡ b
        → (b || list_any (λ (v : Awaited ℕ). v.stream == k) ws)
        ≡ is_some (if_any (length (cond b (w ∷ filter (λ (v : Awaited ℕ). v.stream == k) ws) (filter (λ (v : Awaited ℕ). v.stream == k) ws))))
    by ih true e = refl
    by ih false e = ih

-- A stream is open exactly where it has a count.
pub open_counts : {M : Type 0} (start : ℕ) (es : List (Event M)) (k : ℕ) → is_open start es k ≡ is_some (if_any (open_count start es k))
open_counts start es k = by (is_shut es)
  where
    by : (b : Bool) → (not b && list_any (λ (w : Awaited ℕ). w.stream == k) (awaited start es))
        ≡ is_some (if_any (cond b 0 (awaited_in k (awaited start es))))
    by true = refl
    by false = any_counts k (awaited start es)

-- ---- a message ends one number or none

number_of : (w : Awaited ℕ) (n p : ℕ) → answers n p w ≡ true → w.number ≡ n
number_of w n p h = first (w.number == n) (w.port == p) refl h
  where
    first : (b c : Bool) → (w.number == n) ≡ b → (b && c) ≡ true → w.number ≡ n
    first true c e h2 = grind (arith, nat_tests)
    first false c e h2 = cc

other_number : (a n : ℕ) → n < a → (a == n) ≡ false
other_number a n h = grind (arith, nat_tests)

-- A test for equality, turned round.
pub turned : (a c : ℕ) → (a == c) ≡ (c == a)
turned a c = grind (arith, nat_tests)

module _ {M : Type 0} (a : Arrival M) where
  later_kept : (low : ℕ) (ws : List (Awaited ℕ)) → RisesFrom low ws → a.message.header.sequence_number ≤ low → after_arrival a ws ≡ ws
  later_kept low [] r h = refl
  later_kept low (w ∷ ws) r h =
      let other : (w.number == a.message.header.sequence_number)
      ≡ false = other_number w.number a.message.header.sequence_number (omega (arith, r.0, h)) in
      rw other (ap (λ vs. w ∷ vs) (later_kept w.number ws r.1 (omega (arith, r.0, h))))

  -- Where the number goes on, nothing is ended.
  pub first_kept : (low : ℕ) (ws : List (Awaited ℕ)) (v : Awaited ℕ) → RisesFrom low ws
      → first_awaiting a.message.header.sequence_number a.source.port ws ≡ Some v → is_last a.message v.acks ≡ false → after_arrival a ws ≡ ws
  first_kept low [] v r e last = cc
  first_kept low (w ∷ ws) v r e last =
      let n = a.message.header.sequence_number in
      let p = a.source.port in
      elim (answers n p w) as (λ b. answers n p w ≡ b → cond b (Some w) (first_awaiting n p ws) ≡ Some v
      → cond (not (b && is_last a.message w.acks)) (w ∷ after_arrival a ws) (after_arrival a ws) ≡ w ∷ ws) [
        | true ↦ λ is f.
            let same : w ≡ v = cc in
            let num : w.number ≡ n = number_of w n p is in
            let kept : is_last a.message w.acks ≡ false = ap (λ (u : Awaited ℕ). is_last a.message u.acks) same ∙ last in
            rw kept (ap (λ vs. w ∷ vs) (later_kept w.number ws r.1 (omega (arith, num))))
        | false ↦ λ is f. ap (λ vs. w ∷ vs) (first_kept w.number ws v r.1 f last)
      ] refl e

  -- Where it is the last, one number of its stream is ended.
  pub first_ended : (low : ℕ) (ws : List (Awaited ℕ)) (v : Awaited ℕ) → RisesFrom low ws
      → first_awaiting a.message.header.sequence_number a.source.port ws ≡ Some v → is_last a.message v.acks ≡ true
      → (k : ℕ) → awaited_in k ws ≡ cond (k == v.stream) 1 0 + awaited_in k (after_arrival a ws)
  first_ended low [] v r e last k = cc
  first_ended low (w ∷ ws) v r e last k =
      let n = a.message.header.sequence_number in
      let p = a.source.port in
      elim (answers n p w) as (λ b. answers n p w ≡ b → cond b (Some w) (first_awaiting n p ws) ≡ Some v
      → awaited_in k (w ∷ ws)
      ≡ cond (k == v.stream) 1 0 + awaited_in k (cond (not (b && is_last a.message w.acks)) (w ∷ after_arrival a ws) (after_arrival a ws))) [
        | true ↦ λ is f.
            let same : w ≡ v = cc in
            let num : w.number ≡ n = number_of w n p is in
            let gone : is_last a.message w.acks ≡ true = ap (λ (u : Awaited ℕ). is_last a.message u.acks) same ∙ last in
            let rest : after_arrival a ws ≡ ws = later_kept w.number ws r.1 (omega (arith, num)) in
            let left : cond (not (is_last a.message w.acks)) (w ∷ after_arrival a ws) (after_arrival a ws)
            ≡ ws = ap (λ b. cond (not b) (w ∷ after_arrival a ws) (after_arrival a ws)) gone ∙ rest in
            awaited_in-cons k w ws ∙ ap (λ b. cond b 1 0 + awaited_in k ws) (turned w.stream k ∙ ap (λ (u : Awaited ℕ). k == u.stream) same)
            ∙ ap (λ vs. cond (k == v.stream) 1 0 + awaited_in k vs) (sym left)
        | false ↦ λ is f.
            awaited_in-cons k w ws ∙ ap (λ c. cond (w.stream == k) 1 0 + c) (first_ended w.number ws v r.1 f last k)
            ∙ swapped (cond (w.stream == k) 1 0) (cond (k == v.stream) 1 0) (awaited_in k (after_arrival a ws))
            ∙ ap (λ c. cond (k == v.stream) 1 0 + c) (sym (awaited_in-cons k w (after_arrival a ws)))
      ] refl e
    where
      swapped : (x y z : ℕ) → x + (y + z) ≡ y + (x + z)
      swapped x y z = omega arith
