-- What is kept of each stream stays true.
use Rattle.std.proofs.Common.{◌≡◌, ◌≢◌, ◌+◌, ◌-◌, ◌<◌, ◌≤◌, ◌==◌, ◌&&◌, ◌||◌, ℕ, zero, suc, Bool, true, false, not, cond, List, [], ◌∷◌, ◌++◌, length, nat_lt, Option, Some, None, refl, sym, ◌∙◌, ap, subst, arith}
use Rattle.std.specs.List.{AllByRecursion, list_any}
use Rattle.std.proofs.lemmas.Bool.Decides.{nat_tests}
use Rattle.std.proofs.Math.ListN.{length-set}
use Rattle.std.proofs.lemmas.List.{get_or-set_same, get_or-set_other, get_or_past}
use Rattle.std.proofs.lemmas.List.Folds.{list_any-append}
use Rattle.std.proofs.lemmas.List.Sums.{sum_by-cons}
use Rattle.session_model.specs.declared.awaited.Awaited.{Awaited}
use Rattle.session_model.specs.Events.{Arrival}
use Rattle.session_model.specs.Awaited.{answers, first_awaiting}
use Rattle.proto_core.specs.Numbers.{IsAscending, without}
use Rattle.proto_core.specs.Session.{Session, arrived_at, awaiting, handled, place_of}
use Rattle.proto_core.specs.declared.messages.Handled.{Handled}
use Rattle.proto_core.specs.declared.messages.Place.{Place}
use Rattle.proto_core.specs.declared.messages.Response.{Response}
use Rattle.proto_core.specs.declared.messages.Place.TheVariants.{Reply, Unsolicited}
use Rattle.proto_core.proofs.Arrived.{reply_arrived, unsolicited_arrived}
use Rattle.proto_core.proofs.Entries.{same_number, without-above, none_above}
use Rattle.proto_conn.specs.declared.tally.Tally.{Tally}
use Rattle.proto_conn.specs.Tallies.{IsGiven, IsTallied, Tallied, after_reply, awaits_of, count_of, no_tally, replies_of, says_awaited, says_reply, tally_at, with_handled, with_place, with_reply}

-- ---- counts

count_cons : (j : ℕ) (w : Awaited ℕ) (ws : List (Awaited ℕ)) → count_of j (w ∷ ws) ≡ count_of j ws + cond (w.stream == j) 1 0
count_cons j w ws = sum_by-cons (λ (x : Awaited ℕ). cond (x.stream == j) 1 0) w ws ∙ swap (cond (w.stream == j) 1 0) (count_of j ws)
  where
    swap : (a b : ℕ) → a + b ≡ b + a
    swap a b = omega arith

-- Without what awaits a number the count of its stream is one less, and the others are the same.
count_without : (n p j : ℕ) (ws : List (Awaited ℕ)) (v : Awaited ℕ) → IsAscending ws → first_awaiting n p ws ≡ Some v
    → count_of j (without n ws) + cond (v.stream == j) 1 0 ≡ count_of j ws
count_without n p j [] v up e = cc
count_without n p j (w ∷ ws) v up e =
    elim (w.number == n) as (λ b. (w.number == n) ≡ b → cond (b && (w.port == p)) (Some w) (first_awaiting n p ws) ≡ Some v
    → count_of j (cond (not b) (w ∷ without n ws) (without n ws)) + cond (v.stream == j) 1 0 ≡ count_of j (w ∷ ws)) [
      | true ↦ λ is f.
          let above : AllByRecursion (λ (u : Awaited ℕ). n < u.number) ws = subst (λ k. AllByRecursion (λ (u : Awaited ℕ). k < u.number) ws)
          (same_number w.number n is) up.0 in
          elim (w.port == p) as (λ c. cond c (Some w) (first_awaiting n p ws) ≡ Some v
          → count_of j (without n ws) + cond (v.stream == j) 1 0 ≡ count_of j (w ∷ ws)) [
            | true ↦ λ g.
                let same : w ≡ v = cc in
                subst (λ (u : Awaited ℕ). count_of j (without n ws) + cond (u.stream == j) 1 0 ≡ count_of j (w ∷ ws)) same
                (rw (without-above n ws above) (sym (count_cons j w ws)))
            | false ↦ λ g. let none : first_awaiting n p ws ≡ None = none_above n p ws above in cc
          ] f
      | false ↦ λ is f.
          let less = count_without n p j ws v up.1 f in
          let here = count_cons j w (without n ws) in
          let there = count_cons j w ws in
          omega (arith, less, here, there)
    ] refl e

-- What holds of all that is awaited holds of what awaits a number.
first_of_all : (P : Awaited ℕ → Type 0) (n p : ℕ) (ws : List (Awaited ℕ)) (v : Awaited ℕ) → AllByRecursion P ws → first_awaiting n p ws ≡ Some v → P v
first_of_all P n p [] v all e = cc
first_of_all P n p (w ∷ ws) v all e =
    elim (answers n p w) as (λ b. cond b (Some w) (first_awaiting n p ws) ≡ Some v → P v) [
      | true ↦ λ f. let same : w ≡ v = cc in subst P same all.0
      | false ↦ λ f. first_of_all P n p ws v all.1 f
    ] e

all_without : (P : Awaited ℕ → Type 0) (n : ℕ) (ws : List (Awaited ℕ)) → AllByRecursion P ws → AllByRecursion P (without n ws)
all_without P n [] all = tt
all_without P n (w ∷ ws) all = elim (w.number == n) as (λ b. AllByRecursion P (cond (not b) (w ∷ without n ws) (without n ws))) [
  | true ↦ all_without P n ws all.1
  | false ↦ (all.0, all_without P n ws all.1)
]

pub all-append : {X : Type 0} (P : X → Type 0) (xs ys : List X) → AllByRecursion P xs → AllByRecursion P ys → AllByRecursion P (xs ++ ys)
all-append P [] ys a b = b
all-append P (x ∷ xs) ys a b = (a.0, all-append P xs ys a.1 b)

-- A stream that is counted has a place.
in_range : (streams : List Tally) (k : ℕ) → 0 < (tally_at streams k).awaited → k < length streams
in_range streams k h = by (nat_lt k (length streams)) refl
  where
    by : (b : Bool) → nat_lt k (length streams) ≡ b → k < length streams
    by true e = grind (arith, nat_tests)
    by false e =
        let past : length streams ≤ k = grind (arith, nat_tests) in
        let none : (tally_at streams k).awaited ≡ 0 = ap (λ (t : Tally). t.awaited) (get_or_past streams k no_tally past) in
        absurd (omega (arith, h, none))

same_is : (j : ℕ) → (j == j) ≡ true
same_is j = grind (arith, nat_tests)

apart_is : (a b : ℕ) → a ≢ b → (a == b) ≡ false
apart_is a b h = grind (arith, nat_tests)

module _ {T : Type 0} (a : Arrival T) (s : Session T ℕ) (t : Tallied) (h : IsTallied s.awaited s.responses s.arrived t) (up : IsAscending s.awaited) where
  -- The stream of a reply was given.
  place_known : (o : Option (Awaited ℕ)) (m : ℕ) (d : Bool) → awaiting a s ≡ o → place_of a o ≡ Reply m d → (0 < m) × (m ≤ length t.streams)
  place_known None m d e place = cc
  place_known (Some w) m d e place =
      let tag : w.stream ≡ m = cc in
      let n = a.message.header.sequence_number in
      let named : 0 < w.stream = first_of_all (λ (u : Awaited ℕ). 0 < u.stream) n a.source.port s.awaited w h.named e in
      let less = count_without n a.source.port w.stream s.awaited w up e in
      let one : ◌≡◌ {A = ℕ} (cond (w.stream == w.stream) 1 0) 1 = ap (λ b. cond b 1 0) (same_is w.stream) in
      let index : (w.stream - 1) + 1 ≡ w.stream = omega (arith, named) in
      let kept : (tally_at t.streams (w.stream - 1)).awaited ≡ count_of w.stream s.awaited = h.numbers (w.stream - 1) ∙ ap (λ j. count_of j s.awaited) index in
      let within = in_range t.streams (w.stream - 1) (omega (arith, kept, less, one)) in
      (omega (arith, named, tag), omega (arith, within, tag))

  stream_known : (m : ℕ) (d : Bool) → place_of a (awaiting a s) ≡ Reply m d → (0 < m) × (m ≤ length t.streams)
  stream_known m d place = place_known (awaiting a s) m d refl place

  abbrev left_of : Bool → List (Awaited ℕ)
  left_of d = cond d (without a.message.header.sequence_number s.awaited) s.awaited

  abbrev reply_of : ℕ → Bool → Response T ℕ
  reply_of m d = record { done = d; message = a.message; metadata = m; arrival = s.arrived + 1 }

  module _ (m : ℕ) (d : Bool) (place : place_of a (awaiting a s) ≡ Reply m d) where
    left_count : (o : Option (Awaited ℕ)) (j : ℕ) → awaiting a s ≡ o → place_of a o ≡ Reply m d
        → count_of j (left_of d) + cond (m == j) (cond d 1 0) 0 ≡ count_of j s.awaited
    left_count None j e p = cc
    left_count (Some w) j e p =
        let tag : w.stream ≡ m = cc in
        let less = count_without a.message.header.sequence_number a.source.port j s.awaited w up e in
        subst (λ i. count_of j (left_of d) + cond (i == j) (cond d 1 0) 0 ≡ count_of j s.awaited) tag
        (elim d as (λ b. count_of j (cond b (without a.message.header.sequence_number s.awaited) s.awaited) + cond (w.stream == j)
        (cond b 1 0) 0 ≡ count_of j s.awaited) [
          | true ↦ less
          | false ↦ elim (w.stream == j) as (λ b. count_of j s.awaited + cond b 0 0 ≡ count_of j s.awaited) [ true ↦ omega arith | false ↦ omega arith ]
        ])

    abbrev now : Tallied
    now = with_reply m d (s.arrived + 1) t

    -- What is kept after a reply, of its stream and of another.
    at_own : tally_at now.streams (m - 1) ≡ after_reply d (s.arrived + 1) (tally_at t.streams (m - 1))
    at_own = let known = stream_known m d place in get_or-set_same t.streams (m - 1) _ no_tally (omega (arith, known.0, known.1))

    at_other : (k : ℕ) → k ≢ m - 1 → tally_at now.streams k ≡ tally_at t.streams k
    at_other k apart = get_or-set_other t.streams (m - 1) k _ no_tally apart

    any_last : (k : ℕ) → replies_of k (s.responses ++ reply_of m d ∷ []) ≡ (replies_of k s.responses || (m == k))
    any_last k = list_any-append (λ (r : Response T ℕ). r.metadata == k) s.responses (reply_of m d ∷ [])
        ∙ ap (λ b. replies_of k s.responses || b) (or_false (m == k))
      where
        or_false : (b : Bool) → (b || false) ≡ b
        or_false true = refl
        or_false false = refl

    numbers_own : (k : ℕ) → k ≡ m - 1 → (tally_at now.streams k).awaited ≡ count_of (k + 1) (left_of d)
    numbers_own k is =
        let known = stream_known m d place in
        let index : k + 1 ≡ m = omega (arith, is, known.0) in
        let less = left_count (awaiting a s) m refl place in
        let one : ◌≡◌ {A = ℕ} (cond (m == m) (cond d 1 0) 0) (cond d 1 0) = ap (λ b. cond b (cond d 1 0) 0) (same_is m) in
        let kept : (tally_at t.streams (m - 1)).awaited ≡ count_of m s.awaited = h.numbers (m - 1) ∙ ap (λ j. count_of j s.awaited) (omega (arith, known.0)) in
        let sum : (tally_at now.streams (m - 1)).awaited ≡ (tally_at t.streams (m - 1)).awaited - cond d 1 0 = ap (λ (x : Tally). x.awaited) at_own in
        let own : (tally_at now.streams (m - 1)).awaited ≡ count_of m (left_of d) = omega (arith, less, one, kept, sum) in
        ap (λ i. (tally_at now.streams i).awaited) is ∙ own ∙ ap (λ j. count_of j (left_of d)) (sym index)

    numbers_other : (k : ℕ) → k ≢ m - 1 → (tally_at now.streams k).awaited ≡ count_of (k + 1) (left_of d)
    numbers_other k apart =
        let known = stream_known m d place in
        let less = left_count (awaiting a s) (k + 1) refl place in
        let none : ◌≡◌ {A = ℕ} (cond (m == k + 1) (cond d 1 0) 0) 0 = ap (λ b. cond b (cond d 1 0) 0) (apart_is m (k + 1) (λ e. apart (omega (arith, e)))) in
        let kept = h.numbers k in
        ap (λ (x : Tally). x.awaited) (at_other k apart) ∙ omega (arith, less, none, kept)

    replies_own : (k : ℕ) → k ≡ m - 1 → nat_lt t.handed (tally_at now.streams k).newest ≡ replies_of (k + 1) (s.responses ++ reply_of m d ∷ [])
    replies_own k is =
        let known = stream_known m d place in
        let index : k + 1 ≡ m = omega (arith, is, known.0) in
        let newest : (tally_at now.streams k).newest ≡ s.arrived + 1 = ap (λ i. (tally_at now.streams i).newest) is ∙ ap (λ (x : Tally). x.newest) at_own in
        let here : nat_lt t.handed (s.arrived + 1) ≡ true = let le = h.handed in grind (arith, nat_tests) in
        let there : replies_of (k + 1) (s.responses ++ reply_of m d ∷ []) ≡ true =
        any_last (k + 1) ∙ ap (λ b. replies_of (k + 1) s.responses || b) (ap (λ j. m == j) index ∙ same_is m) ∙ or_true (replies_of (k + 1) s.responses) in
        ap (λ i. nat_lt t.handed i) newest ∙ here ∙ sym there
      where
        or_true : (b : Bool) → (b || true) ≡ true
        or_true true = refl
        or_true false = refl

    replies_other : (k : ℕ) → k ≢ m - 1 → nat_lt t.handed (tally_at now.streams k).newest ≡ replies_of (k + 1) (s.responses ++ reply_of m d ∷ [])
    replies_other k apart =
        let known = stream_known m d place in
        ap (λ (x : Tally). nat_lt t.handed x.newest) (at_other k apart) ∙ h.replies k
        ∙ sym (any_last (k + 1) ∙ ap (λ b. replies_of (k + 1) s.responses || b) (apart_is m (k + 1) (λ e. apart (omega (arith, e))))
        ∙ or_false (replies_of (k + 1) s.responses))
      where
        or_false : (b : Bool) → (b || false) ≡ b
        or_false true = refl
        or_false false = refl

    by_case : (P : ℕ → Type 0) → ((k : ℕ) → k ≡ m - 1 → P k) → ((k : ℕ) → k ≢ m - 1 → P k) → (k : ℕ) → P k
    by_case P own other k = elim (k == m - 1) as (λ b. (k == m - 1) ≡ b → P k) [
      | true ↦ λ e. own k (same_number k (m - 1) e)
      | false ↦ λ e. other k (λ is. let yes = same_is (m - 1) in let here : (k == m - 1) ≡ true = ap (λ i. i == m - 1) is ∙ yes in cc)
    ] refl

    all_left : AllByRecursion (λ (w : Awaited ℕ). 0 < w.stream) (left_of d)
    all_left = elim d as (λ b. AllByRecursion (λ (w : Awaited ℕ). 0 < w.stream) (cond b (without a.message.header.sequence_number s.awaited) s.awaited)) [
      | true ↦ all_without (λ (w : Awaited ℕ). 0 < w.stream) a.message.header.sequence_number s.awaited h.named
      | false ↦ h.named
    ]

    replied_so : IsTallied {T = T} (left_of d) (s.responses ++ reply_of m d ∷ []) (s.arrived + 1) now
    replied_so = record {
      numbers = by_case (λ k. (tally_at now.streams k).awaited ≡ count_of (k + 1) (left_of d)) numbers_own numbers_other;
      replies =
          by_case (λ k. nat_lt t.handed (tally_at now.streams k).newest ≡ replies_of (k + 1)
          (s.responses ++ reply_of m d ∷ [])) replies_own replies_other;
      newest = by_case (λ k. (tally_at now.streams k).newest ≤ s.arrived + 1)
          (λ k is. let e : (tally_at now.streams k).newest ≡ s.arrived + 1 = ap (λ i. (tally_at now.streams i).newest) is
          ∙ ap (λ (x : Tally). x.newest) at_own in omega (arith, e))
          (λ k apart. let e = ap (λ (x : Tally). x.newest) (at_other k apart) in let le = h.newest k in omega (arith, e, le));
      handed = let le = h.handed in omega (arith, le);
      named = all_left;
      answered =
          let known = stream_known m d place in
          all-append (λ (r : Response T ℕ). 0 < r.metadata) s.responses (reply_of m d ∷ []) h.answered (first known.0);
    }
      where
        first : 0 < m → AllByRecursion (λ (r : Response T ℕ). 0 < r.metadata) (reply_of m d ∷ [])
        first p = (p, tt)

    -- After a reply.
    tallied_reply : (s2 : Session T ℕ) → s2 ≡ arrived_at a s → IsTallied s2.awaited s2.responses s2.arrived (with_reply m d (s.arrived + 1) t)
    tallied_reply s2 is =
        subst (λ (x : Session T ℕ). IsTallied x.awaited x.responses x.arrived (with_reply m d (s.arrived + 1) t))
        (reply_arrived a s m d (left_of d) up place refl ∙ sym is) replied_so

  -- After an unsolicited message.
  tallied_other : (s2 : Session T ℕ) → place_of a (awaiting a s) ≡ Unsolicited → s2 ≡ arrived_at a s → IsTallied s2.awaited s2.responses s2.arrived t
  tallied_other s2 place is =
      subst (λ (x : Session T ℕ). IsTallied x.awaited x.responses x.arrived t) (unsolicited_arrived a s place ∙ sym is)
      (record {
        numbers = h.numbers;
        replies = h.replies;
        newest = λ k. let le = h.newest k in omega (arith, le);
        handed = let le = h.handed in
            omega (arith, le);
        named = h.named;
        answered = h.answered;
      })

module _ {T : Type 0} (a : Arrival T) (s : Session T ℕ) (t : Tallied) (h : IsTallied s.awaited s.responses s.arrived t) (up : IsAscending s.awaited) where
  -- The stream of a reply was given.
  pub given_place : (x : Handled ℕ) → x ≡ handled a s → IsGiven (length t.streams) x.to
  given_place x is = rw is (by (place_of a (awaiting a s)) refl)
    where
      by : (p : Place ℕ) → place_of a (awaiting a s) ≡ p → IsGiven (length t.streams) p
      by (Reply m d) e = stream_known a s t h up m d e
      by Unsolicited e = tt

  -- After a message.
  pub tallied_after : (x : Handled ℕ) (s2 : Session T ℕ) → x ≡ handled a s → s2 ≡ arrived_at a s
      → IsTallied s2.awaited s2.responses s2.arrived (with_handled x t)
  tallied_after x s2 is after = rw is (by (place_of a (awaiting a s)) refl)
    where
      by : (p : Place ℕ) → place_of a (awaiting a s) ≡ p → IsTallied s2.awaited s2.responses s2.arrived (with_place p (s.arrived + 1) t)
      by (Reply m d) e = tallied_reply a s t h up m d e s2 after
      by Unsolicited e = tallied_other a s t h up s2 e after

-- As many streams are kept after a message as before.
pub as_many : (x : Handled ℕ) (t : Tallied) → length (with_handled x t).streams ≡ length t.streams
as_many x t = by x.to
  where
    by : (p : Place ℕ) → length (with_place p x.arrival t).streams ≡ length t.streams
    by (Reply m d) = length-set t.streams (m - 1) _
    by Unsolicited = refl

-- ---- where the session stays

-- It holds in a session that is the same but for its other parts.
pub tallied_same : {T : Type 0} (s s2 : Session T ℕ) (t : Tallied) → s2 ≡ s → IsTallied s.awaited s.responses s.arrived t
    → IsTallied s2.awaited s2.responses s2.arrived t
tallied_same s s2 t is h = subst (λ (x : Session _ ℕ). IsTallied x.awaited x.responses x.arrived t) (sym is) h

-- Once all replies are handed on, none waits.
pub tallied_handed : {T : Type 0} (ws : List (Awaited ℕ)) (rs : List (Response T ℕ)) (arrived : ℕ) (t : Tallied) → IsTallied ws rs arrived t
    → IsTallied {T = T} ws [] arrived (record t { handed = arrived })
tallied_handed ws rs arrived t h = record {
  numbers = h.numbers;
  replies = λ k. let le = h.newest k in grind (arith, nat_tests);
  newest = h.newest;
  handed = omega arith;
  named = h.named;
  answered = tt;
}

-- A stream more changes no other.
tally_more : (streams : List Tally) (k : ℕ) → tally_at (streams ++ no_tally ∷ []) k ≡ tally_at streams k
tally_more [] zero = refl
tally_more [] (suc k) = refl
tally_more (t ∷ ts) zero = refl
tally_more (t ∷ ts) (suc k) = tally_more ts k

pub tallied_more : {T : Type 0} (ws : List (Awaited ℕ)) (rs : List (Response T ℕ)) (arrived : ℕ) (t : Tallied) → IsTallied ws rs arrived t
    → IsTallied ws rs arrived (record t { streams = t.streams ++ no_tally ∷ [] })
tallied_more ws rs arrived t h = record {
  numbers = λ k. ap (λ (x : Tally). x.awaited) (tally_more t.streams k) ∙ h.numbers k;
  replies = λ k. ap (λ (x : Tally). nat_lt t.handed x.newest) (tally_more t.streams k) ∙ h.replies k;
  newest = λ k. let e = ap (λ (x : Tally). x.newest) (tally_more t.streams k) in let le = h.newest k in omega (arith, e, le);
  handed = h.handed;
  named = h.named;
  answered = h.answered;
}

-- ---- what is told

none_of_zero : {X : Type 0} (f : X → ℕ) (xs : List X) → AllByRecursion (λ x. 0 < f x) xs → list_any (λ x. f x == 0) xs ≡ false
none_of_zero f [] h = refl
none_of_zero f (x ∷ xs) h =
    let no : (f x == 0) ≡ false = let p = h.0 in grind (arith, nat_tests) in
    ap (λ b. b || list_any (λ x. f x == 0) xs) no ∙ none_of_zero f xs h.1

some_counted : (j : ℕ) (ws : List (Awaited ℕ)) → nat_lt 0 (count_of j ws) ≡ awaits_of j ws
some_counted j [] = refl
some_counted j (w ∷ ws) =
    let more = count_cons j w ws in
    elim (w.stream == j) as (λ b. count_of j (w ∷ ws) ≡ count_of j ws + cond b 1 0 → nat_lt 0 (count_of j (w ∷ ws)) ≡ (b || awaits_of j ws)) [
      | true ↦ λ e. rw e (let p : 0 < count_of j ws + 1 = omega arith in grind (arith, nat_tests))
      | false ↦ λ e. ap (λ n. nat_lt 0 n) (e ∙ add_none (count_of j ws)) ∙ some_counted j ws
    ] more
  where
    add_none : (n : ℕ) → n + 0 ≡ n
    add_none n = omega arith

module _ {T : Type 0} (ws : List (Awaited ℕ)) (rs : List (Response T ℕ)) (arrived : ℕ) (t : Tallied) (h : IsTallied ws rs arrived t) where
  some : (k : ℕ) → nat_lt 0 (suc k) ≡ true
  some k = grind (arith, nat_tests)

  -- It tells whether a number of a stream is awaited, and whether a reply of it waits.
  pub told_awaited : (stream : ℕ) → says_awaited stream t ≡ awaits_of stream ws
  told_awaited zero = sym (none_of_zero (λ (w : Awaited ℕ). w.stream) ws h.named)
  told_awaited (suc k) = ap (λ b. b && nat_lt 0 (tally_at t.streams (suc k - 1)).awaited) (some k)
      ∙ ap (λ n. nat_lt 0 n) (ap (λ i. (tally_at t.streams i).awaited) (less_one k) ∙ h.numbers k ∙ ap (λ j. count_of j ws) (more_one k))
      ∙ some_counted (suc k) ws
    where
      less_one : (k : ℕ) → suc k - 1 ≡ k
      less_one k = omega arith

      more_one : (k : ℕ) → k + 1 ≡ suc k
      more_one k = omega arith

  pub told_reply : (stream : ℕ) → says_reply stream t ≡ replies_of stream rs
  told_reply zero = sym (none_of_zero (λ (r : Response T ℕ). r.metadata) rs h.answered)
  told_reply (suc k) = ap (λ b. b && nat_lt t.handed (tally_at t.streams (suc k - 1)).newest) (some k)
      ∙ ap (λ i. nat_lt t.handed (tally_at t.streams i).newest) (less_one k) ∙ h.replies k ∙ ap (λ j. replies_of j rs) (more_one k)
    where
      less_one : (k : ℕ) → suc k - 1 ≡ k
      less_one k = omega arith

      more_one : (k : ℕ) → k + 1 ≡ suc k
      more_one k = omega arith
