-- What is kept of each stream when a request leaves the queue, and which requests wait.
use Rattle.std.proofs.Common.{◌≡◌, ◌≢◌, ◌+◌, ◌-◌, ◌<◌, ◌≤◌, ◌==◌, ◌||◌, ℕ, suc, true, false, cond, List, [], ◌∷◌, ◌++◌, length, nat_lt, refl, sym, ◌∙◌, ap, subst, arith, length-append}
use Rattle.std.specs.List.{AllByRecursion, list_any}
use Rattle.std.proofs.lemmas.Bool.Decides.{nat_tests}
use Rattle.std.proofs.Math.ListN.{length-set}
use Rattle.std.proofs.lemmas.List.{get_or-set_same, get_or-set_other}
use Rattle.std.proofs.lemmas.List.Sums.{count_by-le-length, sum_by-append, sum_by-cons}
use Rattle.nl_core.specs.declared.message.NetlinkMessage.{NetlinkMessage}
use Rattle.session_model.specs.declared.awaited.Awaited.{Awaited}
use Rattle.proto_core.specs.Noted.{is_expected, noted, noted_of, noted_one}
use Rattle.proto_core.specs.Session.{Session, requested}
use Rattle.proto_core.specs.declared.request.ExpectResponse.{ExpectResponse}
use Rattle.proto_core.specs.declared.request.Request.{Request}
use Rattle.proto_conn.specs.declared.tally.Tally.{Tally}
use Rattle.proto_conn.specs.Tallies.{AreNewest, IsTallied, Tallied, after_request, count_of, no_tally, tally_at, with_request}
use Rattle.proto_conn.proofs.Counts.{all-append}

same_is : (j : ℕ) → (j == j) ≡ true
same_is j = grind (arith, nat_tests)

apart_is : (a b : ℕ) → a ≢ b → (a == b) ≡ false
apart_is a b h = grind (arith, nat_tests)

same_number : (a b : ℕ) → (a == b) ≡ true → a ≡ b
same_number a b h = grind (arith, nat_tests)

-- ---- what a request notes

-- All that a request notes is of its stream.
noted_stream : {T : Type 0} (e : ExpectResponse) (i last m port : ℕ) (ms : List (NetlinkMessage T))
    → AllByRecursion (λ (w : Awaited ℕ). w.stream ≡ m) (noted e i last m port ms)
noted_stream e i last m port [] = tt
noted_stream e i last m port (x ∷ ms) = elim (is_expected e i x.header) as (λ b. AllByRecursion (λ (w : Awaited ℕ). w.stream ≡ m) (noted_one b
    (last + 1) m port x.header ++ noted e (i + 1) (last + 1) m port ms)) [
      | true ↦ (refl, noted_stream e (i + 1) (last + 1) m port ms)
      | false ↦ noted_stream e (i + 1) (last + 1) m port ms
    ]

count_all : (m j : ℕ) (ws : List (Awaited ℕ)) → AllByRecursion (λ (w : Awaited ℕ). w.stream ≡ m) ws → count_of j ws ≡ cond (m == j) (length ws) 0
count_all m j [] h = elim (m == j) as (λ b. ◌≡◌ {A = ℕ} 0 (cond b 0 0)) [ true ↦ refl | false ↦ refl ]
count_all m j (w ∷ ws) h =
    let rest = count_all m j ws h.1 in
    sum_by-cons (λ (x : Awaited ℕ). cond (x.stream == j) 1 0) w ws
    ∙ subst (λ i. cond (i == j) 1 0 + count_of j ws ≡ cond (m == j) (length (w ∷ ws)) 0) (sym h.0)
    (elim (m == j) as (λ b. count_of j ws ≡ cond b (length ws) 0
    → cond b 1 0 + count_of j ws ≡ cond b (length (w ∷ ws)) 0) [ true ↦ λ e. omega (arith, e) | false ↦ λ e. omega (arith, e) ] rest)

all_named : (m : ℕ) (ws : List (Awaited ℕ)) → 0 < m → AllByRecursion (λ (w : Awaited ℕ). w.stream ≡ m) ws → AllByRecursion (λ (w : Awaited ℕ). 0 < w.stream) ws
all_named m [] p h = tt
all_named m (w ∷ ws) p h = (subst (λ i. 0 < i) (sym h.0) p, all_named m ws p h.1)

module _ {T : Type 0} (s : Session T ℕ) (t : Tallied) (r : Request T ℕ) (h : IsTallied s.awaited s.responses s.arrived t) (n : ℕ)
    (some : n ≡ length (noted_of r s.last)) where
  more_count : (j : ℕ) → count_of j (s.awaited ++ noted_of r s.last) ≡ count_of j s.awaited + cond (r.metadata == j) n 0
  more_count j =
      sum_by-append (λ (w : Awaited ℕ). cond (w.stream == j) 1 0) s.awaited (noted_of r s.last)
      ∙ ap (λ k. count_of j s.awaited + k) (count_all r.metadata j (noted_of r s.last)
      (noted_stream r.expect_response 0 s.last r.metadata r.destination.port r.messages) ∙ ap (λ k. cond (r.metadata == j) k 0) (sym some))

  -- What is awaited of a stream, and of one request more, is no more than all that is awaited.
  pub fits_count : (all : ℕ) → 0 < r.metadata → all ≡ length (s.awaited ++ noted_of r s.last) → (tally_at t.streams (r.metadata - 1)).awaited + n ≤ all
  fits_count all first is =
      let kept = h.numbers (r.metadata - 1) in
      let most = count_by-le-length (λ (w : Awaited ℕ). w.stream == (r.metadata - 1) + 1) s.awaited in
      let sum = length-append s.awaited (noted_of r s.last) in
      omega (arith, kept, most, sum, is, some)

  module _ (first : 0 < r.metadata) (given : r.metadata ≤ length t.streams) where
    abbrev now : Tallied
    now = with_request r.metadata n t

    at_own : tally_at now.streams (r.metadata - 1) ≡ after_request n (tally_at t.streams (r.metadata - 1))
    at_own = get_or-set_same t.streams (r.metadata - 1) _ no_tally (omega (arith, first, given))

    at_other : (k : ℕ) → k ≢ r.metadata - 1 → tally_at now.streams k ≡ tally_at t.streams k
    at_other k apart = get_or-set_other t.streams (r.metadata - 1) k _ no_tally apart

    newest_same : (k : ℕ) → (tally_at now.streams k).newest ≡ (tally_at t.streams k).newest
    newest_same k = elim (k == r.metadata - 1) as (λ b. (k == r.metadata - 1) ≡ b → (tally_at now.streams k).newest ≡ (tally_at t.streams k).newest) [
      | true ↦ λ e. subst (λ i. (tally_at now.streams i).newest ≡ (tally_at t.streams i).newest) (sym (same_number k (r.metadata - 1) e)) (ap (λ
          (x : Tally). x.newest) at_own)
      | false ↦ λ e. ap (λ (x : Tally). x.newest) (at_other k (λ is. let yes = same_is (r.metadata - 1) in
          let here : (k == r.metadata - 1) ≡ true = ap (λ i. i == r.metadata - 1) is ∙ yes in cc))
    ] refl

    numbers_now : (k : ℕ) → (tally_at now.streams k).awaited ≡ count_of (k + 1) (s.awaited ++ noted_of r s.last)
    numbers_now k = elim (k == r.metadata - 1) as (λ b. (k == r.metadata - 1) ≡ b
        → (tally_at now.streams k).awaited ≡ count_of (k + 1) (s.awaited ++ noted_of r s.last)) [
          | true ↦ λ e.
              let is : k ≡ r.metadata - 1 = same_number k (r.metadata - 1) e in
              let own : (tally_at now.streams (r.metadata - 1)).awaited ≡ (tally_at t.streams (r.metadata - 1)).awaited + n = ap (λ
              (x : Tally). x.awaited) at_own in
              let here : (tally_at now.streams k).awaited ≡ (tally_at t.streams k).awaited + n = subst (λ i. (tally_at now.streams i).awaited ≡
              (tally_at t.streams i).awaited + n) (sym is) own in
              let index : r.metadata ≡ k + 1 = omega (arith, is, first) in
              let more = more_count (k + 1) in
              let all : ◌≡◌ {A = ℕ} (cond (r.metadata == k + 1) n 0) n = ap (λ b. cond b n 0) (ap (λ i. i == k + 1) index ∙ same_is (k + 1)) in
              let kept = h.numbers k in
              omega (arith, here, more, all, kept)
          | false ↦ λ e.
              let apart : k ≢ r.metadata - 1 = λ is. let yes = same_is (r.metadata - 1) in
              let here : (k == r.metadata - 1) ≡ true = ap (λ i. i == r.metadata - 1) is ∙ yes in cc in
              let same = ap (λ (x : Tally). x.awaited) (at_other k apart) in
              let more = more_count (k + 1) in
              let none : ◌≡◌ {A = ℕ} (cond (r.metadata == k + 1) n 0) 0 = ap (λ b. cond b n 0) (apart_is r.metadata (k + 1) (λ is. apart (omega (arith, is)))) in
              let kept = h.numbers k in
              omega (arith, same, more, none, kept)
        ] refl

    -- After a request.
    pub tallied_request : IsTallied {T = T} (s.awaited ++ noted_of r s.last) s.responses s.arrived now
    tallied_request = record {
      numbers = numbers_now;
      replies = λ k. ap (λ i. nat_lt t.handed i) (newest_same k) ∙ h.replies k;
      newest = λ k. let e = newest_same k in let le = h.newest k in omega (arith, e, le);
      handed = h.handed;
      named = all-append (λ (w : Awaited ℕ). 0 < w.stream) s.awaited (noted_of r s.last) h.named
          (all_named r.metadata (noted_of r s.last) first (noted_stream r.expect_response 0 s.last r.metadata r.destination.port r.messages));
      answered = h.answered;
    }

-- ---- which requests wait

-- No more requests wait than streams were given.
pub newest_within : {T : Type 0} (given : ℕ) (q : List (Request T ℕ)) → AreNewest given q → length q ≤ given
newest_within given [] h = omega arith
newest_within given (r ∷ q) h = let a = h.0 in let b = h.1 in omega (arith, a, b)

-- The request of a stream waits, or the stream isn't given yet, where its number is above those that left.
pub waits_above : {T : Type 0} (given stream : ℕ) (q : List (Request T ℕ)) → AreNewest given q
    → nat_lt (given - length q) stream ≡ (list_any (λ (r : Request T ℕ). r.metadata == stream) q || nat_lt given stream)
waits_above given stream [] h = ap (λ n. nat_lt n stream) (less_none given)
  where
    less_none : (n : ℕ) → n - 0 ≡ n
    less_none n = omega arith
waits_above given stream (r ∷ q) h =
    let a = h.0 in
    let b = h.1 in
    let more = waits_above given stream q h.2 in
    elim (r.metadata == stream) as (λ c. (r.metadata == stream) ≡ c
    → nat_lt (given - length (r ∷ q)) stream ≡ ((c || list_any (λ (x : Request _ ℕ). x.metadata == stream) q) || nat_lt given stream)) [
      | true ↦ λ e. let is = same_number r.metadata stream e in let lt : given - length (r ∷ q) < stream = omega (arith, is, a, b) in grind (arith, nat_tests)
      | false ↦ λ e. step r.metadata stream given (length q) e a b ∙ more
    ] refl
  where
    step : (m stream given n : ℕ) → (m == stream) ≡ false → 0 < m → m + n ≡ given → nat_lt (given - suc n) stream ≡ nat_lt (given - n) stream
    step m stream given n apart first sum = grind (arith, nat_tests)

-- One more request of the next stream.
pub newest_more : {T : Type 0} (given : ℕ) (q : List (Request T ℕ)) (r : Request T ℕ) → r.metadata ≡ given + 1 → AreNewest given q
    → AreNewest (given + 1) (q ++ r ∷ [])
newest_more given [] r is h = (omega (arith, is), omega (arith, is), tt)
newest_more given (x ∷ q) r is h =
    let a = h.0 in
    let b = h.1 in
    let len = length-append q (r ∷ []) in
    (a, omega (arith, b, len), newest_more given q r is h.2)

-- As many streams are kept after a request as before.
pub same_length : (t t2 : Tallied) (m n : ℕ) → t2 ≡ with_request m n t → length t2.streams ≡ length t.streams
same_length t t2 m n is = ap (λ (x : Tallied). length x.streams) is ∙ length-set t.streams (m - 1) _

-- What is kept after a request that a session took.
pub tallied_took : {T : Type 0} (kind : T → ℕ) (text : T → List ℕ) (s s2 : Session T ℕ) (t t2 : Tallied) (r : Request T ℕ) (n before after : ℕ)
    → IsTallied s.awaited s.responses s.arrived t
    → s2 ≡ requested kind text s r → t2 ≡ with_request r.metadata n t → before ≡ length s.awaited → after ≡ length s2.awaited
    → n ≡ after - before → 0 < r.metadata → r.metadata ≤ length t.streams
    → IsTallied s2.awaited s2.responses s2.arrived t2
tallied_took {T} kind text s s2 t t2 r n before after h is more a b c first within =
    let sum = length-append s.awaited (noted_of r s.last) in
    let all : length s2.awaited ≡ length (s.awaited ++ noted_of r s.last) = ap (λ (x : Session T ℕ). length x.awaited) is in
    let some : n ≡ length (noted_of r s.last) = omega (arith, sum, all, a, b, c) in
    subst (λ (x : Tallied). IsTallied s2.awaited s2.responses s2.arrived x) (sym more)
    (subst (λ (x : Session T ℕ). IsTallied x.awaited x.responses x.arrived (with_request r.metadata n t)) (sym is)
    (tallied_request s t r h n some first within))

-- What is noted is not negative, and the count of a stream fits where the count of all does.
pub noted_more : {T : Type 0} (kind : T → ℕ) (text : T → List ℕ) (s s2 : Session T ℕ) (r : Request T ℕ) (before after : ℕ)
    → s2 ≡ requested kind text s r → before ≡ length s.awaited → after ≡ length s2.awaited
    → before ≤ after
noted_more {T} kind text s s2 r before after is a b =
    let sum = length-append s.awaited (noted_of r s.last) in
    let all : length s2.awaited ≡ length (s.awaited ++ noted_of r s.last) = ap (λ (x : Session T ℕ). length x.awaited) is in
    omega (arith, sum, all, a, b)

pub noted_fits : {T : Type 0} (kind : T → ℕ) (text : T → List ℕ) (s s2 : Session T ℕ) (t : Tallied) (r : Request T ℕ) (n before after : ℕ)
    → IsTallied s.awaited s.responses s.arrived t
    → s2 ≡ requested kind text s r → before ≡ length s.awaited → after ≡ length s2.awaited → n ≡ after - before → 0 < r.metadata
    → (tally_at t.streams (r.metadata - 1)).awaited + n ≤ after
noted_fits {T} kind text s s2 t r n before after h is a b c first =
    let sum = length-append s.awaited (noted_of r s.last) in
    let all : length s2.awaited ≡ length (s.awaited ++ noted_of r s.last) = ap (λ (x : Session T ℕ). length x.awaited) is in
    let some : n ≡ length (noted_of r s.last) = omega (arith, sum, all, a, b, c) in
    fits_count s t r h n some after first (omega (arith, all, b))
