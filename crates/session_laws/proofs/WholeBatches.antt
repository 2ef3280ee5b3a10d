-- The text and the state of a whole batch.
use Rattle.std.proofs.Common.{◌≡◌, ◌+◌, ◌<◌, ◌≤◌, ◌==◌, ◌&&◌, ℕ, zero, suc, Bool, true, false, not, cond, nat_lt, List, [], ◌∷◌, ◌++◌, length, map, Option, Some, None, is_some, flat_map, refl, sym, ◌∙◌, ap, subst, arith, add-zero, zero-add}
use Rattle.std.proofs.Math.Bool.{or-false, and-true, and-false}
use Rattle.std.proofs.lemmas.List.Folds.{list_any-append}
use Rattle.std.proofs.lemmas.Bool.Decides.{nat_tests}
use Rattle.nl_core.specs.Frames.{Format, message_text}
use Rattle.nl_core.specs.declared.message.NetlinkMessage.{NetlinkMessage}
use Rattle.session_model.specs.declared.awaited.Awaited.{Awaited}
use Rattle.session_model.specs.declared.address.SocketAddr.{SocketAddr}
use Rattle.session_model.specs.declared.settings.Settings.{Settings}
use Rattle.session_model.specs.declared.transcript.BatchFrame.{BatchFrame}
use Rattle.session_model.specs.Events.{DumpKind, Event, Sent, arrivals, asked_for}
use Rattle.session_model.specs.Awaited.{awaited, awaited_frames, last_number, batch_count, numbered}
use Rattle.session_model.specs.Streams.{is_open, is_shut, shuts, has_closed, closing}
use Rattle.session_model.specs.SessionText.{closed_line, sent_text, sent_line, text_of_events}
use Rattle.session_model.proofs.Places.{append-nil, filter-all, arrivals-append, last_number-append, batch_count-append, awaited_more}
use Rattle.proto_core.specs.Session.{Session, requested}
use Rattle.proto_core.specs.declared.messages.Outgoing.{Outgoing}
use Rattle.proto_core.specs.declared.request.Request.{Request}
use Rattle.proto_core.specs.declared.request.ExpectResponse.TheVariants.{Explicit}
use Rattle.session_laws.specs.After.{idle, session_after, without_outgoing}
use Rattle.session_laws.specs.Counts.{awaited_in, open_count, if_any, Counts}
use Rattle.session_laws.specs.Requests.{messages_in, marks_in, marked, Opens}
use Rattle.session_laws.proofs.Rising.{has, Rises, filtered}
use Rattle.session_laws.proofs.Waiting.{awaited_in-append, awaited_of, none_later, open_counts, turned}
use Rattle.session_laws.proofs.Stages.{counted_up}
use Rattle.session_laws.proofs.Batches.{counted, closes_anew, count_same, noted_same, datagram_same, newly_counted}

-- ---- the whole batch

module _ {M : Type 0} (f : Format M) (s : Settings) (es : List (Event M)) (to : SocketAddr) (d : Option DumpKind)
    (frames : List BatchFrame) where
  abbrev stream : ℕ
  stream = batch_count 0 es + 1

  abbrev count : ℕ
  count = marked (marks_in f frames)

  abbrev after : List (Event M)
  after = es ++ Sent to (asked_for f d frames) ∷ []

  abbrev new : List (Awaited ℕ)
  new = awaited_frames (last_number s.start es) stream to.port (asked_for f d frames)

  awaited_after : awaited s.start after ≡ awaited s.start es ++ new
  awaited_after = awaited_more s.start 0 es (Sent to (asked_for f d frames)) ∙ ap (λ ws. ws ++ new) (filter-all (awaited s.start es))

  shut_after : is_shut after ≡ is_shut es
  shut_after = list_any-append shuts es (Sent to (asked_for f d frames) ∷ []) ∙ or-false (is_shut es)

  -- The request of a batch.
  abbrev pub request : Request M ℕ
  request = record { metadata = stream; messages = messages_in f frames; destination = to; expect_response = Explicit (marks_in f frames) }

  session_sent : session_after s.start after
      ≡ idle (last_number s.start es + length (messages_in f frames)) (awaited s.start es ++ new) (length (arrivals es))
  session_sent =
      let last = last_number s.start es + length (messages_in f frames) in
      let lasts = last_number-append s.start es (Sent to (asked_for f d frames) ∷ []) in
      let arrived = arrivals-append es (Sent to (asked_for f d frames) ∷ []) ∙ append-nil (arrivals es) in
      ap (λ n. idle n (awaited s.start after) (length (arrivals after)))
      (lasts ∙ ap (λ n. last_number s.start es + n) (sym (count_same f d frames)))
      ∙ ap (λ ws. idle last ws (length (arrivals after))) awaited_after
      ∙ ap (λ n. idle last (awaited s.start es ++ new) n) (ap length arrived)

  -- The datagram of the batch's request.
  abbrev pub batch_sent : Outgoing M
  batch_sent = record { messages = numbered f.kind f.text (last_number s.start es) (messages_in f frames); destination = to }

  -- The session after the request of a batch, whose datagram is taken out.
  pub session_asked : (s0 : Session M ℕ) → s0 ≡ session_after s.start es
      → (without_outgoing (requested f.kind f.text s0 request) ≡ session_after s.start after)
      × ((requested f.kind f.text s0 request).outgoing ≡ batch_sent ∷ [])
  session_asked s0 is =
      let last = last_number s.start es in
      let same : requested f.kind f.text s0 request ≡ requested f.kind f.text (session_after s.start es) request =
      ap (λ q. requested f.kind f.text q request) is in (
        ap without_outgoing same
            ∙ ap (λ ws. idle (last + length (messages_in f frames)) (awaited s.start es ++ ws) (length (arrivals es))) (noted_same f d [] frames last stream to.port)
            ∙ sym session_sent,
        ap (λ (q : Session M ℕ). q.outgoing) same,
      )

  -- The line of the batch, by the messages of its datagram.
  pub batch_line : sent_text to (map (message_text f.text) batch_sent.messages)
      ≡ sent_line {M = M} (last_number s.start es) (Sent to (asked_for f d frames))
  batch_line = ap (sent_text to) (datagram_same f d frames (last_number s.start es))

  count_after : is_shut es ≡ false → (k : ℕ) → open_count s.start after k ≡ open_count s.start es k + cond (k == stream) count 0
  count_after open_still k =
      ap (λ b. cond b 0 (awaited_in k (awaited s.start after))) (shut_after ∙ open_still) ∙ ap (awaited_in k) awaited_after
      ∙ awaited_in-append k (awaited s.start es) new
      ∙ ap (λ n. awaited_in k (awaited s.start es) + n) (newly_counted f d k stream to.port frames (last_number s.start es))
      ∙ ap (λ b. cond b 0 (awaited_in k (awaited s.start es)) + cond (k == stream) count 0) (sym open_still)

  none_yet : (k : ℕ) → batch_count 0 es < k → open_count s.start es k ≡ 0
  none_yet k h = by (is_shut es)
    where
      by : (b : Bool) → cond b 0 (awaited_in k (awaited s.start es)) ≡ 0
      by true = refl
      by false = none_later k (batch_count 0 es) (awaited s.start es) h (awaited_of s.start 0 es)

  -- After a batch the table has its stream too.
  pub counts_sent : (at at' : ℕ → Option ℕ) → is_shut es ≡ false → Counts at s.start es → Opens stream count at at' → Counts at' s.start after
  counts_sent at at' open_still counts opens k = opens k ∙ by (k == stream) refl ∙ ap if_any (sym (count_after open_still k))
    where
      it : (a b : ℕ) → (a == b) ≡ true → a ≡ b
      it a b h = grind (arith, nat_tests)

      low : batch_count 0 es < stream
      low = omega arith

      some : (n : ℕ) (o : Option ℕ) → o ≡ None → cond (not (n == 0)) (Some n) o ≡ if_any n
      some zero o e = e
      some (suc n) o e =
          let t : (suc n == 0) ≡ false = grind (arith, nat_tests) in
          ap (λ b. cond (not b) (Some (suc n)) o) t

      by : (b : Bool) → (k == stream) ≡ b → cond (b && not (count == 0)) (Some count) (at k) ≡ if_any (open_count s.start es k + cond b count 0)
      by true e =
          let none : open_count s.start es k ≡ 0 = none_yet k (subst (λ j. batch_count 0 es < j) (sym (it k stream e)) low) in
          some count (at k) (counts k ∙ ap if_any none) ∙ ap if_any (sym (zero-add count)) ∙ ap (λ n. if_any (n + count)) (sym none)
      by false e = counts k ∙ ap if_any (sym (add-zero (open_count s.start es k)))

  -- A batch closes its own stream where it awaits nothing, and no other.
  closing_sent : is_shut es ≡ false → closing s.start es (Sent to (asked_for f d frames) ∷ []) ≡ cond (count == 0) (stream ∷ []) []
  closing_sent open_still =
      sym (filtered (cond (count == 0) (stream ∷ []) []) (λ k. has_closed s.start after k && not (has_closed s.start es k))
      (batch_count 0 after) (rising (count == 0)) each within)
    where
      it : (a b : ℕ) → (a == b) ≡ true → a ≡ b
      it a b h = grind (arith, nat_tests)

      rising : (b : Bool) → Rises (cond b (stream ∷ []) [])
      rising true = (tt, tt)
      rising false = tt

      streams : batch_count 1 after ≡ stream + 1
      streams = batch_count-append 1 es (Sent to (asked_for f d frames) ∷ []) ∙ ap (λ n. n + 1) (counted_up 0 es)

      open_now : (k : ℕ) → is_open s.start after k ≡ is_some (if_any (open_count s.start es k + cond (k == stream) count 0))
      open_now k = open_counts s.start after k ∙ ap (λ n. is_some (if_any n)) (count_after open_still k)

      zero_test : (n : ℕ) → not (is_some (if_any n)) ≡ (n == 0)
      zero_test zero = refl
      zero_test (suc n) = let t : (suc n == 0) ≡ false = grind (arith, nat_tests) in sym t

      has_one : (k : ℕ) (b : Bool) → has k (cond b (stream ∷ []) []) ≡ ((k == stream) && b)
      has_one k true = or-false (stream == k) ∙ turned stream k ∙ sym (and-true (k == stream))
      has_one k false = sym (and-false (k == stream))

      and-not : (d : Bool) → (d && not d) ≡ false
      and-not true = refl
      and-not false = refl

      here : (k n : ℕ) → k ≡ n → ((nat_lt k (n + 1) && true) && not (nat_lt k n && true)) ≡ true
      here k n h =
          let a : nat_lt k (n + 1) ≡ true = grind (arith, nat_tests) in
          let b : nat_lt k n ≡ false = grind (arith, nat_tests) in
          ap (λ c. (c && true) && not (nat_lt k n && true)) a ∙ ap (λ c. not (c && true)) b

      lts : (k n : ℕ) → (k == n) ≡ false → nat_lt k (n + 1) ≡ nat_lt k n
      lts k n h = grind (arith, nat_tests)

      by : (k : ℕ) (b : Bool) → (k == stream) ≡ b → (b && (count == 0))
          ≡ closes_anew (nat_lt k (stream + 1)) (counted (open_count s.start es k + cond b count 0)) (nat_lt k stream) (counted (open_count s.start es k))
      by k true e =
          let is : k ≡ stream = it k stream e in
          let none : open_count s.start es k ≡ 0 = none_yet k (omega (arith, is)) in
          let first : nat_lt k (stream + 1) ≡ true = grind (arith, nat_tests) in
          let second : nat_lt k stream ≡ false = grind (arith, nat_tests) in
          let before = open_count s.start es k in
          sym (ap (λ c. closes_anew c (counted (before + count)) (nat_lt k stream) (counted before)) first
          ∙ ap (λ c. not (counted (before + count)) && not (c && not (counted before))) second
          ∙ and-true (not (counted (before + count)))
          ∙ ap (λ n. not (counted (n + count))) none ∙ ap (λ n. not (counted n)) (zero-add count) ∙ zero_test count)
      by k false e =
          let before = open_count s.start es k in
          sym (ap (λ n. closes_anew (nat_lt k (stream + 1)) (counted n) (nat_lt k stream) (counted before)) (add-zero before)
          ∙ ap (λ c. closes_anew c (counted before) (nat_lt k stream) (counted before)) (lts k stream e)
          ∙ and-not (nat_lt k stream && not (counted before)))

      each : (k : ℕ) → has k (cond (count == 0) (stream ∷ []) []) ≡ (has_closed s.start after k && not (has_closed s.start es k))
      each k =
          let before = counted (open_count s.start es k) in
          let now = counted (open_count s.start es k + cond (k == stream) count 0) in
          has_one k (count == 0) ∙ by k (k == stream) refl
          ∙ ap (λ n. closes_anew (nat_lt k n) now (nat_lt k stream) before) (sym streams)
          ∙ ap (λ b. closes_anew (nat_lt k (batch_count 1 after)) b (nat_lt k stream) before) (sym (open_now k))
          ∙ ap (λ n. closes_anew (nat_lt k (batch_count 1 after)) (is_open s.start after k) (nat_lt k n) before) (sym (counted_up 0 es))
          ∙ ap (λ b. closes_anew (nat_lt k (batch_count 1 after)) (is_open s.start after k) (nat_lt k (batch_count 1 es)) b)
          (sym (open_counts s.start es k))

      within : (k : ℕ) → (has_closed s.start after k && not (has_closed s.start es k)) ≡ true → (0 < k) × (k ≤ batch_count 0 after)
      within k h = at_stream (k == stream) refl (sym (each k ∙ h) ∙ has_one k (count == 0))
        where
          at_stream : (b : Bool) → (k == stream) ≡ b → true ≡ (b && (count == 0)) → (0 < k) × (k ≤ batch_count 0 after)
          at_stream true e g =
              let is : k ≡ stream = it k stream e in
              let n : batch_count 0 after ≡ stream = batch_count-append 0 es (Sent to (asked_for f d frames) ∷ []) in
              (omega (arith, is), omega (arith, is, n))
          at_stream false e g = cc

  -- The text of a batch: its line, and that its own stream closes where it awaits nothing.
  pub batch_text : is_shut es ≡ false
      → sent_line {M = M} (last_number s.start es) (Sent to (asked_for f d frames)) ++ cond (count == 0) (closed_line stream) []
      ≡ text_of_events f s es (Sent to (asked_for f d frames) ∷ [])
  batch_text open_still =
      let mine = sent_line {M = M} (last_number s.start es) (Sent to (asked_for f d frames)) in
      ap (λ t. mine ++ t) (closed (count == 0)) ∙ ap (λ ks. mine ++ flat_map closed_line ks) (sym (closing_sent open_still))
      ∙ ap (λ t. t ++ flat_map closed_line (closing s.start es (Sent to (asked_for f d frames) ∷ [])))
      (sym (append-nil ((mine ++ []) ++ []) ∙ append-nil (mine ++ []) ∙ append-nil mine))
    where
      closed : (b : Bool) → cond b (closed_line stream) [] ≡ flat_map closed_line (cond b (stream ∷ []) [])
      closed true = sym (append-nil (closed_line stream))
      closed false = refl
