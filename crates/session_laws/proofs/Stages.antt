-- How a record comes further, event by event, and its text at its end.
use Rattle.std.proofs.Common.{◌≡◌, ◌+◌, ◌<◌, ◌≤◌, ◌==◌, ◌&&◌, ◌||◌, ℕ, Bool, true, false, not, cond, nat_lt, List, [], ◌∷◌, ◌++◌, length, map, Option, Some, None, is_some, flat_map, refl, sym, ◌∙◌, ap, subst, append_assoc, arith, add-zero}
use Rattle.std.proofs.Math.Bool.{or-false}
use Rattle.std.specs.List.{filter, list_any}
use Rattle.std.proofs.lemmas.Grind.{flat_map-append}
use Rattle.std.proofs.lemmas.Bool.Decides.{nat_tests}
use Rattle.nl_core.specs.Frames.{Format}
use Rattle.session_model.specs.declared.awaited.Awaited.{Awaited}
use Rattle.session_model.specs.declared.settings.Settings.{Settings}
use Rattle.session_model.specs.Events.{Event, Arrival, arrival_of, arrivals}
use Rattle.session_model.specs.Awaited.{awaited, batch_count, batches_sent, last_number, is_last, ends, first_awaiting, after_arrival}
use Rattle.session_model.specs.Streams.{is_open, is_shut, has_closed, closing, open_streams}
use Rattle.session_model.specs.SessionText.{Placed, place_arrival, placed, stream_of, closed_line, unsolicited_line, unsolicited_text, reply_line, reply_text, sent_line, text_of_events}
use Rattle.session_model.proofs.Places.{append-nil, filter-same, filter-all}
use Rattle.session_model.proofs.Arrived.{none_ended}
use Rattle.proto_core.specs.Session.{Session, arrived_at, awaiting, place_of, replied}
use Rattle.proto_core.specs.declared.messages.Incoming.{Incoming}
use Rattle.proto_core.specs.declared.messages.Response.{Response}
use Rattle.session_laws.specs.After.{idle, session_after, drained, incoming_line, incoming_lines, response_line, response_lines}
use Rattle.session_laws.specs.Counts.{Counts, Closes, SettlesIf, SettlesAt}
use Rattle.session_laws.specs.Stage.{Brings, Stage}
use Rattle.session_laws.proofs.Rising.{has, Rises, filtered}
use Rattle.session_laws.proofs.Waiting.{awaited_rises, awaited_of, some_within, open_counts, first_kept, first_ended}
use Rattle.session_laws.proofs.Received.{streams_same, shut_same, awaited_left, session_more, stays, settles}

placed-append : {M : Type 0} (start : ℕ) (before es fs : List (Event M))
    → placed start before (es ++ fs) ≡ placed start before es ++ placed start (before ++ es) fs
placed-append start before [] fs = ap (λ bs. placed start bs fs) (sym (append-nil before))
placed-append start before (e ∷ es) fs =
    let here = map (place_arrival start before) (arrival_of e) in
    ap (λ ps. here ++ ps) (placed-append start (before ++ e ∷ []) es fs)
    ∙ sym (append_assoc here (placed start (before ++ e ∷ []) es) (placed start ((before ++ e ∷ []) ++ es) fs))
    ∙ ap (λ bs. (here ++ placed start (before ++ e ∷ []) es) ++ placed start bs fs) (append_assoc before (e ∷ []) es)

module _ {M : Type 0} (f : Format M) (s : Settings) (before es : List (Event M)) (e : Event M) where
  abbrev xs : List (Event M)
  xs = before ++ es

  abbrev place : Arrival M → Option (Awaited ℕ) → Placed M
  place a o = record { number = length (arrivals xs) + 1; arrival = a; stream = stream_of o }

  abbrev waiting : Arrival M → Option (Awaited ℕ)
  waiting a = first_awaiting a.message.header.sequence_number a.source.port (awaited s.start xs)

  -- the lines of one event more
  lines_more : (line : Placed M → List ℕ) (brought : List (Arrival M)) → Brings e brought
      → flat_map line (placed s.start before (es ++ e ∷ []))
      ≡ flat_map line (placed s.start before es) ++ flat_map line (map (λ a. place a (waiting a)) brought)
  lines_more line brought brings =
      ap (flat_map line) (placed-append s.start before es (e ∷ []))
      ∙ flat_map-append line (placed s.start before es) (placed s.start xs (e ∷ []))
      ∙ ap (λ ps. flat_map line (placed s.start before es) ++ flat_map line ps)
      (append-nil (map (λ a. place a (waiting a)) (arrival_of e)) ∙ ap (map (λ a. place a (waiting a))) brings.arrivals)

  silent_more : (brought : List (Arrival M)) → Brings e brought → flat_map (sent_line (last_number s.start before)) es ≡ []
      → flat_map (sent_line (last_number s.start before)) (es ++ e ∷ []) ≡ []
  silent_more brought brings none =
      let sent = sent_line {M = M} (last_number s.start before) in
      flat_map-append sent es (e ∷ []) ∙ ap (λ t. t ++ (sent e ++ [])) none ∙ append-nil (sent e) ∙ brings.silent (last_number s.start before)

  abbrev whole : (before ++ es) ++ e ∷ [] ≡ before ++ (es ++ e ∷ [])
  whole = append_assoc before es (e ∷ [])

  -- An event that brings no message changes nothing.
  pub passed : Brings e [] → (session : Session M ℕ) (at : ℕ → Option ℕ) (closed : ℕ → Bool) (text replies : List ℕ)
      → Stage f s before es session at closed text replies
      → Stage f s before (es ++ e ∷ []) session at closed text replies
  passed brings session at closed text replies h =
      let same : awaited s.start (xs ++ e ∷ []) ≡ awaited s.start xs = awaited_left s.start xs e [] brings ∙ filter-all (awaited s.start xs) in
      let shut = shut_same s.start xs e [] brings in
      let both = stays s.start before es e at at closed closed same shut (record { left = λ k. refl; shut = λ k. refl }) h.counts h.closes in
      record {
        stands = h.stands ∙ ap (λ n. idle (last_number s.start xs) (awaited s.start xs) n) (sym (add-zero (length (arrivals xs))))
            ∙ sym (session_more s.start xs e [] brings (awaited s.start xs) same) ∙ ap (session_after s.start) whole;
        counts = both.0;
        closes = both.1;
        unshut = ap is_shut (sym whole) ∙ shut ∙ h.unshut;
        streams = ap (batch_count 0) (sym whole) ∙ streams_same s.start xs e [] brings ∙ h.streams;
        silent = silent_more [] brings h.silent;
        unsolicited = h.unsolicited ∙ sym (append-nil (flat_map (unsolicited_line f) (placed s.start before es))) ∙ sym (lines_more (unsolicited_line f) [] brings);
        replied = h.replied ∙ sym (append-nil (flat_map (reply_line f s) (placed s.start before es))) ∙ sym (lines_more (reply_line f s) [] brings);
      }

  module _ (a : Arrival M) (brings : Brings e (a ∷ [])) (s0 : Session M ℕ) (at at' : ℕ → Option ℕ) (closed closed' : ℕ → Bool)
      (h : Stage f s before es (drained s0) at closed (incoming_lines f s0.incoming) (response_lines f s s0.responses)) where
    abbrev left : List (Awaited ℕ)
    left = after_arrival a (awaited s.start xs)

    awaited_now : awaited s.start (xs ++ e ∷ []) ≡ left
    awaited_now = awaited_left s.start xs e (a ∷ []) brings ∙ filter-same _ _ (λ w. ap not (or-false (ends a w))) (awaited s.start xs)

    -- the parts together
    reached : (s1 : Session M ℕ) (ws : List (Awaited ℕ)) → left ≡ ws
        → drained s1 ≡ idle (last_number s.start xs) ws (length (arrivals xs) + 1)
        → Counts at' s.start (before ++ (es ++ e ∷ [])) × Closes closed' s.start before (es ++ e ∷ [])
        → (o : Option (Awaited ℕ)) → waiting a ≡ o
        → incoming_lines f s1.incoming ≡ incoming_lines f s0.incoming ++ unsolicited_line f (place a o)
        → response_lines f s s1.responses ≡ response_lines f s s0.responses ++ reply_line f s (place a o)
        → Stage f s before (es ++ e ∷ []) (drained s1) at' closed' (incoming_lines f s1.incoming) (response_lines f s s1.responses)
    reached s1 ws is session both o found text replies =
        let line_of : (line : Placed M → List ℕ)
        → flat_map line (placed s.start before es) ++ line (place a o) ≡ flat_map line (placed s.start before (es ++ e ∷ [])) =
        (λ line. ap (λ p. flat_map line (placed s.start before es) ++ line (place a p)) (sym found)
        ∙ ap (λ u. flat_map line (placed s.start before es) ++ u) (sym (append-nil (line (place a (waiting a)))))
        ∙ sym (lines_more line (a ∷ []) brings)) in
        record {
          stands = session ∙ sym (session_more s.start xs e (a ∷ []) brings ws (awaited_now ∙ is)) ∙ ap (session_after s.start) whole;
          counts = both.0;
          closes = both.1;
          unshut = ap is_shut (sym whole) ∙ shut_same s.start xs e (a ∷ []) brings ∙ h.unshut;
          streams = ap (batch_count 0) (sym whole) ∙ streams_same s.start xs e (a ∷ []) brings ∙ h.streams;
          silent = silent_more (a ∷ []) brings h.silent;
          unsolicited = text ∙ ap (λ u. u ++ unsolicited_line f (place a o)) h.unsolicited ∙ line_of (unsolicited_line f);
          replied = replies ∙ ap (λ u. u ++ reply_line f s (place a o)) h.replied ∙ line_of (reply_line f s);
        }

    -- the table and the closed streams after a reply
    settled : (w : Awaited ℕ) → waiting a ≡ Some w → (done : Bool) → is_last a.message w.acks ≡ done
        → SettlesIf done w.stream at at' closed closed'
        → Counts at' s.start (before ++ (es ++ e ∷ [])) × Closes closed' s.start before (es ++ e ∷ [])
    settled w found true last st =
        let rises = awaited_rises s.start 0 xs in
        settles s.start before es e at at' closed closed' w.stream
        (λ k. first_ended a s.start (awaited s.start xs) w rises found last k
        ∙ ap (λ ws. cond (k == w.stream) 1 0 + length (filter (λ (v : Awaited ℕ). v.stream == k) ws)) (sym awaited_now))
        h.unshut (shut_same s.start xs e (a ∷ []) brings) st h.counts h.closes
    settled w found false last st =
        let rises = awaited_rises s.start 0 xs in
        stays s.start before es e at at' closed closed' (awaited_now ∙ first_kept a s.start (awaited s.start xs) w rises found last)
        (shut_same s.start xs e (a ∷ []) brings) st h.counts h.closes

    abbrev StageAt : Session M ℕ → Type 0
    StageAt s1 = Stage f s before (es ++ e ∷ []) (drained s1) at' closed' (incoming_lines f s1.incoming) (response_lines f s s1.responses)

    -- An event that brings a message, once the session has taken it in.
    pub received : SettlesAt (place_of a (awaiting a s0)) at at' closed closed'
        → Stage f s before (es ++ e ∷ []) (drained (arrived_at a s0)) at' closed' (incoming_lines f (arrived_at a s0).incoming) (response_lines f s (arrived_at a s0).responses)
    received st = go (waiting a) refl
      where
        same : awaiting a s0 ≡ waiting a
        same = ap (λ (q : Session M ℕ). first_awaiting a.message.header.sequence_number a.source.port q.awaited) h.stands

        arrived : s0.arrived ≡ length (arrivals xs)
        arrived = ap (λ (q : Session M ℕ). q.arrived) h.stands

        go : (o : Option (Awaited ℕ)) → waiting a ≡ o → StageAt (arrived_at a s0)
        go None found =
            let is : awaiting a s0 ≡ None = same ∙ found in
            let none : left ≡ awaited s.start xs = none_ended a (awaited s.start xs) found in
            let line : ℕ → List ℕ = λ n. unsolicited_text f n a in
            subst StageAt (ap (replied a s0) (sym is))
            (reached (replied a s0 None) (awaited s.start xs) none
            (ap (λ (q : Session M ℕ). record q { arrived = q.arrived + 1 }) h.stands)
            (stays s.start before es e at at' closed closed' (awaited_now ∙ none) (shut_same s.start xs e (a ∷ []) brings)
            (subst (λ o. SettlesAt (place_of a o) at at' closed closed') is st) h.counts h.closes)
            None found
            (flat_map-append (incoming_line f) s0.incoming (record { message = a.message; source = a.source; arrival = s0.arrived + 1 } ∷ [])
            ∙ ap (λ u. incoming_lines f s0.incoming ++ u) (append-nil (line (s0.arrived + 1)) ∙ ap (λ n. line (n + 1)) arrived))
            (sym (append-nil (response_lines f s s0.responses))))
        go (Some w) found =
            let is : awaiting a s0 ≡ Some w = same ∙ found in
            let line : ℕ → List ℕ = λ n. reply_text f s n w.stream a.message in
            subst StageAt (ap (replied a s0) (sym is))
            (reached (replied a s0 (Some w)) left refl
            (ap (λ (q : Session M ℕ). record q { awaited = after_arrival a q.awaited; arrived = q.arrived + 1 }) h.stands)
            (settled w found (is_last a.message w.acks) refl (subst (λ o. SettlesAt (place_of a o) at at' closed closed') is st))
            (Some w) found
            (sym (append-nil (incoming_lines f s0.incoming)))
            (flat_map-append (response_line f s) s0.responses (record { done = is_last a.message w.acks; message = a.message; metadata = w.stream; arrival = s0.arrived + 1 } ∷ [])
            ∙ ap (λ u. response_lines f s s0.responses ++ u) (append-nil (line (s0.arrived + 1)) ∙ ap (λ n. line (n + 1)) arrived)))

-- ---- at the end of a record

-- Batches that are counted from one more are one more.
pub counted_up : {M : Type 0} (n : ℕ) (es : List (Event M)) → batch_count (n + 1) es ≡ batch_count n es + 1
counted_up n [] = refl
counted_up n (e ∷ es) = ap (λ k. batch_count k es) (swap n (batches_sent e)) ∙ counted_up (n + batches_sent e) es
  where
    swap : (a b : ℕ) → a + 1 + b ≡ a + b + 1
    swap a b = omega arith

-- A stream up to the count of batches was asked for.
pub asked_by : {M : Type 0} (k : ℕ) (es : List (Event M)) → k ≤ batch_count 0 es → nat_lt k (batch_count 1 es) ≡ true
asked_by k es h = ap (nat_lt k) (counted_up 0 es) ∙ below k (batch_count 0 es) h
  where
    below : (c n : ℕ) → c ≤ n → nat_lt c (n + 1) ≡ true
    below c n l = grind (arith, nat_tests)

-- An open stream is one of the batches.
pub open_within : {M : Type 0} (start : ℕ) (es : List (Event M)) (k : ℕ) → is_open start es k ≡ true → (0 < k) × (k ≤ batch_count 0 es)
open_within start es k h =
    some_within k (batch_count 0 es) (awaited start es) (awaited_of start 0 es)
    (second (is_shut es) (list_any (λ (w : Awaited ℕ). w.stream == k) (awaited start es)) h)
  where
    second : (a b : Bool) → (not a && b) ≡ true → b ≡ true
    second true b e = cc
    second false b e = e

-- lt: it was asked by then; c: it is listed; b, a: it was open before, and is open after
closes_now : (lt c b a : Bool) → b ≡ (c || a) → (c && a) ≡ false → (b ≡ true → lt ≡ true) → c ≡ ((lt && not a) && not (lt && not b))
closes_now lt true b true all apart asked = cc
closes_now lt true b false all apart asked = rw (asked all, all) refl
closes_now lt false b a all apart asked = rw all (sym (and-not (lt && not a)))
  where
    and-not : (d : Bool) → (d && not d) ≡ false
    and-not true = refl
    and-not false = refl

-- The streams that a record closes, in a list that rises.
pub closing_is : {M : Type 0} (start : ℕ) (before es : List (Event M)) (closed : ℕ → Bool) (ks : List ℕ)
    → batch_count 0 (before ++ es) ≡ batch_count 0 before → Closes closed start before es
    → Rises ks → ((k : ℕ) → has k ks ≡ closed k) → ks ≡ closing start before es
closing_is start before es closed ks same h rises is =
    let later : (k : ℕ) → nat_lt k (batch_count 1 (before ++ es)) ≡ nat_lt k (batch_count 1 before) =
    (λ k. ap (nat_lt k) (counted_up 0 (before ++ es) ∙ ap (λ n. n + 1) same ∙ sym (counted_up 0 before))) in
    let each : (k : ℕ) → closed k ≡ (has_closed start (before ++ es) k && not (has_closed start before k)) =
    (λ k. closes_now (nat_lt k (batch_count 1 before)) (closed k) (is_open start before k) (is_open start (before ++ es) k) (h.all k) (h.apart k)
    (λ e. asked_by k before (open_within start before k e).1)
    ∙ ap (λ b. (b && not (is_open start (before ++ es) k)) && not (has_closed start before k)) (sym (later k))) in
    filtered ks (λ k. has_closed start (before ++ es) k && not (has_closed start before k)) (batch_count 0 (before ++ es)) rises (λ k. is k ∙ each k)
    (λ k e.
    let was : is_open start before k ≡ true = h.all k ∙ ap (λ b. b || is_open start (before ++ es) k) (each k ∙ e) in
    let w = open_within start before k was in
    (w.0, subst (λ n. k ≤ n) (sym same) w.1))

-- The streams that are open, in a list that rises.
pub open_is : {M : Type 0} (start : ℕ) (es : List (Event M)) (at : ℕ → Option ℕ) (ks : List ℕ) → Counts at start es → Rises ks
    → ((k : ℕ) → has k ks ≡ is_some (at k)) → ks ≡ open_streams start es
open_is start es at ks counts rises is =
    filtered ks (λ k. is_open start es k) (batch_count 0 es) rises
    (λ k. is k ∙ ap is_some (counts k) ∙ sym (open_counts start es k)) (λ k e. open_within start es k e)

-- The text of a datagram or an overrun.
pub received_text : {M : Type 0} (f : Format M) (s : Settings) (before es : List (Event M)) (session : Session M ℕ) (at : ℕ → Option ℕ) (closed : ℕ
    → Bool) (text replies ks : List ℕ)
    → Stage f s before es session at closed text replies → Rises ks → ((k : ℕ) → has k ks ≡ closed k)
    → text ++ (replies ++ flat_map closed_line ks) ≡ text_of_events f s before es
received_text {M} f s before es session at closed text replies ks h rises is =
    let sent = flat_map (sent_line {M = M} (last_number s.start before)) es in
    let unsolicited = flat_map (unsolicited_line f) (placed s.start before es) in
    let answers = flat_map (reply_line f s) (placed s.start before es) in
    ap (λ t. t ++ (replies ++ flat_map closed_line ks)) h.unsolicited ∙ ap (λ t. unsolicited ++ (t ++ flat_map closed_line ks)) h.replied
    ∙ ap (λ cs. unsolicited ++ (answers ++ flat_map closed_line cs)) (closing_is s.start before es closed ks h.streams h.closes rises is)
    ∙ sym (append_assoc unsolicited answers (flat_map closed_line (closing s.start before es)))
    ∙ ap (λ t. ((t ++ unsolicited) ++ answers) ++ flat_map closed_line (closing s.start before es)) (sym h.silent)
