-- One event more of a record that receives.
use Rattle.std.proofs.Common.{◌≡◌, ◌+◌, ◌-◌, ◌==◌, ◌&&◌, ◌||◌, ℕ, zero, suc, Bool, true, false, not, cond, List, [], ◌∷◌, ◌++◌, length, nat_lt, Option, is_some, refl, sym, ◌∙◌, ap, append_assoc, arith, add-zero, zero-add}
use Rattle.std.proofs.Math.Bool.{or-false, and-true, and-false}
use Rattle.std.specs.List.{filter, list_any}
use Rattle.std.proofs.lemmas.List.{length-append}
use Rattle.std.proofs.lemmas.List.Folds.{list_any-append}
use Rattle.std.proofs.lemmas.Bool.Decides.{nat_tests}
use Rattle.nl_core.specs.declared.message.NetlinkMessage.{NetlinkMessage}
use Rattle.session_model.specs.declared.awaited.Awaited.{Awaited}
use Rattle.session_model.specs.declared.address.SocketAddr.{SocketAddr}
use Rattle.session_model.specs.Events.{Event, Came, Unread, Leftover, Overran, Arrival, arrival_of, arrivals, overrun_arrival}
use Rattle.session_model.specs.Awaited.{awaited, last_number, batch_count, is_ended, ends}
use Rattle.session_model.specs.Streams.{is_open, is_shut, shuts}
use Rattle.session_model.proofs.Places.{append-nil, filter-same, arrivals-append, last_number-append, batch_count-append, awaited_more}
use Rattle.session_laws.specs.After.{idle, session_after}
use Rattle.session_laws.specs.Counts.{awaited_in, open_count, if_any, Counts, Closes, one_less, is_last_one, Settles, Stays}
use Rattle.session_laws.specs.Stage.{Brings}
use Rattle.session_laws.proofs.Waiting.{open_counts}

-- ---- events that a datagram or an overrun brings

-- A message that is read is one arrival.
pub came : {M : Type 0} (m : NetlinkMessage M) (source : SocketAddr) → Brings (Came m source) (record { message = m; source = source } ∷ [])
came m source = record { arrivals = refl; awaits = λ last batches. refl; frames = refl; batches = refl; stays_open = refl; silent = λ last. refl }

-- An overrun is one arrival.
pub overran : {M : Type 0} → Brings {M = M} Overran (overrun_arrival ∷ [])
overran = record { arrivals = refl; awaits = λ last batches. refl; frames = refl; batches = refl; stays_open = refl; silent = λ last. refl }

-- A frame that can't be read is no arrival.
pub unread : {M : Type 0} (kind number : ℕ) (source : SocketAddr) → Brings {M = M} (Unread kind number source) []
unread kind number source = record { arrivals = refl; awaits = λ last batches. refl; frames = refl; batches = refl; stays_open = refl; silent = λ last. refl }

-- A rest is no arrival.
pub leftover : {M : Type 0} (count : ℕ) (source : SocketAddr) → Brings {M = M} (Leftover count source) []
leftover count source = record { arrivals = refl; awaits = λ last batches. refl; frames = refl; batches = refl; stays_open = refl; silent = λ last. refl }

-- ---- what one event more changes

module _ {M : Type 0} (start : ℕ) (es : List (Event M)) (e : Event M) (brought : List (Arrival M)) (brings : Brings e brought) where
  last_same : last_number start (es ++ e ∷ []) ≡ last_number start es
  last_same = last_number-append start es (e ∷ []) ∙ ap (λ n. last_number start es + n) brings.frames ∙ add-zero (last_number start es)

  -- There are as many batches as before.
  pub streams_same : batch_count 0 (es ++ e ∷ []) ≡ batch_count 0 es
  streams_same = batch_count-append 0 es (e ∷ []) ∙ ap (λ n. batch_count 0 es + n) brings.batches ∙ add-zero (batch_count 0 es)

  -- The link is closed where it was.
  pub shut_same : is_shut (es ++ e ∷ []) ≡ is_shut es
  shut_same = list_any-append shuts es (e ∷ []) ∙ ap (λ b. is_shut es || (b || false)) brings.stays_open ∙ or-false (is_shut es)

  arrived_more : length (arrivals (es ++ e ∷ [])) ≡ length (arrivals es) + length brought
  arrived_more = ap length (arrivals-append es (e ∷ []) ∙ ap (λ bs. arrivals es ++ bs) (append-nil (arrival_of e) ∙ brings.arrivals))
      ∙ length-append (arrivals es) brought

  -- What is awaited is what the arrivals of the event don't end.
  pub awaited_left : awaited start (es ++ e ∷ []) ≡ filter (λ w. not (list_any (λ a. ends a w) brought)) (awaited start es)
  awaited_left =
      awaited_more start 0 es e
      ∙ ap (λ ws. filter (λ w. not (is_ended (e ∷ []) w)) (awaited start es) ++ ws) (brings.awaits (last_number start es) (batch_count 0 es))
      ∙ append-nil (filter (λ w. not (is_ended (e ∷ []) w)) (awaited start es))
      ∙ filter-same _ _ (λ w. ap (λ bs. not (list_any (λ a. ends a w) bs)) (append-nil (arrival_of e) ∙ brings.arrivals)) (awaited start es)

  -- The session after the event, by what is awaited then.
  pub session_more : (ws : List (Awaited ℕ)) → awaited start (es ++ e ∷ []) ≡ ws
      → session_after start (es ++ e ∷ []) ≡ idle (last_number start es) ws (length (arrivals es) + length brought)
  session_more ws is =
      ap (λ n. idle n (awaited start (es ++ e ∷ [])) (length (arrivals (es ++ e ∷ [])))) last_same
      ∙ ap (λ vs. idle (last_number start es) vs (length (arrivals (es ++ e ∷ [])))) is
      ∙ ap (λ n. idle (last_number start es) ws n) arrived_more

  count_more : is_shut es ≡ false → (k : ℕ) → open_count start (es ++ e ∷ []) k ≡ awaited_in k (awaited start (es ++ e ∷ []))
  count_more unshut k = ap (λ b. cond b 0 (awaited_in k (awaited start (es ++ e ∷ [])))) (shut_same ∙ unshut)

  count_before : is_shut es ≡ false → (k : ℕ) → open_count start es k ≡ awaited_in k (awaited start es)
  count_before unshut k = ap (λ b. cond b 0 (awaited_in k (awaited start es))) unshut

-- ---- counts and closed streams

module _ {M : Type 0} (start : ℕ) (before es : List (Event M)) (e : Event M) (at at' : ℕ → Option ℕ) (closed closed' : ℕ → Bool) where
  -- Where nothing is ended, the table and the closed streams stay right.
  pub stays : awaited start ((before ++ es) ++ e ∷ []) ≡ awaited start (before ++ es) → is_shut ((before ++ es) ++ e ∷ []) ≡ is_shut (before ++ es)
      → Stays at at' closed closed' → Counts at start (before ++ es) → Closes closed start before es
      → Counts at' start (before ++ (es ++ e ∷ [])) × Closes closed' start before (es ++ e ∷ [])
  stays same shut st counts closes =
      let whole : (before ++ es) ++ e ∷ [] ≡ before ++ (es ++ e ∷ []) = append_assoc before es (e ∷ []) in
      let count : (k : ℕ) → open_count start ((before ++ es) ++ e ∷ []) k ≡ open_count start (before ++ es) k =
      (λ k. ap (λ b. cond b 0 (awaited_in k (awaited start ((before ++ es) ++ e ∷ [])))) shut
      ∙ ap (λ ws. cond (is_shut (before ++ es)) 0 (awaited_in k ws)) same) in
      let opens : (k : ℕ) → is_open start (before ++ (es ++ e ∷ [])) k ≡ is_open start (before ++ es) k =
      (λ k. ap (λ fs. is_open start fs k) (sym whole) ∙ open_counts start ((before ++ es) ++ e ∷ []) k ∙ ap (λ n. is_some (if_any n)) (count k)
      ∙ sym (open_counts start (before ++ es) k)) in (
        (λ k. st.left k ∙ counts k ∙ ap if_any (sym (count k)) ∙ ap (λ fs. if_any (open_count start fs k)) whole),
        record {
          all = λ k. closes.all k ∙ ap (λ b. b || is_open start (before ++ es) k) (sym (st.shut k)) ∙ ap (λ b. closed' k || b) (sym (opens k));
          apart = λ k. ap (λ b. b && is_open start (before ++ (es ++ e ∷ [])) k) (st.shut k) ∙ ap (λ b. closed k && b) (opens k) ∙ closes.apart k;
        },
      )

  -- Where one number of a stream is ended, the table and the closed streams are those after it.
  pub settles : (stream : ℕ)
      → ((k : ℕ) → awaited_in k (awaited start (before ++ es)) ≡ cond (k == stream) 1 0 + awaited_in k (awaited start ((before ++ es) ++ e ∷ [])))
      → is_shut (before ++ es) ≡ false → is_shut ((before ++ es) ++ e ∷ []) ≡ is_shut (before ++ es)
      → Settles stream at at' closed closed' → Counts at start (before ++ es) → Closes closed start before es
      → Counts at' start (before ++ (es ++ e ∷ [])) × Closes closed' start before (es ++ e ∷ [])
  settles stream fell unshut shut st counts closes =
      let whole : (before ++ es) ++ e ∷ [] ≡ before ++ (es ++ e ∷ []) = append_assoc before es (e ∷ []) in
      let now : ℕ → ℕ = (λ k. awaited_in k (awaited start ((before ++ es) ++ e ∷ []))) in
      let count_then : (k : ℕ) → open_count start (before ++ es) k ≡ cond (k == stream) 1 0 + now k =
      (λ k. ap (λ b. cond b 0 (awaited_in k (awaited start (before ++ es)))) unshut ∙ fell k) in
      let count_now : (k : ℕ) → open_count start (before ++ (es ++ e ∷ [])) k ≡ now k =
      (λ k. ap (λ fs. open_count start fs k) (sym whole) ∙ ap (λ b. cond b 0 (now k)) (shut ∙ unshut)) in
      let was : (k : ℕ) → at k ≡ if_any (cond (k == stream) 1 0 + now k) = (λ k. counts k ∙ ap if_any (count_then k)) in
      let then : (k : ℕ) → is_open start (before ++ es) k ≡ is_some (if_any (cond (k == stream) 1 0 + now k)) =
      (λ k. open_counts start (before ++ es) k ∙ ap (λ n. is_some (if_any n)) (count_then k)) in
      let is : (k : ℕ) → is_open start (before ++ (es ++ e ∷ [])) k ≡ is_some (if_any (now k)) =
      (λ k. open_counts start (before ++ (es ++ e ∷ [])) k ∙ ap (λ n. is_some (if_any n)) (count_now k)) in (
        (λ k. st.left k ∙ fallen k stream (now stream) (now k) at (was stream) (was k) (λ eq. ap now eq) ∙ ap if_any (sym (count_now k))),
        record {
          all = λ k. closes.all k ∙ ap (λ b. closed k || b) (then k)
              ∙ shutting k stream (now stream) (now k) (closed k) (at stream) (was stream) (λ eq. ap now eq)
              ∙ ap (λ b. b || is_some (if_any (now k))) (sym (st.shut k)) ∙ ap (λ b. closed' k || b) (sym (is k));
          apart = λ k. ap (λ b. b && is_open start (before ++ (es ++ e ∷ [])) k) (st.shut k)
              ∙ ap (λ b. (cond (k == stream) (is_last_one (at stream)) false || closed k) && b) (is k)
              ∙ parting k stream (now stream) (now k) (closed k) (at stream) (was stream) (λ eq. ap now eq)
              (sym (ap (λ b. closed k && b) (then k)) ∙ closes.apart k);
        },
      )
    where
      it : (a b : ℕ) → (a == b) ≡ true → a ≡ b
      it a b h = grind (arith, nat_tests)

      own : (a : ℕ) → (a == a) ≡ true
      own a = grind (arith, nat_tests)

      one_fell : (n : ℕ) → one_less (if_any (1 + n)) ≡ if_any n
      one_fell n =
          let more : 1 + n ≡ suc n = omega arith in
          let less : suc n - 1 ≡ n = omega arith in
          ap (λ k. one_less (if_any k)) more ∙ ap if_any less

      fallen : (k c n m : ℕ) (at : ℕ → Option ℕ) → at c ≡ if_any (cond (c == c) 1 0 + n)
          → at k ≡ if_any (cond (k == c) 1 0 + m) → (k ≡ c → m ≡ n)
          → cond (k == c) (one_less (at c)) (at k) ≡ if_any m
      fallen k c n m at at_c at_k same = by (k == c) refl
        where
          by : (b : Bool) → (k == c) ≡ b → cond b (one_less (at c)) (at k) ≡ if_any m
          by true eq = ap one_less (at_c ∙ ap (λ b. if_any (cond b 1 0 + n)) (own c)) ∙ one_fell n ∙ ap if_any (sym (same (it k c eq)))
          by false eq = at_k ∙ ap (λ b. if_any (cond b 1 0 + m)) eq ∙ ap if_any (zero-add m)

      or-true : (b : Bool) → (b || true) ≡ true
      or-true true = refl
      or-true false = refl

      last_is : (n : ℕ) → is_last_one (if_any (1 + suc n)) ≡ false
      last_is n =
          let more : 1 + suc n ≡ suc (suc n) = omega arith in
          let t : nat_lt 1 (suc (suc n)) ≡ true = grind (arith, nat_tests) in
          ap (λ k. is_last_one (if_any k)) more ∙ ap not t

      shutting : (k c n m : ℕ) (b : Bool) (o : Option ℕ) → o ≡ if_any (cond (c == c) 1 0 + n) → (k ≡ c → m ≡ n)
          → (b || is_some (if_any (cond (k == c) 1 0 + m))) ≡ ((cond (k == c) (is_last_one o) false || b) || is_some (if_any m))
      shutting k c n m b o is same = by (k == c) refl
        where
          count : (x : ℕ) → x ≡ n → (b || is_some (if_any (1 + x))) ≡ ((is_last_one (if_any (1 + n)) || b) || is_some (if_any x))
          count zero eq = or-true b ∙ sym (ap (λ z. (is_last_one (if_any (1 + z)) || b) || false) (sym eq))
          count (suc x) eq = ap (λ z. b || is_some (if_any z)) (one_more (suc x)) ∙ or-true b ∙ sym (or-true (is_last_one (if_any (1 + n)) || b))
            where
              one_more : (z : ℕ) → 1 + z ≡ suc z
              one_more z = omega arith

          by : (d : Bool) → (k == c) ≡ d → (b || is_some (if_any (cond d 1 0 + m))) ≡ ((cond d (is_last_one o) false || b) || is_some (if_any m))
          by true eq = count m (same (it k c eq))
              ∙ ap (λ z. (is_last_one z || b) || is_some (if_any m)) (sym (is ∙ ap (λ d. if_any (cond d 1 0 + n)) (own c)))
          by false eq = ap (λ x. b || is_some (if_any x)) (zero-add m)

      parting : (k c n m : ℕ) (b : Bool) (o : Option ℕ) → o ≡ if_any (cond (c == c) 1 0 + n) → (k ≡ c → m ≡ n)
          → (b && is_some (if_any (cond (k == c) 1 0 + m))) ≡ false
          → ((cond (k == c) (is_last_one o) false || b) && is_some (if_any m)) ≡ false
      parting k c n m b o is same apart = by (k == c) refl apart
        where
          count : (x : ℕ) → x ≡ n → (b && is_some (if_any (1 + x))) ≡ false → ((is_last_one (if_any (1 + n)) || b) && is_some (if_any x)) ≡ false
          count zero eq h = and-false (is_last_one (if_any (1 + n)) || b)
          count (suc x) eq h =
              let more : 1 + suc x ≡ suc (suc x) = omega arith in
              let none : b ≡ false = sym (and-true b) ∙ sym (ap (λ z. b && is_some (if_any z)) more) ∙ h in
              and-true (is_last_one (if_any (1 + n)) || b) ∙ ap (λ z. is_last_one (if_any (1 + z)) || b) (sym eq) ∙ ap (λ d. d || b) (last_is x)
              ∙ none

          by : (d : Bool) → (k == c) ≡ d → (b && is_some (if_any (cond d 1 0 + m))) ≡ false
              → ((cond d (is_last_one o) false || b) && is_some (if_any m)) ≡ false
          by true eq h = ap (λ z. (is_last_one z || b) && is_some (if_any m)) (is ∙ ap (λ d. if_any (cond d 1 0 + n)) (own c))
              ∙ count m (same (it k c eq)) h
          by false eq h = ap (λ x. b && is_some (if_any x)) (sym (zero-add m)) ∙ h
