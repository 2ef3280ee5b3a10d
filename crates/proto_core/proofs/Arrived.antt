-- A step of the session by a message that arrives.
use Rattle.std.proofs.Common.{◌≡◌, ◌+◌, ◌<◌, ◌==◌, ◌&&◌, ◌||◌, ◌++◌, ℕ, Bool, true, false, not, cond, List, [], ◌∷◌, Option, Some, None, refl, sym, ◌∙◌, subst, ap, arith}
use Rattle.std.specs.List.{filter, AllByRecursion}
use Rattle.session_model.specs.declared.awaited.Awaited.{Awaited}
use Rattle.session_model.specs.Events.{Arrival}
use Rattle.session_model.specs.Awaited.{first_awaiting, after_arrival, ends, is_last}
use Rattle.proto_core.specs.Numbers.{AreBelow, IsAscending, is_awaited, without}
use Rattle.proto_core.specs.Session.{Session, Continues, replied, arrived_at, awaiting, handled, place_of}
use Rattle.proto_core.specs.declared.messages.Handled.{Handled}
use Rattle.proto_core.specs.declared.messages.Incoming.{Incoming}
use Rattle.proto_core.specs.declared.messages.Response.{Response}
use Rattle.proto_core.specs.declared.messages.Place.TheVariants.{Reply, Unsolicited}
use Rattle.proto_core.proofs.Entries.{apart_from_below, same_number, without-above, none_above}

module _ {M : Type 0} where
  -- What is awaited no longer isn't awaited after a removal.
  filter_ended : (n : ℕ) (test : Awaited M → Bool) (ws : List (Awaited M)) → is_awaited n ws ≡ false → is_awaited n (filter test ws) ≡ false
  filter_ended n test [] h = refl
  filter_ended n test (w ∷ ws) h =
      elim (w.number == n) as (λ b. (w.number == n) ≡ b → (b || is_awaited n ws) ≡ false → is_awaited n (cond (test w) (w ∷ filter test ws) (filter test ws)) ≡ false) [
        | true ↦ λ is f. cc
        | false ↦ λ is f. elim (test w) as (λ c. is_awaited n (cond c (w ∷ filter test ws) (filter test ws)) ≡ false) [
          | true ↦ rw is (filter_ended n test ws f)
          | false ↦ filter_ended n test ws f
        ]
      ] refl h

  is_awaited-without : (n : ℕ) (ws : List (Awaited M)) → is_awaited n (without n ws) ≡ false
  is_awaited-without n [] = refl
  is_awaited-without n (w ∷ ws) =
      elim (w.number == n) as (λ b. (w.number == n) ≡ b → is_awaited n (cond (not b) (w ∷ without n ws) (without n ws)) ≡ false) [
        | true ↦ λ is. is_awaited-without n ws
        | false ↦ λ is. rw is (is_awaited-without n ws)
      ] refl

  AreBelow_filter : (n : ℕ) (test : Awaited M → Bool) (ws : List (Awaited M)) → AreBelow n ws → AreBelow n (filter test ws)
  AreBelow_filter n test [] h = tt
  AreBelow_filter n test (w ∷ ws) h = elim (test w) as (λ c. AreBelow n (cond c (w ∷ filter test ws) (filter test ws))) [
    | true ↦ (h.0, AreBelow_filter n test ws h.1)
    | false ↦ AreBelow_filter n test ws h.1
  ]

  -- What is awaited stays below a bound when a number is settled.
  pub below_step : (n number : ℕ) (d : Bool) (before ws : List (Awaited M)) → AreBelow n before → ws ≡ cond d (without number before) before → AreBelow n ws
  below_step n number d before ws h e = rw e (elim d as (λ b. AreBelow n (cond b (without number before) before)) [
    | true ↦ AreBelow_filter n (λ w. not (w.number == number)) before h
    | false ↦ h
  ])

module _ {T M : Type 0} (a : Arrival T) where
  -- An arrival ends nothing under numbers above its own.
  after_arrival-above : (ws : List (Awaited M)) → AllByRecursion (λ (w : Awaited M). a.message.header.sequence_number < w.number) ws → after_arrival a ws ≡ ws
  after_arrival-above [] h = refl
  after_arrival-above (w ∷ ws) h =
      let apart : (w.number == a.message.header.sequence_number) ≡ false = apart_from_below a.message.header.sequence_number w.number h.0 in
      rw apart (ap (λ vs. w ∷ vs) (after_arrival-above ws h.1))

  -- An arrival ends what awaits it, and nothing else.
  after_arrival-bearing : (ws : List (Awaited M)) (v : Awaited M) → IsAscending ws → first_awaiting a.message.header.sequence_number a.source.port ws ≡ Some v
      → after_arrival a ws ≡ cond (is_last a.message v.acks) (without a.message.header.sequence_number ws) ws
  after_arrival-bearing [] v h e = cc
  after_arrival-bearing (w ∷ ws) v h e =
      let n = a.message.header.sequence_number in
      let p = a.source.port in
      elim (w.number == n) as (λ b. (w.number == n) ≡ b → cond (b && (w.port == p)) (Some w) (first_awaiting n p ws) ≡ Some v
      → cond (not ((b && (w.port == p)) && is_last a.message w.acks)) (w ∷ after_arrival a ws) (after_arrival a ws)
      ≡ cond (is_last a.message v.acks) (cond (not b) (w ∷ without n ws) (without n ws)) (w ∷ ws)) [
        | true ↦ λ is f.
            let above : AllByRecursion (λ (u : Awaited M). n < u.number) ws = subst (λ k. AllByRecursion (λ (u : Awaited M). k < u.number) ws) (same_number w.number n is) h.0 in
            elim (w.port == p) as (λ c. cond c (Some w) (first_awaiting n p ws) ≡ Some v
            → cond (not (c && is_last a.message w.acks)) (w ∷ after_arrival a ws) (after_arrival a ws) ≡ cond (is_last a.message v.acks) (without n ws) (w ∷ ws)) [
              | true ↦ λ g.
                  let same : w ≡ v = cc in
                  subst (λ (u : Awaited M). cond (not (is_last a.message w.acks)) (w ∷ after_arrival a ws) (after_arrival a ws) ≡ cond (is_last a.message u.acks) (without n ws) (w ∷ ws)) same
                  (rw (after_arrival-above ws above, without-above n ws above)
                  (elim (is_last a.message w.acks) as (λ d. cond (not d) (w ∷ ws) ws ≡ cond d ws (w ∷ ws)) [ true ↦ refl | false ↦ refl ]))
              | false ↦ λ g. let none : first_awaiting n p ws ≡ None = none_above n p ws above in cc
            ] f
        | false ↦ λ is f.
            rw (after_arrival-bearing ws v h.1 f)
            (elim (is_last a.message v.acks) as (λ d. (w ∷ cond d (without n ws) ws) ≡ cond d (w ∷ without n ws) (w ∷ ws)) [ true ↦ refl | false ↦ refl ])
      ] refl e

  -- The step by a reply.
  reply_replied : (s : Session T M) (o : Option (Awaited M)) (m : M) (d : Bool) (ws : List (Awaited M)) → IsAscending s.awaited → awaiting a s ≡ o → place_of a o ≡ Reply m d
      → ws ≡ cond d (without a.message.header.sequence_number s.awaited) s.awaited
      → record s {
        awaited = ws;
        arrived = s.arrived + 1;
        responses = s.responses ++ record { done = d; message = a.message; metadata = m; arrival = s.arrived + 1 } ∷ [];
      } ≡ replied a s o
  reply_replied s None m d ws h e place is = cc
  reply_replied s (Some w) m d ws h e place is =
      let tag : w.stream ≡ m = cc in
      let last : is_last a.message w.acks ≡ d = cc in
      let left : ws ≡ after_arrival a s.awaited = is ∙ (ap (λ b. cond b (without a.message.header.sequence_number s.awaited) s.awaited) (sym last) ∙ sym (after_arrival-bearing s.awaited w h e)) in
      rw (left, ← last, ← tag) refl

  -- A reply makes the session that an arrival makes.
  pub reply_arrived : (s : Session T M) (m : M) (d : Bool) (ws : List (Awaited M)) → IsAscending s.awaited → place_of a (awaiting a s) ≡ Reply m d
      → ws ≡ cond d (without a.message.header.sequence_number s.awaited) s.awaited
      → record s {
        awaited = ws;
        arrived = s.arrived + 1;
        responses = s.responses ++ record { done = d; message = a.message; metadata = m; arrival = s.arrived + 1 } ∷ [];
      } ≡ arrived_at a s
  reply_arrived s m d ws h place is = reply_replied s (awaiting a s) m d ws h refl place is

  -- The step by an unsolicited message.
  unsolicited_replied : (s : Session T M) (o : Option (Awaited M)) → place_of a o ≡ Unsolicited
      → record s { arrived = s.arrived + 1; incoming = s.incoming ++ record { message = a.message; source = a.source; arrival = s.arrived + 1 } ∷ [] } ≡ replied a s o
  unsolicited_replied s None place = refl
  unsolicited_replied s (Some w) place = cc

  -- An unsolicited message makes the session that an arrival makes.
  pub unsolicited_arrived : (s : Session T M) → place_of a (awaiting a s) ≡ Unsolicited
      → record s { arrived = s.arrived + 1; incoming = s.incoming ++ record { message = a.message; source = a.source; arrival = s.arrived + 1 } ∷ [] } ≡ arrived_at a s
  unsolicited_arrived s place = unsolicited_replied s (awaiting a s) place

  continues_replied : (s : Session T M) (o : Option (Awaited M)) → Continues s (replied a s o)
  continues_replied s None = record { rises = omega arith; stays_ended = λ n h e. e }
  continues_replied s (Some w) = record { rises = omega arith; stays_ended = λ n h e. filter_ended n (λ u. not (ends a u)) s.awaited e }

  -- After an arrival no number is used again.
  pub continues_arrived : (s : Session T M) → Continues s (arrived_at a s)
  continues_arrived s = continues_replied s (awaiting a s)

  ended_replied : (s : Session T M) (o : Option (Awaited M)) (m : M) → IsAscending s.awaited → awaiting a s ≡ o → place_of a o ≡ Reply m true
      → is_awaited a.message.header.sequence_number (replied a s o).awaited ≡ false
  ended_replied s None m h e place = cc
  ended_replied s (Some w) m h e place =
      let last : is_last a.message w.acks ≡ true = cc in
      rw (after_arrival-bearing s.awaited w h e, last) (is_awaited-without a.message.header.sequence_number s.awaited)

  -- After the last reply its number is awaited no longer.
  pub ended_arrived : (s : Session T M) (m : M) → IsAscending s.awaited → place_of a (awaiting a s) ≡ Reply m true
      → is_awaited a.message.header.sequence_number (arrived_at a s).awaited ≡ false
  ended_arrived s m h place = ended_replied s (awaiting a s) m h refl place

  -- ---- what the calls of a step give, over the session as it was opened
  -- The step by a reply, over the session as it was opened.
  pub reply_step : (opened s : Session T M) (h : Handled M) (m : M) (d : Bool) (ws : List (Awaited M)) (rs : List (Response T M)) → opened ≡ s → IsAscending s.awaited → h ≡ handled a s → h.to ≡ Reply m d
      → ws ≡ cond d (without a.message.header.sequence_number opened.awaited) opened.awaited
      → rs ≡ opened.responses ++ record { done = d; message = a.message; metadata = m; arrival = h.arrival } ∷ []
      → record opened { awaited = ws; arrived = h.arrival; responses = rs } ≡ arrived_at a s
  reply_step opened s h m d ws rs view asc e to is queue =
      let place : place_of a (awaiting a s) ≡ Reply m d = ap (λ (k : Handled M). k.to) (sym e) ∙ to in
      let left : ws ≡ cond d (without a.message.header.sequence_number s.awaited) s.awaited = is ∙ ap (λ (o : Session T M). cond d (without a.message.header.sequence_number o.awaited) o.awaited) view in
      rw (queue, view, e) (reply_arrived s m d ws asc place left)

  -- The step by an unsolicited message, over the session as it was opened.
  pub unsolicited_step : (opened s : Session T M) (h : Handled M) (is : List (Incoming T)) → opened ≡ s → h ≡ handled a s → h.to ≡ Unsolicited
      → is ≡ opened.incoming ++ record { message = a.message; source = a.source; arrival = h.arrival } ∷ []
      → record opened { arrived = h.arrival; incoming = is } ≡ arrived_at a s
  unsolicited_step opened s h is view e to queue =
      let place : place_of a (awaiting a s) ≡ Unsolicited = ap (λ (k : Handled M). k.to) (sym e) ∙ to in
      rw (queue, view, e) (unsolicited_arrived s place)

  -- No number is used again, over the session after the step.
  pub continues_step : (s now : Session T M) → now ≡ arrived_at a s → Continues s now
  continues_step s now e = rw e (continues_arrived s)

  -- The last reply ends its number, over the session after the step.
  pub ended_step : (s now : Session T M) (h : Handled M) (m : M) → now ≡ arrived_at a s → IsAscending s.awaited → h ≡ handled a s → h.to ≡ Reply m true
      → is_awaited a.message.header.sequence_number now.awaited ≡ false
  ended_step s now h m e asc is to = rw e (ended_arrived s m asc (ap (λ (k : Handled M). k.to) (sym is) ∙ to))
