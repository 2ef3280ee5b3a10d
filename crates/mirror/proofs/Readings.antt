-- What a connection at rest over a prompt tape reads of one arrival, or of none.
use Rattle.std.proofs.Common.{◌≡◌, ◌<◌, ◌⊎◌, inl, inr, ◌||◌, ℕ, zero, suc, Bool, true, false, List, [], ◌∷◌, ◌++◌, Some, flat_map, refl, sym, ◌∙◌, ap, arith}
use Rattle.std.proofs.lemmas.List.{append-nil}
use Rattle.std.proofs.lemmas.List.Folds.{list_any-append}
use Rattle.session_model.specs.declared.address.SocketAddr.{SocketAddr}
use Rattle.session_model.specs.Events.{Event, Shut, datagram_events}
use Rattle.session_model.specs.Streams.{is_shut, shuts}
use Rattle.proto_conn.specs.Links.{HasRisen, is_prompt}
use Rattle.proto_conn.specs.Reading.{Drained, IsGone, Reads}
use Rattle.proto_conn.specs.Seen.{brings, events_in}
use Rattle.proto_conn.specs.Tapes.{means}
use Rattle.proto_conn.specs.declared.link.Arrival.{Arrival}
use Rattle.proto_conn.specs.declared.link.Arrival.TheVariants as arrival
use Rattle.session_laws.proofs.Amounts.{datagram_open}
use Rattle.mirror.specs.declared.observers.Observers.{Observers}
use Rattle.mirror.specs.Format.{Message, format}
use Rattle.mirror.specs.Observers.{observers_lose, observers_overrun, observers_see}
use Rattle.mirror.specs.Polled.{RouteConn}
use Rattle.mirror.proofs.Sends.{manners}

-- The events of an arrival.
abbrev pub brought_by : Arrival → List (Event Message)
brought_by a = brings format.reads a

abbrev pub ReadsTo : RouteConn → Observers → RouteConn → Observers → Type 0
ReadsTo = Reads observers_see observers_lose observers_overrun format.reads means

-- The events of a datagram that was read are those of its record.
pub events_in_is : (source : SocketAddr) (bytes : List ℕ) → events_in format.reads source bytes ≡ datagram_events format source bytes
unfolding events_in
events_in_is source bytes = refl

-- ---- plain facts

inside : {X : Type 0} (xs ys : List X) → Some xs ≡ Some ys → xs ≡ ys
inside xs ys e = cc

nothing_left : {X : Type 0} (xs ys : List X) → [] ≡ xs ++ ys → (xs ≡ []) × (ys ≡ [])
nothing_left [] ys e = (refl, sym e)
nothing_left (x ∷ xs) ys e = cc

true_false : {A : Type 0} (b : Bool) → b ≡ true → b ≡ false → A
true_false true h e = cc
true_false false h e = cc

risen : (before now : ℕ) → before ≡ 0 → HasRisen before now → 0 < now
risen before now none (inl h) = omega (arith, none, h)
risen before now none (inr h) = omega (arith, h)

not_above : (n : ℕ) → n ≡ 0 → 0 < n → ⊥
not_above n e h = omega (arith, e, h)

zero_else : (n : ℕ) → (0 < n → ⊥) → n ≡ 0
zero_else zero h = refl
zero_else (suc n) h = absurd (h (omega arith))

-- A list of which a front is one that closes, closes.
front_shuts : (es left all : List (Event Message)) → es ++ left ≡ all → is_shut es ≡ true → is_shut all ≡ true
front_shuts es left all e h = sym (ap is_shut e) ∙ list_any-append shuts es left ∙ ap (λ b. b || is_shut left) h

-- An arrival shows that the link closed, or it doesn't and closes nothing.
data Kind (a : Arrival) : Type 0 where
  Opens : is_shut (brought_by a) ≡ false → Kind a
  Closes : brought_by a ≡ Shut ∷ [] → Kind a

kind_of : (a : Arrival) → Kind a
kind_of (arrival.Datagram source bytes) = Opens (ap is_shut (events_in_is source bytes) ∙ datagram_open format source bytes)
kind_of arrival.Overrun = Opens refl
kind_of arrival.Closed = Closes refl

-- ---- what is read

-- All of what waited was read: these are its events.
pub record ReadsEvents (es : List (Event Message)) (c r : RouteConn) (events : List (Event Message)) : Type 0 where
  pub events_are : events ≡ es
  pub waits : r.link.waits ≡ []
  pub closed : r.closed ≡ is_shut es
  pub open_still : is_shut es ≡ false → (r.link.closings ≡ 0) × (r.waiting ≡ [])

module _ (c r : RouteConn) (w w2 : Observers) (open_still : c.closed ≡ false) (waiting : c.waiting ≡ []) (closings : c.link.closings ≡ 0)
    (prompt : is_prompt (manners c.link) ≡ true) (h : ReadsTo c w r w2) (drained : Drained means c r) where
  seen : h.events ++ flat_map brought_by r.waiting ≡ flat_map brought_by h.saw.taken
  seen = h.saw.seen ∙ ap (λ waits. flat_map brought_by waits ++ flat_map brought_by h.saw.taken) waiting

  -- The link counts as closed only where a close was read.
  shut_read : 0 < r.link.closings → is_shut h.events ≡ true
  shut_read rose = by (h.saw.first rose)
    where
      by : (0 < c.link.closings) ⊎ (is_shut h.events ≡ true) → is_shut h.events ≡ true
      by (inl more) = absurd (not_above c.link.closings closings more)
      by (inr is) = is

  closed_read : r.closed ≡ true → is_shut h.events ≡ true
  closed_read is = by h.cause
    where
      gone : IsGone means c r → is_shut h.events ≡ true
      gone (inl rose) = shut_read (risen c.link.closings r.link.closings closings rose)
      gone (inr failed) = true_false (is_prompt (manners c.link)) prompt failed.1

      by : (r.closed ≡ c.closed) ⊎ IsGone means c r → is_shut h.events ≡ true
      by (inl same) = true_false r.closed is (same ∙ open_still)
      by (inr g) = gone g

  same_closed : (b : Bool) → is_shut h.events ≡ b → r.closed ≡ b
  same_closed true is = h.closes (ap (λ b. c.closed || b) is ∙ or_true c.closed)
    where
      or_true : (b : Bool) → (b || true) ≡ true
      or_true true = refl
      or_true false = refl
  same_closed false is = by r.closed refl
    where
      by : (b : Bool) → r.closed ≡ b → r.closed ≡ false
      by true e = true_false (is_shut h.events) (closed_read e) is
      by false e = e

  told : (waits : List Arrival) → c.link.waits ≡ waits → waits ≡ h.saw.taken ++ r.link.waits
  told waits is = sym is ∙ inside c.link.waits (h.saw.taken ++ r.link.waits) h.saw.told

  -- Where the link is open still, all was read.
  read_open : r.closed ≡ false → (r.link.waits ≡ []) × (r.waiting ≡ [])
  read_open is = by drained
    where
      by : Drained means c r → (r.link.waits ≡ []) × (r.waiting ≡ [])
      by (inl shut) = true_false r.closed shut is
      by (inr d) = (d.2 prompt, d.1)

  none_taken : h.saw.taken ≡ [] → h.events ≡ []
  none_taken none = (nothing_left h.events (flat_map brought_by r.waiting) (sym (seen ∙ ap (flat_map brought_by) none))).0

  -- Where nothing waited, nothing was read.
  pub reads_nothing : c.link.waits ≡ [] → ReadsEvents [] c r h.events
  reads_nothing is =
      let parts = nothing_left h.saw.taken r.link.waits (told [] is) in
      let none = none_taken parts.0 in
      let closed = same_closed false (ap is_shut none) in
      record {
        events_are = none;
        waits = parts.1;
        closed = closed;
        open_still = λ e. (zero_else r.link.closings (λ rose. true_false (is_shut h.events) (shut_read rose) (ap is_shut none)), (read_open closed).1);
      }

  -- Where one arrival waited, it was read.
  pub reads_one : (a : Arrival) → c.link.waits ≡ a ∷ [] → ReadsEvents (brought_by a) c r h.events
  reads_one a is = by (is_shut h.events) refl
    where
      abbrev_all : h.saw.taken ≡ a ∷ [] → h.events ++ flat_map brought_by r.waiting ≡ brought_by a
      abbrev_all e = seen ∙ ap (flat_map brought_by) e ∙ append-nil (brought_by a)

      taken_is : (taken left : List Arrival) → a ∷ [] ≡ taken ++ left → (taken ≡ []) ⊎ ((taken ≡ a ∷ []) × (left ≡ []))
      taken_is [] left e = inl refl
      taken_is (x ∷ taken) left e =
          let same : a ≡ x = cc in
          let rest : [] ≡ taken ++ left = cc in
          let parts = nothing_left taken left rest in
          inr (ap (λ xs. x ∷ xs) parts.0 ∙ ap (λ y. y ∷ []) (sym same), parts.1)

      by : (b : Bool) → is_shut h.events ≡ b → ReadsEvents (brought_by a) c r h.events
      by false unshut =
          let closed = same_closed false unshut in
          let read = read_open closed in
          let all : h.saw.taken ≡ a ∷ [] = sym (append-nil h.saw.taken) ∙ ap (λ left. h.saw.taken ++ left) (sym read.0) ∙ sym (told (a ∷ []) is) in
          let events : h.events ≡ brought_by a = sym (append-nil h.events) ∙ ap (λ waits. h.events ++ flat_map brought_by waits) (sym read.1) ∙ abbrev_all all in
          record {
            events_are = events;
            waits = read.0;
            closed = closed ∙ sym (sym (ap is_shut events) ∙ unshut);
            open_still = λ e. (zero_else r.link.closings (λ rose. true_false (is_shut h.events) (shut_read rose) unshut), read.1);
          }
      by true shut = some (taken_is h.saw.taken r.link.waits (told (a ∷ []) is))
        where
          some : (h.saw.taken ≡ []) ⊎ ((h.saw.taken ≡ a ∷ []) × (r.link.waits ≡ [])) → ReadsEvents (brought_by a) c r h.events
          some (inl none) = true_false (is_shut h.events) shut (ap is_shut (none_taken none))
          some (inr one) = kind (kind_of a)
            where
              only : (es left : List (Event Message)) → es ++ left ≡ Shut ∷ [] → is_shut es ≡ true → es ≡ Shut ∷ []
              only [] left e s = cc
              only (x ∷ es) left e s =
                  let same : x ≡ Shut = cc in
                  let rest : es ++ left ≡ [] = cc in
                  ap (λ xs. x ∷ xs) (nothing_left es left (sym rest)).0 ∙ ap (λ y. y ∷ []) same

              kind : Kind a → ReadsEvents (brought_by a) c r h.events
              kind (Opens unshut) =
                  true_false (is_shut (brought_by a)) (front_shuts h.events (flat_map brought_by r.waiting) (brought_by a) (abbrev_all one.0) shut) unshut
              kind (Closes is_close) =
                  let events : h.events ≡ brought_by a = only h.events (flat_map brought_by r.waiting) (abbrev_all one.0 ∙ is_close) shut ∙ sym is_close in
                  record {
                    events_are = events;
                    waits = one.1;
                    closed = same_closed true shut ∙ sym (ap is_shut is_close);
                    open_still = λ e. true_false (is_shut (brought_by a)) (ap is_shut is_close) e;
                  }
