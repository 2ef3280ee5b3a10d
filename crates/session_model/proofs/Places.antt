-- What one more event changes.
use Rattle.std.proofs.Common.{◌≡◌, ◌+◌, ◌&&◌, ◌||◌, ℕ, Bool, true, false, not, cond, List, [], ◌∷◌, ◌++◌, refl, sym, ◌∙◌, ap, append_assoc}
use Rattle.std.specs.List.{filter, list_any}
use Rattle.std.proofs.lemmas.List.Folds.{list_any-append}
use Rattle.nl_core.specs.Frames.{Format}
use Rattle.session_model.specs.declared.transcript.Record.{Record}
use Rattle.session_model.specs.SessionText.{text_after, text_of_events}
use Rattle.session_model.specs.declared.settings.Settings.{Settings}
use Rattle.session_model.specs.Events.{record_events, events_of, Event, arrival_of, arrivals}
use Rattle.session_model.specs.declared.awaited.Awaited.{Awaited}
use Rattle.session_model.specs.Awaited.{frames_sent, batches_sent, last_number, batch_count, newly_awaited, is_ended, ends, awaited_from}

-- A filter goes over two lists one after the other.
pub filter-append : {X : Type 0} (p : X → Bool) (xs ys : List X) → filter p (xs ++ ys) ≡ filter p xs ++ filter p ys
filter-append p [] ys = refl
filter-append p (x ∷ xs) ys = elim (p x) as (λ b. cond b (x ∷ filter p (xs ++ ys)) (filter p (xs ++ ys))
    ≡ cond b (x ∷ filter p xs) (filter p xs) ++ filter p ys) [
      | true ↦ ap (λ zs. x ∷ zs) (filter-append p xs ys)
      | false ↦ filter-append p xs ys
    ]

-- Tests that agree filter alike.
pub filter-same : {X : Type 0} (p q : X → Bool) → ((x : X) → p x ≡ q x) → (xs : List X) → filter p xs ≡ filter q xs
filter-same p q h [] = refl
filter-same p q h (x ∷ xs) = rw (h x, filter-same p q h xs)

-- A test that all pass takes nothing out.
pub filter-all : {X : Type 0} (xs : List X) → filter (λ x. true) xs ≡ xs
filter-all [] = refl
filter-all (x ∷ xs) = ap (λ zs. x ∷ zs) (filter-all xs)

-- Two filters one after the other are one.
pub filter-filter : {X : Type 0} (p q : X → Bool) (xs : List X) → filter p (filter q xs) ≡ filter (λ x. q x && p x) xs
filter-filter p q [] = refl
filter-filter p q (x ∷ xs) = elim (q x) as (λ b. filter p (cond b (x ∷ filter q xs) (filter q xs))
    ≡ cond (b && p x) (x ∷ filter (λ x. q x && p x) xs) (filter (λ x. q x && p x) xs)) [
      | true ↦ ap (λ zs. cond (p x) (x ∷ zs) zs) (filter-filter p q xs)
      | false ↦ filter-filter p q xs
    ]

-- Neither of two is that each is not.
pub not-or : (a b : Bool) → not (a || b) ≡ (not a && not b)
not-or true b = refl
not-or false b = refl

-- Nothing at the end adds nothing.
pub append-nil : {X : Type 0} (xs : List X) → xs ++ [] ≡ xs
append-nil [] = refl
append-nil (x ∷ xs) = ap (λ zs. x ∷ zs) (append-nil xs)

module _ {M : Type 0} where
  -- The arrivals of events, and then of more events.
  pub arrivals-append : (es fs : List (Event M)) → arrivals (es ++ fs) ≡ arrivals es ++ arrivals fs
  arrivals-append [] fs = refl
  arrivals-append (e ∷ es) fs = ap (λ later. arrival_of e ++ later) (arrivals-append es fs)
      ∙ sym (append_assoc (arrival_of e) (arrivals es) (arrivals fs))

  -- The last number after events, and then more events.
  pub last_number-append : (start : ℕ) (es fs : List (Event M)) → last_number start (es ++ fs) ≡ last_number (last_number start es) fs
  last_number-append start [] fs = refl
  last_number-append start (e ∷ es) fs = last_number-append (start + frames_sent e) es fs

  -- The count of batches after events, and then more events.
  pub batch_count-append : (n : ℕ) (es fs : List (Event M)) → batch_count n (es ++ fs) ≡ batch_count (batch_count n es) fs
  batch_count-append n [] fs = refl
  batch_count-append n (e ∷ es) fs = batch_count-append (n + batches_sent e) es fs

  -- What is ended among events and more events is ended among either.
  pub is_ended-append : {S : Type 0} (es fs : List (Event M)) (w : Awaited S) → is_ended (es ++ fs) w ≡ (is_ended es w || is_ended fs w)
  is_ended-append es fs w = ap (list_any (λ a. ends a w)) (arrivals-append es fs) ∙ list_any-append (λ a. ends a w) (arrivals es) (arrivals fs)

  still : (es fs : List (Event M)) (ws : List (Awaited ℕ))
      → filter (λ w. not (is_ended (es ++ fs) w)) ws ≡ filter (λ w. not (is_ended fs w)) (filter (λ w. not (is_ended es w)) ws)
  still es fs ws =
      filter-same _ _ (λ w. ap not (is_ended-append es fs w) ∙ not-or (is_ended es w) (is_ended fs w)) ws
      ∙ sym (filter-filter (λ w. not (is_ended fs w)) (λ w. not (is_ended es w)) ws)

  -- One more event ends what it ends, and then adds what it awaits.
  pub awaited_more : (last batches : ℕ) (es : List (Event M)) (e : Event M)
      → awaited_from last batches (es ++ e ∷ [])
      ≡ filter (λ w. not (is_ended (e ∷ []) w)) (awaited_from last batches es) ++ newly_awaited (last_number last es) (batch_count batches es) e
  awaited_more last batches [] e = append-nil (filter (λ w. true) (newly_awaited last batches e)) ∙ filter-all (newly_awaited last batches e)
  awaited_more last batches (f ∷ es) e =
      let mine = filter (λ w. not (is_ended es w)) (newly_awaited last batches f) in
      let rest = awaited_from (last + frames_sent f) (batches + batches_sent f) es in
      let keeps = λ (w : Awaited ℕ). not (is_ended (e ∷ []) w) in
      let new = newly_awaited (last_number (last + frames_sent f) es) (batch_count (batches + batches_sent f) es) e in
      ap (λ ws. ws ++ awaited_from (last + frames_sent f) (batches + batches_sent f) (es ++ e ∷ [])) (still es (e ∷ []) (newly_awaited last batches f))
      ∙ ap (λ ws. filter keeps mine ++ ws) (awaited_more (last + frames_sent f) (batches + batches_sent f) es e)
      ∙ sym (append_assoc (filter keeps mine) (filter keeps rest) new)
      ∙ ap (λ ws. ws ++ new) (sym (filter-append keeps mine rest))

module _ {M : Type 0} (f : Format M) (s : Settings) where
  -- One record more adds its text.
  pub text_after-more : (before : List (Event M)) (rs : List Record) (r : Record)
      → text_after f s before (rs ++ r ∷ []) ≡ text_after f s before rs ++ text_of_events f s (before ++ events_of f s rs) (record_events f s r)
  text_after-more before [] r = append-nil (text_of_events f s before (record_events f s r))
      ∙ ap (λ es. text_of_events f s es (record_events f s r)) (sym (append-nil before))
  text_after-more before (x ∷ rs) r =
      let mine = text_of_events f s before (record_events f s x) in
      let now = before ++ record_events f s x in
      ap (λ t. mine ++ t) (text_after-more now rs r)
      ∙ sym (append_assoc mine (text_after f s now rs) (text_of_events f s (now ++ events_of f s rs) (record_events f s r)))
      ∙ ap (λ es. (mine ++ text_after f s now rs) ++ text_of_events f s es (record_events f s r)) (append_assoc before (record_events f s x) (events_of f s rs))
