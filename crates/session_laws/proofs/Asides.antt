-- What only a mirror reads changes nothing of a session, and adds no text.
use Rattle.std.proofs.Common.{◌≡◌, ◌+◌, ◌==◌, ◌&&◌, ℕ, Bool, true, false, not, cond, nat_lt, List, [], ◌∷◌, ◌++◌, length, flat_map, Option, refl, sym, ◌∙◌, ap, add-zero}
use Rattle.std.proofs.Math.Bool.{or-false}
use Rattle.std.specs.List.{filter, list_any}
use Rattle.std.proofs.lemmas.List.Folds.{list_any-append}
use Rattle.nl_core.specs.Frames.{Format}
use Rattle.session_model.specs.declared.awaited.Awaited.{Awaited}
use Rattle.session_model.specs.declared.settings.Settings.{Settings}
use Rattle.session_model.specs.Events.{Aside, Event, Other, arrivals}
use Rattle.session_model.specs.Awaited.{awaited, batch_count, last_number}
use Rattle.session_model.specs.Reported.{drops, dropped_count}
use Rattle.session_model.specs.SessionText.{closed_line, text_of_events}
use Rattle.session_model.specs.Streams.{closing, has_closed, is_open, is_shut, shuts, up_to}
use Rattle.session_model.proofs.Places.{append-nil, arrivals-append, awaited_more, batch_count-append, filter-all, filter-same, last_number-append}
use Rattle.session_laws.specs.After.{idle, session_after}
use Rattle.session_laws.specs.Counts.{Counts, awaited_in, if_any}

filter-none : {X : Type 0} (xs : List X) → filter (λ x. false) xs ≡ []
filter-none [] = refl
filter-none (x ∷ xs) = filter-none xs

and-not : (b : Bool) → (b && not b) ≡ false
and-not true = refl
and-not false = refl

module _ {M : Type 0} (start : ℕ) (es : List (Event M)) (a : Aside) where
  abbrev after : List (Event M)
  after = es ++ Other a ∷ []

  same_awaited : awaited start after ≡ awaited start es
  same_awaited =
      awaited_more start 0 es (Other a) ∙ append-nil (filter (λ w. true) (awaited start es)) ∙ filter-all (awaited start es)

  same_last : last_number start after ≡ last_number start es
  same_last = last_number-append start es (Other a ∷ []) ∙ add-zero (last_number start es)

  -- There are as many batches as before.
  pub aside_batches : (n : ℕ) → batch_count n after ≡ batch_count n es
  aside_batches n = batch_count-append n es (Other a ∷ []) ∙ add-zero (batch_count n es)

  same_arrivals : arrivals after ≡ arrivals es
  same_arrivals = arrivals-append es (Other a ∷ []) ∙ append-nil (arrivals es)

  -- The link is closed where it was.
  pub aside_shut : is_shut after ≡ is_shut es
  aside_shut = list_any-append shuts es (Other a ∷ []) ∙ or-false (is_shut es)

  -- A session stands as before.
  pub aside_session : session_after start after ≡ session_after start es
  aside_session =
      ap (λ n. idle n (awaited start after) (length (arrivals after))) same_last
      ∙ ap (λ ws. idle (last_number start es) ws (length (arrivals after))) same_awaited
      ∙ ap (λ came. idle (last_number start es) (awaited start es) (length came)) same_arrivals

  -- The counts of open streams stay.
  pub aside_counts : (at : ℕ → Option ℕ) → Counts at start es → Counts at start after
  aside_counts at h k =
      h k ∙ ap (λ ws. if_any (cond (is_shut es) 0 (awaited_in k ws))) (sym same_awaited)
      ∙ ap (λ b. if_any (cond b 0 (awaited_in k (awaited start after)))) (sym aside_shut)

  same_open : (stream : ℕ) → is_open start after stream ≡ is_open start es stream
  same_open stream =
      ap (λ b. not b && list_any (λ (w : Awaited ℕ). w.stream == stream) (awaited start after)) aside_shut
      ∙ ap (λ ws. not (is_shut es) && list_any (λ (w : Awaited ℕ). w.stream == stream) ws) same_awaited

  none_closes : closing start es (Other a ∷ []) ≡ []
  none_closes =
      filter-same (λ stream. has_closed start after stream && not (has_closed start es stream)) (λ stream. false)
      (λ stream. ap (λ n. (nat_lt stream n && not (is_open start after stream)) && not (has_closed start es stream)) (aside_batches 1)
      ∙ ap (λ b. (nat_lt stream (batch_count 1 es) && not b) && not (has_closed start es stream)) (same_open stream)
      ∙ and-not (has_closed start es stream))
      (up_to (batch_count 0 after))
      ∙ filter-none (up_to (batch_count 0 after))

  -- Nothing is dropped.
  pub aside_drops : dropped_count after ≡ dropped_count es
  aside_drops = by es
    where
      by : (fs : List (Event M)) → dropped_count (fs ++ Other a ∷ []) ≡ dropped_count fs
      by [] = refl
      by (f ∷ fs) = ap (λ n. drops f + n) (by fs)

-- It adds no text.
pub aside_text : {M : Type 0} (f : Format M) (s : Settings) (es : List (Event M)) (a : Aside) → text_of_events f s es (Other a ∷ []) ≡ []
aside_text f s es a = ap (flat_map closed_line) (none_closes s.start es a)
