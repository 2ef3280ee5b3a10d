-- A record at its beginning, and a close.
use Rattle.std.proofs.Common.{◌≡◌, ◌+◌, ◌<◌, ◌≤◌, ◌==◌, ◌&&◌, ◌||◌, ℕ, Bool, true, false, not, cond, List, [], ◌∷◌, ◌++◌, length, Option, None, is_some, flat_map, refl, sym, ◌∙◌, ap, add-zero}
use Rattle.std.proofs.Math.Bool.{or-false, and-false}
use Rattle.std.specs.List.{filter, list_any}
use Rattle.std.proofs.lemmas.List.Folds.{list_any-append}
use Rattle.nl_core.specs.Frames.{Format}
use Rattle.session_model.specs.declared.awaited.Awaited.{Awaited}
use Rattle.session_model.specs.declared.settings.Settings.{Settings}
use Rattle.session_model.specs.Events.{Event, Shut, arrivals}
use Rattle.session_model.specs.Awaited.{awaited, batch_count, last_number}
use Rattle.session_model.specs.Streams.{is_open, is_shut, shuts}
use Rattle.session_model.specs.SessionText.{closed_line, text_of_events}
use Rattle.session_model.proofs.Places.{append-nil, filter-all, arrivals-append, last_number-append, batch_count-append, awaited_more}
use Rattle.proto_core.specs.Session.{Session, replied}
use Rattle.session_laws.specs.After.{idle, session_after}
use Rattle.session_laws.specs.Counts.{awaited_in, open_count, Counts, if_any}
use Rattle.session_laws.specs.Stage.{Stage}
use Rattle.session_laws.proofs.Rising.{has, Rises}
use Rattle.session_laws.proofs.Waiting.{open_counts}
use Rattle.session_laws.proofs.Stages.{closing_is}

-- ---- a record at its beginning

-- A record at its beginning: nothing has come of it yet.
pub begun : {M : Type 0} (f : Format M) (s : Settings) (before : List (Event M)) (session : Session M ℕ) (at : ℕ → Option ℕ) (closed : ℕ → Bool)
    → session ≡ session_after s.start before → Counts at s.start before → is_shut before ≡ false → ((k : ℕ) → closed k ≡ false)
    → Stage f s before [] session at closed [] []
begun f s before session at closed is counts unshut none =
    let same = sym (append-nil before) in
    record {
      stands = is ∙ ap (session_after s.start) same;
      counts = λ k. counts k ∙ ap (λ es. if_any (open_count s.start es k)) same;
      closes = record {
        all = λ k. ap (λ es. is_open s.start es k) same ∙ ap (λ b. b || is_open s.start (before ++ []) k) (sym (none k));
        apart = λ k. ap (λ b. b && is_open s.start (before ++ []) k) (none k);
      };
      unshut = ap is_shut (append-nil before) ∙ unshut;
      streams = ap (batch_count 0) (append-nil before);
      silent = refl;
      unsolicited = refl;
      replied = refl;
    }

-- ---- a close

module _ {M : Type 0} (f : Format M) (s : Settings) (before : List (Event M)) where
  -- After a close the link is closed.
  pub shut_shut : is_shut (before ++ Shut ∷ []) ≡ true
  shut_shut = list_any-append shuts before (Shut ∷ []) ∙ or-true (is_shut before)
    where
      or-true : (b : Bool) → (b || true) ≡ true
      or-true true = refl
      or-true false = refl

  -- A close leaves the session as it is.
  pub shut_session : session_after s.start (before ++ Shut ∷ []) ≡ session_after s.start before
  shut_session =
      let after = before ++ Shut ∷ [] in
      let last = last_number s.start before in
      let waits = awaited_more s.start 0 before Shut ∙ append-nil (filter (λ w. true) (awaited s.start before)) in
      ap (λ n. idle n (awaited s.start after) (length (arrivals after)))
      (last_number-append s.start before (Shut ∷ []) ∙ add-zero last)
      ∙ ap (λ ws. idle last ws (length (arrivals after))) (waits ∙ filter-all (awaited s.start before))
      ∙ ap (λ n. idle last (awaited s.start before) n)
      (ap length (arrivals-append before (Shut ∷ []) ∙ append-nil (arrivals before)))

  -- A close is no batch.
  pub shut_streams : batch_count 0 (before ++ Shut ∷ []) ≡ batch_count 0 before
  shut_streams = batch_count-append 0 before (Shut ∷ []) ∙ add-zero (batch_count 0 before)

  -- After a close no stream is open.
  pub shut_counts : (at : ℕ → Option ℕ) → ((k : ℕ) → at k ≡ None) → Counts at s.start (before ++ Shut ∷ [])
  shut_counts at none k = none k ∙ ap (λ b. if_any (cond b 0 (awaited_in k (awaited s.start (before ++ Shut ∷ []))))) (sym shut_shut)

  -- A close closes the streams that are open.
  pub shut_text : (at : ℕ → Option ℕ) (ks : List ℕ) → Counts at s.start before → Rises ks → ((k : ℕ) → has k ks ≡ is_some (at k))
      → flat_map closed_line ks ≡ text_of_events f s before (Shut ∷ [])
  shut_text at ks counts rises is =
      ap (flat_map closed_line) (closing_is s.start before (Shut ∷ []) (λ k. is_open s.start before k) ks shut_streams
      (record {
        all = λ k. sym (or-false (is_open s.start before k)) ∙ ap (λ b. is_open s.start before k || b) (sym (gone k));
        apart = λ k. ap (λ b. is_open s.start before k && b) (gone k) ∙ and-false (is_open s.start before k);
      })
      rises (λ k. is k ∙ ap is_some (counts k) ∙ sym (open_counts s.start before k)))
    where
      gone : (k : ℕ) → is_open s.start (before ++ Shut ∷ []) k ≡ false
      gone k = ap (λ b. not b && list_any (λ (w : Awaited ℕ). w.stream == k) (awaited s.start (before ++ Shut ∷ []))) shut_shut
