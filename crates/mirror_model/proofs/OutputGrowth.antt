-- The text of records, one record after another.
use Rattle.std.proofs.Common.{◌≡◌, List, [], ◌∷◌, ◌++◌, refl, sym, ◌∙◌, ap, append_assoc}
use Rattle.std.specs.List.{AllByRecursion}
use Rattle.nl_core.specs.Frames.{Format}
use Rattle.session_model.specs.declared.network.Address.{Address}
use Rattle.session_model.specs.declared.settings.Settings.{Settings}
use Rattle.session_model.specs.declared.transcript.Record.{Record}
use Rattle.session_model.specs.declared.transcript.Record.TheVariants.{Recv, Overrun, Close, Batch, Resync, Block, Unblock, Lookup}
use Rattle.session_model.specs.Events.{Event, events_of, record_events}
use Rattle.session_model.specs.SessionText.{text_after, text_of_events}
use Rattle.session_model.proofs.Places.{append-nil}
use Rattle.mirror_model.specs.declared.answer.Answer.{Answer}
use Rattle.mirror_model.specs.OutputText.{lookup_line, record_text, text_from}

module _ {M : Type 0} (f : Format M) (s : Settings) (answers : List (Event M) → Address → Answer) where
  -- One record more adds its text.
  pub text_from-more : (before : List (Event M)) (rs : List Record) (r : Record)
      → text_from f s answers before (rs ++ r ∷ []) ≡ text_from f s answers before rs ++ record_text f s answers (before ++ events_of f s rs) r
  text_from-more before [] r = append-nil (record_text f s answers before r) ∙ ap (λ es. record_text f s answers es r) (sym (append-nil before))
  text_from-more before (x ∷ rs) r =
      let mine = record_text f s answers before x in
      let now = before ++ record_events f s x in
      ap (λ t. mine ++ t) (text_from-more now rs r)
      ∙ sym (append_assoc mine (text_from f s answers now rs) (record_text f s answers (now ++ events_of f s rs) r))
      ∙ ap (λ es. (mine ++ text_from f s answers now rs) ++ record_text f s answers es r) (append_assoc before (record_events f s x) (events_of f s rs))

  no_line : (before : List (Event M)) (r : Record) → ((a : Address) → r ≡ Lookup a → ⊥) → lookup_line f s answers before r ≡ []
  no_line before (Recv source bytes) h = refl
  no_line before Overrun h = refl
  no_line before Close h = refl
  no_line before (Batch to frames) h = refl
  no_line before Resync h = refl
  no_line before (Block n) h = refl
  no_line before (Unblock n) h = refl
  no_line before (Lookup a) h = absurd (h a refl)

  -- Records without look-ups have their session's text.
  pub session_text_from : (before : List (Event M)) (rs : List Record)
      → ((a : Address) → AllByRecursion (λ (entry : Record). entry ≡ Lookup a → ⊥) rs)
      → text_from f s answers before rs ≡ text_after f s before rs
  session_text_from before [] h = refl
  session_text_from before (x ∷ rs) h =
      let mine = text_of_events f s before (record_events f s x) in
      let rest = text_from f s answers (before ++ record_events f s x) rs in
      ap (λ t. (mine ++ t) ++ rest) (no_line before x (λ a. (h a).0))
      ∙ ap (λ t. t ++ rest) (append-nil mine)
      ∙ ap (λ t. mine ++ t) (session_text_from (before ++ record_events f s x) rs (λ a. (h a).1))
