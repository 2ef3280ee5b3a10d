-- What is written of a transcript: its session's text, and a line for each look-up.
use Rattle.std.specs.Prelude.{◌≡◌, ◌++◌, ℕ, Bool, List, [], ◌∷◌, Option, Some, None, codes}
use Rattle.std.specs.Fmt.{decimal}
use Rattle.std.specs.List.{AllByRecursion}
use Rattle.nl_core.specs.Frames.{Format}
use Rattle.session_model.specs.declared.network.Address.{Address}
use Rattle.session_model.specs.declared.settings.Settings.{Settings}
use Rattle.session_model.specs.declared.transcript.Record.{Record}
use Rattle.session_model.specs.declared.transcript.Record.TheVariants.{Recv, Overrun, Close, Batch, Resync, Block, Unblock, Lookup}
use Rattle.session_model.specs.Events.{Event, events_of, record_events}
use Rattle.session_model.specs.Lines.{dash, line}
use Rattle.session_model.specs.Networks.{address_words, digits_of, prefix_word}
use Rattle.session_model.specs.SessionText.{session_text, text_of_events}
use Rattle.mirror_model.specs.declared.answer.Answer.{Answer}
use Rattle.mirror_model.specs.declared.answer.Answer.TheVariants.{Stale, Absent, Found}
use Rattle.mirror_model.specs.declared.route.Route.{Route}
use Rattle.mirror_model.specs.Lookups.{Readers, is_in_step_for, lookup_at}

-- ---- the line of an answer

-- A number, or `-` for none.
abbrev pub number_word : Option ℕ → List ℕ
number_word None = dash ∷ []
number_word (Some n) = decimal n

-- The digits of an address, or `-` for none.
abbrev pub gateway_word : Option Address → List ℕ
gateway_word None = dash ∷ []
gateway_word (Some a) = digits_of a

-- The words of a route: its network, its priority, its type, the link that it leaves by and its gateway.
abbrev pub route_words : Route → List (List ℕ)
route_words r = prefix_word r.network ∷ decimal r.priority ∷ decimal r.kind ∷ number_word r.oif ∷ gateway_word r.gateway ∷ []

-- The line of an answer for an address.
abbrev pub answer_line : Address → Answer → List ℕ
answer_line a Stale = line (codes "stale" ∷ address_words a)
answer_line a Absent = line (codes "absent" ∷ address_words a)
answer_line a (Found r) = line (codes "route" ∷ (address_words a ++ route_words r))

-- ---- the text of records

module _ {M : Type 0} (f : Format M) (s : Settings) (answers : List (Event M) → Address → Answer) where
  -- The line of a look-up, by the answers after the events before it; of no other record.
  abbrev pub lookup_line : List (Event M) → Record → List ℕ
  lookup_line before (Recv source bytes) = []
  lookup_line before Overrun = []
  lookup_line before Close = []
  lookup_line before (Batch to frames) = []
  lookup_line before Resync = []
  lookup_line before (Block n) = []
  lookup_line before (Unblock n) = []
  lookup_line before (Lookup a) = answer_line a (answers before a)

  -- The text of a record after the events before it.
  abbrev pub record_text : List (Event M) → Record → List ℕ
  record_text before r = text_of_events f s before (record_events f s r) ++ lookup_line before r

  -- The text of records, after the events before them.
  abbrev pub text_from : List (Event M) → List Record → List ℕ
  text_from before [] = []
  text_from before (r ∷ rs) = record_text before r ++ text_from (before ++ record_events f s r) rs

module _ {M : Type 0} (f : Format M) (s : Settings) (r : Readers M) where
  -- The text that a transcript determines.
  abbrev pub output_text : List Record → List ℕ
  output_text rs = text_from f s (lookup_at r s.start) [] rs

  -- What a record adds to the text of the records before it.
  abbrev pub added_text : List Record → Record → List ℕ
  added_text rs entry = record_text f s (lookup_at r s.start) (events_of f s rs) entry

  -- Whether a mirror is in step after records: for routes, and for links where they count.
  abbrev pub in_step_after : List Record → Bool
  in_step_after rs = is_in_step_for r s.start (events_of f s rs)

  -- A record's text follows that of the records before it, and depends on these alone.
  abbrev pub OutputGrows : Type 0
  OutputGrows = (rs : List Record) (entry : Record) → output_text (rs ++ entry ∷ []) ≡ output_text rs ++ added_text rs entry

  -- Where no record looks anything up, the text is the session's.
  abbrev pub IsSessionText : Type 0
  IsSessionText = (rs : List Record) → ((a : Address) → AllByRecursion (λ (entry : Record). entry ≡ Lookup a → ⊥) rs)
      → output_text rs ≡ session_text f s rs
