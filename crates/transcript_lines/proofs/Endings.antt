-- What stands after the records of a reading of an input, and that it is one.
use Rattle.std.proofs.Common.{◌≡◌, ◌+◌, ◌≤◌, ℕ, false, List, [], ◌∷◌, ◌++◌, length, Option, Some, None, refl, sym, subst, ◌∙◌, ap, arith}
use Rattle.std.specs.List.{join_with_byte}
use Rattle.std.proofs.lemmas.List.{length-append}
use Rattle.nl_core.specs.Frames.{Format}
use Rattle.session_model.specs.declared.outcome.RunFault.{RunFault}
use Rattle.session_model.specs.declared.outcome.RunFault.TheVariants as run
use Rattle.session_model.specs.declared.settings.Settings.{Settings}
use Rattle.session_model.specs.declared.transcript.Record.{Record}
use Rattle.session_model.specs.Events.{events_of}
use Rattle.session_model.specs.Transcript.{IsSpelled, record_words, record_line, lines_of, has_newline}
use Rattle.session_model.specs.Causes.{Refusal, AfterClose, OutOfNumbers, TooLong, refusal, IsNoRecord, BeginsLine, IsPast}
use Rattle.transcript_lines.proofs.FirstLines.{no_end, one_line, same_line, within_line, line_parts}
use Rattle.transcript_lines.proofs.Injective.{record_of_line}

-- What stands after the records of a reading: a whole line that is no record or one that isn't taken, a line without its
-- end or nothing, or the limit.
pub data Ending : Type 0 where
  AtLine : Option Refusal → Ending
  AtPart : Ending
  AtLimit : Ending

-- The fault of a record that isn't taken, at its place.
abbrev pub refused : ℕ → Refusal → RunFault
refused at AfterClose = run.Closed at
refused at OutOfNumbers = run.SequenceExhausted at
refused at TooLong = run.Unfit at

-- The fault of a line without its end, and none where nothing is left.
abbrev pub unfinished : ℕ → List ℕ → Option RunFault
unfinished at [] = None
unfinished at (b ∷ left) = Some (run.BadRecord at)

-- The fault of an ending at a place before what is left, if it is one.
abbrev pub fault_of : ℕ → List ℕ → Ending → Option RunFault
fault_of at left (AtLine None) = Some (run.BadRecord at)
fault_of at left (AtLine (Some why)) = Some (refused at why)
fault_of at left AtPart = unfinished at left
fault_of at left AtLimit = Some run.Limit

module _ {M : Type 0} (f : Format M) (s : Settings) (Allowed : Record → Type 0) where
  -- This is the verdict on a line: that it is no record, or why its record isn't taken.
  abbrev pub IsJudged : List Record → List ℕ → Option Refusal → Type 0
  IsJudged rs line None = IsNoRecord Allowed line
  IsJudged rs line (Some why) = (entry : Record) × (line ++ 10 ∷ [] ≡ record_line entry) × Allowed entry
      × (refusal f s (events_of f s rs) entry ≡ Some why)

  -- What is left after records ends a reading so.
  abbrev pub EndsAt : List Record → List ℕ → Ending → Type 0
  EndsAt rs left (AtLine verdict) = (line : List ℕ) × BeginsLine f s Allowed rs left line × IsJudged rs line verdict
  EndsAt rs left AtPart = (has_newline left ≡ false) × (length (lines_of rs) + length left ≤ s.limit)
  EndsAt rs left AtLimit = IsPast f s Allowed rs left

module _ {M : Type 0} (f : Format M) (s : Settings) (Allowed : Record → Type 0) (spelled : (r : Record) → Allowed r → IsSpelled r) where
  -- A line before a record's line is that line.
  same_entry : (rs : List Record) (left line : List ℕ) → BeginsLine f s Allowed rs left line → (r : Record) (more : List ℕ) → Allowed r
      → left ≡ record_line r ++ more
      → line ++ 10 ∷ [] ≡ record_line r
  same_entry rs left line begins r more allowed e = (same_line r line begins.rest more (spelled r allowed) begins.one (sym begins.spelled ∙ e)).0

  -- One line has one verdict.
  one_verdict : (rs : List Record) (line : List ℕ) (a b : Option Refusal) → IsJudged f s Allowed rs line a → IsJudged f s Allowed rs line b → a ≡ b
  one_verdict rs line None None h k = refl
  one_verdict rs line None (Some b) h k = absurd (h k.0 k.2 k.1)
  one_verdict rs line (Some a) None h k = absurd (k h.0 h.2 h.1)
  one_verdict rs line (Some a) (Some b) h k =
      let same : h.0 ≡ k.0 = record_of_line h.0 k.0 (spelled h.0 h.2) (spelled k.0 k.2) (sym h.1 ∙ k.1) in
      sym h.3 ∙ ap (λ entry. refusal f s (events_of f s rs) entry) same ∙ k.3

  line_part : {X : Type 0} (rs : List Record) (left line : List ℕ) → BeginsLine f s Allowed rs left line → has_newline left ≡ false → X
  line_part rs left line begins part = absurd (no_end line begins.rest (ap has_newline (sym begins.spelled) ∙ part))

  line_limit : {X : Type 0} (rs : List Record) (left line : List ℕ) → BeginsLine f s Allowed rs left line → IsPast f s Allowed rs left → X
  line_limit rs left line begins past =
      let le = within_line line begins.rest past.piece past.rest past.part (sym begins.spelled ∙ past.spelled) in
      absurd (omega (arith, le, begins.within, past.reaches))

  part_limit : {X : Type 0} (rs : List Record) (left : List ℕ) → length (lines_of rs) + length left ≤ s.limit → IsPast f s Allowed rs left → X
  part_limit rs left within past =
      let l : length left ≡ length past.piece + length past.rest = ap length past.spelled ∙ length-append past.piece past.rest in
      absurd (omega (arith, l, within, past.reaches, past.more))

  -- What is left ends in one way.
  pub one_ending : (rs : List Record) (left : List ℕ) (a b : Ending) → EndsAt f s Allowed rs left a → EndsAt f s Allowed rs left b → a ≡ b
  one_ending rs left (AtLine a) (AtLine b) h k =
      let same = one_line h.0 k.0 h.1.rest k.1.rest h.1.one k.1.one (sym h.1.spelled ∙ k.1.spelled) in
      ap AtLine (one_verdict rs k.0 a b (subst (λ (line : List ℕ). IsJudged f s Allowed rs line a) same.0 h.2) k.2)
  one_ending rs left (AtLine a) AtPart h k = line_part rs left h.0 h.1 k.0
  one_ending rs left (AtLine a) AtLimit h k = line_limit rs left h.0 h.1 k
  one_ending rs left AtPart (AtLine b) h k = line_part rs left k.0 k.1 h.0
  one_ending rs left AtPart AtPart h k = refl
  one_ending rs left AtPart AtLimit h k = part_limit rs left h.1 k
  one_ending rs left AtLimit (AtLine b) h k = line_limit rs left k.0 k.1 h
  one_ending rs left AtLimit AtPart h k = part_limit rs left k.1 h
  one_ending rs left AtLimit AtLimit h k = refl

  -- The records before an ending stand within the limit.
  pub within_limit : (rs : List Record) (left : List ℕ) (ending : Ending) → EndsAt f s Allowed rs left ending → length (lines_of rs) ≤ s.limit
  within_limit rs left (AtLine verdict) h = omega (arith, h.1.within)
  within_limit rs left AtPart h = omega (arith, h.1)
  within_limit rs left AtLimit h = omega (arith, h.reaches)

  -- No reading ends before a record that is taken and ends within the limit.
  pub not_before : (rs : List Record) (left : List ℕ) (ending : Ending) → EndsAt f s Allowed rs left ending → (next : Record) (more : List ℕ)
      → left ≡ record_line next ++ more
      → Allowed next → refusal f s (events_of f s rs) next ≡ None → length (lines_of rs) + length (record_line next) ≤ s.limit → ⊥
  not_before rs left (AtLine None) h next more e allowed taken within = h.2 next allowed (same_entry rs left h.0 h.1 next more allowed e)
  not_before rs left (AtLine (Some why)) h next more e allowed taken within =
      let same : h.2.0 ≡ next = record_of_line h.2.0 next (spelled h.2.0 h.2.2) (spelled next allowed) (sym h.2.1
      ∙ same_entry rs left h.0 h.1 next more allowed e) in
      let both : Some why ≡ None = sym h.2.3 ∙ ap (λ entry. refusal f s (events_of f s rs) entry) same ∙ taken in
      cc
  not_before rs left AtPart h next more e allowed taken within =
      no_end (join_with_byte 32 (record_words next)) more (ap has_newline (sym (line_parts next more)) ∙ ap has_newline (sym e) ∙ h.0)
  not_before rs left AtLimit h next more e allowed taken within =
      let le = within_line (join_with_byte 32 (record_words next)) more h.piece h.rest h.part (sym (line_parts next more) ∙ sym e ∙ h.spelled) in
      let l : length (record_line next)
      ≡ length (join_with_byte 32 (record_words next)) + 1 = length-append (join_with_byte 32 (record_words next)) (10 ∷ []) in
      omega (arith, le, l, within, h.reaches)
