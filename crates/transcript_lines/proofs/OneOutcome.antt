-- An input has at most one outcome: the records that are taken, and the cause after them, if there is one.
use Rattle.std.proofs.Common.{◌≡◌, ◌+◌, ◌⊎◌, ℕ, List, [], ◌∷◌, ◌++◌, length, Option, Some, None, refl, sym, subst, inl, inr, ◌∙◌, ap, arith, append_assoc, append-nil}
use Rattle.std.proofs.lemmas.Grind.{flat_map-append}
use Rattle.std.proofs.lemmas.List.{length-append}
use Rattle.nl_core.specs.Frames.{Format}
use Rattle.session_model.specs.declared.outcome.RunFault.{RunFault}
use Rattle.session_model.specs.declared.outcome.RunFault.TheVariants as run
use Rattle.session_model.specs.declared.settings.Settings.{Settings}
use Rattle.session_model.specs.declared.transcript.Record.{Record}
use Rattle.session_model.specs.Events.{Event, record_events, events_of}
use Rattle.session_model.specs.Transcript.{IsSpelled, record_line, lines_of}
use Rattle.session_model.specs.Causes.{Refusal, AfterClose, OutOfNumbers, TooLong, refusal, AreTaken, BeginsLine, BeginsRefused, IsUnfinished, Stops, HasCause, IsValid}
use Rattle.transcript_lines.proofs.Endings.{Ending, AtLine, AtPart, AtLimit, EndsAt, IsJudged, fault_of, not_before, one_ending, refused, within_limit}
use Rattle.transcript_lines.proofs.FirstLines.{one_front}

module _ {M : Type 0} (f : Format M) (s : Settings) (Allowed : Record → Type 0) where
  -- A reading of an input: the records that are taken, and the fault after them.
  record Reading (input : List ℕ) (rs : List Record) (fault : Option RunFault) : Type 0 where
    pub left : List ℕ
    pub ending : Ending
    pub spelled : input ≡ lines_of rs ++ left
    pub taken : AreTaken f s Allowed [] rs
    pub ends : EndsAt f s Allowed rs left ending
    pub tells : fault ≡ fault_of (length (lines_of rs)) left ending

  -- The place among events after records.
  abbrev place : List (Event M) → List Record → List (Event M)
  place before [] = before
  place before (r ∷ rs) = place (before ++ record_events f s r) rs

  -- A longer list of records takes one more where a shorter one ends.
  record GoesOn (before : List (Event M)) (rs : List Record) (left : List ℕ) (longer : List Record) : Type 0 where
    pub next : Record
    pub more : List ℕ
    pub rest : List Record
    pub is : longer ≡ rs ++ next ∷ rest
    pub spelled : left ≡ record_line next ++ more
    pub allowed : Allowed next
    pub taken : refusal f s (place before rs) next ≡ None

module _ {M : Type 0} (f : Format M) (s : Settings) (Allowed : Record → Type 0) (spelled : (r : Record) → Allowed r → IsSpelled r) where
  place_is : (before : List (Event M)) (rs : List Record) → place f s Allowed before rs ≡ before ++ events_of f s rs
  place_is before [] = sym (append-nil before)
  place_is before (r ∷ rs) = place_is (before ++ record_events f s r) rs ∙ append_assoc before (record_events f s r) (events_of f s rs)

  -- Two readings of one input are of the same records, or one goes on where the other ends.
  abbrev Fork : List (Event M) → List Record → List Record → List ℕ → List ℕ → Type 0
  Fork before rs others left other_left = ((rs ≡ others)
      × (left ≡ other_left)) ⊎ GoesOn f s Allowed before rs left others ⊎ GoesOn f s Allowed before others other_left rs

  forked : (before : List (Event M)) (r other : Record) (rs others : List Record) (left other_left : List ℕ) → r ≡ other
      → Fork (before ++ record_events f s r) rs others left other_left → Fork before (r ∷ rs) (other ∷ others) left other_left
  forked before r other rs others left other_left first (inl same) = inl (ap (λ z. z ∷ rs) first ∙ ap (λ z. other ∷ z) same.0, same.1)
  forked before r other rs others left other_left first (inr (inl on)) =
      inr (inl (record {
        next = on.next;
        more = on.more;
        rest = on.rest;
        is = ap (λ z. z ∷ others) (sym first) ∙ ap (λ z. r ∷ z) on.is;
        spelled = on.spelled;
        allowed = on.allowed;
        taken = on.taken;
      }))
  forked before r other rs others left other_left first (inr (inr on)) =
      inr (inr (record {
        next = on.next;
        more = on.more;
        rest = on.rest;
        is = ap (λ z. z ∷ rs) first ∙ ap (λ z. other ∷ z) on.is;
        spelled = on.spelled;
        allowed = on.allowed;
        taken = ap (λ z. refusal f s (place f s Allowed (before ++ record_events f s z) others) on.next) (sym first) ∙ on.taken;
      }))

  fork : (before : List (Event M)) (rs others : List Record) (left other_left : List ℕ) → AreTaken f s Allowed before rs
      → AreTaken f s Allowed before others
      → lines_of rs ++ left ≡ lines_of others ++ other_left → Fork before rs others left other_left
  fork before [] [] left other_left t u e = inl (refl, e)
  fork before [] (r ∷ rs) left other_left t u e =
      inr (inl (record {
        next = r;
        more = lines_of rs ++ other_left;
        rest = rs;
        is = refl;
        spelled = e ∙ append_assoc (record_line r) (lines_of rs) other_left;
        allowed = u.0;
        taken = u.1;
      }))
  fork before (r ∷ rs) [] left other_left t u e =
      inr (inr (record {
        next = r;
        more = lines_of rs ++ left;
        rest = rs;
        is = refl;
        spelled = sym e ∙ append_assoc (record_line r) (lines_of rs) left;
        allowed = t.0;
        taken = t.1;
      }))
  fork before (r ∷ rs) (other ∷ others) left other_left t u e =
      let one = one_front r other (lines_of rs ++ left) (lines_of others ++ other_left) (spelled r t.0) (spelled other u.0)
      (sym (append_assoc (record_line r) (lines_of rs) left) ∙ e ∙ append_assoc (record_line other) (lines_of others) other_left) in
      forked before r other rs others left other_left one.0
      (fork (before ++ record_events f s r) rs others left other_left t.2
      (subst (λ (z : Record). AreTaken f s Allowed (before ++ record_events f s z) others) (sym one.0) u.2) one.1)

  -- No reading goes on where another ends.
  no_longer : (input : List ℕ) (rs others : List Record) (a b : Option RunFault) (h : Reading f s Allowed input rs a)
      → Reading f s Allowed input others b
      → GoesOn f s Allowed [] rs h.left others → ⊥
  no_longer input rs others a b h k on =
      let within = within_limit f s Allowed spelled others k.left k.ending k.ends in
      let lines : lines_of others ≡ lines_of rs ++ (record_line on.next ++ lines_of on.rest) = ap lines_of on.is
      ∙ flat_map-append record_line rs (on.next ∷ on.rest) in
      let l : length (lines_of others) ≡ length (lines_of rs) + (length (record_line on.next) + length (lines_of on.rest)) =
      ap length lines ∙ length-append (lines_of rs) (record_line on.next ++ lines_of on.rest)
      ∙ ap (λ n. length (lines_of rs) + n) (length-append (record_line on.next) (lines_of on.rest)) in
      not_before f s Allowed spelled rs h.left h.ending h.ends on.next on.more on.spelled on.allowed
      (ap (λ es. refusal f s es on.next) (sym (place_is [] rs)) ∙ on.taken) (omega (arith, l, within))

  -- Two readings of one input are one.
  readings_agree : (input : List ℕ) (rs others : List Record) (a b : Option RunFault) → Reading f s Allowed input rs a
      → Reading f s Allowed input others b → (rs ≡ others) × (a ≡ b)
  readings_agree input rs others a b h k = by (fork [] rs others h.left k.left h.taken k.taken (sym h.spelled ∙ k.spelled))
    where
      by : Fork [] rs others h.left k.left → (rs ≡ others) × (a ≡ b)
      by (inl same) =
          let ends : EndsAt f s Allowed rs h.left k.ending = subst (λ (left : List ℕ). EndsAt f s Allowed rs left k.ending) (sym same.1)
          (subst (λ (z : List Record). EndsAt f s Allowed z k.left k.ending) (sym same.0) k.ends) in (
            same.0,
            h.tells ∙ ap (λ z. fault_of (length (lines_of z)) h.left h.ending) same.0
                ∙ ap (λ z. fault_of (length (lines_of others)) z h.ending) same.1
                ∙ ap (λ z. fault_of (length (lines_of others)) k.left z) (one_ending f s Allowed spelled rs h.left h.ending k.ending h.ends ends) ∙ sym k.tells,
          )
      by (inr (inl on)) = absurd (no_longer input rs others a b h k on)
      by (inr (inr on)) = absurd (no_longer input others rs b a k h on)

  by_line : (input : List ℕ) (rs : List Record) (left line : List ℕ) (verdict : Option Refusal) → input ≡ lines_of rs ++ left
      → AreTaken f s Allowed [] rs
      → BeginsLine f s Allowed rs left line → IsJudged f s Allowed rs line verdict
      → Reading f s Allowed input rs (fault_of (length (lines_of rs)) left (AtLine verdict))
  by_line input rs left line verdict e t begins judged =
      record { left = left; ending = AtLine verdict; spelled = e; taken = t; ends = (line, begins, judged); tells = refl }

  by_refused : (input : List ℕ) (rs : List Record) (left : List ℕ) (why : Refusal) → input ≡ lines_of rs ++ left → AreTaken f s Allowed [] rs
      → BeginsRefused f s Allowed rs left why → Reading f s Allowed input rs (Some (refused (length (lines_of rs)) why))
  by_refused input rs left why e t h = by_line input rs left h.line (Some why) e t h.begins (h.entry, h.is, h.allowed, h.cause)

  by_part : (input : List ℕ) (rs : List Record) (left : List ℕ) → input ≡ lines_of rs ++ left → AreTaken f s Allowed [] rs
      → IsUnfinished f s Allowed rs left → Reading f s Allowed input rs (Some (run.BadRecord (length (lines_of rs))))
  by_part input rs [] e t h = absurd (omega (arith, h.some))
  by_part input rs (b ∷ left) e t h = record { left = b ∷ left; ending = AtPart; spelled = e; taken = t; ends = (h.part, h.within); tells = refl }

  at_place : (rs : List Record) (input : List ℕ) (at : ℕ) (fault : ℕ → RunFault) → at ≡ length (lines_of rs)
      → Reading f s Allowed input rs (Some (fault (length (lines_of rs))))
      → Reading f s Allowed input rs (Some (fault at))
  at_place rs input at fault is h = subst (λ (n : ℕ). Reading f s Allowed input rs (Some (fault n))) (sym is) h

  -- A cause is a reading with a fault, and a valid input is one without.
  of_stop : (input : List ℕ) (rs : List Record) (left : List ℕ) (fault : RunFault) → input ≡ lines_of rs ++ left → AreTaken f s Allowed [] rs
      → Stops f s Allowed rs left fault → Reading f s Allowed input rs (Some fault)
  of_stop input rs left (run.BadRecord at) e t (is, inl bad) =
      at_place rs input at run.BadRecord is (by_line input rs left bad.line None e t bad.begins bad.none)
  of_stop input rs left (run.BadRecord at) e t (is, inr part) = at_place rs input at run.BadRecord is (by_part input rs left e t part)
  of_stop input rs left (run.Closed at) e t h = at_place rs input at run.Closed h.0 (by_refused input rs left AfterClose e t h.1)
  of_stop input rs left (run.SequenceExhausted at) e t h = at_place rs input at run.SequenceExhausted h.0 (by_refused input rs left OutOfNumbers e t h.1)
  of_stop input rs left (run.Unfit at) e t h = at_place rs input at run.Unfit h.0 (by_refused input rs left TooLong e t h.1)
  of_stop input rs left run.Limit e t h = record { left = left; ending = AtLimit; spelled = e; taken = t; ends = h; tells = refl }
  of_stop input rs left run.ReadFault e t h = absurd h
  of_stop input rs left run.WriteFault e t h = absurd h
  of_stop input rs left run.NoMemory e t h = absurd h

  of_cause : (input : List ℕ) (rs : List Record) (fault : RunFault) → HasCause f s Allowed input rs fault → Reading f s Allowed input rs (Some fault)
  of_cause input rs fault h = of_stop input rs h.left fault h.spelled h.taken h.stops

  of_valid : (input : List ℕ) (rs : List Record) → IsValid f s Allowed input rs → Reading f s Allowed input rs None
  of_valid input rs h =
      let l : length input ≡ length (lines_of rs) = ap length h.spelled in
      let spelled = h.spelled ∙ sym (append-nil (lines_of rs)) in
      record { left = []; ending = AtPart; spelled = spelled; taken = h.taken; ends = (refl, omega (arith, l, h.within)); tells = refl }

  -- An input has one cause, after the same records: that of the first line that has one, or else the limit or the
  -- unfinished line.
  pub one_cause : (input : List ℕ) (rs others : List Record) (fault other : RunFault) → HasCause f s Allowed input rs fault
      → HasCause f s Allowed input others other
      → (rs ≡ others) × (fault ≡ other)
  one_cause input rs others fault other h k =
      let one = readings_agree input rs others (Some fault) (Some other) (of_cause input rs fault h) (of_cause input others other k) in
      let same : Some fault ≡ Some other = one.1 in
      (one.0, (cc))

  -- A valid input has no cause.
  pub valid_or_caused : (input : List ℕ) (rs others : List Record) (fault : RunFault) → IsValid f s Allowed input rs
      → HasCause f s Allowed input others fault → ⊥
  valid_or_caused input rs others fault h k =
      let none : None ≡ Some fault = (readings_agree input rs others None (Some fault) (of_valid input rs h) (of_cause input others fault k)).1 in
      cc

  -- A valid input is the lines of one list of records.
  pub one_reading : (input : List ℕ) (rs others : List Record) → IsValid f s Allowed input rs → IsValid f s Allowed input others → rs ≡ others
  one_reading input rs others h k = (readings_agree input rs others None None (of_valid input rs h) (of_valid input others k)).0
