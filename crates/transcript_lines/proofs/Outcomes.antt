-- Every input has an outcome: its lines are taken one after another, until one has a cause or nothing is left.
use Rattle.std.proofs.Common.{◌≡◌, ◌==◌, ◌+◌, ◌-◌, ◌<◌, ◌≤◌, ◌⊎◌, ℕ, zero, suc, nat_lt, Bool, true, false, List, [], ◌∷◌, ◌++◌, length, take, drop, Option, Some, None, refl, sym, inl, inr, ◌∙◌, ap, arith, append_assoc, append-nil}
use Rattle.std.proofs.lemmas.Bool.{or_from, or_parts}
use Rattle.std.proofs.lemmas.Bool.Decides.{nat_tests}
use Rattle.std.proofs.lemmas.Grind.{flat_map-append}
use Rattle.std.proofs.lemmas.List.{length-append, length-drop, length-take-le, take-append-drop}
use Rattle.nl_core.specs.Frames.{Format}
use Rattle.session_model.specs.declared.outcome.RunFault.TheVariants as run
use Rattle.session_model.specs.declared.settings.Settings.{Settings}
use Rattle.session_model.specs.declared.transcript.Record.{Record}
use Rattle.session_model.specs.Events.{events_of}
use Rattle.session_model.specs.Transcript.{record_line, lines_of, has_newline}
use Rattle.session_model.specs.Causes.{Refusal, AfterClose, OutOfNumbers, TooLong, refusal, IsNoRecord, AreTaken, BeginsLine, BeginsRefused, IsPast, HasOutcome}
use Rattle.session_model.proofs.Taking.{taken_more}

at_most : (a b : ℕ) → (a ≤ b) ⊎ (b < a)
at_most a b = by (nat_lt b a) refl
  where
    by : (t : Bool) → nat_lt b a ≡ t → (a ≤ b) ⊎ (b < a)
    by true e = inr (grind (arith, nat_tests))
    by false e = inl (grind (arith, nat_tests))

-- A line, its newline and what follows.
record FirstLine (left : List ℕ) : Type 0 where
  pub line : List ℕ
  pub rest : List ℕ
  pub spelled : left ≡ line ++ 10 ∷ rest
  pub one : has_newline line ≡ false

first_line : (left : List ℕ) → FirstLine left ⊎ (has_newline left ≡ false)
first_line [] = inr refl
first_line (b ∷ left) = by (b == 10) refl (first_line left)
  where
    by : (t : Bool) → (b == 10) ≡ t → FirstLine left ⊎ (has_newline left ≡ false) → FirstLine (b ∷ left) ⊎ (has_newline (b ∷ left) ≡ false)
    by true e later =
        let is : b ≡ 10 = grind (arith, nat_tests) in
        inl (record { line = []; rest = left; spelled = ap (λ z. z ∷ left) is; one = refl })
    by false e (inl h) =
        inl (record { line = b ∷ h.line; rest = h.rest; spelled = ap (λ z. b ∷ z) h.spelled; one = or_from (b == 10) (has_newline h.line) e h.one })
    by false e (inr h) = inr (or_from (b == 10) (has_newline left) e h)

part_newline : (n : ℕ) (line : List ℕ) → has_newline line ≡ false → has_newline (take n line) ≡ false
part_newline zero line h = refl
part_newline (suc n) [] h = refl
part_newline (suc n) (b ∷ line) h =
    let parts = or_parts (b == 10) (has_newline line) h in
    or_from (b == 10) (has_newline (take n line)) parts.0 (part_newline n line parts.1)

lines_more : (rs : List Record) (r : Record) → lines_of (rs ++ r ∷ []) ≡ lines_of rs ++ record_line r
lines_more rs r = flat_map-append record_line rs (r ∷ []) ∙ ap (λ t. lines_of rs ++ t) (append-nil (record_line r))

module _ {M : Type 0} (f : Format M) (s : Settings) (Allowed : Record → Type 0)
    (decide : (line : List ℕ) → ((r : Record) × Allowed r × (line ++ 10 ∷ [] ≡ record_line r)) ⊎ IsNoRecord Allowed line) where
  -- Where no newline comes within the limit, the input is too long.
  past : (rs : List Record) (left line tail : List ℕ) → left ≡ line ++ tail → has_newline line ≡ false → length (lines_of rs) ≤ s.limit
      → s.limit ≤ length (lines_of rs) + length line → s.limit < length (lines_of rs) + length line + length tail → IsPast f s Allowed rs left
  past rs left line tail e none low high more =
      let n = s.limit - length (lines_of rs) in
      let size = length-take-le n line (omega (arith, low, high)) in
      record {
        piece = take n line;
        rest = drop n line ++ tail;
        spelled = e ∙ ap (λ z. z ++ tail) (sym (take-append-drop n line)) ∙ append_assoc (take n line) (drop n line) tail;
        part = part_newline n line none;
        reaches = omega (arith, size, low);
        more = omega (arith, length-append (drop n line) tail, length-drop n line, low, high, more);
      }

  -- What is left without a newline: nothing, a line without its end, or too much.
  at_part : (input : List ℕ) (rs : List Record) (left : List ℕ) → input ≡ lines_of rs ++ left → AreTaken f s Allowed [] rs
      → length (lines_of rs) ≤ s.limit → has_newline left ≡ false → HasOutcome f s Allowed input
  at_part input rs [] e taken low none =
      let is : input ≡ lines_of rs = e ∙ append-nil (lines_of rs) in
      let l : length input ≡ length (lines_of rs) = ap length is in
      (rs, inl (record { spelled = is; taken = taken; within = omega (arith, l, low) }))
  at_part input rs (b ∷ left) e taken low none = by (at_most (length (lines_of rs) + length (b ∷ left)) s.limit)
    where
      by : (length (lines_of rs) + length (b ∷ left) ≤ s.limit) ⊎ (s.limit < length (lines_of rs) + length (b ∷ left)) → HasOutcome f s Allowed input
      by (inl h) = (
        rs,
        inr (
          run.BadRecord (length (lines_of rs)),
          record {
            left = b ∷ left;
            spelled = e;
            taken = taken;
            stops = (refl, inr (record { some = omega arith; part = none; within = h }));
          },
        ),
      )
      by (inr h) = (
        rs,
        inr (
          run.Limit,
          record {
            left = b ∷ left;
            spelled = e;
            taken = taken;
            stops = past rs (b ∷ left) (b ∷ left) [] (sym (append-nil (b ∷ left))) none low (omega (arith, h)) (omega (arith, h));
          },
        ),
      )

  -- A line of a record that isn't taken.
  at_refused : (input : List ℕ) (rs : List Record) (left : List ℕ) (why : Refusal) → input ≡ lines_of rs ++ left → AreTaken f s Allowed [] rs
      → BeginsRefused f s Allowed rs left why → HasOutcome f s Allowed input
  at_refused input rs left why e taken h = by why h
    where
      at : ℕ
      at = length (lines_of rs)

      by : (o : Refusal) → BeginsRefused f s Allowed rs left o → HasOutcome f s Allowed input
      by AfterClose k = (rs, inr (run.Closed at, record { left = left; spelled = e; taken = taken; stops = (refl, k) }))
      by OutOfNumbers k = (rs, inr (run.SequenceExhausted at, record { left = left; spelled = e; taken = taken; stops = (refl, k) }))
      by TooLong k = (rs, inr (run.Unfit at, record { left = left; spelled = e; taken = taken; stops = (refl, k) }))

  -- A whole line, where an input whose records reach further has an outcome.
  at_line : (input : List ℕ) (rs : List Record) (left : List ℕ) (h : FirstLine left)
      → ((r : Record) → AreTaken f s Allowed [] (rs ++ r ∷ []) → length (lines_of (rs ++ r ∷ [])) ≤ s.limit
      → input ≡ lines_of (rs ++ r ∷ []) ++ h.rest
      → HasOutcome f s Allowed input)
      → input ≡ lines_of rs ++ left → AreTaken f s Allowed [] rs → length (lines_of rs) ≤ s.limit → HasOutcome f s Allowed input
  at_line input rs left h later e taken low = by (at_most s.limit (length (lines_of rs) + length h.line))
    where
      refused : BeginsLine f s Allowed rs left h.line → (r : Record) → Allowed r → h.line ++ 10 ∷ [] ≡ record_line r
          → (o : Option Refusal) → refusal f s (events_of f s rs) r ≡ o → HasOutcome f s Allowed input
      refused begins r allowed is (Some why) cause =
          at_refused input rs left why e taken (record { entry = r; line = h.line; begins = begins; is = is; allowed = allowed; cause = cause })
      refused begins r allowed is None cause =
          let size : length (record_line r) ≡ length h.line + 1 = ap length (sym is) ∙ length-append h.line (10 ∷ []) in
          let whole : length (lines_of (rs ++ r ∷ [])) ≡ length (lines_of rs) + length (record_line r) =
          ap length (lines_more rs r) ∙ length-append (lines_of rs) (record_line r) in
          let parts : left ≡ record_line r ++ h.rest = h.spelled ∙ sym (append_assoc h.line (10 ∷ []) h.rest) ∙ ap (λ t. t ++ h.rest) is in
          later r (taken_more f s Allowed [] rs r taken allowed cause) (omega (arith, size, whole, begins.within))
          (e ∙ ap (λ t. lines_of rs ++ t) parts ∙ sym (append_assoc (lines_of rs) (record_line r) h.rest)
          ∙ ap (λ t. t ++ h.rest) (sym (lines_more rs r)))

      judged : BeginsLine f s Allowed rs left h.line
          → ((r : Record) × Allowed r × (h.line ++ 10 ∷ [] ≡ record_line r)) ⊎ IsNoRecord Allowed h.line → HasOutcome f s Allowed input
      judged begins (inl k) = refused begins k.0 k.1 k.2 (refusal f s (events_of f s rs) k.0) refl
      judged begins (inr none) = (
        rs,
        inr (
          run.BadRecord (length (lines_of rs)),
          record {
            left = left;
            spelled = e;
            taken = taken;
            stops = (refl, inl (record { line = h.line; begins = begins; none = none }));
          },
        ),
      )

      by : (s.limit ≤ length (lines_of rs) + length h.line) ⊎ (length (lines_of rs) + length h.line < s.limit) → HasOutcome f s Allowed input
      by (inl high) = (
        rs,
        inr (
          run.Limit,
          record {
            left = left;
            spelled = e;
            taken = taken;
            stops = past rs left h.line (10 ∷ h.rest) h.spelled h.one low high (omega (arith, high));
          },
        ),
      )
      by (inr within) = judged (record { rest = h.rest; spelled = h.spelled; one = h.one; within = within }) (decide h.line)

  goes_on : (n : ℕ) (input : List ℕ) (rs : List Record) (left : List ℕ) → length left ≤ n → input ≡ lines_of rs ++ left
      → AreTaken f s Allowed [] rs → length (lines_of rs) ≤ s.limit → HasOutcome f s Allowed input
  goes_on zero input rs [] fuel e taken low = at_part input rs [] e taken low refl
  goes_on zero input rs (b ∷ left) fuel e taken low = absurd (omega (arith, fuel))
  goes_on (suc n) input rs left fuel e taken low = by (λ qs rest short is t l. goes_on n input qs rest short is t l) (first_line left)
    where
      by : ((qs : List Record) (rest : List ℕ) → length rest ≤ n → input ≡ lines_of qs ++ rest → AreTaken f s Allowed [] qs
          → length (lines_of qs) ≤ s.limit
          → HasOutcome f s Allowed input)
          → FirstLine left ⊎ (has_newline left ≡ false) → HasOutcome f s Allowed input
      by ih (inl h) =
          let size : length left ≡ length h.line + length (10 ∷ h.rest) = ap length h.spelled ∙ length-append h.line (10 ∷ h.rest) in
          at_line input rs left h (λ r t l is. ih (rs ++ r ∷ []) h.rest (omega (arith, size, fuel)) is t l) e taken low
      by ih (inr none) = at_part input rs left e taken low none

  -- Every input has an outcome, where each line is known to be a record's or no record's.
  pub has_outcome : (input : List ℕ) → HasOutcome f s Allowed input
  has_outcome input = goes_on (length input) input [] input (omega arith) refl tt (omega arith)
