-- Where a run halts.
use Rattle.std.proofs.Common.{◌≡◌, ◌≢◌, ◌+◌, ◌<◌, ◌≤◌, ◌==◌, inl, ℕ, zero, suc, Option, Some, List, [], ◌∷◌, ◌++◌, length, take, drop, false, refl, sym, ◌∙◌, ap, subst, append_assoc, arith}
use Rattle.std.proofs.lemmas.List.{append-nil, length-append, take_all, take-append-drop}
use Rattle.std.proofs.Math.Seq.{take-append_seam}
use Rattle.session_model.specs.declared.settings.Settings.{Settings}
use Rattle.session_model.specs.declared.outcome.RunFault.{RunFault}
use Rattle.session_model.specs.declared.outcome.RunFault.TheVariants as run
use Rattle.session_model.specs.declared.transcript.Record.{Record}
use Rattle.session_model.specs.Causes.{AfterClose, BeginsLine, BeginsRefused, OutOfNumbers, Refusal, TooLong, refusal}
use Rattle.session_model.specs.Lines.{newline}
use Rattle.session_model.specs.Transcript.{lines_of}
use Rattle.transcript_io.specs.Io.{GainedSome}
use Rattle.transcript_lines.specs.LineDecoder.{EndsLine, IsLineOf}
use Rattle.transcript_lines.specs.declared.decoder.Line.{Line}
use Rattle.transcript_lines.specs.declared.decoder.Line.TheVariants as told
use Rattle.transcript_lines.specs.declared.decoder.LineDecoder.{LineDecoder}
use Rattle.mirror.specs.declared.run_state.RunState.{RunState}
use Rattle.mirror.specs.Format.{IsEntry, Message, format}
use Rattle.mirror.specs.Feeding.{FedPiece, Halting, HaltedBy, HaltsBy, HasRead, RefusesLine, RefusesRecord}
use Rattle.mirror.specs.Faults.{IsStepFault, IsInputFault}
use Rattle.mirror.specs.Runner.{Fails, Tracks, added_text, events}
use Rattle.mirror.proofs.Feeds.{FedUpTo, joined_part}

-- ---- what a step that fails leaves

-- What is told once is one.
pub same_some : {a b : List ℕ} → ◌≡◌ {A = Option (List ℕ)} (Some a) (Some b) → a ≡ b
same_some e = cc

-- A sink that takes all keeps what it had.
kept_front : (s : Settings) (rs : List Record) (r : Record) (at : ℕ) (w now : List ℕ) (e : RunFault)
    → Fails s rs r at (Some w) (Some now) e → take (length w) now ≡ w
kept_front s rs r at w now e f = by e f
  where
    whole : (xs : List ℕ) → take (length xs) xs ≡ xs
    whole xs = take_all (length xs) xs (omega arith)

    unchanged : ◌≡◌ {A = Option (List ℕ)} (Some now) (Some w) → take (length w) now ≡ w
    unchanged e = ap (take (length w)) (same_some e) ∙ whole w

    grown : GainedSome (Some w) (Some now) (added_text s rs r) → take (length w) now ≡ w
    grown g = ap (take (length w)) (same_some g.gained.wrote) ∙ take-append_seam w g.gained.shown

    by : (e : RunFault) → Fails s rs r at (Some w) (Some now) e → take (length w) now ≡ w
    by (run.BadRecord place) f = absurd f
    by (run.Closed place) f = unchanged f.2
    by (run.SequenceExhausted place) f = unchanged f.2
    by (run.Unfit place) f = unchanged f.2
    by run.Limit f = absurd f
    by run.ReadFault f = absurd f
    by run.WriteFault f = grown f.1
    by run.NoMemory f = grown f

-- Of the faults of a step, all but that of writing are faults of the input.
pub input_from : (e : RunFault) → IsStepFault e → e ≢ run.WriteFault → IsInputFault e
input_from (run.BadRecord at) h other = absurd h
input_from (run.Closed at) h other = tt
input_from (run.SequenceExhausted at) h other = tt
input_from (run.Unfit at) h other = tt
input_from run.Limit h other = absurd h
input_from run.ReadFault h other = absurd h
input_from run.WriteFault h other = absurd (other refl)
input_from run.NoMemory h other = tt

-- Where the sink takes all, a step fails since the record isn't taken, or out of memory.
refuses_record : (s : Settings) (rs : List Record) (r : Record) (at : ℕ) (w0 w1 : Option (List ℕ)) (e : RunFault)
    → Fails s rs r at w0 w1 e → e ≢ run.WriteFault → RefusesRecord s rs r at e
refuses_record s rs r at w0 w1 (run.BadRecord place) f other = absurd f
refuses_record s rs r at w0 w1 (run.Closed place) f other = (f.0, f.1)
refuses_record s rs r at w0 w1 (run.SequenceExhausted place) f other = (f.0, f.1)
refuses_record s rs r at w0 w1 (run.Unfit place) f other = (f.0, f.1)
refuses_record s rs r at w0 w1 run.Limit f other = absurd f
refuses_record s rs r at w0 w1 run.ReadFault f other = absurd f
refuses_record s rs r at w0 w1 run.WriteFault f other = absurd (other refl)
refuses_record s rs r at w0 w1 run.NoMemory f other = tt

-- A step that fails refuses its line, once the text that waits is cut to what waited before.
pub refuses_line : (p : RunState) (r : Record) (now w : List ℕ) (e : RunFault)
    → ((s : Settings) (rs : List Record) → Tracks s rs p.runner → Fails s rs r p.line_start (Some p.text.items) (Some now) e)
    → e ≢ run.WriteFault → w ≡ take (length p.text.items) now → RefusesLine (told.Record r) p w e
refuses_line p r now w e fails other cut s rs tracks =
    let f = fails s rs tracks in
    (refuses_record s rs r p.line_start (Some p.text.items) (Some now) e f other, cut ∙ kept_front s rs r p.line_start p.text.items now e f)

-- ---- at the end of a line

module _ (p : RunState) (d : LineDecoder Message) (piece : List ℕ) (took : ℕ) (line : Line) (s : Settings) (bytes text : List ℕ)
    (ends : EndsLine format.reads p.decoder piece took d line) (h : HasRead s bytes p text)
    (low : p.taken + length piece ≤ s.limit) where
  -- What is left begins with a whole line.
  begins : (after : List ℕ) → BeginsLine format s IsEntry h.records ((h.line ++ piece) ++ after) (h.line ++ ends.front)
  begins after = record {
    rest = ends.rest ++ after;
    spelled =
        ap (λ z. (h.line ++ z) ++ after) ends.cut ∙ append_assoc h.line (ends.front ++ newline ∷ ends.rest) after
        ∙ ap (λ z. h.line ++ z) (append_assoc ends.front (newline ∷ ends.rest) after)
        ∙ sym (append_assoc h.line ends.front (newline ∷ (ends.rest ++ after)));
    one = joined_part h.line ends.front h.part ends.first;
    within =
        let lines = lines_of h.records in
        let l : length bytes ≡ length lines + length h.line = ap length h.spelled ∙ length-append lines h.line in
        let k : length piece ≡ length ends.front + length (newline ∷ ends.rest) = ap length ends.cut ∙ length-append ends.front (newline ∷ ends.rest) in
        let n : length (h.line ++ ends.front) ≡ length h.line + length ends.front = length-append h.line ends.front in
        omega (arith, l, k, n, h.count, low);
  }

  -- A run halts there for this reason.
  halts_there : (fault : RunFault) → ((after : List ℕ) → HaltsBy s h.records ((h.line ++ piece) ++ after) fault)
      → Halting s (bytes ++ piece) text fault
  halts_there fault stops = record {
    records = h.records;
    part = h.line ++ piece;
    taken = h.tracks.taken;
    spelled = ap (λ b. b ++ piece) h.spelled ∙ append_assoc (lines_of h.records) h.line piece;
    told = h.told;
    stops = stops;
  }

  -- A line that isn't taken halts a run.
  line_halts : (m : RunState) (w : List ℕ) (fault : RunFault) → m.runner ≡ p.runner → m.line_start ≡ p.line_start
      → m.text.items ≡ p.text.items → RefusesLine line m w fault → Halting s (bytes ++ piece) text fault × (w ≡ p.text.items)
  line_halts m w fault runner start same refuses = by line (ends.told h.line h.decoded) refuses
    where
      by : (l : Line) → IsLineOf IsEntry (h.line ++ ends.front) l → RefusesLine l m w fault
          → Halting s (bytes ++ piece) text fault × (w ≡ p.text.items)
      by told.Bad none f =
          let bad = halts_there (run.BadRecord m.line_start) (λ after. (
            start ∙ h.start,
            inl (record { line = h.line ++ ends.front; begins = begins after; none = none }),
          )) in
          (subst (λ e. Halting s (bytes ++ piece) text e) (sym f.0) bad, f.1 ∙ same)
      by (told.Record r) is f =
          let refused = f s h.records (subst (Tracks s h.records) (sym runner) h.tracks) in
          (halts_there fault (λ after. stops after fault refused.0), refused.1 ∙ same)
        where
          refuses_for : (after : List ℕ) (why : Refusal) → refusal format s (events s h.records) r ≡ Some why
              → BeginsRefused format s IsEntry h.records ((h.line ++ piece) ++ after) why
          refuses_for after why c = record {
            entry = r;
            line = h.line ++ ends.front;
            begins = begins after;
            is = is.0;
            allowed = is.1;
            cause = c;
          }

          stops : (after : List ℕ) (e : RunFault) → RefusesRecord s h.records r m.line_start e
              → HaltsBy s h.records ((h.line ++ piece) ++ after) e
          stops after (run.BadRecord at) f = absurd f
          stops after (run.Closed at) f = (f.0 ∙ start ∙ h.start, refuses_for after AfterClose f.1)
          stops after (run.SequenceExhausted at) f = (f.0 ∙ start ∙ h.start, refuses_for after OutOfNumbers f.1)
          stops after (run.Unfit at) f = (f.0 ∙ start ∙ h.start, refuses_for after TooLong f.1)
          stops after run.Limit f = absurd f
          stops after run.ReadFault f = absurd f
          stops after run.WriteFault f = absurd f
          stops after run.NoMemory f = tt

-- A piece whose first line isn't taken halts a run; m is the state before the line is judged.
pub halts_at_line : (p m : RunState) (piece w : List ℕ) (took : ℕ) (line : Line) (fault : RunFault)
    → EndsLine format.reads p.decoder piece took m.decoder line → p.taken + length piece ≤ p.runner.settings.limit
    → m.runner ≡ p.runner → m.line_start ≡ p.line_start → m.text.items ≡ p.text.items → RefusesLine line m w fault
    → HaltedBy p piece w fault
halts_at_line p m piece w took line fault ends low runner start same refuses s bytes text h =
    let within = subst (λ (q : Settings). p.taken + length piece ≤ q.limit) h.tracks.settings low in
    let here = line_halts p m.decoder piece took line s bytes text ends h within m w fault runner start same refuses in
    ([], subst (λ z. Halting s (bytes ++ piece) z fault) (sym (append-nil text)) here.0, here.1 ∙ sym (append-nil p.text.items))

-- ---- within a line

-- A piece halts a run where memory runs out at its beginning.
pub halts_for_memory : (p : RunState) (piece : List ℕ) → HaltedBy p piece p.text.items run.NoMemory
halts_for_memory p piece s bytes text h = (
  [],
  subst (λ z. Halting s (bytes ++ piece) z run.NoMemory) (sym (append-nil text)) (record {
    records = h.records;
    part = h.line ++ piece;
    taken = h.tracks.taken;
    spelled = ap (λ b. b ++ piece) h.spelled ∙ append_assoc (lines_of h.records) h.line piece;
    told = h.told;
    stops = λ after. tt;
  }),
  sym (append-nil p.text.items),
)

-- A piece past the limit halts a run that has come to it.
pub halts_at_limit : (p : RunState) (past : List ℕ) → p.taken ≡ p.runner.settings.limit → 0 < length past
    → HaltedBy p past p.text.items run.Limit
halts_at_limit p past is some s bytes text h =
    let lines = lines_of h.records in
    let l : length bytes ≡ length lines + length h.line = ap length h.spelled ∙ length-append lines h.line in
    let limit : p.taken ≡ s.limit = is ∙ ap (λ (q : Settings). q.limit) h.tracks.settings in (
      [],
      subst (λ z. Halting s (bytes ++ past) z run.Limit) (sym (append-nil text)) (record {
        records = h.records;
        part = h.line ++ past;
        taken = h.tracks.taken;
        spelled = ap (λ b. b ++ past) h.spelled ∙ append_assoc lines h.line past;
        told = h.told;
        stops = λ after. record {
          piece = h.line;
          rest = past ++ after;
          spelled = append_assoc h.line past after;
          part = h.part;
          reaches = sym l ∙ sym h.count ∙ limit;
          more = let n : length (past ++ after) ≡ length past + length after = length-append past after in omega (arith, n, some);
        };
      }),
      sym (append-nil p.text.items),
    )

-- ---- pieces one after another

-- What follows changes nothing.
halting_more : (s : Settings) (bytes more text : List ℕ) (e : RunFault) → Halting s bytes text e → Halting s (bytes ++ more) text e
halting_more s bytes more text e h = record {
  records = h.records;
  part = h.part ++ more;
  taken = h.taken;
  spelled = ap (λ b. b ++ more) h.spelled ∙ append_assoc (lines_of h.records) h.part more;
  told = h.told;
  stops = λ after.
      let same = sym (append_assoc h.part more after) in
      subst (λ left. HaltsBy s h.records left e) same (h.stops (more ++ after));
}

-- A piece halts a run where its first bytes do.
pub halts_before : (p : RunState) (piece more w : List ℕ) (e : RunFault) → HaltedBy p piece w e → HaltedBy p (piece ++ more) w e
halts_before p piece more w e halted s bytes text h =
    let a = halted s bytes text h in
    let here = halting_more s (bytes ++ piece) more (text ++ a.0) e a.1 in
    (a.0, subst (λ z. Halting s z (text ++ a.0) e) (append_assoc bytes piece more) here, a.2)

-- And where its last bytes do, once the others are fed.
pub halts_after : (p q : RunState) (piece more w : List ℕ) (e : RunFault) → FedPiece p piece q → HaltedBy q more w e
    → HaltedBy p (piece ++ more) w e
halts_after p q piece more w e fed halted s bytes text h =
    let a = fed s bytes text h in
    let b = halted s (bytes ++ piece) (text ++ a.0) a.1 in (
      a.0 ++ b.0,
      subst (λ z. Halting s (bytes ++ (piece ++ more)) z e) (append_assoc text a.0 b.0)
          (subst (λ z. Halting s z ((text ++ a.0) ++ b.0) e) (append_assoc bytes piece more) b.1),
      b.2 ∙ ap (λ o. o ++ b.0) a.2 ∙ append_assoc p.text.items a.0 b.0,
    )

-- The same of what is left of a piece.
pub halts_up_to : (p q : RunState) (piece rest w : List ℕ) (e : RunFault) → FedUpTo p piece q rest → HaltedBy q rest w e
    → HaltedBy p piece w e
halts_up_to p q piece rest w e h halted =
    subst (λ z. HaltedBy p z w e) (sym h.cut) (halts_after p q h.done rest w e h.fed halted)

-- ---- a piece that is cut in two

-- A list of length 0 is empty.
pub no_bytes : (xs : List ℕ) → length xs ≡ 0 → xs ≡ []
no_bytes [] none = refl
no_bytes (x ∷ xs) none = absurd (omega (arith, none))

-- A number that is not 0 is above it.
pub above_none : (n : ℕ) → (n == 0) ≡ false → 0 < n
above_none zero other = cc
above_none (suc n) other = omega arith

module _ (p : RunState) (piece front back : List ℕ) (n : ℕ) (is_front : front ≡ take n piece) (is_back : back ≡ drop n piece) where
  -- Both parts are the piece.
  both_parts : front ++ back ≡ piece
  both_parts = ap (λ z. z ++ back) is_front ∙ ap (λ z. take n piece ++ z) is_back ∙ take-append-drop n piece

  -- It halts a run where the front does.
  pub halts_in_front : (w : List ℕ) (e : RunFault) → HaltedBy p front w e → HaltedBy p piece w e
  halts_in_front w e halted = subst (λ z. HaltedBy p z w e) both_parts (halts_before p front back w e halted)

  -- It halts a run that comes to its limit before the back.
  pub halts_past : (q : RunState) → FedPiece p front q → q.taken ≡ q.runner.settings.limit → 0 < length back
      → HaltedBy p piece q.text.items run.Limit
  halts_past q fed is some =
      subst (λ z. HaltedBy p z q.text.items run.Limit) both_parts
      (halts_after p q front back q.text.items run.Limit fed (halts_at_limit q back is some))

  -- It is fed where the front is all.
  pub fed_whole : (q : RunState) → FedPiece p front q → length back ≡ 0 → FedPiece p piece q
  fed_whole q fed none =
      let whole : front ≡ piece = sym (append-nil front) ∙ ap (λ z. front ++ z) (sym (no_bytes back none)) ∙ both_parts in
      subst (λ z. FedPiece p z q) whole fed
