-- How a run ends.
use Rattle.std.proofs.Common.{◌≡◌, ◌+◌, ◌<◌, ◌≤◌, ◌↔◌, IsTrue, Bool, true, false, inr, ℕ, List, [], ◌∷◌, ◌++◌, length, Option, Some, None, refl, sym, ◌∙◌, ap, subst, append_assoc, arith}
use Rattle.std.specs.Io.KnownBytes.{IsAtEnd}
use Rattle.std.proofs.lemmas.List.{append-nil, length-append}
use Rattle.session_model.specs.declared.settings.Settings.{Settings}
use Rattle.session_model.specs.declared.outcome.Report.{Report}
use Rattle.session_model.specs.declared.outcome.RunFault.{RunFault}
use Rattle.session_model.specs.declared.outcome.RunFault.TheVariants as run
use Rattle.session_model.specs.declared.transcript.Record.{Record}
use Rattle.session_model.specs.Causes.{Stops, HasCause, IsUnfinished}
use Rattle.session_model.specs.Reported.{report_of}
use Rattle.session_model.specs.Transcript.{lines_of}
use Rattle.transcript_io.specs.Io.{Gained, GainedSome, between, with_back, with_front}
use Rattle.transcript_io.proofs.Gains.{front_front, front_none, gained_all, gained_longer, gained_more, gained_none}
use Rattle.transcript_lines.specs.LineDecoder.{Stands}
use Rattle.transcript_lines.specs.declared.decoder.LineDecoder.{LineDecoder}
use Rattle.mirror.specs.declared.run_state.RunState.{RunState}
use Rattle.mirror.specs.declared.runner.Runner.{Runner}
use Rattle.mirror.specs.Format.{IsEntry, Message, format}
use Rattle.mirror.specs.Faults.{IsInputFault, IsOutputFault}
use Rattle.mirror.specs.Feeding.{HaltedBy, HaltsBy}
use Rattle.mirror.specs.Outcome.{Running, HasWritten, EndsBy, Ended, WasRun}
use Rattle.mirror.specs.Runner.{Tracks, AreAllTaken, is_in_step_after, text_of}

-- ---- standing still

-- Memory ran out before anything was read.
pub ended_before : (s : Settings) (l w : Option (List ℕ)) → Ended s (between l l w w) [] run.NoMemory
ended_before s l w = record {
  stands = record { records = []; part = []; lost = []; taken = tt; read = front_none l; gained = gained_none w [] };
  ends = tt;
}

-- Where a run that goes on stands.
pub stands : (s : Settings) (l0 l1 w0 w1 : Option (List ℕ)) (p : RunState) → Running s (between l0 l1 w0 w1) p
    → HasWritten s (between l0 l1 w0 w1) p.text.items
stands s l0 l1 w0 w1 p h = record {
  records = h.reached.records;
  part = h.reached.line;
  lost = [];
  taken = h.reached.tracks.taken;
  read = h.read ∙ ap (λ b. with_front b l1) h.reached.spelled;
  gained =
      let rest = subst (λ t. Gained w0 w1 h.text t) (sym (append-nil p.text.items)) h.gained in
      subst (λ t. Gained w0 w1 t (p.text.items ++ [])) h.reached.told rest;
}

-- The source gave nothing more.
pub stands_at : (s : Settings) (l0 l1 l2 w0 w1 : Option (List ℕ)) (p : RunState) → Running s (between l0 l1 w0 w1) p
    → l2 ≡ l1 → HasWritten s (between l0 l2 w0 w1) p.text.items
stands_at s l0 l1 l2 w0 w1 p h e =
    subst (λ l. HasWritten s (between l0 l w0 w1) p.text.items) (sym e) (stands s l0 l1 w0 w1 p h)

-- Some first bytes of the text that waits are written, and the rest is lost.
pub stands_some : (s : Settings) (l0 l1 w0 w1 w2 : Option (List ℕ)) (x : List ℕ)
    → HasWritten s (between l0 l1 w0 w1) x → GainedSome w1 w2 x → HasWritten s (between l0 l1 w0 w2) []
stands_some s l0 l1 w0 w1 w2 x h g = record {
  records = h.records;
  part = h.part;
  lost = g.rest ++ h.lost;
  taken = h.taken;
  read = h.read;
  gained =
      let more = gained_longer w1 w2 x g.rest h.lost g.gained in
      gained_more w0 w1 w2 (text_of s h.records) (x ++ h.lost) (g.rest ++ h.lost) h.gained more;
}

-- ---- a fault of writing

output_ends : (s : Settings) (l1 : Option (List ℕ)) (rs : List Record) (part lost : List ℕ) (e : RunFault)
    → IsOutputFault e → EndsBy s l1 rs part lost e
output_ends s l1 rs part lost (run.BadRecord at) h = absurd h
output_ends s l1 rs part lost (run.Closed at) h = absurd h
output_ends s l1 rs part lost (run.SequenceExhausted at) h = absurd h
output_ends s l1 rs part lost (run.Unfit at) h = absurd h
output_ends s l1 rs part lost run.Limit h = absurd h
output_ends s l1 rs part lost run.ReadFault h = absurd h
output_ends s l1 rs part lost run.WriteFault h = tt
output_ends s l1 rs part lost run.NoMemory h = tt

-- A run ends where the text that waits isn't written whole.
pub ended_writing : (s : Settings) (l0 l1 w0 w1 w2 : Option (List ℕ)) (x y : List ℕ) (e : RunFault)
    → HasWritten s (between l0 l1 w0 w1) x → GainedSome w1 w2 x → y ≡ [] → IsOutputFault e
    → Ended s (between l0 l1 w0 w2) y e
ended_writing s l0 l1 w0 w1 w2 x y e h g none writing =
    let k = stands_some s l0 l1 w0 w1 w2 x h g in
    subst (λ z. Ended s (between l0 l1 w0 w2) z e) (sym none)
    (record { stands = k; ends = output_ends s l1 k.records k.part k.lost e writing })

-- All text that waits is written after a fault.
pub ended_flushed : (s : Settings) (l0 l1 w0 w1 w2 : Option (List ℕ)) (x : List ℕ) (e : RunFault)
    → Ended s (between l0 l1 w0 w1) x e → w2 ≡ with_back w1 x → Ended s (between l0 l1 w0 w2) [] e
ended_flushed s l0 l1 w0 w1 w2 x e h all =
    let k = h.stands in record {
      stands = record {
        records = k.records;
        part = k.part;
        lost = k.lost;
        taken = k.taken;
        read = k.read;
        gained =
            let more = gained_longer w1 w2 x [] k.lost (gained_all w1 w2 x [] all refl) in
            gained_more w0 w1 w2 (text_of s k.records) (x ++ k.lost) k.lost k.gained more;
      };
      ends = h.ends;
    }

-- ---- a fault of the input

caused : (s : Settings) (rs : List Record) (part after : List ℕ) (e : RunFault) → AreAllTaken s rs
    → Stops format s IsEntry rs (part ++ after) e → HasCause format s IsEntry ((lines_of rs ++ part) ++ after) rs e
caused s rs part after e taken stops = record {
  left = part ++ after;
  spelled = append_assoc (lines_of rs) part after;
  taken = taken;
  stops = stops;
}

module _ (s : Settings) (l1 : Option (List ℕ)) (rs : List Record) (part : List ℕ) (taken : AreAllTaken s rs) where
  input_ends : (e : RunFault) → IsInputFault e → ((after : List ℕ) → HaltsBy s rs (part ++ after) e)
      → EndsBy s l1 rs part [] e
  input_ends (run.BadRecord at) h stops = (refl, λ after is. caused s rs part after (run.BadRecord at) taken (stops after))
  input_ends (run.Closed at) h stops = (refl, λ after is. caused s rs part after (run.Closed at) taken (stops after))
  input_ends (run.SequenceExhausted at) h stops =
      (refl, λ after is. caused s rs part after (run.SequenceExhausted at) taken (stops after))
  input_ends (run.Unfit at) h stops = (refl, λ after is. caused s rs part after (run.Unfit at) taken (stops after))
  input_ends run.Limit h stops = (refl, λ after is. caused s rs part after run.Limit taken (stops after))
  input_ends run.ReadFault h stops = absurd h
  input_ends run.WriteFault h stops = absurd h
  input_ends run.NoMemory h stops = tt

-- A run ends at a piece that halts it.
pub ended_input : (s : Settings) (l0 l1 l2 w0 w1 : Option (List ℕ)) (p : RunState) (piece x : List ℕ) (e : RunFault)
    → Running s (between l0 l1 w0 w1) p → l1 ≡ with_front piece l2 → HaltedBy p piece x e → IsInputFault e
    → Ended s (between l0 l2 w0 w1) x e
ended_input s l0 l1 l2 w0 w1 p piece x e h read halted input =
    let a = halted s h.bytes h.text h.reached in
    let read_all = h.read ∙ ap (with_front h.bytes) read ∙ front_front h.bytes piece l2 in
    let longer = gained_longer w0 w1 h.text p.text.items a.0 h.gained in
    let waits = subst (λ t. Gained w0 w1 (h.text ++ a.0) t) (sym a.2 ∙ sym (append-nil x)) longer in
    record {
      stands = record {
        records = a.1.records;
        part = a.1.part;
        lost = [];
        taken = a.1.taken;
        read = read_all ∙ ap (λ b. with_front b l2) a.1.spelled;
        gained = subst (λ t. Gained w0 w1 t (x ++ [])) a.1.told waits;
      };
      ends = input_ends s l2 a.1.records a.1.part a.1.taken e input a.1.stops;
    }

-- ---- a fault of reading

ended_reading : (s : Settings) (l0 l1 w0 w1 : Option (List ℕ)) (p : RunState) → Running s (between l0 l1 w0 w1) p
    → Ended s (between l0 l1 w0 w1) p.text.items run.ReadFault
unfolding stands
ended_reading s l0 l1 w0 w1 p h = record { stands = stands s l0 l1 w0 w1 p h; ends = (refl, h.reached.part) }

-- A run ends where its source fails.
pub ended_reading_at : (s : Settings) (l0 l1 l2 w0 w1 : Option (List ℕ)) (p : RunState)
    → Running s (between l0 l1 w0 w1) p → l2 ≡ l1 → Ended s (between l0 l2 w0 w1) p.text.items run.ReadFault
ended_reading_at s l0 l1 l2 w0 w1 p h e =
    let here = ended_reading s l0 l1 w0 w1 p h in
    subst (λ l. Ended s (between l0 l w0 w1) p.text.items run.ReadFault) (sym e) here

-- ---- the end of the input

nothing_left : (l1 : Option (List ℕ)) (after : List ℕ) → IsAtEnd l1 → l1 ≡ Some after → after ≡ []
nothing_left None after h e = cc
nothing_left (Some rest) after h e = let same : rest ≡ after = cc in sym same ∙ h

-- A line that was begun isn't empty; e is the decoder that was asked.
pub some_begun : (d e : LineDecoder Message) (b : Bool) → e ≡ d → ((taken : List ℕ) → Stands taken e → IsTrue b ↔ (0 < length taken))
    → b ≡ true → (line : List ℕ) → Stands line d → 0 < length line
some_begun d e b same told is line h = (told line (subst (Stands line) (sym same) h)).0 is

-- One that wasn't begun is.
pub none_begun : (d e : LineDecoder Message) (b : Bool) → e ≡ d → ((taken : List ℕ) → Stands taken e → IsTrue b ↔ (0 < length taken))
    → b ≡ false → (line : List ℕ) → Stands line d → line ≡ []
none_begun d e b same told is [] h = refl
none_begun d e b same told is (x ∷ line) h =
    let never : b ≡ true = (told (x ∷ line) (subst (Stands (x ∷ line)) (sym same) h)).1 (omega arith) in cc

-- A run ends inside a line, at the end of its input.
pub ended_unfinished : (s : Settings) (l0 l1 w0 w1 w2 : Option (List ℕ)) (p : RunState) (at : ℕ)
    → Running s (between l0 l1 w0 w1) p → IsAtEnd l1 → w2 ≡ with_back w1 p.text.items
    → ((line : List ℕ) → Stands line p.decoder → 0 < length line) → at ≡ p.line_start
    → Ended s (between l0 l1 w0 w2) [] (run.BadRecord at)
unfolding stands
ended_unfinished s l0 l1 w0 w1 w2 p at h none all some a =
    let k = h.reached in
    let lines = lines_of k.records in
    let long : length h.bytes ≡ length lines + length k.line = ap length k.spelled ∙ length-append lines k.line in
    let unfinished : IsUnfinished format s IsEntry k.records k.line = record {
      some = some k.line k.decoded;
      part = k.part;
      within = omega (arith, long, k.count, h.limit);
    } in
    ended_flushed s l0 l1 w0 w1 w2 p.text.items (run.BadRecord at) (record {
      stands = stands s l0 l1 w0 w1 p h;
      ends = (
        refl,
        λ after is.
            let whole : k.line ++ after ≡ k.line = ap (λ z. k.line ++ z) (nothing_left l1 after none is) ∙ append-nil k.line in
            caused s k.records k.line after (run.BadRecord at) k.tracks.taken (
              a ∙ k.start,
              inr (subst (λ left. IsUnfinished format s IsEntry k.records left) (sym whole) unfinished),
            ),
      );
    }) all

-- A run is done at the end of its input.
pub was_run : (s : Settings) (l0 l1 w0 w1 w2 : Option (List ℕ)) (p : RunState) (report : Report)
    → Running s (between l0 l1 w0 w1) p → w2 ≡ with_back w1 p.text.items
    → ((line : List ℕ) → Stands line p.decoder → line ≡ [])
    → ((s : Settings) (rs : List Record) → Tracks s rs p.runner → report ≡ report_of format s (is_in_step_after s rs) rs)
    → WasRun s (between l0 l1 w0 w2) report
was_run s l0 l1 w0 w1 w2 p report h all none told =
    let k = h.reached in
    let lines = lines_of k.records in
    let whole : h.bytes ≡ lines = k.spelled ∙ ap (λ z. lines ++ z) (none k.line k.decoded) ∙ append-nil lines in
    let gained = gained_all w1 w2 p.text.items [] all refl in
    let all_gained = gained_more w0 w1 w2 h.text p.text.items [] h.gained gained in
    record {
      input = h.bytes;
      records = k.records;
      read = h.read;
      valid = record { spelled = whole; taken = k.tracks.taken; within = subst (λ n. n ≤ s.limit) k.count h.limit };
      wrote = all_gained.wrote ∙ ap (with_back w0) (sym (append-nil all_gained.shown) ∙ sym all_gained.parts ∙ k.told);
      reported = told s k.records k.tracks;
    }

-- ---- under the settings that a run was given

-- A run ended under settings that are the same.
pub was_ended : (q s : Settings) (l0 l1 w0 w1 : Option (List ℕ)) (e : RunFault) → q ≡ s
    → Ended q (between l0 l1 w0 w1) [] e → Ended s (between l0 l1 w0 w1) [] e
was_ended q s l0 l1 w0 w1 e same h = subst (λ z. Ended z (between l0 l1 w0 w1) [] e) same h

-- A run was done under settings that are the same.
pub was_run_for : (q s : Settings) (l0 l1 w0 w1 : Option (List ℕ)) (report : Report) → q ≡ s
    → WasRun q (between l0 l1 w0 w1) report → WasRun s (between l0 l1 w0 w1) report
was_run_for q s l0 l1 w0 w1 report same h = subst (λ z. WasRun z (between l0 l1 w0 w1) report) same h

-- A report of a runner is that of one that is the same.
pub told_for : (p q : Runner) (report : Report) → q ≡ p
    → ((s : Settings) (rs : List Record) → Tracks s rs q → report ≡ report_of format s (is_in_step_after s rs) rs)
    → (s : Settings) (rs : List Record) → Tracks s rs p → report ≡ report_of format s (is_in_step_after s rs) rs
told_for p q report same told =
    subst (λ r. (s : Settings) (rs : List Record) → Tracks s rs r → report ≡ report_of format s (is_in_step_after s rs) rs) same told
