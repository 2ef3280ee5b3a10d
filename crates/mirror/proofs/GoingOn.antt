-- How a run goes on.
use Rattle.std.proofs.Common.{◌≡◌, ◌+◌, ◌*◌, ◌≤◌, ℕ, List, [], ◌∷◌, ◌++◌, length, Option, refl, sym, ◌∙◌, ap, subst, arith}
use Rattle.std.proofs.lemmas.List.{length-append}
use Rattle.session_model.specs.declared.settings.Settings.{Settings}
use Rattle.session_model.specs.declared.transcript.Record.{Record}
use Rattle.session_model.specs.Lines.{newline}
use Rattle.session_model.specs.Transcript.{record_line}
use Rattle.transcript_io.specs.Io.{Gained, between, with_back, with_front}
use Rattle.transcript_io.proofs.Gains.{front_front, gained_all, gained_longer, gained_more}
use Rattle.transcript_lines.specs.LineDecoder.{EndsLine, IsLineOf, Stands, TakesAll}
use Rattle.transcript_lines.specs.declared.decoder.Line.{Line}
use Rattle.transcript_lines.specs.declared.decoder.Line.TheVariants as told
use Rattle.mirror.specs.declared.run_state.RunState.{RunState}
use Rattle.mirror.specs.declared.runner.Runner.{Runner}
use Rattle.mirror.specs.Feeding.{CountsFitInput, FedPiece, GrowsBy, HasRead, IsAllowed, KeepsInput, KeepsPlace}
use Rattle.mirror.specs.Format.{IsEntry, format}
use Rattle.mirror.specs.Outcome.{Running}
use Rattle.mirror.specs.Runner.{CountsInRange, Grows, Tracks, drop_count, line_count, message_count, weight}
use Rattle.mirror.proofs.LineLaws.{line_long}

-- ---- the counts

-- A part of a line leaves them as they were.
pub counts_part : (p q : RunState) (piece : List ℕ) (took : ℕ) → CountsFitInput p → TakesAll p.decoder piece took q.decoder
    → q.runner ≡ p.runner → q.line_start ≡ p.line_start → q.taken ≡ p.taken + took → CountsFitInput q
counts_part p q piece took h all runner start taken = record {
  line = h.line ++ piece;
  decoded = all.goes_on h.line h.decoded;
  place =
      let long : length (h.line ++ piece) ≡ length h.line + length piece = length-append h.line piece in
      omega (arith, long, start, taken, all.all, h.place);
  counted = subst CountsInRange (sym runner) h.counted;
  lines = within line_count h.lines;
  messages = within message_count h.messages;
  dropped = within drop_count h.dropped;
}
  where
    within : (count : Runner → ℕ) → 2 * count p.runner ≤ p.line_start → 2 * count q.runner ≤ q.line_start
    within count low = let n : count q.runner ≡ count p.runner = ap count runner in omega (arith, n, low, start)

-- What a line that ended is can be spelled.
pub allowed : (line : Line) (bytes : List ℕ) → IsLineOf IsEntry bytes line → IsAllowed line
allowed (told.Record r) bytes h = h.1
allowed told.Bad bytes h = tt

-- A line that ends leaves space for what its record counts; m is the state before it is taken, and n after it.
pub counts_line : (p m n : RunState) (piece : List ℕ) (took : ℕ) (line : Line) → CountsFitInput p
    → EndsLine format.reads p.decoder piece took m.decoder line → m.runner ≡ p.runner → m.taken ≡ p.taken + took
    → KeepsPlace m n → GrowsBy line m.runner n.runner → CountsInRange n.runner
    → CountsFitInput (record n { line_start = n.taken })
counts_line p m n piece took told.Bad h ends runner taken keeps grows counted = absurd grows
counts_line p m n piece took (told.Record r) h ends runner taken keeps grows counted = record {
  line = [];
  decoded = subst (Stands []) (sym keeps.decoder) ends.fresh;
  place = omega arith;
  counted = counted;
  lines = omega (arith, count, long.0, more.lines, h.lines, h.place, taken, keeps.taken, ends.count);
  messages = omega (arith, count, long.1, more.messages, h.messages, h.place, taken, keeps.taken, ends.count);
  dropped = omega (arith, count, long.1, more.dropped, h.dropped, h.place, taken, keeps.taken, ends.count);
}
  where
    long : (2 ≤ length (record_line r)) × (2 * weight r ≤ length (record_line r))
    long = line_long r

    more : Grows r p.runner n.runner
    more = subst (λ k. Grows r k n.runner) runner grows

    count : length h.line + length ends.front + 1 ≡ length (record_line r)
    count =
        let is = ends.told h.line h.decoded in
        let a : length ((h.line ++ ends.front) ++ newline ∷ []) ≡ length (h.line ++ ends.front) + 1 = length-append (h.line ++ ends.front) (newline ∷ []) in
        let b : length (h.line ++ ends.front) ≡ length h.line + length ends.front = length-append h.line ends.front in
        let c : length ((h.line ++ ends.front) ++ newline ∷ []) ≡ length (record_line r) = ap length is.0 in
        omega (arith, a, b, c)

-- Text that is written leaves them as they were.
pub counts_same : (p q : RunState) → CountsFitInput p → KeepsInput p q → CountsFitInput q
counts_same p q h same = record {
  line = h.line;
  decoded = subst (Stands h.line) (sym same.decoder) h.decoded;
  place = omega (arith, same.start, same.taken, h.place);
  counted = subst CountsInRange (sym same.runner) h.counted;
  lines = within line_count h.lines;
  messages = within message_count h.messages;
  dropped = within drop_count h.dropped;
}
  where
    within : (count : Runner → ℕ) → 2 * count p.runner ≤ p.line_start → 2 * count q.runner ≤ q.line_start
    within count low = let n : count q.runner ≡ count p.runner = ap count same.runner in omega (arith, n, low, same.start)

-- ---- the whole run

-- A piece that is fed takes a run on.
pub running_more : (s : Settings) (l0 l1 l2 w0 w1 : Option (List ℕ)) (p q : RunState) (piece : List ℕ)
    → Running s (between l0 l1 w0 w1) p → l1 ≡ with_front piece l2 → FedPiece p piece q → q.taken ≤ s.limit
    → Running s (between l0 l2 w0 w1) q
running_more s l0 l1 l2 w0 w1 p q piece h e fed low =
    let a = fed s h.bytes h.text h.reached in record {
      bytes = h.bytes ++ piece;
      text = h.text ++ a.0;
      read = h.read ∙ ap (with_front h.bytes) e ∙ front_front h.bytes piece l2;
      limit = low;
      reached = a.1;
      gained =
          let longer = gained_longer w0 w1 h.text p.text.items a.0 h.gained in
          subst (λ t. Gained w0 w1 (h.text ++ a.0) t) (sym a.2) longer;
    }

-- Text that is written changes nothing of what was read.
read_same : (s : Settings) (bytes text : List ℕ) (p q : RunState) → HasRead s bytes p text → KeepsInput p q → HasRead s bytes q text
read_same s bytes text p q h same = record {
  records = h.records;
  line = h.line;
  spelled = h.spelled;
  part = h.part;
  decoded = subst (Stands h.line) (sym same.decoder) h.decoded;
  start = same.start ∙ h.start;
  count = same.taken ∙ h.count;
  tracks = subst (Tracks s h.records) (sym same.runner) h.tracks;
  told = h.told;
}

-- A run whose text is written whole goes on.
pub running_flushed : (s : Settings) (l0 l1 w0 w1 w2 : Option (List ℕ)) (p q : RunState)
    → Running s (between l0 l1 w0 w1) p → w2 ≡ with_back w1 p.text.items → q.text.items ≡ [] → KeepsInput p q
    → Running s (between l0 l1 w0 w2) q
running_flushed s l0 l1 w0 w1 w2 p q h all none same = record {
  bytes = h.bytes;
  text = h.text;
  read = h.read;
  limit = subst (λ n. n ≤ s.limit) (sym same.taken) h.limit;
  reached = read_same s h.bytes h.text p q h.reached same;
  gained = gained_more w0 w1 w2 h.text p.text.items q.text.items h.gained (gained_all w1 w2 p.text.items q.text.items all none);
}

-- A run whose source gave nothing goes on.
pub running_at : (s : Settings) (l0 l1 l2 w0 w1 : Option (List ℕ)) (p : RunState) → Running s (between l0 l1 w0 w1) p
    → l2 ≡ l1 → Running s (between l0 l2 w0 w1) p
running_at s l0 l1 l2 w0 w1 p h e = subst (λ l. Running s (between l0 l w0 w1) p) (sym e) h
