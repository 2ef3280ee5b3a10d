-- One line, one piece more.
use Rattle.std.proofs.Common.{◌≡◌, ◌+◌, ◌<◌, ◌≤◌, ◌==◌, ◌||◌, ℕ, false, Option, Some, None, List, [], ◌∷◌, ◌++◌, length, take, refl, sym, ◌∙◌, ap, append_assoc, subst, arith}
use Rattle.std.specs.Prelude.{IfNone, IfSome}
use Rattle.std.proofs.lemmas.List.{append-nil, length-append, take_all}
use Rattle.std.proofs.Math.Seq.{take-append_seam}
use Rattle.std.proofs.lemmas.List.Folds.{list_any-append}
use Rattle.std.proofs.lemmas.Grind.{flat_map-append}
use Rattle.session_model.specs.declared.settings.Settings.{Settings}
use Rattle.session_model.specs.declared.transcript.Record.{Record}
use Rattle.session_model.specs.Lines.{newline}
use Rattle.session_model.specs.Transcript.{record_line, lines_of, has_newline}
use Rattle.mirror_model.specs.Lookups.{lookup_at}
use Rattle.mirror_model.proofs.OutputGrowth.{text_from-more}
use Rattle.transcript_lines.specs.LineDecoder.{EndsLine, Stands, TakesAll}
use Rattle.transcript_lines.specs.declared.decoder.Line.{Line}
use Rattle.transcript_lines.specs.declared.decoder.Line.TheVariants as told
use Rattle.transcript_lines.specs.declared.decoder.LineDecoder.{LineDecoder}
use Rattle.mirror.specs.declared.run_state.RunState.{RunState}
use Rattle.mirror.specs.Feeding.{FedPiece, HasRead, KeepsPlace, TakesLine}
use Rattle.mirror.specs.Format.{Message, format}
use Rattle.mirror.specs.Runner.{Tracks, added_text, readers, text_of}

-- ---- the lines and the text of one record more

lines_more : (rs : List Record) (r : Record) → lines_of (rs ++ r ∷ []) ≡ lines_of rs ++ record_line r
lines_more rs r = flat_map-append record_line rs (r ∷ []) ∙ ap (λ t. lines_of rs ++ t) (append-nil (record_line r))

text_more : (s : Settings) (rs : List Record) (r : Record) → text_of s (rs ++ r ∷ []) ≡ text_of s rs ++ added_text s rs r
text_more s rs r = text_from-more format s (lookup_at (readers s) s.start) [] rs r

-- ---- a piece that ends no line

-- Two parts of a line without a newline are a line without one.
pub joined_part : (a b : List ℕ) → has_newline a ≡ false → has_newline b ≡ false → has_newline (a ++ b) ≡ false
joined_part a b first second = list_any-append (λ c. c == newline) a b ∙ ap (λ c. c || has_newline b) first ∙ second

-- It stands in the unfinished line.
part_read : (s : Settings) (bytes text : List ℕ) (p q : RunState) (piece : List ℕ) (h : HasRead s bytes p text)
    → has_newline piece ≡ false → Stands (h.line ++ piece) q.decoder → q.runner ≡ p.runner → q.line_start ≡ p.line_start
    → q.taken ≡ p.taken + length piece → HasRead s (bytes ++ piece) q text
part_read s bytes text p q piece h none decoded runner start taken = record {
  records = h.records;
  line = h.line ++ piece;
  spelled = ap (λ t. t ++ piece) h.spelled ∙ append_assoc (lines_of h.records) h.line piece;
  part = joined_part h.line piece h.part none;
  decoded = decoded;
  start = start ∙ h.start;
  count = taken ∙ ap (λ n. n + length piece) h.count ∙ sym (length-append bytes piece);
  tracks = subst (Tracks s h.records) (sym runner) h.tracks;
  told = h.told;
}

-- A piece that the decoder takes without an end of a line.
pub fed_part : (p q : RunState) (piece : List ℕ) (took : ℕ) → TakesAll p.decoder piece took q.decoder
    → q.runner ≡ p.runner → q.line_start ≡ p.line_start → q.taken ≡ p.taken + took → q.text.items ≡ p.text.items
    → FedPiece p (take took piece) q
fed_part p q piece took all runner start taken same s bytes text h =
    let whole : take took piece ≡ piece = ap (λ n. take n piece) all.all ∙ take_all (length piece) piece (omega arith) in
    let up = taken ∙ ap (λ n. p.taken + n) all.all in
    let read = part_read s bytes text p q piece h all.part (all.goes_on h.line h.decoded) runner start up in
    let more = subst (λ t. HasRead s (bytes ++ piece) q t) (sym (append-nil text)) read in
    ([], subst (λ z. HasRead s (bytes ++ z) q (text ++ [])) (sym whole) more, same ∙ sym (append-nil p.text.items))

-- ---- a piece that ends a line

module _ (d : LineDecoder Message) (piece : List ℕ) (took : ℕ) (e : LineDecoder Message) (line : Line)
    (ends : EndsLine format.reads d piece took e line) where
  -- How long it is.
  piece_long : length piece ≡ length ends.front + length (newline ∷ ends.rest)
  piece_long = ap length ends.cut ∙ length-append ends.front (newline ∷ ends.rest)

  -- At least the newline is taken.
  line_some : 0 < took
  line_some = omega (arith, ends.count)

  -- No more is taken than there is.
  line_low : took ≤ length piece
  line_low = omega (arith, ends.count, piece_long)

  -- What is taken.
  took_line : take took piece ≡ ends.front ++ newline ∷ []
  took_line =
      let long : length (ends.front ++ newline ∷ []) ≡ length ends.front + 1 = length-append ends.front (newline ∷ []) in
      let cut : piece ≡ (ends.front ++ newline ∷ []) ++ ends.rest = ends.cut ∙ sym (append_assoc ends.front (newline ∷ []) ends.rest) in
      ap (λ n. take n piece) (ends.count ∙ sym long) ∙ ap (take (length (ends.front ++ newline ∷ []))) cut
      ∙ take-append_seam (ends.front ++ newline ∷ []) ends.rest

-- Some of a piece is taken, whether a line ends in it or not.
pub took_some : (d : LineDecoder Message) (piece : List ℕ) (took : ℕ) (e : LineDecoder Message) (line : Option Line)
    → IfNone line (TakesAll d piece took e) → IfSome line (EndsLine format.reads d piece took e) → 0 < length piece → 0 < took
took_some d piece took e None part ends some = omega (arith, part.all, some)
took_some d piece took e (Some line) part ends some = line_some d piece took e line ends

-- And no more than there is.
pub took_low : (d : LineDecoder Message) (piece : List ℕ) (took : ℕ) (e : LineDecoder Message) (line : Option Line)
    → IfNone line (TakesAll d piece took e) → IfSome line (EndsLine format.reads d piece took e) → took ≤ length piece
took_low d piece took e None part ends = omega (arith, part.all)
took_low d piece took e (Some line) part ends = line_low d piece took e line ends

-- A newline ends the line of one record more.
line_read : (s : Settings) (bytes text : List ℕ) (p q : RunState) (front : List ℕ) (r : Record) (h : HasRead s bytes p text)
    → (h.line ++ front) ++ newline ∷ [] ≡ record_line r → Tracks s (h.records ++ r ∷ []) q.runner → Stands [] q.decoder
    → q.line_start ≡ q.taken → q.taken ≡ p.taken + (length front + 1)
    → HasRead s (bytes ++ (front ++ newline ∷ [])) q (text ++ added_text s h.records r)
line_read s bytes text p q front r h is tracks fresh start taken =
    let end = front ++ newline ∷ [] in
    let lines = lines_of h.records in
    let rs = h.records ++ r ∷ [] in
    let whole : bytes ++ end ≡ lines_of rs =
    ap (λ t. t ++ end) h.spelled ∙ append_assoc lines h.line end
    ∙ ap (λ t. lines ++ t) (sym (append_assoc h.line front (newline ∷ [])) ∙ is) ∙ sym (lines_more h.records r) in
    let long : length end ≡ length front + 1 = length-append front (newline ∷ []) in
    let count : q.taken ≡ length (bytes ++ end) =
    taken ∙ ap (λ n. p.taken + n) (sym long) ∙ ap (λ n. n + length end) h.count ∙ sym (length-append bytes end) in
    record {
      records = rs;
      line = [];
      spelled = whole ∙ sym (append-nil (lines_of rs));
      part = refl;
      decoded = fresh;
      start = start ∙ count ∙ ap length whole;
      count = count;
      tracks = tracks;
      told = ap (λ t. t ++ added_text s h.records r) h.told ∙ sym (text_more s h.records r);
    }

-- A piece whose first line is taken; m is the state before the line is taken, and n after it.
pub fed_line : (p m n : RunState) (piece : List ℕ) (took : ℕ) (line : Line)
    → EndsLine format.reads p.decoder piece took m.decoder line → m.runner ≡ p.runner → m.text.items ≡ p.text.items
    → m.taken ≡ p.taken + took → KeepsPlace m n → TakesLine line m n
    → FedPiece p (take took piece) (record n { line_start = n.taken })
fed_line p m n piece took told.Bad ends runner same taken keeps takes s bytes text h = absurd takes
fed_line p m n piece took (told.Record r) ends runner same taken keeps takes s bytes text h =
    let q : RunState = record n { line_start = n.taken } in
    let is = ends.told h.line h.decoded in
    let t = takes s h.records (subst (Tracks s h.records) (sym runner) h.tracks) in
    let more = added_text s h.records r in
    let fresh = subst (Stands []) (sym keeps.decoder) ends.fresh in
    let up = keeps.taken ∙ taken ∙ ap (λ k. p.taken + k) ends.count in
    let read = line_read s bytes text p q ends.front r h is.0 t.0 fresh refl up in
    let cut = took_line p.decoder piece took m.decoder (told.Record r) ends in
    (more, subst (λ z. HasRead s (bytes ++ z) q (text ++ more)) (sym cut) read, t.1 ∙ ap (λ z. z ++ more) same)

-- ---- pieces one after another

-- Nothing is fed.
pub fed_none : (p : RunState) → FedPiece p [] p
fed_none p s bytes text h =
    let read = subst (λ z. HasRead s z p text) (sym (append-nil bytes)) h in
    ([], subst (λ t. HasRead s (bytes ++ []) p t) (sym (append-nil text)) read, sym (append-nil p.text.items))

-- Two pieces are fed as one.
pub fed_both : (p q r : RunState) (piece next : List ℕ) → FedPiece p piece q → FedPiece q next r → FedPiece p (piece ++ next) r
fed_both p q r piece next fed on s bytes text h =
    let a = fed s bytes text h in
    let b = on s (bytes ++ piece) (text ++ a.0) a.1 in (
      a.0 ++ b.0,
      subst (λ z. HasRead s (bytes ++ (piece ++ next)) r z) (append_assoc text a.0 b.0)
          (subst (λ z. HasRead s z r ((text ++ a.0) ++ b.0)) (append_assoc bytes piece next) b.1),
      b.2 ∙ ap (λ o. o ++ b.0) a.2 ∙ append_assoc p.text.items a.0 b.0,
    )

-- Some first bytes of a piece were fed, and these are left.
pub record FedUpTo (p : RunState) (piece : List ℕ) (q : RunState) (rest : List ℕ) : Type 0 where
  pub done : List ℕ
  pub cut : piece ≡ done ++ rest
  pub fed : FedPiece p done q

-- At first all is left.
pub up_to_none : (p : RunState) (piece : List ℕ) → FedUpTo p piece p piece
up_to_none p piece = record { done = []; cut = refl; fed = fed_none p }

-- More of it was fed.
pub up_to_more : (p q r : RunState) (piece rest later : List ℕ) (took : ℕ) → FedUpTo p piece q rest → FedPiece q (take took rest) r
    → rest ≡ take took rest ++ later → FedUpTo p piece r later
up_to_more p q r piece rest later took h on cut = record {
  done = h.done ++ take took rest;
  cut = h.cut ∙ ap (λ z. h.done ++ z) cut ∙ sym (append_assoc h.done (take took rest) later);
  fed = fed_both p q r h.done (take took rest) h.fed on;
}

-- At last nothing is left.
pub up_to_all : (p q : RunState) (piece rest : List ℕ) → FedUpTo p piece q rest → rest ≡ [] → FedPiece p piece q
up_to_all p q piece rest h none =
    let whole : h.done ≡ piece = sym (append-nil h.done) ∙ ap (λ z. h.done ++ z) (sym none) ∙ sym h.cut in
    subst (λ z. FedPiece p z q) whole h.fed
