use Rattle.std.proofs.Common.{◌≡◌, ◌≤◌, ◌++◌, length, nat_lt, sym, subst, ap, ◌∙◌, refl, arith}
use Rattle.std.specs.Bool.{then_some}
use Rattle.std.proofs.lemmas.List.{nil_from_length, length-append}
use Rattle.transcript_lines.specs.OpenLine.{HasFewWords, StandsAt}
use Rattle.transcript_lines.specs.declared.open_line.Tail.TheVariants.{Bad}
use Rattle.transcript_lines.proofs.OpenLines.{kept_or_bad, tail_begins}
use Rattle.transcript_lines.proofs.open_line.OpenLine.take_head.Goals as goal

pub returns-in_default : goal.returns-in_default
returns-in_default c taken h =
    let split = c.split_at.ensures in
    let head = c.args.self.now.head in
    let line = c.extend_from_slice.new.self in
    let front = c.split_at.result.0.now in
    let others = c.split_at.result.1.now in
    let items = c.in_ok-extend_from_slice.ensures.items in
    let long : length line.items ≡ length (head.items ++ front) = ap length items in
    let size : c.len-is_long.result ≡ length line.items = omega (arith, c.len-is_long.ensures, line.ok.0) in
    let few = subst HasFewWords c.as_slice.ensures.value c.in_default.ensures in
    let none = λ (low : length line.items ≤ 55). nil_from_length others (omega (
      arith,
      c.len.ensures,
      head.ok.0,
      c.saturating_sub-free.ensures,
      c.min.ensures,
      split.back_len,
      split.front_len,
      long,
      length-append head.items front,
      low,
    )) in
    subst (λ o. StandsAt (taken ++ c.args.piece.now) line.items o) (sym (c.then_some.ensures ∙ ap (λ n. then_some (nat_lt 55 n) Bad) size))
    (kept_or_bad taken head.items front others c.args.piece.now line.items (nat_lt 55 (length line.items)) refl h split.by_index.0 items few none)

pub returns : goal.returns
returns c taken h =
    let items = c.in_ok-extend_from_slice.ensures.items in
    let cut = sym items ∙ sym c.as_slice.ensures.value ∙ c.in-Some.ensures.1 in
    tail_begins taken c.args.self.now.head.items c.split_at.result.0.now c.split_at.result.1.now c.args.piece.now _ _ _ _ _ h
    c.split_at.ensures.by_index.0 cut c.in_ok-tail.ensures c.in_ok-tail-2.ensures c.in_ok-feed.ensures
