use Rattle.std.proofs.Common.{rules, ◌≡◌, ◌^◌, List, ℕ, [], ◌∷◌, Some, codes, map, string_bytes, sym, subst, ap, ◌∙◌, arith}
use Rattle.std.proofs.lemmas.List.{nil_from_length}
use Rattle.mirror.specs.Options.{AskForGenerated, AskForNone, IsNumberAfter}
use Rattle.mirror.proofs.Counts.{none_above, asked}
use Rattle.mirror.proofs.options.read_count.Goals as goal

pub returns-then-count-gt-MOST_ROUTES : goal.returns-then-count-gt-MOST_ROUTES
returns-then-count-gt-MOST_ROUTES c =
    let number = c.in_ok-number.number.now in
    let none : c.in_ok-number.more.now ≡ [] = nil_from_length c.in_ok-number.more.now (search rules) in
    let others = c.in_ok-number.ensures.cases.0 ∙ ap (λ ws. number ∷ ws) none in
    let words = ap (map string_bytes) (c.in_ok-first.ensures.cases.0 ∙ ap (λ ws. c.in_ok-first.first.now ∷ ws) others) in
    let read = subst (λ (w : List ℕ). IsNumberAfter (2 ^ 32) [] w (Some c.in_ok-count.count)) c.as_str-2.ensures.value c.in_ok-count.ensures in
    subst AskForNone (sym words) (none_above _ _ c.in_ok-count.count read (omega (arith, c.if-count-gt-MOST_ROUTES.true)))

pub returns : goal.returns
returns c =
    let number = c.in_ok-number.number.now in
    let none : c.in_ok-number.more.now ≡ [] = nil_from_length c.in_ok-number.more.now (search rules) in
    let gen : string_bytes c.in_ok-first.first.now ≡ codes "gen" = search rules in
    let others = c.in_ok-number.ensures.cases.0 ∙ ap (λ ws. number ∷ ws) none in
    let words = ap (map string_bytes) (c.in_ok-first.ensures.cases.0 ∙ ap (λ ws. c.in_ok-first.first.now ∷ ws) others) in
    let read = subst (λ (w : List ℕ). IsNumberAfter (2 ^ 32) [] w (Some c.in_ok-count.count)) c.as_str-2.ensures.value c.in_ok-count.ensures in
    subst (λ ws. AskForGenerated ws c.in_ok-count.count) (sym words)
    (asked _ _ c.in_ok-count.count gen read (omega (arith, c.if-count-gt-MOST_ROUTES.false)))
