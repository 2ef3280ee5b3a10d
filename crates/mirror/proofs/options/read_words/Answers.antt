use Rattle.std.proofs.Common.{rules, ◌≡◌, List, ℕ, ◌∷◌, None, codes, map, string_bytes, subst, sym, ap, ◌∙◌, arith}
use Rattle.mirror.specs.Options.{IsChoiceOf}
use Rattle.mirror.proofs.Choices.{one_more, all_spelled, no_option, repeated}
use Rattle.mirror.proofs.options.read_words.Goals as goal

pub returns-in_err-choice : goal.returns-in_err-choice
returns-in_err-choice c =
    let words = ap (map string_bytes) c.in_ok-first.ensures.cases.0 in
    let none = subst (λ (w : List ℕ). IsChoiceOf w None) c.as_str-in-loop-word.ensures.value c.in_err-choice.ensures in
    rw c.from_residual-in_err-choice.ensures
    (no_option string_bytes c.in_ok-first.choices.now _ _ c.loop-word.word-index c.word-item.result words
    c.loop-word-test.true c.word-item.is none)

pub returns-then-not-take : goal.returns-then-not-take
returns-then-not-take c =
    let words = ap (map string_bytes) c.in_ok-first.ensures.cases.0 in
    let choice = c.in_ok-choice in
    let word = sym c.as_str-in-loop-word.ensures.value ∙ choice.ensures.1 in
    repeated string_bytes c.in_ok-first.choices.now _ _ c.loop-word.word-index c.word-item.result choice.choice _ _ words
    c.loop-word-test.true c.word-item.is c.loop-word.invariant choice.ensures.0 word c.if-not-take.ensures

pub loop-word-preserved : goal.loop-word-preserved
loop-word-preserved c =
    let choice = c.in_ok-choice in
    let word = sym c.as_str-in-loop-word.ensures.value ∙ choice.ensures.1 in
    one_more string_bytes c.in_ok-first.choices.now c.loop-word.word-index c.word-item.result choice.choice _ _ _ _
    c.loop-word-test.true c.word-item.is c.loop-word.invariant choice.ensures.0 word c.if-not-take.ensures

pub returns : goal.returns
returns c =
    let run : string_bytes c.in_ok-first.first.now ≡ codes "run" = search rules in
    let choices = c.in_ok-first.choices.now in
    let words = ap (map string_bytes) c.in_ok-first.ensures.cases.0 ∙ ap (λ w. w ∷ map string_bytes choices) run in
    all_spelled string_bytes choices _ c.loop-word.word-index _ _ words (omega (arith, c.loop-word-test.false))
    c.loop-word.invariant
