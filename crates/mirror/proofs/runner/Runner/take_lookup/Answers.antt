use Rattle.std.proofs.Common.{◌+◌, ◌++◌, List, ℕ, refl, ◌∙◌, ap}
use Rattle.session_model.specs.declared.transcript.Record.TheVariants.{Lookup}
use Rattle.session_model.specs.Events.{LookedUp}
use Rattle.mirror_model.specs.OutputText.{answer_line}
use Rattle.mirror.specs.declared.runner.Runner.{Runner}
use Rattle.mirror.proofs.AsideLaws.{TookAside, aside_taken, answered, looks_up_one}
use Rattle.mirror.proofs.runner.Runner.take_lookup.Goals as goal

pub returns-clause-step : goal.returns-clause-step
returns-clause-step c =
    let old = c.args.self.now in
    let a = c.args.address in
    let answer = c.lookup-answer.result in
    let new : Runner = record old { lines = old.lines + 1 } in
    let took : TookAside (Lookup a) (LookedUp a) old new c.put_answer.new.text.items = record {
      allowed = (c.requires.address, tt);
      aside = refl;
      event = λ s. refl;
      none = refl;
      fits = refl;
      counted = c.requires.counted;
      settings = refl;
      connection = refl;
      ledger = refl;
      lines = refl;
      peer = refl;
      mirror = λ s es h. looks_up_one s es old.observers.mirror a h;
      told = λ s rs h. c.in_ok-put_answer.ensures ∙ ap (λ (items : List ℕ). items ++ answer_line a answer) c.new-text.ensures.items
          ∙ ap (answer_line a) (answered s rs old.observers.mirror a answer c.lookup-answer.ensures.answer h.mirror);
    } in
    aside_taken (Lookup a) (LookedUp a) old new c.put_answer.new.text.items took
