use Rattle.std.proofs.Common.{rules, List, ℕ, ◌++◌, take, refl, sym, ap, ◌∙◌, arith}
use Rattle.std.proofs.lemmas.List.{take-append-drop}
use Rattle.mirror.proofs.Errors.{err_from}
use Rattle.mirror.proofs.Feeds.{up_to_all, up_to_more, up_to_none}
use Rattle.mirror.proofs.Halts.{halts_up_to, no_bytes}
use Rattle.mirror.proofs.run_state.RunState.feed_lines.Goals as goal

pub loop-rest-init : goal.loop-rest-init
loop-rest-init c = record { steady = c.requires.steady; settings = refl; taken = refl; fed = up_to_none _ _ }

pub returns-in_err-took-clause-fault : goal.returns-in_err-took-clause-fault
returns-in_err-took-clause-fault c =
    let e = c.in_err-took in
    err_from c.from_residual.result e.field-0.0 _ c.from_residual.ensures.1
    (halts_up_to c.args.self.now c.loop-rest.self c.args.piece.now c.loop-rest.rest.now _ e.field-0.0 c.loop-rest.invariant.fed e.ensures.fault)

pub loop-rest-preserved : goal.loop-rest-preserved
loop-rest-preserved c =
    let i = c.loop-rest.invariant in
    let e = c.in_ok-took.ensures in
    let took = c.in_ok-took.took in
    let rest : List ℕ = c.loop-rest.rest.now in
    let cut = sym (take-append-drop took rest) ∙ ap (λ z. take took rest ++ z) (sym c.split_at.ensures.back) in
    record {
      steady = e.steady;
      settings = c.feed_line.ensures.settings ∙ i.settings;
      taken = omega (arith, i.taken, e.taken, c.split_at.ensures.back_len);
      fed = up_to_more c.args.self.now c.loop-rest.self c.feed_line.new.self c.args.piece.now rest _ took i.fed e.step cut;
    }

pub returns-clause-step : goal.returns-clause-step
returns-clause-step c =
    up_to_all c.args.self.now c.loop-rest.self c.args.piece.now c.loop-rest.rest.now c.loop-rest.invariant.fed
    (no_bytes c.loop-rest.rest.now (search rules))
