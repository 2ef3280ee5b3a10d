use Rattle.std.proofs.Common.{Err, take, ap, ◌∙◌}
use Rattle.transcript_io.proofs.Gains.{no_rise}
use Rattle.mirror.proofs.Halts.{input_from, refuses_line, same_some}
use Rattle.mirror.proofs.run_state.RunState.take_line.Goals as goal

pub returns-in-Err-clause-fault : goal.returns-in-Err-clause-fault
returns-in-Err-clause-fault c =
    let e = c.in-Err.ensures in
    let refused = refuses_line c.args.self.now c.in-Record.entry c.step.new.out.items c.truncate.new.self.items c.in-Err.fault e.fails
    (λ is. no_rise (e.write_cause (ap Err is)))
    (c.truncate.ensures.items ∙ ap (λ n. take n c.step.new.out.items) (c.len-waiting.ensures ∙ c.args.self.now.text.ok.0)) in
    rw c.in-Record.is refused

pub returns-in-Err-clause-only : goal.returns-in-Err-clause-only
returns-in-Err-clause-only c = input_from c.in-Err.fault c.in-Err.ensures.only (λ is. no_rise (c.in-Err.ensures.write_cause (ap Err is)))

pub returns-clause-step : goal.returns-clause-step
returns-clause-step c = rw c.in-Record.is (λ s rs tracks.
    let t = c.in_default-step.ensures.ok s rs tracks in (t.0, same_some t.1))
