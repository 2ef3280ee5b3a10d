use Rattle.std.proofs.Common.{◌≤◌, take, ap, subst, ◌∙◌, arith}
use Rattle.mirror.proofs.Errors.{err_from}
use Rattle.mirror.proofs.Ends.{stands, stands_at, ended_input, ended_writing, ended_reading_at}
use Rattle.mirror.proofs.GoingOn.{counts_same, running_at, running_flushed, running_more}
use Rattle.mirror.proofs.run_state.RunState.read_all.Goals as goal

pub returns-in_err-flush-clause-stands : goal.returns-in_err-flush-clause-stands
returns-in_err-flush-clause-stands g c =
    let e = c.in_err-flush in
    let p = c.loop-input.self in
    let ended = ended_writing c.args.self.now.runner.settings _ _ _ _ _ p.text.items c.flush.new.self.text.items e.field-0.0
    (stands _ _ _ _ _ p c.loop-input.invariant.running) e.ensures.part c.flush.ensures.emptied e.ensures.only in
    ended.stands

pub returns-in_err-flush-clause-ended : goal.returns-in_err-flush-clause-ended
returns-in_err-flush-clause-ended g c =
    let e = c.in_err-flush in
    let p = c.loop-input.self in
    err_from c.from_residual.result e.field-0.0 _ c.from_residual.ensures.1
    (ended_writing c.args.self.now.runner.settings _ _ _ _ _ p.text.items c.flush.new.self.text.items e.field-0.0
    (stands _ _ _ _ _ p c.loop-input.invariant.running) e.ensures.part c.flush.ensures.emptied e.ensures.only)

pub returns-in-Failed-clause-stands : goal.returns-in-Failed-clause-stands
returns-in-Failed-clause-stands g c =
    let same = c.flush.ensures.same in
    let flushed = running_flushed _ _ _ _ _ _ c.loop-input.self c.flush.new.self c.loop-input.invariant.running c.in_ok-flush.ensures.ok
    c.flush.ensures.emptied same in
    stands_at _ _ _ _ _ _ c.flush.new.self flushed c.in-Failed.ensures.read

pub returns-in-Failed-clause-ended : goal.returns-in-Failed-clause-ended
returns-in-Failed-clause-ended g c =
    let same = c.flush.ensures.same in
    let flushed = running_flushed _ _ _ _ _ _ c.loop-input.self c.flush.new.self c.loop-input.invariant.running c.in_ok-flush.ensures.ok
    c.flush.ensures.emptied same in
    ended_reading_at _ _ _ _ _ _ c.flush.new.self flushed c.in-Failed.ensures.read

pub returns-in-End-clause-stands : goal.returns-in-End-clause-stands
returns-in-End-clause-stands g c =
    let same = c.flush.ensures.same in
    let flushed = running_flushed _ _ _ _ _ _ c.loop-input.self c.flush.new.self c.loop-input.invariant.running c.in_ok-flush.ensures.ok
    c.flush.ensures.emptied same in
    stands_at _ _ _ _ _ _ c.flush.new.self flushed c.in-End.ensures.read.0

pub returns-in-End-clause-steady : goal.returns-in-End-clause-steady
returns-in-End-clause-steady g c =
    counts_same c.loop-input.self c.flush.new.self c.loop-input.invariant.steady c.flush.ensures.same

pub returns-in-End-clause-ok : goal.returns-in-End-clause-ok
returns-in-End-clause-ok g c =
    let same = c.flush.ensures.same in
    let flushed = running_flushed _ _ _ _ _ _ c.loop-input.self c.flush.new.self c.loop-input.invariant.running c.in_ok-flush.ensures.ok
    c.flush.ensures.emptied same in
    running_at _ _ _ _ _ _ c.flush.new.self flushed c.in-End.ensures.read.0

pub feed-requires-clause-steady : goal.feed-requires-clause-steady
feed-requires-clause-steady g c =
    counts_same c.loop-input.self c.flush.new.self c.loop-input.invariant.steady c.flush.ensures.same

pub feed-requires-clause-limit : goal.feed-requires-clause-limit
feed-requires-clause-limit g c =
    let i = c.loop-input.invariant in
    let same = c.flush.ensures.same in
    let settings = ap (λ r. r.settings) same.runner ∙ i.settings in
    let limit = ap (λ q. q.limit) settings in
    omega (arith, limit, same.taken, i.running.limit)

pub returns-in_err-feed-in-Got-clause-stands : goal.returns-in_err-feed-in-Got-clause-stands
returns-in_err-feed-in-Got-clause-stands g c =
    let e = c.in_err-feed-in-Got in
    let piece = take c.in-Got.count c.read.new.into in
    let flushed = running_flushed _ _ _ _ _ _ c.loop-input.self c.flush.new.self c.loop-input.invariant.running c.in_ok-flush.ensures.ok
    c.flush.ensures.emptied c.flush.ensures.same in
    let ended = ended_input c.args.self.now.runner.settings _ _ _ _ _ c.flush.new.self piece c.feed.new.self.text.items e.field-0.0
    flushed c.in-Got.ensures.read.2 e.ensures.fault e.ensures.only in
    ended.stands

pub returns-in_err-feed-in-Got-clause-ended : goal.returns-in_err-feed-in-Got-clause-ended
returns-in_err-feed-in-Got-clause-ended g c =
    let e = c.in_err-feed-in-Got in
    let piece = take c.in-Got.count c.read.new.into in
    let flushed = running_flushed _ _ _ _ _ _ c.loop-input.self c.flush.new.self c.loop-input.invariant.running c.in_ok-flush.ensures.ok
    c.flush.ensures.emptied c.flush.ensures.same in
    err_from c.from_residual-in_err-feed-in-Got.result e.field-0.0 _ c.from_residual-in_err-feed-in-Got.ensures.1
    (ended_input c.args.self.now.runner.settings _ _ _ _ _ c.flush.new.self piece c.feed.new.self.text.items e.field-0.0
    flushed c.in-Got.ensures.read.2 e.ensures.fault e.ensures.only)

pub loop-input-preserved : goal.loop-input-preserved
loop-input-preserved g c =
    let i = c.loop-input.invariant in
    let fed = c.in_ok-feed-in-Got.ensures in
    let same = c.flush.ensures.same in
    let settings = c.feed.ensures.settings ∙ ap (λ r. r.settings) same.runner ∙ i.settings in
    let piece = take c.in-Got.count c.read.new.into in
    let limit = subst (λ q. c.feed.new.self.taken ≤ q.limit) settings fed.limit in
    let flushed = running_flushed _ _ _ _ _ _ c.loop-input.self c.flush.new.self i.running c.in_ok-flush.ensures.ok
    c.flush.ensures.emptied same in
    record {
      steady = fed.steady;
      settings = settings;
      running = running_more _ _ _ _ _ _ c.flush.new.self c.feed.new.self piece flushed c.in-Got.ensures.read.2 fed.step limit;
      faults_in = omega (arith, i.faults_in, c.read.ensures.later);
      faults_out = omega (arith, i.faults_out, c.flush.ensures.later);
    }
