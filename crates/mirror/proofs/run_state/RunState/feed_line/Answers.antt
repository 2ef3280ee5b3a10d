use Rattle.std.proofs.Common.{rules, ◌+◌, refl}
use Rattle.session_model.specs.declared.outcome.RunFault.TheVariants as run
use Rattle.mirror.proofs.Errors.{err_from}
use Rattle.mirror.proofs.Feeds.{fed_line, fed_part, took_low, took_some}
use Rattle.mirror.proofs.GoingOn.{allowed, counts_line, counts_part}
use Rattle.mirror.proofs.Halts.{halts_at_line, halts_for_memory}
use Rattle.mirror.proofs.run_state.RunState.feed_line.Goals as goal

pub returns-in_err-took-clause-fault : goal.returns-in_err-took-clause-fault
returns-in_err-took-clause-fault c =
    err_from c.from_residual.result run.NoMemory _ c.from_residual.ensures.1 (halts_for_memory c.args.self.now c.args.piece.now)

pub returns-in_default-clause-steady : goal.returns-in_default-clause-steady
returns-in_default-clause-steady c =
    let all = rw c.in_default.is at c.in_ok-took.ensures.part in
    counts_part c.args.self.now _ c.args.piece.now c.in_ok-took.field-0.took c.requires.steady all refl refl refl

pub returns-in_default-clause-step : goal.returns-in_default-clause-step
returns-in_default-clause-step c =
    let all = rw c.in_default.is at c.in_ok-took.ensures.part in
    fed_part c.args.self.now _ c.args.piece.now c.in_ok-took.field-0.took all refl refl refl refl

pub take_line-requires-clause-allowed : goal.take_line-requires-clause-allowed
take_line-requires-clause-allowed c =
    let ends = rw c.in-Some.is at c.in_ok-took.ensures.line in
    allowed c.in-Some.line _ (ends.told c.requires.steady.line c.requires.steady.decoded)

pub returns-in_err-take_line-clause-fault : goal.returns-in_err-take_line-clause-fault
returns-in_err-take_line-clause-fault c =
    let p = c.args.self.now in
    let took = c.in_ok-took.field-0.took in
    let e = c.in_err-take_line in
    let ends = rw c.in-Some.is at c.in_ok-took.ensures.line in
    let m = record p { decoder = c.feed.new.self; taken = p.taken + took } in
    err_from c.from_residual-in_err-take_line.result e.field-0.0 _ c.from_residual-in_err-take_line.ensures.1
    (halts_at_line p m c.args.piece.now c.take_line.new.self.text.items took c.in-Some.line e.field-0.0 ends c.requires.within
    refl refl refl e.ensures.fault)

pub returns-clause-steady : goal.returns-clause-steady
returns-clause-steady c =
    let p = c.args.self.now in
    let took = c.in_ok-took.field-0.took in
    let ends = rw c.in-Some.is at c.in_ok-took.ensures.line in
    let m = record p { decoder = c.feed.new.self; taken = p.taken + took } in
    let n = c.in_ok-take_line.ensures in
    counts_line p m c.take_line.new.self c.args.piece.now took c.in-Some.line c.requires.steady ends refl refl
    c.take_line.ensures.same n.grows n.counted

pub returns-clause-step : goal.returns-clause-step
returns-clause-step c =
    let p = c.args.self.now in
    let took = c.in_ok-took.field-0.took in
    let ends = rw c.in-Some.is at c.in_ok-took.ensures.line in
    let m = record p { decoder = c.feed.new.self; taken = p.taken + took } in
    let n = c.in_ok-take_line.ensures in
    fed_line p m c.take_line.new.self c.args.piece.now took c.in-Some.line ends refl refl refl c.take_line.ensures.same n.step

pub overflow_add-self : goal.overflow_add-self
overflow_add-self c =
    let fed = c.in_ok-took.field-0 in
    let told = c.in_ok-took.ensures in
    let low = took_low c.args.self.now.decoder c.args.piece.now fed.took c.feed.new.self fed.line told.part told.line in
    search (rules, low, c.requires.fits)
