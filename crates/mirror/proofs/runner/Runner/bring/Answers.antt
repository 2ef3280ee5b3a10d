use Rattle.std.proofs.Common.{sym, ◌∙◌, ap}
use Rattle.session_model.specs.declared.transcript.Record.TheVariants.{Batch, Recv, Overrun}
use Rattle.mirror.proofs.Errors.{err_map}
use Rattle.mirror.proofs.Bringing.{brings_as, open_of, refused_batch, refused_resync, shows_as}
use Rattle.mirror.proofs.Readings.{brought_by, events_in_is}
use Rattle.mirror.proofs.runner.Runner.bring.Goals as goal
use Rattle.mirror.proofs.runner.Runner.bring.Goals.{in-Recv, in-Overrun}

pub returns-in-Batch-clause-cause : goal.returns-in-Batch-clause-cause
returns-in-Batch-clause-cause c =
    err_map c.send_batch.result _ _ c.send_batch.ensures.cause (refused_batch c.args.self.now c.args.entry c.in-Batch.to c.as_slice.result.now
    (c.in-Batch.is ∙ ap (Batch c.in-Batch.to) (sym c.as_slice.ensures)) c.requires.entry
    (open_of _ _ (sym c.should_shut_down.ensures ∙ c.if-should_shut_down.false)))

pub returns-in-Resync-clause-cause : goal.returns-in-Resync-clause-cause
returns-in-Resync-clause-cause c =
    err_map c.send_resync.result _ _ c.send_resync.ensures.cause (refused_resync c.args.self.now c.args.entry c.in-Resync.is
    (open_of _ _ (sym c.should_shut_down.ensures ∙ c.if-should_shut_down.false)))

pub returns-clause-step : goal.returns-clause-step
returns-clause-step c =
    let reads = c.in_ok-arrive.ensures.reads in
    let old = c.args.self.now in
    let new = c.arrive-2.new in
    elim c.match-entry-2.branch [
      | in-Recv w ↦ brings_as old.settings c.args.entry (Recv w.in-Recv.source w.in-Recv.bytes) c.match-entry-2.arrival _ old.connection
          old.observers.ledger new.connection new.observers.ledger
          w.in-Recv.is (ap brought_by w.arrival-is ∙ events_in_is w.in-Recv.source w.in-Recv.bytes) (λ h. h) reads
      | in-Overrun w ↦ brings_as old.settings c.args.entry Overrun c.match-entry-2.arrival _ old.connection
          old.observers.ledger new.connection new.observers.ledger
          w.in-Overrun.is (ap brought_by w.arrival-is) (λ h. h) reads
    ]

pub returns-clause-shown : goal.returns-clause-shown
returns-clause-shown c =
    let shown = c.in_ok-arrive.ensures.shown in
    let old = c.args.self.now in
    let new = c.arrive-2.new in
    elim c.match-entry-2.branch [
      | in-Recv w ↦ shows_as c.args.entry (Recv w.in-Recv.source w.in-Recv.bytes) c.match-entry-2.arrival _ old.connection
          old.observers.mirror new.observers.mirror
          w.in-Recv.is (ap brought_by w.arrival-is ∙ events_in_is w.in-Recv.source w.in-Recv.bytes) (λ h. h) shown
      | in-Overrun w ↦ shows_as c.args.entry Overrun c.match-entry-2.arrival _ old.connection
          old.observers.mirror new.observers.mirror
          w.in-Overrun.is (ap brought_by w.arrival-is) (λ h. h) shown
    ]
