use Rattle.std.proofs.Common.{◌∙◌, ap, arith, length}
use Rattle.session_laws.specs.Requests.{marked}
use Rattle.proto_conn.specs.Handles.{marks_of, messages_of}
use Rattle.mirror.specs.declared.observers.Observers.{Observers}
use Rattle.mirror.specs.Polled.{RouteConn}
use Rattle.mirror.proofs.BatchLaws.{opens_batch, refuses_batch}
use Rattle.mirror.proofs.Polling.{sends_batch}
use Rattle.mirror.proofs.exchange.send_batch.Goals as goal

pub refused-requires : goal.refused-requires
refused-requires c =
    (refuses_batch c.args.connection.now c.args.frames.now (messages_of c.in_ok-messages.messages.items) c.in-Err.error
    c.requires.rest c.requires.unshut c.in_ok-messages.ensures.messages c.in-Err.ensures.cause).0

pub returns-in-Err-clause-cause : goal.returns-in-Err-clause-cause
returns-in-Err-clause-cause c =
    rw c.refused.ensures (refuses_batch c.args.connection.now c.args.frames.now (messages_of c.in_ok-messages.messages.items)
    c.in-Err.error c.requires.rest c.requires.unshut c.in_ok-messages.ensures.messages c.in-Err.ensures.cause).1

pub poll_with-requires : goal.poll_with-requires
poll_with-requires c =
    let queue = c.in-Ok.ensures.ok.queue in
    let arrived = ap (λ (q : RouteConn). q.session.arrived) queue in
    let waits = ap (λ (q : RouteConn). length q.link.waits) queue ∙ ap length c.requires.rest.link.waits in
    omega (arith, arrived, waits, c.requires.space)

pub returns : goal.returns
returns c =
    let read = c.in_ok-messages.ensures in
    let opened = c.in_ok-open-in-Ok.ensures in
    let s = sends_batch c.args.connection.now c.request_batch_with_expectation.new.connection (record c.args.observers.now { ledger = c.open.new.self }) c.poll_with.new.watch
    c.in_ok-poll_with.field-0 c.poll_with.new.self c.args.to c.args.frames.now (messages_of c.in_ok-messages.messages.items)
    (marks_of c.in_ok-messages.messages.items) c.requires.rest c.requires.unshut read.messages read.marks c.in-Ok.ensures.ok
    c.in_ok-poll_with.ensures.ok in
    record {
      sends = s.1;
      opens = opens_batch c.args.frames.now _ _ c.id.result c.count_awaited-awaited.result c.args.observers.now.ledger c.open.new.self
          c.poll_with.new.watch.ledger (c.id.ensures ∙ c.in-Ok.ensures.stream)
          (c.count_awaited-awaited.ensures ∙ ap (λ v. marked (marks_of v)) c.as_slice.ensures.value) (ap marked read.marks)
          opened.opens opened.closing opened.dropped (ap (λ (o : Observers). o.ledger) s.0);
      same = ap (λ (o : Observers). o.mirror) s.0;
      cause = tt;
    }
