use Rattle.std.proofs.Common.{◌+◌, ◌∷◌, [], true, refl, sym, ◌∙◌, ap, arith, length}
use Rattle.session_laws.specs.Requests.{marked}
use Rattle.session_model.specs.Events.{resync_frames}
use Rattle.route_mirror.specs.Requests.{dump_message}
use Rattle.mirror.specs.declared.observers.Observers.{Observers}
use Rattle.mirror.specs.Polled.{RouteConn}
use Rattle.mirror.proofs.BatchLaws.{opens_batch, refuses_batch}
use Rattle.mirror.proofs.Polling.{sends_batch}
use Rattle.mirror.proofs.ResyncLaws.{resync_marks, resync_messages}
use Rattle.mirror.proofs.exchange.send_resync.Goals as goal

pub refused-requires : goal.refused-requires
refused-requires c =
    (refuses_batch c.args.connection.now resync_frames (dump_message ∷ []) c.in-Err.error
    c.requires.rest c.requires.unshut (sym resync_messages) c.in-Err.ensures.cause).0

pub returns-in-Err-clause-cause : goal.returns-in-Err-clause-cause
returns-in-Err-clause-cause c =
    rw c.refused.ensures (refuses_batch c.args.connection.now resync_frames (dump_message ∷ []) c.in-Err.error
    c.requires.rest c.requires.unshut (sym resync_messages) c.in-Err.ensures.cause).1

pub poll_with-requires : goal.poll_with-requires
poll_with-requires c =
    let queue = c.in-Ok.ensures.queued.queue in
    let arrived = ap (λ (q : RouteConn). q.session.arrived) queue in
    let waits = ap (λ (q : RouteConn). length q.link.waits) queue ∙ ap length c.requires.rest.link.waits in
    omega (arith, arrived, waits, c.requires.space)

pub returns : goal.returns
returns c =
    let old = c.args.observers.now in
    let asked = c.in-Ok.ensures in
    let opened = c.in_ok-open-in-Ok.ensures in
    let s = sends_batch c.args.connection.now c.resync.new.connection (record { ledger = c.open.new.self; mirror = c.resync.new.self }) c.poll_with.new.watch
    c.in_ok-poll_with.field-0 c.poll_with.new.self (record { port = old.mirror.peer; groups = 0 }) resync_frames (dump_message ∷ []) (true ∷ [])
    c.requires.rest c.requires.unshut (sym resync_messages) (sym resync_marks) asked.queued c.in_ok-poll_with.ensures.ok in
    record {
      sends = s.1;
      opens = opens_batch resync_frames (length c.args.connection.now.given_up + 1) 1 c.id.result 1 old.ledger c.open.new.self
          c.poll_with.new.watch.ledger (c.id.ensures ∙ asked.stream) refl (ap marked (sym resync_marks))
          opened.opens opened.closing opened.dropped (ap (λ (o : Observers). o.ledger) s.0);
      asked = ap (λ (o : Observers). o.mirror) s.0 ∙ asked.asked;
      cause = tt;
    }
