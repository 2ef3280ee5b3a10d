-- What a record brings, by its arrival, and why a batch isn't taken.
use Rattle.std.proofs.Common.{◌≡◌, ◌&&◌, ◌||◌, Bool, true, false, List, refl, sym, ◌∙◌, subst}
use Rattle.session_model.specs.declared.address.SocketAddr.{SocketAddr}
use Rattle.session_model.specs.declared.settings.Settings.{Settings}
use Rattle.session_model.specs.declared.transcript.BatchFrame.{BatchFrame}
use Rattle.session_model.specs.declared.transcript.Record.{Record}
use Rattle.session_model.specs.declared.transcript.Record.TheVariants.{Batch, Resync}
use Rattle.session_model.specs.Causes.{is_of_link}
use Rattle.session_model.specs.Events.{Event, resync_frames}
use Rattle.proto_conn.specs.declared.link.Arrival.{Arrival}
use Rattle.mirror.specs.declared.ledger.Ledger.{Ledger}
use Rattle.mirror.specs.declared.runner.Runner.{Runner}
use Rattle.route_mirror.specs.Values.{MirrorValue}
use Rattle.mirror.specs.declared.step_fault.StepFault.{StepFault}
use Rattle.mirror.specs.declared.step_fault.StepFault.TheVariants as step
use Rattle.mirror.specs.Format.{IsEntry, Message}
use Rattle.mirror.specs.Polled.{MirrorFollows, Receives, RouteConn}
use Rattle.mirror.specs.Refusals.{RefusesBatch}
use Rattle.mirror.specs.Runner.{Brings, RefusedBy, Shows, WhyNot}
use Rattle.mirror.proofs.Readings.{brought_by}
use Rattle.mirror.proofs.RecordLaws.{batch_cause, shut_refuses}
use Rattle.mirror.proofs.ResyncLaws.{resync_cause}

-- The first of two that don't hold doesn't.
pub open_of : (a b : Bool) → (a || b) ≡ false → a ≡ false
open_of true b e = e
open_of false b e = refl

-- A connection whose requests' side isn't gone shuts down only where it has closed.
pub shut_of : (a b c : Bool) → b ≡ false → (a || (b && c)) ≡ true → a ≡ true
shut_of true b c e h = refl
shut_of false true c e h = sym e
shut_of false false c e h = h

-- A batch that the connection of a runner refuses isn't taken.
pub refused_batch : (old : Runner) (entry : Record) (to : SocketAddr) (frames : List BatchFrame) → entry ≡ Batch to frames → IsEntry entry
    → old.connection.closed ≡ false → (why : StepFault) → RefusesBatch old.connection frames why → RefusedBy old entry why
refused_batch old entry to frames is allowed open_still why h s rs tracks =
    subst (λ r. WhyNot s rs r why) (sym is) (batch_cause s rs to frames old.connection tracks.stands open_still (subst IsEntry is allowed) why h)

-- An arrival that was received is what its record brings.
pub brings_as : (s : Settings) (entry r : Record) (a : Arrival) (es : List (Event Message)) (old : RouteConn) (before : Ledger) (new : RouteConn)
    (now : Ledger) → entry ≡ r → brought_by a ≡ es → (Receives es old before new now → Brings s r old before new now)
    → Receives (brought_by a) old before new now → Brings s entry old before new now
brings_as s entry r a es old before new now is same f h =
    subst (λ k. Brings s k old before new now) (sym is) (f (subst (λ fs. Receives fs old before new now) same h))

-- And what it shows to a mirror.
pub shows_as : (entry r : Record) (a : Arrival) (es : List (Event Message)) (old : RouteConn) (before now : MirrorValue)
    → entry ≡ r → brought_by a ≡ es → (MirrorFollows es old.session before now → Shows r old before now)
    → MirrorFollows (brought_by a) old.session before now → Shows entry old before now
shows_as entry r a es old before now is same f h =
    subst (λ k. Shows k old before now) (sym is) (f (subst (λ fs. MirrorFollows fs old.session before now) same h))

-- After a close no record of the link is taken.
pub refused_shut : (old : Runner) (entry : Record) → is_of_link entry ≡ true → old.connection.closed ≡ true → RefusedBy old entry step.Closed
refused_shut old entry of_link shut s rs tracks = shut_refuses s rs entry of_link (sym tracks.stands.closed ∙ shut)

-- A resync that the connection of a runner refuses isn't taken.
pub refused_resync : (old : Runner) (entry : Record) → entry ≡ Resync → old.connection.closed ≡ false → (why : StepFault)
    → RefusesBatch old.connection resync_frames why → RefusedBy old entry why
refused_resync old entry is open_still why h s rs tracks =
    subst (λ r. WhyNot s rs r why) (sym is) (resync_cause s rs old.connection tracks.stands open_still why h)
