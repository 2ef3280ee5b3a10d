-- The request of a resync: its message, and why it isn't taken.
use Rattle.std.proofs.Common.{◌≡◌, ◌+◌, ◌<◌, ◌≤◌, ◌^◌, ℕ, zero, suc, true, false, nat_lt, List, [], ◌∷◌, ◌++◌, length, get_or, Some, None, Result, refl, sym, ◌∙◌, ap, subst, arith}
use Rattle.std.proofs.lemmas.Bool.Decides.{nat_tests}
use Rattle.nl_core.specs.Frames.{message_fits}
use Rattle.nl_core.specs.declared.error.DecodeError.{DecodeError}
use Rattle.nl_core.specs.declared.message.NetlinkMessage.{NetlinkMessage}
use Rattle.session_model.specs.declared.settings.Settings.{Settings}
use Rattle.session_model.specs.declared.transcript.Record.{Record}
use Rattle.session_model.specs.declared.transcript.Record.TheVariants.{Resync}
use Rattle.session_model.specs.declared.transcript.Mark.TheVariants.{ByFlags}
use Rattle.session_model.specs.Awaited.{last_number}
use Rattle.session_model.specs.Causes.{OutOfNumbers, refusal}
use Rattle.session_model.specs.Events.{OfRoutes, asked_for, asked_message, resync_frames}
use Rattle.session_model.specs.Streams.{is_shut}
use Rattle.proto_core.specs.Session.{Session}
use Rattle.session_laws.specs.Requests.{mark_in, marks_in, message_in, messages_in}
use Rattle.mirror_model.specs.RouteChanges.{route_reader}
use Rattle.mirror_model.specs.Sessions.{requests_dump}
use Rattle.route_mirror.specs.Requests.{dump_message}
use Rattle.route_mirror.proofs.Resyncs.{dump_fits, resync_reads}
use Rattle.mirror.specs.declared.step_fault.StepFault.{StepFault}
use Rattle.mirror.specs.declared.step_fault.StepFault.TheVariants as step
use Rattle.mirror.specs.Format.{Message, format}
use Rattle.mirror.specs.Polled.{RouteConn}
use Rattle.mirror.specs.Refusals.{RefusesBatch}
use Rattle.mirror.specs.Runner.{Stands, WhyNot, events}
use Rattle.mirror.proofs.RecordLaws.{refused_by}

-- The message of a resync's frame.
pub resync_messages : messages_in format resync_frames ≡ dump_message ∷ []
resync_messages = ap (λ (r : Result (NetlinkMessage Message) DecodeError). message_in format r ++ []) resync_reads

-- It awaits a reply.
pub resync_marks : marks_in format resync_frames ≡ true ∷ []
resync_marks = ap (λ (r : Result (NetlinkMessage Message) DecodeError). mark_in format ByFlags r ++ []) resync_reads

-- It asks for a dump that a mirror of routes follows.
pub resync_asks : (peer table : ℕ) → requests_dump (route_reader peer table) (asked_for format (Some OfRoutes) resync_frames) ≡ true
resync_asks peer table =
    ap (λ (r : Result (NetlinkMessage Message) DecodeError). requests_dump (route_reader peer table) (asked_message format (Some OfRoutes) ByFlags r ++ [])) resync_reads

module _ (s : Settings) (rs : List Record) (c : RouteConn) (stands : Stands s (events s rs) c) (open_still : c.closed ≡ false) where
  unshut : is_shut (events s rs) ≡ false
  unshut = sym stands.closed ∙ open_still

  last : last_number s.start (events s rs) ≡ c.session.last
  last = sym (ap (λ (q : Session Message ℕ). q.last) stands.session)

  count : length (messages_in format resync_frames) ≡ 1
  count = ap length resync_messages

  -- A resync whose number is there is taken.
  pub resync_free : c.session.last + length (messages_in format resync_frames) < 2 ^ 32 → refusal format s (events s rs) Resync ≡ None
  resync_free low =
      let n = count in
      let l = last in
      let sum : last_number s.start (events s rs) + 1 < 2 ^ 32 = omega (arith, l, n, low) in
      let under : nat_lt 4294967295 (last_number s.start (events s rs) + 1) ≡ false = grind (arith, nat_tests, sum) in
      refused_by s rs Resync false false true unshut under refl

  resync_exhausted : 2 ^ 32 ≤ c.session.last + length (messages_in format resync_frames)
      → refusal format s (events s rs) Resync ≡ Some OutOfNumbers
  resync_exhausted high =
      let n = count in
      let l = last in
      let sum : 2 ^ 32 ≤ last_number s.start (events s rs) + 1 = omega (arith, l, n, high) in
      let over : nat_lt 4294967295 (last_number s.start (events s rs) + 1) ≡ true = grind (arith, nat_tests, sum) in
      refused_by s rs Resync false true true unshut over refl

  -- Why a resync that is refused isn't taken: its message always fits.
  pub resync_cause : (why : StepFault) → RefusesBatch c resync_frames why → WhyNot s rs Resync why
  resync_cause step.Closed h = absurd h
  resync_cause step.SequenceExhausted h = resync_exhausted h
  resync_cause step.Unfit h = absurd (fits h.0 (subst (λ n. h.0 < n) count h.2) (h.3 dump_message))
    where
      fits : (index : ℕ) → index < 1
          → message_fits format.text format.fits (get_or (messages_in format resync_frames) index dump_message) ≡ false → ⊥
      fits zero low unfit =
          let one : message_fits format.text format.fits dump_message ≡ false
          = sym (ap (λ ms. message_fits format.text format.fits (get_or ms 0 dump_message)) resync_messages) ∙ unfit in
          let both : true ≡ false = sym dump_fits ∙ one in
          cc
      fits (suc index) low unfit = absurd (omega (arith, low))
  resync_cause step.NoMemory h = tt
