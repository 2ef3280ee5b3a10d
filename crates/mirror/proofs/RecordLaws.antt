-- Why a record is taken, and why it isn't; and which keys a table and a set have.
use Rattle.std.proofs.Common.{◌≡◌, ◌+◌, ◌<◌, ◌≤◌, ◌&&◌, ◌||◌, ◌^◌, ℕ, zero, suc, Bool, true, false, not, cond, nat_lt, List, [], ◌∷◌, ◌++◌, length, get_or, Some, None, is_some, Result, Ok, Err, refl, sym, ◌∙◌, ap, arith}
use Rattle.std.proofs.Math.Bool.{and-false}
use Rattle.std.specs.Prelude.{IsOk}
use Rattle.std.specs.List.{AllByRecursion, list_all, list_any}
use Rattle.std.specs.Map.{lookup, keys_of}
use Rattle.std.specs.BTreeMap.{is_at}
use Rattle.std.specs.Ordering.{is_eq, nat_cmp}
use Rattle.std.proofs.lemmas.List.{append-nil}
use Rattle.std.proofs.lemmas.Grind.{flat_map-append}
use Rattle.std.proofs.lemmas.Bool.Decides.{nat_tests}
use Rattle.nl_core.specs.Frames.{frame_at, message_fits}
use Rattle.nl_core.specs.declared.error.DecodeError.{DecodeError}
use Rattle.nl_core.specs.declared.message.NetlinkMessage.{NetlinkMessage}
use Rattle.session_model.specs.declared.address.SocketAddr.{SocketAddr}
use Rattle.session_model.specs.declared.settings.Settings.{Settings}
use Rattle.session_model.specs.declared.transcript.BatchFrame.{BatchFrame}
use Rattle.session_model.specs.declared.transcript.Record.{Record}
use Rattle.session_model.specs.declared.transcript.Record.TheVariants.{Batch}
use Rattle.session_model.specs.Awaited.{last_number}
use Rattle.session_model.specs.Causes.{all_fit, is_of_link, numbers_of, refusal, read_fits, AfterClose, OutOfNumbers, TooLong}
use Rattle.session_model.specs.Events.{record_events}
use Rattle.session_model.specs.Streams.{is_shut}
use Rattle.session_model.specs.Transcript.{IsWholeFrame}
use Rattle.proto_core.specs.Session.{Session}
use Rattle.session_laws.specs.Requests.{message_in, messages_in}
use Rattle.session_laws.proofs.Rising.{has, is_eq-nat_cmp}
use Rattle.session_laws.proofs.Batches.{fits_same}
use Rattle.mirror.specs.declared.step_fault.StepFault.{StepFault}
use Rattle.mirror.specs.declared.step_fault.StepFault.TheVariants as step
use Rattle.mirror.specs.Format.{IsEntry, Message, format}
use Rattle.mirror.specs.Polled.{RouteConn}
use Rattle.mirror.specs.Refusals.{RefusesBatch}
use Rattle.mirror.specs.Runner.{Stands, WhyNot, events}

-- The events of one record more come after those before.
pub events_more : (s : Settings) (rs : List Record) (r : Record) → events s (rs ++ r ∷ []) ≡ events s rs ++ record_events format s r
events_more s rs r =
    flat_map-append (record_events format s) rs (r ∷ []) ∙ ap (λ es. events s rs ++ es) (append-nil (record_events format s r))

-- ---- keys

-- A key stands in a list where a search for it finds one.
pub has_keys : (ks : List ℕ) (k : ℕ) → has k ks ≡ list_any (is_at (nat_cmp k)) ks
has_keys [] k = refl
has_keys (x ∷ xs) k = ap (λ b. b || has k xs) (sym (is_eq-nat_cmp k x)) ∙ ap (λ b. is_eq (nat_cmp k x) || b) (has_keys xs k)

-- A key is one of the entries' where a search for it finds an entry.
pub has_entry : (es : List (ℕ × ℕ)) (k : ℕ) → has k (keys_of es) ≡ is_some (lookup (is_at (nat_cmp k)) es)
has_entry [] k = refl
has_entry (e ∷ es) k = ap (λ b. b || has k (keys_of es)) (sym (is_eq-nat_cmp k e.0)) ∙ by (is_eq (nat_cmp k e.0)) (has_entry es k)
  where
    by : (b : Bool) → has k (keys_of es) ≡ is_some (lookup (is_at (nat_cmp k)) es)
        → (b || has k (keys_of es)) ≡ is_some (cond b (Some e.1) (lookup (is_at (nat_cmp k)) es))
    by true h = refl
    by false h = h

-- ---- why a record isn't taken

and_false : (a b : Bool) → b ≡ false → (a && b) ≡ false
and_false true b h = h
and_false false b h = refl

-- Why a record isn't taken, by the three tests.
pub refused_by : (s : Settings) (rs : List Record) (r : Record) (shut over fits : Bool) → (is_of_link r && is_shut (events s rs)) ≡ shut
    → nat_lt 4294967295 (last_number s.start (events s rs) + numbers_of r) ≡ over → all_fit format r ≡ fits
    → refusal format s (events s rs) r ≡ cond shut (Some AfterClose) (cond over (Some OutOfNumbers) (cond (not fits) (Some TooLong) None))
refused_by s rs r shut over fits a b c =
    ap (λ t. cond t (Some AfterClose) (cond (nat_lt 4294967295 (last_number s.start (events s rs) + numbers_of r)) (Some OutOfNumbers) (cond (not (all_fit format r)) (Some TooLong) None))) a
    ∙ ap (λ t. cond shut (Some AfterClose) (cond t (Some OutOfNumbers) (cond (not (all_fit format r)) (Some TooLong) None))) b
    ∙ ap (λ t. cond shut (Some AfterClose) (cond over (Some OutOfNumbers) (cond (not t) (Some TooLong) None))) c

-- After a close no record is taken.
pub shut_refuses : (s : Settings) (rs : List Record) (r : Record) → is_of_link r ≡ true → is_shut (events s rs) ≡ true
    → refusal format s (events s rs) r ≡ Some AfterClose
shut_refuses s rs r of_link shut =
    refused_by s rs r true (nat_lt 4294967295 (last_number s.start (events s rs) + numbers_of r)) (all_fit format r)
    (ap (λ b. b && is_shut (events s rs)) of_link ∙ shut) refl refl

-- A record of the link that sends nothing is taken.
pub taken_free : (s : Settings) (rs : List Record) (r : Record) (c : RouteConn) → Stands s (events s rs) c → c.closed ≡ false
    → c.session.last < 2 ^ 32 → numbers_of r ≡ 0 → all_fit format r ≡ true
    → refusal format s (events s rs) r ≡ None
taken_free s rs r c h open_still low none fits =
    let last : last_number s.start (events s rs) ≡ c.session.last = sym (ap (λ (q : Session Message ℕ). q.last) h.session) in
    let sum : last_number s.start (events s rs) + numbers_of r < 2 ^ 32 = omega (arith, last, none, low) in
    let under : nat_lt 4294967295 (last_number s.start (events s rs) + numbers_of r) ≡ false = grind (arith, nat_tests, sum) in
    refused_by s rs r false false true (and_false (is_of_link r) (is_shut (events s rs)) (sym h.closed ∙ open_still)) under fits

-- Each frame of a batch has its message.
messages_count : (frames : List BatchFrame) → AllByRecursion (λ (frame : BatchFrame). IsWholeFrame format.reads frame.bytes) frames
    → length (messages_in format frames) ≡ length frames
messages_count [] h = refl
messages_count (x ∷ xs) h = by (frame_at format.reads x.bytes) h.0.readable (messages_count xs h.1)
  where
    by : (r : Result (NetlinkMessage Message) DecodeError) → IsOk r → length (messages_in format xs) ≡ length xs
        → length (message_in format r ++ messages_in format xs) ≡ suc (length xs)
    by (Ok m) ok ih = ap suc ih
    by (Err e) ok ih = cc

module _ (s : Settings) (rs : List Record) (to : SocketAddr) (frames : List BatchFrame) (c : RouteConn) (stands : Stands s (events s rs) c)
    (open_still : c.closed ≡ false) (entry : IsEntry (Batch to frames)) where
  count : length (messages_in format frames) ≡ length frames
  count = messages_count frames entry.1

  unshut : is_shut (events s rs) ≡ false
  unshut = sym stands.closed ∙ open_still

  last : last_number s.start (events s rs) ≡ c.session.last
  last = sym (ap (λ (q : Session Message ℕ). q.last) stands.session)

  fit : list_all (λ (frame : BatchFrame). read_fits format (frame_at format.reads frame.bytes)) frames
      ≡ list_all (message_fits format.text format.fits) (messages_in format frames)
  fit = fits_same format frames

  -- A batch whose numbers are there and whose messages fit is taken.
  pub batch_free : c.session.last + length (messages_in format frames) < 2 ^ 32
      → list_all (message_fits format.text format.fits) (messages_in format frames) ≡ true
      → refusal format s (events s rs) (Batch to frames) ≡ None
  batch_free low fits =
      let n = count in
      let l = last in
      let sum : last_number s.start (events s rs) + length frames < 2 ^ 32 = omega (arith, l, n, low) in
      let under : nat_lt 4294967295 (last_number s.start (events s rs) + length frames) ≡ false = grind (arith, nat_tests, sum) in
      refused_by s rs (Batch to frames) false false true unshut under (fit ∙ fits)

  -- A batch that needs more numbers than are left is not taken for them.
  batch_exhausted : 2 ^ 32 ≤ c.session.last + length (messages_in format frames)
      → refusal format s (events s rs) (Batch to frames) ≡ Some OutOfNumbers
  batch_exhausted high =
      let n = count in
      let l = last in
      let sum : 2 ^ 32 ≤ last_number s.start (events s rs) + length frames = omega (arith, l, n, high) in
      let over : nat_lt 4294967295 (last_number s.start (events s rs) + length frames) ≡ true = grind (arith, nat_tests, sum) in
      refused_by s rs (Batch to frames) false true (all_fit format (Batch to frames)) unshut over refl

  -- A batch of which a message does not fit is not taken for that.
  batch_unfit : (index : ℕ) → c.session.last + length (messages_in format frames) < 2 ^ 32 → index < length (messages_in format frames)
      → ((d : NetlinkMessage Message) → message_fits format.text format.fits (get_or (messages_in format frames) index d) ≡ false)
      → refusal format s (events s rs) (Batch to frames) ≡ Some TooLong
  batch_unfit index low within unfit =
      let n = count in
      let l = last in
      let sum : last_number s.start (events s rs) + length frames < 2 ^ 32 = omega (arith, l, n, low) in
      let under : nat_lt 4294967295 (last_number s.start (events s rs) + length frames) ≡ false = grind (arith, nat_tests, sum) in
      refused_by s rs (Batch to frames) false false false unshut under (fit ∙ some_unfit (message_fits format.text format.fits) (messages_in format frames) index within unfit)
    where
      some_unfit : {X : Type 0} (p : X → Bool) (xs : List X) (i : ℕ) → i < length xs → ((d : X) → p (get_or xs i d) ≡ false) → list_all p xs ≡ false
      some_unfit p [] i low h = absurd (omega (arith, low))
      some_unfit p (x ∷ xs) zero low h = ap (λ b. b && list_all p xs) (h x)
      some_unfit p (x ∷ xs) (suc i) low h = ap (λ b. p x && b) (some_unfit p xs i (omega (arith, low)) h) ∙ and-false (p x)

  -- Why a batch that is refused isn't taken.
  pub batch_cause : (why : StepFault) → RefusesBatch c frames why → WhyNot s rs (Batch to frames) why
  batch_cause step.Closed h = absurd h
  batch_cause step.SequenceExhausted h = batch_exhausted h
  batch_cause step.Unfit h = batch_unfit h.0 h.1 h.2 h.3
  batch_cause step.NoMemory h = tt
