-- A runner after one record more, and its report.
use Rattle.std.proofs.Common.{◌≡◌, ◌+◌, ◌<◌, ◌^◌, ℕ, Bool, false, List, [], ◌∷◌, ◌++◌, length, sym, ◌∙◌, ap, subst, arith, zero-add}
use Rattle.std.specs.List.Sorted.{IsStrictlySortedBy}
use Rattle.std.specs.BTreeMap.{keys}
use Rattle.std.specs.Ordering.{nat_cmp}
use Rattle.std.proofs.lemmas.List.{length-append, length-map}
use Rattle.session_model.specs.declared.outcome.Report.{Report}
use Rattle.session_model.specs.declared.settings.Settings.{Settings}
use Rattle.session_model.specs.declared.transcript.Record.{Record}
use Rattle.session_model.specs.Events.{Event, arrivals, record_events}
use Rattle.session_model.specs.Reported.{drops, dropped_count, report_of}
use Rattle.session_model.specs.Streams.{open_streams}
use Rattle.session_model.proofs.Taking.{taken_more}
use Rattle.session_laws.specs.Counts.{if_any, open_count}
use Rattle.session_laws.proofs.Rising.{rises}
use Rattle.session_laws.proofs.Stages.{open_is}
use Rattle.mirror.specs.declared.runner.Runner.{Runner}
use Rattle.mirror.specs.Format.{IsEntry, Message, format}
use Rattle.mirror.specs.Polled.{AtRest, IsTold, RouteConn, emptied, handed_text}
use Rattle.mirror_model.specs.MirrorState.{is_in_step}
use Rattle.route_mirror.specs.Values.{MirrorValue}
use Rattle.mirror.specs.Runner.{Brings, ConnectionStands, CountsInRange, Grows, HasSpace, Mirrors, Shows, Stands, TakesRecord, Tracks, drop_count, events, is_in_step_after, message_count, open_at}
use Rattle.mirror.proofs.RecordLaws.{events_more, has_entry}
use Rattle.mirror.proofs.RestLaws.{Settled, settled}
use Rattle.mirror.proofs.ShownLaws.{in_step_is, of_session, shown_mirror, shown_peer}
use Rattle.mirror.proofs.StepLaws.{Before, applies}

-- What is dropped over two lists of events is dropped over each.
dropped-append : (es fs : List (Event Message)) → dropped_count (es ++ fs) ≡ dropped_count es + dropped_count fs
dropped-append [] fs = sym (zero-add (dropped_count fs))
dropped-append (e ∷ es) fs = ap (λ n. drops e + n) (dropped-append es fs) ∙ assoc (drops e) (dropped_count es) (dropped_count fs)
  where
    assoc : (a b c : ℕ) → a + (b + c) ≡ (a + b) + c
    assoc a b c = omega arith

-- A runner before a record, once the record was brought, and once it was told.
pub record Took (entry : Record) (old mid new : Runner) (told : List ℕ) : Type 0 where
  pub allowed : IsEntry entry
  pub counted : CountsInRange old
  pub space : HasSpace old
  pub open_still : old.connection.closed ≡ false
  pub brings : Brings old.settings entry old.connection old.observers.ledger mid.connection mid.observers.ledger
  pub shows : Shows entry old.connection old.observers.mirror mid.observers.mirror
  pub settings : mid.settings ≡ old.settings
  pub lines : mid.lines ≡ old.lines
  pub settings_told : new.settings ≡ mid.settings
  pub lines_told : new.lines ≡ mid.lines + 1
  pub text : told ≡ handed_text mid.settings mid.connection mid.observers.ledger
  pub connection : new.connection ≡ emptied mid.connection
  pub ledger : IsTold mid.connection.closed mid.observers.ledger new.observers.ledger
  pub mirror : new.observers.mirror ≡ mid.observers.mirror

module _ (entry : Record) (old mid new : Runner) (told : List ℕ) (t : Took entry old mid new told) where
  settles : Settled old.settings entry old.connection old.observers.ledger mid.connection mid.observers.ledger
  settles = settled old.settings entry old.connection old.observers.ledger mid.connection mid.observers.ledger t.allowed t.counted.rest t.counted.numbers
      (omega (arith, t.space.dropped)) t.brings

  -- It is in range again.
  pub counted_again : CountsInRange new
  counted_again = record {
    numbers = subst (λ n. n < 2 ^ 32) (sym (ap (λ (c : RouteConn). c.session.last) t.connection)) settles.numbers;
    rest = subst AtRest (sym t.connection) settles.rest;
    closing = t.ledger.closing;
    peer = ap (λ (m : MirrorValue). m.peer) t.mirror ∙ shown_peer entry old.connection old.observers.mirror mid.observers.mirror t.shows
        ∙ t.counted.peer ∙ sym (ap (λ (q : Settings). q.peer) (t.settings_told ∙ t.settings));
  }

  dropped_is : drop_count new ≡ drop_count old + dropped_count (record_events format old.settings entry)
  dropped_is = t.ledger.dropped ∙ settles.dropped

  -- Its counts have grown by the record's weight at most.
  pub has_grown : Grows entry old new
  has_grown =
      let arrived = ap (λ (c : RouteConn). c.session.arrived) t.connection in
      let m = settles.messages in
      let d = dropped_is in
      let few = settles.few in
      record {
        lines = t.lines_told ∙ ap (λ n. n + 1) t.lines;
        messages = omega (arith, arrived, m);
        dropped = omega (arith, d, few);
      }

  -- It has taken the record, and told its text.
  pub has_taken : TakesRecord old entry new told
  has_taken s rs h =
      let es = record_events format s entry in
      let more = events_more s rs entry in
      let dropped = subst (λ z. drop_count new ≡ drop_count old + dropped_count (record_events format z entry)) h.settings dropped_is in
      let brings = subst (λ z. Brings z entry old.connection old.observers.ledger mid.connection mid.observers.ledger) h.settings t.brings in
      let before : Before s rs old.connection old.observers.ledger = record {
        rest = t.counted.rest;
        low = t.counted.numbers;
        closing = t.counted.closing;
        stands = h.stands;
        counts = h.counts;
        open_still = t.open_still;
      } in
      let a = applies s rs old.connection old.observers.ledger before entry mid.connection mid.observers.ledger new.observers.ledger t.allowed
      brings t.ledger in
      let m = shown_mirror s rs old.connection old.observers.ledger before mid.connection mid.observers.ledger old.observers.mirror
      mid.observers.mirror entry brings t.shows h.mirror in (
        record {
          settings = t.settings_told ∙ t.settings ∙ h.settings;
          stands = subst (λ fs. Stands s fs new.connection) (sym more) (subst (Stands s (events s rs ++ es)) (sym t.connection) a.stands);
          counts = λ k. a.counts k ∙ ap (λ fs. if_any (open_count s.start fs k)) (sym more);
          lines = t.lines_told ∙ ap (λ n. n + 1) (t.lines ∙ h.lines) ∙ sym (length-append rs (entry ∷ []));
          mirror = subst (λ fs. Mirrors s fs new.observers.mirror) (sym more) (subst (Mirrors s (events s rs ++ es)) (sym t.mirror) m);
          dropped = dropped ∙ ap (λ n. n + dropped_count es) h.dropped ∙ sym (dropped-append (events s rs) es) ∙ ap dropped_count (sym more);
          taken = taken_more format s IsEntry [] rs entry h.taken t.allowed a.free;
        },
        t.text ∙ ap (λ z. handed_text z mid.connection mid.observers.ledger) (t.settings ∙ h.settings) ∙ a.text
            ∙ of_session s rs entry old.connection old.observers.ledger mid.connection mid.observers.ledger brings,
      )

-- The connection of a runner stands as its records leave it.
pub connection_stands : (s : Settings) (rs : List Record) (runner : Runner) (c : RouteConn) → c ≡ runner.connection → Tracks s rs runner
    → ConnectionStands s rs c
connection_stands s rs runner c is h = subst (ConnectionStands s rs) (sym is) (record {
  last = ap (λ q. q.last) h.stands.session;
  arrived = ap (λ q. q.arrived) h.stands.session;
  awaited = ap (λ q. q.awaited) h.stands.session;
  closed = h.stands.closed;
})

-- The report of a runner is that of its records.
pub reported : (s : Settings) (rs : List Record) (runner : Runner) (messages still_open : ℕ) (in_step : Bool) → Tracks s rs runner
    → in_step ≡ is_in_step runner.observers.mirror.state
    → messages ≡ message_count runner → IsStrictlySortedBy nat_cmp (keys runner.observers.ledger.open_streams)
    → still_open ≡ length runner.observers.ledger.open_streams.entries
    → record { lines = runner.lines; messages = messages; dropped = drop_count runner; still_open = still_open; in_step = in_step }
    ≡ report_of format s (is_in_step_after s rs) rs
reported s rs runner messages still_open in_step h step_is count_is ordered is =
    let table = runner.observers.ledger.open_streams in
    let ks : keys table ≡ open_streams s.start (events s rs) = open_is s.start (events s rs) (open_at runner) (keys table) h.counts (rises (keys table) ordered) (has_entry table.entries) in
    let count : still_open ≡ length (open_streams s.start (events s rs)) = is
    ∙ sym (length-map table.entries (λ (e : ℕ × ℕ). e.0)) ∙ ap length ks in
    let with : ℕ → ℕ → ℕ → ℕ → Report = λ lines arrived dropped left.
    record { lines = lines; messages = arrived; dropped = dropped; still_open = left; in_step = in_step } in
    ap (λ n. with n messages (drop_count runner) still_open) h.lines
    ∙ ap (λ n. with (length rs) n (drop_count runner) still_open) (count_is ∙ ap (λ q. q.arrived) h.stands.session)
    ∙ ap (λ n. with (length rs) (length (arrivals (events s rs))) n still_open) h.dropped
    ∙ ap (λ n. with (length rs) (length (arrivals (events s rs))) (dropped_count (events s rs)) n) count
    ∙ ap (λ b. report_of format s b rs) (step_is ∙ in_step_is s rs runner.observers.mirror h.mirror)
