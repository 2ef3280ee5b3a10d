-- What the laws say. Each is the contract of a public function of src/laws.rt.
use Rattle.std.specs.Prelude.{◌≡◌, ◌≢◌, ◌==◌, ◌++◌, ℕ, Bool, true, false, not, List, [], ◌∷◌, length, Some, Option}
use Rattle.std.specs.List.{filter, list_any, AllByRecursion}
use Rattle.std.specs.Cmp.{IsTotalOrder}
use Rattle.std.specs.FinMap.{FinMap, IsAntisymmetric, entries, empty}
use Rattle.std.specs.Ordering.{nat_cmp}
use Rattle.std.specs.declared.cmp.Ordering.{Ordering}
use Rattle.nl_core.specs.Frames.{Format}
use Rattle.nl_core.specs.declared.message.NetlinkMessage.{NetlinkMessage}
use Rattle.session_model.specs.declared.address.SocketAddr.{SocketAddr}
use Rattle.session_model.specs.declared.settings.Settings.{Settings}
use Rattle.session_model.specs.declared.transcript.Record.{Record}
use Rattle.session_model.specs.Events.{Event, Came, events_of}
use Rattle.session_model.specs.Streams.{is_shut}
use Rattle.session_model.specs.declared.network.Address.{Address}
use Rattle.session_model.specs.declared.network.Network.{Network}
use Rattle.mirror_model.specs.declared.answer.Answer.TheVariants.{Stale}
use Rattle.mirror_model.specs.Tables.{Tables, Alike}
use Rattle.mirror_model.specs.TableEvents.{TableEvent, Reply, DumpReply, is_close}
use Rattle.mirror_model.specs.MirrorState.{MirrorState, RunningDump, fresh, step, state_after}
use Rattle.mirror_model.specs.Clean.{IsStateAt, is_in_step_at, table_at, running_at}
use Rattle.mirror_model.specs.Orderly.{AreOrderly}
use Rattle.mirror_model.specs.FiniteTables.{finite}
use Rattle.mirror_model.specs.Sessions.{Reader, AsksAlone, table_event, table_events, answered, handled_as, handled_event}
use Rattle.mirror_model.specs.Routes.{RouteKey, NextHop, RouteTable, LinkTable, key_cmp, best_route, IsBest, lookup}
use Rattle.mirror_model.specs.Blocked.{is_same, newly_blocked, unblocks, blocked_at}
use Rattle.mirror_model.specs.Lookups.{Readers, lookup_in, lookup_at, peer_answer, routes_state, links_state, links_in_force}
use Rattle.mirror_model.specs.Honest.{IsHonest, IsWhole, is_accounted_for}
use Rattle.mirror_model.specs.OutputText.{output_text, text_from}

-- ---- over tables

module _ {T K V : Type 0} (o : Tables T K V) where
  -- Wherever a table is in force, it is the peer's table there, as long as the peer is honest.
  abbrev pub Converges : Type 0
  Converges = (history : ℕ → T) (before later : List (TableEvent K V)) (table : T) → IsHonest o history (before ++ later)
      → (state_after o before fresh).in_force ≡ Some table → Alike o table (history (length before))

  -- A mirror that takes one event after another is in the state that the whole list of events gives.
  abbrev pub IsStateOfEvents : Type 0
  IsStateOfEvents = (es : List (TableEvent K V)) → AreOrderly es → IsStateAt o es (state_after o es fresh)

  -- A reply of a stream that no running dump has changes nothing.
  abbrev pub IgnoresOthers : Type 0
  IgnoresOthers = (r : Reply K V) (m : MirrorState T)
      → AllByRecursion (λ (d : RunningDump T). (r.stream == d.stream) ≡ false) m.running → step o (DumpReply r) m ≡ m

  -- What is asked of a dump's replies follows from a test of each key that the peer has.
  abbrev pub WholeByTest : Type 0
  WholeByTest = (stream : ℕ) (table : T) (later : List (TableEvent K V))
      → ((key : K) (value : V) → o.get table key ≡ Some value → is_accounted_for o stream key later ≡ true) → IsWhole o stream table later

-- Over finite maps, whose order tells all keys apart, the two tables are equal.
abbrev pub ConvergesExactly : {K : Type 0} → Type 0 → (K → K → Ordering) → Type 0
ConvergesExactly {K} V order =
    IsTotalOrder order → IsAntisymmetric order → (history : ℕ → FinMap order V) (before later : List (TableEvent K V)) (table : FinMap order V)
    → IsHonest (finite order) history (before ++ later) → (state_after (finite order) before fresh).in_force ≡ Some table
    → table ≡ history (length before)

-- ---- over sessions

module _ {M K V : Type 0} (r : Reader M K V) where
  -- A session's events are orderly, where each dump is asked by a frame alone.
  abbrev pub SuitsSessions : Type 0
  SuitsSessions = (start : ℕ) (es : List (Event M)) → AllByRecursion (AsksAlone r) es → AreOrderly (table_events r start es)

  -- The events of records ask each dump alone.
  abbrev pub RecordsAskAlone : Format M → Type 0
  RecordsAskAlone f = (s : Settings) (records : List Record) → AllByRecursion (AsksAlone r) (events_of f s records)

  -- A table sees a close exactly where the link has closed.
  abbrev pub ClosesAsShut : Type 0
  ClosesAsShut = (start : ℕ) (es : List (Event M)) → list_any is_close (table_events r start es) ≡ is_shut es

  -- One event more is one step more.
  abbrev pub Grows : {T : Type 0} → Tables T K V → Type 0
  Grows o = (start : ℕ) (before : List (Event M)) (e : Event M)
      → state_after o (table_events r start (before ++ e ∷ [])) fresh
      ≡ step o (table_event r start before e) (state_after o (table_events r start before) fresh)

  -- A mirror whose running dumps are those of the place, told how its session handled an arrival, takes the arrival's step.
  abbrev pub StepsAsHandled : {T : Type 0} → Tables T K V → Type 0
  StepsAsHandled {T} o = (start : ℕ) (before : List (Event M)) (m : NetlinkMessage M) (source : SocketAddr) (mirror : MirrorState T)
      → mirror.running ≡ running_at o (table_events r start before)
      → step o (handled_event r m source (handled_as m (answered start before m source))) mirror
      ≡ step o (table_event r start before (Came m source)) mirror

  -- At each place where a mirror is in step, the table there is the peer's, as long as the peer is honest.
  abbrev pub ConvergesInSessions : (K → K → Ordering) → Type 0
  ConvergesInSessions order =
      IsTotalOrder order → IsAntisymmetric order → (start : ℕ) (history : ℕ → FinMap order V) (before later : List (Event M))
      → AllByRecursion (AsksAlone r) before
      → IsHonest (finite order) history (table_events r start (before ++ later)) → is_in_step_at (table_events r start before) ≡ true
      → table_at (finite order) (table_events r start before) ≡ Some (history (length before))

-- ---- over routes and links

-- A search gives a route that passes, with none that passes better; or none passes.
abbrev pub AnswersBest : Type 0
AnswersBest = (passes : RouteKey × NextHop → Bool) (table : RouteTable) → IsBest passes (entries table) (best_route passes table)

-- An answer depends on which networks are blocked, not on how they are listed.
abbrev pub BlocksAsSet : Type 0
BlocksAsSet = (ms ns : List Network) → ((n : Network) → list_any (is_same n) ms ≡ list_any (is_same n) ns)
    → (a : Address) (routes : Option RouteTable) (links : Option LinkTable) → lookup a ms routes links ≡ lookup a ns routes links

-- One event more unblocks what it unblocks, and then blocks what it blocks.
abbrev pub BlocksBySteps : Type 0 → Type 0
BlocksBySteps M = (es : List (Event M)) (e : Event M) → blocked_at (es ++ e ∷ []) ≡ filter (λ n. not (unblocks n e)) (blocked_at es) ++ newly_blocked e

module _ {M : Type 0} (r : Readers M) where
  -- A mirror that took the events one after another answers what the definitions say at their place.
  abbrev pub AnswersByState : Type 0
  AnswersByState = (start : ℕ) (es : List (Event M)) → AllByRecursion (AsksAlone r.routes) es → AllByRecursion (AsksAlone r.links) es
      → (a : Address) → lookup_in (routes_state r start es) (links_in_force r (links_state r start es)) (blocked_at es) a ≡ lookup_at r start es a

  -- Histories of a peer's routes and links that are honest for a session's events. Where links don't count there are none.
  pub record AreHonest (start : ℕ) (routes : ℕ → RouteTable) (links : ℕ → LinkTable) (es : List (Event M)) : Type 0 where
    pub of_routes : IsHonest (finite key_cmp) routes (table_events r.routes start es)
    pub of_links : r.links_count ≡ true → IsHonest (finite nat_cmp) links (table_events r.links start es)
    pub no_links : r.links_count ≡ false → (n : ℕ) → links n ≡ empty

  -- An answer that isn't Stale is the one in the peer's own tables at its place, as long as the peer is honest.
  abbrev pub AnswersAsPeer : Type 0
  AnswersAsPeer = (start : ℕ) (routes : ℕ → RouteTable) (links : ℕ → LinkTable) (before later : List (Event M))
      → AllByRecursion (AsksAlone r.routes) before → AllByRecursion (AsksAlone r.links) before → AreHonest start routes links (before ++ later)
      → (a : Address) → lookup_at r start before a ≢ Stale
      → lookup_at r start before a ≡ lookup a (blocked_at before) (Some (routes (length before))) (Some (links (length before)))

  -- The text of records is that in which the peer's own tables answer wherever a mirror is in step, as long as the peer is
  -- honest.
  abbrev pub OutputAsPeer : Format M → Type 0
  OutputAsPeer f = (s : Settings) (routes : ℕ → RouteTable) (links : ℕ → LinkTable) (rs : List Record)
      → AreHonest s.start routes links (events_of f s rs)
      → output_text f s r rs ≡ text_from f s (peer_answer r s.start routes links) [] rs
