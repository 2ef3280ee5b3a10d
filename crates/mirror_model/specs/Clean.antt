-- Which dumps are clean at a place, whether a mirror is in step there, and its table: all from the list of the events
-- before the place.
use Rattle.std.specs.Prelude.{◌≡◌, ◌==◌, ◌&&◌, ◌||◌, ℕ, Bool, not, if◌then◌else◌, List, [], ◌∷◌, length, flat_map, nat_lt, Option, Some, None}
use Rattle.std.specs.List.{filter, list_any}
use Rattle.mirror_model.specs.Tables.{Tables, Change, changed_maybe}
use Rattle.mirror_model.specs.MirrorState.{RunningDump, MirrorState, is_in_step}
use Rattle.mirror_model.specs.TableEvents.{TableEvent, DumpAsked, DumpReply, Notified, Lost, LinkClosed, Unrelated, is_loss, is_close, interrupts, finishes, ends_dump}

-- A dump: its stream, and what came since it was asked.
pub record Dump (K V : Type 0) : Type 0 where
  pub stream : ℕ
  pub later : List (TableEvent K V)

module _ {K V : Type 0} where
  -- The dumps, in the order in which they were asked.
  abbrev pub dumps : List (TableEvent K V) → List (Dump K V)
  dumps [] = []
  dumps (DumpAsked k ∷ es) = record { stream = k; later = es } ∷ dumps es
  dumps (DumpReply r ∷ es) = dumps es
  dumps (Notified c ∷ es) = dumps es
  dumps (Lost ∷ es) = dumps es
  dumps (LinkClosed ∷ es) = dumps es
  dumps (Unrelated ∷ es) = dumps es

  -- Some reply ended the dump.
  abbrev pub has_ended : Dump K V → Bool
  has_ended d = list_any (ends_dump d.stream) d.later

  -- A dump is clean where it ended by a Done of code 0, none of its replies says that it was interrupted, and no loss came
  -- since it was asked.
  abbrev pub is_clean : Dump K V → Bool
  is_clean d = list_any (finishes d.stream) d.later && not (list_any (interrupts d.stream) d.later) && not (list_any is_loss d.later)

  -- A mirror is in step where some dump is clean and no close came.
  abbrev pub is_in_step_at : List (TableEvent K V) → Bool
  is_in_step_at es = not (list_any is_close es) && list_any is_clean (dumps es)

  -- How many events came after the end of a stream's dump.
  abbrev pub events_after_end : ℕ → List (TableEvent K V) → ℕ
  events_after_end k [] = 0
  events_after_end k (e ∷ es) = if finishes k e then length es else events_after_end k es

  -- Of two dumps that ended the one whose end came later.
  abbrev pub ended_later : Dump K V → Option (Dump K V) → Dump K V
  ended_later d None = d
  ended_later d (Some x) = if nat_lt (events_after_end x.stream x.later) (events_after_end d.stream d.later) then x else d

  -- Of several dumps that ended the one whose end came last.
  abbrev pub last_ended : List (Dump K V) → Option (Dump K V)
  last_ended [] = None
  last_ended (d ∷ ds) = Some (ended_later d (last_ended ds))

  -- The clean dump whose end came last.
  abbrev pub last_clean : List (Dump K V) → Option (Dump K V)
  last_clean ds = last_ended (filter is_clean ds)

  -- What an event changes for the dump of a stream: an unsolicited change, or that of one of its own replies.
  abbrev pub change_for : ℕ → TableEvent K V → Option (Change K V)
  change_for k (DumpAsked j) = None
  change_for k (DumpReply r) = if r.stream == k then r.change else None
  change_for k (Notified c) = Some c
  change_for k Lost = None
  change_for k LinkClosed = None
  change_for k Unrelated = None

module _ {T K V : Type 0} (o : Tables T K V) where
  -- What a table becomes by the changes for a dump, in order.
  abbrev pub changed_since : ℕ → List (TableEvent K V) → T → T
  changed_since k [] table = table
  changed_since k (e ∷ es) table = changed_since k es (changed_maybe o (change_for k e) table)

  -- A dump's table: the empty one after these changes.
  abbrev pub dump_table : Dump K V → T
  dump_table d = changed_since d.stream d.later o.empty

  -- The table of a dump, if there is one.
  abbrev pub table_of : Option (Dump K V) → Option T
  table_of None = None
  table_of (Some d) = Some (dump_table d)

  -- The table at a place is that of the clean dump whose end came last.
  abbrev pub table_at : List (TableEvent K V) → Option T
  table_at es = table_of (last_clean (dumps es))

  -- A dump as a running one.
  abbrev pub as_running : Dump K V → RunningDump T
  as_running d = record { stream = d.stream; table = dump_table d; interrupted = list_any (interrupts d.stream) d.later }

  -- What runs of a dump: itself, unless it has ended or a loss came.
  abbrev pub running_dump : Dump K V → List (RunningDump T)
  running_dump d = if has_ended d || list_any is_loss d.later then [] else as_running d ∷ []

  -- The dumps that run at a place, in the order in which they were asked.
  abbrev pub running_at : List (TableEvent K V) → List (RunningDump T)
  running_at es = flat_map running_dump (dumps es)

  -- The state that a mirror has to be in after events.
  pub record IsStateAt (es : List (TableEvent K V)) (m : MirrorState T) : Type 0 where
    pub closed : m.closed ≡ list_any is_close es
    pub in_force : m.in_force ≡ table_at es
    pub running : m.running ≡ running_at es
    pub in_step : is_in_step m ≡ is_in_step_at es
