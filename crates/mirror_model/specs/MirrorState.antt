-- A mirror as a machine: its state, and one step for each event.
use Rattle.std.specs.Prelude.{◌==◌, ◌&&◌, ◌||◌, ◌++◌, ℕ, Bool, true, false, not, if◌then◌else◌, List, [], ◌∷◌, map, flat_map, Option, Some, None}
use Rattle.std.specs.List.{filter}
use Rattle.std.specs.Option.{is_some}
use Rattle.mirror_model.specs.Tables.{Tables, Change, changed_maybe}
use Rattle.mirror_model.specs.TableEvents.{Reply, TableEvent, DumpAsked, DumpReply, Notified, Lost, LinkClosed, Unrelated, is_finished, is_end}

-- A dump that runs: its stream, its table so far, and whether a reply said that it was interrupted.
pub record RunningDump (T : Type 0) : Type 0 where
  pub stream : ℕ
  pub table : T
  pub interrupted : Bool

-- Whether the link has closed, the table in force, if one is, and the dumps that run.
pub record MirrorState (T : Type 0) : Type 0 where
  pub closed : Bool
  pub in_force : Option T
  pub running : List (RunningDump T)

-- A mirror that has seen no event.
abbrev pub fresh : {T : Type 0} → MirrorState T
fresh = record { closed = false; in_force = None; running = [] }

-- A mirror is in step where a table is in force and the link hasn't closed.
abbrev pub is_in_step : {T : Type 0} → MirrorState T → Bool
is_in_step m = not m.closed && is_some m.in_force

module _ {T K V : Type 0} (o : Tables T K V) where
  -- A dump that was just asked.
  abbrev pub begun : ℕ → RunningDump T
  begun k = record { stream = k; table = o.empty; interrupted = false }

  -- An unsolicited change reaches each dump that runs, and the table in force.
  abbrev pub notified : Change K V → RunningDump T → RunningDump T
  notified c d = record { stream = d.stream; table = o.changed c d.table; interrupted = d.interrupted }

  -- The table in force, if one is, after a notification.
  abbrev pub notified_in_force : Change K V → Option T → Option T
  notified_in_force c None = None
  notified_in_force c (Some table) = Some (o.changed c table)

  -- A reply changes its dump, and marks it where it says that the dump was interrupted; one that ends it takes it away.
  abbrev pub with_reply : Reply K V → RunningDump T → RunningDump T
  with_reply r d = record { stream = d.stream; table = changed_maybe o r.change d.table; interrupted = d.interrupted || r.interrupted }

  -- What runs of a dump after a reply.
  abbrev pub replied : Reply K V → RunningDump T → List (RunningDump T)
  replied r d = if r.stream == d.stream then (if is_end r.ending then [] else with_reply r d ∷ []) else d ∷ []

  -- A reply completes a dump that it ends by a Done of code 0, where none of the dump's replies said that it was interrupted.
  abbrev pub completes : Reply K V → RunningDump T → Bool
  completes r d = (r.stream == d.stream) && is_finished r.ending && not (d.interrupted || r.interrupted)

  -- What is in force after a reply: the table of the dump that it completes, if it completes one.
  abbrev pub in_force_after : Reply K V → Option T → List (RunningDump T) → Option T
  in_force_after r in_force [] = in_force
  in_force_after r in_force (d ∷ ds) = if completes r d then Some (changed_maybe o r.change d.table) else in_force_after r in_force ds

  -- A dump that is asked starts in place of a running one under its stream. A loss takes away the table in force and all
  -- running dumps.
  abbrev pub step : TableEvent K V → MirrorState T → MirrorState T
  step (DumpAsked k) m = record m { running = filter (λ (d : RunningDump T). not (k == d.stream)) m.running ++ begun k ∷ [] }
  step (DumpReply r) m = record m { in_force = in_force_after r m.in_force m.running; running = flat_map (replied r) m.running }
  step (Notified c) m = record m { in_force = notified_in_force c m.in_force; running = map (notified c) m.running }
  step Lost m = record m { in_force = None; running = [] }
  step LinkClosed m = record m { closed = true }
  step Unrelated m = m

  -- One step after another.
  abbrev pub state_after : List (TableEvent K V) → MirrorState T → MirrorState T
  state_after [] m = m
  state_after (e ∷ es) m = state_after es (step e m)
