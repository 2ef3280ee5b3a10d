-- Dumps that run, and what updates them, as the code has them.
use Rattle.std.specs.Prelude.{◌==◌, ◌&&◌, ◌||◌, ◌++◌, ℕ, Bool, true, not, if◌then◌else◌, List, [], ◌∷◌, Option, Some, None}
use Rattle.std.specs.List.{filter, find}
use Rattle.std.specs.Option.{option_map}
use Rattle.mirror_model.specs.FiniteTables.{finite}
use Rattle.mirror_model.specs.MirrorState as model
use Rattle.mirror_model.specs.Routes.{RouteKey, NextHop, RouteTable, key_cmp}
use Rattle.mirror_model.specs.TableEvents as events
use Rattle.mirror_model.specs.Tables.{Change, changed_maybe}
use Rattle.route_table.specs.Changes.{change_value}
use Rattle.route_mirror.specs.declared.dump.RunningDump.{RunningDump}
use Rattle.route_mirror.specs.declared.dump.Update.{Update}
use Rattle.route_mirror.specs.declared.reply.Ending.{Ending}
use Rattle.route_mirror.specs.declared.reply.Ending.TheVariants.{Continues, Finished, Failed}

-- A dump that runs.
abbrev pub dump_of : RunningDump → model.RunningDump RouteTable
dump_of d = record { stream = d.stream; table = d.routes; interrupted = d.interrupted }

-- How a reply ends its number.
abbrev pub ending_value : Ending → events.Ending
ending_value Continues = events.Continues
ending_value Finished = events.Finished
ending_value Failed = events.Failed

-- An update of all dumps is for each one, that of a stream for those of the stream.
abbrev pub is_for : Option ℕ → ℕ → Bool
is_for None stream = true
is_for (Some k) stream = k == stream

-- What an update changes.
abbrev pub update_change : Update → Option (Change RouteKey NextHop)
update_change u = option_map change_value u.change

-- A dump after an update.
abbrev pub updated : Update → model.RunningDump RouteTable → model.RunningDump RouteTable
updated u d =
    if is_for u.stream d.stream
    then record {
      stream = d.stream;
      table = changed_maybe (finite key_cmp) (update_change u) d.table;
      interrupted = d.interrupted || u.interrupted;
    }
    else d

-- Dumps once one of a stream has begun, in place of one that ran.
abbrev pub begun_beside : ℕ → List (model.RunningDump RouteTable) → List (model.RunningDump RouteTable)
begun_beside stream ds = filter (λ (d : model.RunningDump RouteTable). not (stream == d.stream)) ds ++ model.begun (finite key_cmp) stream ∷ []

-- A dump is of a stream, and wasn't interrupted.
abbrev pub is_whole : ℕ → RunningDump → Bool
is_whole stream d = (stream == d.stream) && not d.interrupted

-- A dump is of another stream.
abbrev pub is_other : ℕ → RunningDump → Bool
is_other stream d = not (stream == d.stream)

-- The same as contracts see dumps.
abbrev pub is_sound : ℕ → model.RunningDump RouteTable → Bool
is_sound stream d = (stream == d.stream) && not d.interrupted

-- What a dump puts into force, or what is there.
abbrev pub table_or : Option RouteTable → Option (model.RunningDump RouteTable) → Option RouteTable
table_or table None = table
table_or table (Some d) = Some d.table

-- A state after a clean end of a stream.
abbrev pub completed : ℕ → model.MirrorState RouteTable → model.MirrorState RouteTable
completed stream m = record m {
  in_force = table_or m.in_force (find (is_sound stream) m.running);
  running = filter (λ (d : model.RunningDump RouteTable). not (stream == d.stream)) m.running;
}
