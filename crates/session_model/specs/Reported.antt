-- What a run reports of its records.
use Rattle.std.specs.Prelude.{◌+◌, ℕ, Bool, List, [], ◌∷◌, length}
use Rattle.nl_core.specs.Frames.{Format}
use Rattle.session_model.specs.declared.outcome.Report.{Report}
use Rattle.session_model.specs.declared.settings.Settings.{Settings}
use Rattle.session_model.specs.declared.transcript.Record.{Record}
use Rattle.session_model.specs.Events.{Event, Sent, Came, Unread, Leftover, Overran, Shut, Other, arrivals, events_of}
use Rattle.session_model.specs.Streams.{open_streams}

-- How many unreadable frames and rests an event drops.
abbrev pub drops : {M : Type 0} → Event M → ℕ
drops (Unread kind number source) = 1
drops (Leftover count source) = 1
drops (Sent to frames) = 0
drops (Came m source) = 0
drops Overran = 0
drops Shut = 0
drops (Other aside) = 0

-- How many of them events drop.
abbrev pub dropped_count : {M : Type 0} → List (Event M) → ℕ
dropped_count [] = 0
dropped_count (e ∷ es) = drops e + dropped_count es

-- The counts of records, arrivals, drops and open streams, and whether a mirror is in step, which is given.
abbrev pub report_of : {M : Type 0} → Format M → Settings → Bool → List Record → Report
report_of f s in_step rs = record {
  lines = length rs;
  messages = length (arrivals (events_of f s rs));
  dropped = dropped_count (events_of f s rs);
  still_open = length (open_streams s.start (events_of f s rs));
  in_step = in_step;
}
