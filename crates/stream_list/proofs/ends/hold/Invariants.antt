use Rattle.std.proofs.Common.{◌≡◌, ◌+◌, ◌-◌, ◌≤◌, ℕ, get_or, length}
use Rattle.stream_list.specs.Places.{no_ends}
use Rattle.stream_list.proofs.ends.hold.Given as goal

abbrev pub invariant-loop-streams : goal.invariant-loop-streams
invariant-loop-streams l = record {
  same : (s : ℕ) → get_or l.streams.items s no_ends ≡ get_or l.initial.streams.items s no_ends;
  more : length l.initial.streams.items ≤ length l.streams.items;
}

abbrev pub decreases-loop-streams : goal.decreases-loop-streams
decreases-loop-streams l = l.stream + 1 - length l.streams.items
