use Rattle.std.proofs.Common.{◌≡◌, length, take}
use Rattle.proto_core.specs.Numbers.{IsAscending}
use Rattle.proto_core.specs.Pending.{listed}
use Rattle.proto_core.proofs.pending.PendingTable.truncate.Given as goal

-- what is to stay is there
abbrev pub invariant-loop-self : goal.invariant-loop-self
invariant-loop-self g l = record {
  ascending : IsAscending (listed l.self-inside.entries.entries);
  kept : take l.len (listed l.self-inside.entries.entries) ≡ take l.len (listed l.initial.self-inside.entries.entries);
}

abbrev pub decreases-loop-self : goal.decreases-loop-self
decreases-loop-self g l = length l.self-inside.entries.entries
