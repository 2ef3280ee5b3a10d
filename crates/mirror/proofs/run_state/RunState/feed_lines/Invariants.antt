use Rattle.std.proofs.Common.{◌≡◌, ◌+◌, length}
use Rattle.mirror.specs.Feeding.{CountsFitInput}
use Rattle.mirror.proofs.Feeds.{FedUpTo}
use Rattle.mirror.proofs.run_state.RunState.feed_lines.Given as goal

-- Some first bytes of the piece were fed.
abbrev pub invariant-loop-rest : goal.invariant-loop-rest
invariant-loop-rest l = record {
  steady : CountsFitInput l.self;
  settings : l.self.runner.settings ≡ l.initial.self.runner.settings;
  taken : l.self.taken + length l.rest ≡ l.initial.self.taken + length l.piece;
  fed : FedUpTo l.initial.self l.piece l.self l.rest;
}

abbrev pub decreases-loop-rest : goal.decreases-loop-rest
decreases-loop-rest l = length l.rest
