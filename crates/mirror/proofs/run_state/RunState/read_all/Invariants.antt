use Rattle.std.proofs.Common.{◌≡◌, ◌+◌, ◌-◌, ◌≤◌}
use Rattle.transcript_io.specs.Io.{traffic}
use Rattle.mirror.specs.Feeding.{CountsFitInput}
use Rattle.mirror.specs.Outcome.{Running}
use Rattle.mirror.proofs.run_state.RunState.read_all.Given as goal

-- The run goes on.
abbrev pub invariant-loop-input : goal.invariant-loop-input
invariant-loop-input g l = record {
  steady : CountsFitInput l.self;
  settings : l.self.runner.settings ≡ l.initial.self.runner.settings;
  running : Running l.initial.self.runner.settings
      (traffic g.S.Source.left l.initial.input l.input g.K.Sink.written l.initial.out l.out) l.self;
  faults_in : g.S.Source.faults l.initial.input ≤ g.S.Source.faults l.input;
  faults_out : g.K.Sink.faults l.initial.out ≤ g.K.Sink.faults l.out;
}

abbrev pub decreases-loop-input : goal.decreases-loop-input
decreases-loop-input g l = (l.initial.self.runner.settings.limit + 1) - l.self.taken
