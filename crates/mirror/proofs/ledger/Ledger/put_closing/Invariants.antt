use Rattle.std.proofs.Common.{◌≡◌, ◌++◌, flat_map}
use Rattle.session_model.specs.SessionText.{closed_line}
use Rattle.mirror.proofs.ledger.Ledger.put_closing.Given as goal

abbrev pub invariant-loop-stream : goal.invariant-loop-stream
invariant-loop-stream l = l.text.items ≡ l.initial.text.items ++ flat_map closed_line l.yielded
