use Rattle.std.proofs.Common.{◌≡◌, ◌++◌, length}
use Rattle.session_laws.specs.After.{incoming_lines}
use Rattle.mirror.specs.Format.{format}
use Rattle.mirror.proofs.handed.put_unsolicited.Given as goal

-- What was told and what is left is what waited.
abbrev pub invariant-loop-incoming : goal.invariant-loop-incoming
invariant-loop-incoming l = record {
  text : l.text.items ++ incoming_lines format l.connection.unsolicited
      ≡ l.initial.text.items ++ incoming_lines format l.initial.connection.unsolicited;
  stays : l.connection ≡ record l.initial.connection { unsolicited = l.connection.unsolicited };
}

abbrev pub decreases-loop-incoming : goal.decreases-loop-incoming
decreases-loop-incoming l = length l.connection.unsolicited
