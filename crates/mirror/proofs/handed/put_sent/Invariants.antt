use Rattle.std.proofs.Common.{◌≡◌, ◌++◌, flat_map, length}
use Rattle.mirror.specs.Polled.{posted_line}
use Rattle.mirror.proofs.handed.put_sent.Given as goal

-- What was told and what is left is what was sent.
abbrev pub invariant-loop-bytes : goal.invariant-loop-bytes
invariant-loop-bytes l = record {
  text : l.text.items ++ flat_map posted_line l.connection.link.posted
      ≡ l.initial.text.items ++ flat_map posted_line l.initial.connection.link.posted;
  stays : l.connection ≡ record l.initial.connection {
    link = record l.initial.connection.link { posted = l.connection.link.posted };
  };
}

abbrev pub decreases-loop-bytes : goal.decreases-loop-bytes
decreases-loop-bytes l = length l.connection.link.posted
