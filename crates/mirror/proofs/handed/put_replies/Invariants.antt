use Rattle.std.proofs.Common.{◌≡◌, ◌++◌, flat_map, length}
use Rattle.mirror.specs.Polled.{handed_line}
use Rattle.mirror.proofs.handed.put_replies.Given as goal

-- What was told and what is left is what waited.
abbrev pub invariant-loop-reply : goal.invariant-loop-reply
invariant-loop-reply l = record {
  text : l.text.items ++ flat_map (handed_line l.settings) l.connection.replies
      ≡ l.initial.text.items ++ flat_map (handed_line l.settings) l.initial.connection.replies;
  stays : l.connection ≡ record l.initial.connection { replies = l.connection.replies };
}

abbrev pub decreases-loop-reply : goal.decreases-loop-reply
decreases-loop-reply l = length l.connection.replies
