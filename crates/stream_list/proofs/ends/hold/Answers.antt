use Rattle.std.proofs.Common.{ap, ◌∙◌, ◌∷◌, [], List, get_or, length, length-append, arith}
use Rattle.stream_list.specs.declared.ends.Ends.{Ends}
use Rattle.stream_list.specs.Places.{no_ends}
use Rattle.stream_list.proofs.Places.{get_or-no_ends}
use Rattle.stream_list.proofs.ends.hold.Goals as goal

pub loop-streams-preserved : goal.loop-streams-preserved
loop-streams-preserved c =
    let more = ap length c.in_ok-push.ensures.items in
    let sum = length-append c.loop-streams.streams.items (no_ends ∷ []) in
    record {
      same = λ s. ap (λ (xs : List Ends). get_or xs s no_ends) c.in_ok-push.ensures.items ∙ get_or-no_ends c.loop-streams.streams.items s
          ∙ c.loop-streams.invariant.same s;
      more = omega (arith, more, sum, c.loop-streams.invariant.more);
    }
