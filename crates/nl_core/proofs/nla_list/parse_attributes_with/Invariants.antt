use Rattle.std.proofs.Common.{◌≡◌, length}
use Rattle.nl_core.specs.Attribute.{attributes}
use Rattle.nl_core.proofs.Walk.{with_front}
use Rattle.nl_core.proofs.nla_list.parse_attributes_with.Given as goal

abbrev pub invariant-loop-rest : goal.invariant-loop-rest
invariant-loop-rest g l =
    let read = g.X.ParseableParametrized.reads l.param in
    with_front l.items (attributes read l.rest) ≡ attributes read l.bytes

abbrev pub decreases-loop-rest : goal.decreases-loop-rest
decreases-loop-rest g l = length l.rest
