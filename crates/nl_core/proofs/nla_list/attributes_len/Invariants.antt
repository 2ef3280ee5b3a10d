use Rattle.std.proofs.Common.{◌≡◌, length, take}
use Rattle.nl_core.specs.Writing.{capped}
use Rattle.nl_core.specs.Attribute.{attributes_text}
use Rattle.nl_core.proofs.nla_list.attributes_len.Given as goal

abbrev pub invariant-loop-x : goal.invariant-loop-x
invariant-loop-x g l = l.len ≡ capped (length (attributes_text g.X.Nla.kind_as_written g.X.Nla.value_text (take l.x-index l.xs)))
