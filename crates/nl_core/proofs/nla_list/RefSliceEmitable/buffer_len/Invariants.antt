use Rattle.std.proofs.Common.{◌≡◌, length, take}
use Rattle.nl_core.specs.Attribute.{attributes_text}
use Rattle.nl_core.proofs.nla_list.RefSliceEmitable.buffer_len.Given as goal

abbrev pub invariant-loop-x : goal.invariant-loop-x
invariant-loop-x g l = l.len ≡ length (attributes_text g.X.Nla.kind_as_written g.X.Nla.value_text (take l.x-index l.x-items))
