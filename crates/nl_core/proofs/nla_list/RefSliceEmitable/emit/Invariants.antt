use Rattle.std.proofs.Common.{◌≡◌, length, take}
use Rattle.nl_core.specs.Writing.{Writes}
use Rattle.nl_core.specs.Attribute.{attributes_text}
use Rattle.nl_core.proofs.nla_list.RefSliceEmitable.emit.Given as goal

abbrev pub invariant-loop-x : goal.invariant-loop-x
invariant-loop-x g l =
    let text = attributes_text g.X.Nla.kind_as_written g.X.Nla.value_text (take l.x-index l.x-items) in
    record {
      written : Writes text l.fn.buf l.buf;
      at : l.at ≡ length text;
    }
