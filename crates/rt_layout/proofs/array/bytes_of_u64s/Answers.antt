use Rattle.std.proofs.Common.{sym, ◌∙◌}
use Rattle.std.proofs.lemmas.List.{length-replicate}
use Rattle.nl_core.specs.Numbers.{words64}
use Rattle.nl_core.proofs.Wire.{Writes-whole, length-words64}
use Rattle.rt_layout.proofs.array.bytes_of_u64s.Goals as goal

pub returns : goal.returns
returns g c =
    let values = c.args.values.now in
    let whole = length-words64 values ∙ c.requires ∙ sym (length-replicate g.row.N 0) in
    Writes-whole (words64 values) _ c.emit_u64s.new.buf c.emit_u64s.ensures whole
