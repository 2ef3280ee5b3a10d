use Rattle.std.proofs.Common.{[], ◌∷◌, length, refl}
use Rattle.nl_core.specs.Writing.{Writes}
use Rattle.nl_core.proofs.Wire.{Writes-then}
use Rattle.rt_layout.proofs.value.emit_name.Goals as goal

pub returns : goal.returns
returns c =
    let name = c.args.name.now in
    let first : Writes name c.args.buf.now c.emit_bytes.new.buf = rw c.as_bytes.ensures.value at c.emit_bytes.ensures in
    Writes-then name (0 ∷ []) c.args.buf.now c.emit_bytes.new.buf c.put_bytes.new.buf (length name) first c.put_bytes.ensures refl
