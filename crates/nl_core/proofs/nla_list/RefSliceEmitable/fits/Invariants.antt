use Rattle.std.proofs.Common.{◌≡◌, ◌+◌, ◌^◌, ◌-◌, length, take, true}
use Rattle.std.specs.Prelude.{min}
use Rattle.std.specs.List.{list_all}
use Rattle.nl_core.specs.Attribute.{attribute_fits, attributes_text}
use Rattle.nl_core.proofs.nla_list.RefSliceEmitable.fits.Given as goal

abbrev pub invariant-loop-x : goal.invariant-loop-x
invariant-loop-x g l =
    let xs = take l.x-index l.x-items in
    record {
      each : list_all (λ x. attribute_fits (g.X.Nla.value_text x)) xs ≡ true;
      len : l.len ≡ min (16 + length (attributes_text g.X.Nla.kind_as_written g.X.Nla.value_text xs)) (2 ^ 64 - 1);
    }
