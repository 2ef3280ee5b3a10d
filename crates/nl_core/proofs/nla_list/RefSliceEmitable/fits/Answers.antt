use Rattle.std.proofs.Common.{◌≤◌, arith, length}
use Rattle.std.proofs.lemmas.Bool.{le-leb}
use Rattle.nl_core.specs.Attribute.{attribute_fits}
use Rattle.nl_core.proofs.Lengths.{length-attribute, attributes_length-take}
use Rattle.nl_core.proofs.FlatLists.{list_all-step}
use Rattle.nl_core.proofs.nla_list.RefSliceEmitable.fits.Goals as goal

pub loop-x-preserved : goal.loop-x-preserved
loop-x-preserved g c =
    let kind = g.X.Nla.kind_as_written in
    let value = g.X.Nla.value_text in
    let xs = c.args.self.now.now in
    let i = c.loop-x.x-index in
    let x = c.x-item.result in
    let within = c.loop-x-test.true in
    let before = c.loop-x.invariant in
    let short : length (value x) ≤ 65531 = omega (arith, c.value_len-value_len.ensures) in
    let step = attributes_length-take kind value xs i x within c.x-item.is in
    let one = length-attribute (kind x) (value x) in
    record {
      each = list_all-step (λ y. attribute_fits (value y)) xs i x within c.x-item.is before.each (le-leb _ _ short);
      len = omega (arith, before.len, c.saturating_add-len.ensures, c.value_len-value_len.ensures, c.align.ensures, step, one);
    }
