use Rattle.std.proofs.Common.{get_or, lit<, arith}
use Rattle.route_table.proofs.Numbers.{next_number, below_power, power_fits}
use Rattle.route_table.proofs.change.number_of.Goals as goal

pub overflow_mul-number : goal.overflow_mul-number
overflow_mul-number c =
    let i = c.loop-octet.octet-index in
    let below = below_power i c.loop-octet.number 0 c.loop-octet.invariant.fits (lit< tt) in
    omega (arith, below, power_fits i _ c.loop-octet-test.true c.requires)

pub overflow_add-number : goal.overflow_add-number
overflow_add-number c =
    let i = c.loop-octet.octet-index in
    let below = below_power i c.loop-octet.number (get_or c.args.octets.now i 0) c.loop-octet.invariant.fits (omega (arith, c.type_inv.octets i)) in
    omega (arith, below, power_fits i _ c.loop-octet-test.true c.requires)

pub loop-octet-preserved : goal.loop-octet-preserved
loop-octet-preserved c = record {
  number = next_number c.args.octets.now c.loop-octet.octet-index c.loop-octet.number c.loop-octet-test.true c.loop-octet.invariant.number;
  fits = below_power c.loop-octet.octet-index c.loop-octet.number (get_or c.args.octets.now c.loop-octet.octet-index 0) c.loop-octet.invariant.fits (omega (arith, c.type_inv.octets c.loop-octet.octet-index));
}
